-- The rows of an FDE at rising places, by a fold that goes on from where it stopped.
use Rattle.std.specs.Prelude.{◌≡◌, ◌≤◌, ◌<◌, ◌+◌, ℕ, false, List, [], ◌∷◌, fold, length, Option, Some, None, Ok}
use Rattle.arrayvec.specs.ArrayVec.{array_vec_len}
use Rattle.eh_bytes.specs.Memory.{Part, part_of}
use Rattle.table_forms.specs.declared.found.Row.{Row}
use Rattle.table_forms.specs.Instruction.{Instruction, Coding}
use Rattle.table_forms.specs.Instructions.{instructions_within}
use Rattle.table_forms.specs.Fde.{Fde, row_at}
use Rattle.table_forms.specs.Row.{Folding, location_after, stepped, with_initial}
use Rattle.frame_read.specs.Seen.{coding_seen}
use Rattle.frame_read.specs.SeenRow.{folding_seen}
use Rattle.frame_read.specs.States.{list_of, states_of}
use Rattle.frame_read.specs.declared.row_walk.Stretch.{Stretch}
use Rattle.frame_read.specs.declared.row_walk.RowWalk.{RowWalk}

-- The instructions from a place up to a stop, where so many states are remembered before them; none is refused, and so many are behind them.
pub record IsLeft (c : Coding) (part : Part) (stop states p : ℕ) (left : List Instruction) (after : ℕ) : Type 0 where
  pub fuel : ℕ
  pub enough : stop ≤ p + fuel
  pub list : left ≡ list_of (instructions_within fuel c part stop p states)
  pub kept : states_of (instructions_within fuel c part stop p states) ≡ Ok after

-- nothing is left from a place on, or else the next instruction moves above a pc, to this location
abbrev pub Stops : ℕ → ℕ → Folding → List Instruction → ℕ → Option ℕ → Type 0
Stops stop pc s left p None = (left ≡ []) × (stop ≤ p)
Stops stop pc s left p (Some l) = (i : Instruction) × (rest : List Instruction) × (left ≡ i ∷ rest) × (location_after i s.location ≡ l) × (pc < l)

-- From a fold that goes over some instructions another one is reached, which does the same over those that are left, up to any place that is not before a pc.
pub record Comes (c : Coding) (part : Part) (stop pc : ℕ) (s : Folding) (before : List Instruction) (after : ℕ) (t : Folding) (states p : ℕ) : Type 0 where
  pub left : List Instruction
  pub is : IsLeft c part stop states p left after
  pub same : (q : ℕ) → pc ≤ q → fold (stepped q) t left ≡ fold (stepped q) s before

-- and there it stops
abbrev pub Goes : Coding → Part → ℕ → ℕ → Folding → List Instruction → ℕ → Folding → ℕ → ℕ → Option ℕ → Type 0
Goes c part stop pc s before after t states p until = (come : Comes c part stop pc s before after t states p) × Stops stop pc t come.left p until

-- the instructions that are left are the FDE's own, and give its rows from a pc on
pub record IsOwn (c : Coding) (part : Part) (stop states p : ℕ) (s : Folding) (f : Fde) (pc : ℕ) : Type 0 where
  pub left : List Instruction
  pub after : ℕ
  pub is : IsLeft c part stop states p left after
  pub gives : (q : ℕ) → pc ≤ q → (fold (stepped q) s left).row ≡ row_at f q

-- they are the CIE's, and give its rows with those of the FDE behind them
pub record IsCommon (c : Coding) (part : Part) (size : ℕ) (own : Stretch) (stop states p : ℕ) (s : Folding) (f : Fde) (pc : ℕ) : Type 0 where
  pub left : List Instruction
  pub between : ℕ
  pub is : IsLeft c part stop states p left between
  pub behind : List Instruction
  pub after : ℕ
  pub own_is : IsLeft c part own.stop between own.first behind after
  pub own_first : own.first ≤ own.stop
  pub own_stop : own.stop ≤ size
  pub gives : (q : ℕ) → pc ≤ q → (fold (stepped q) (with_initial (fold (stepped q) s left)) behind).row ≡ row_at f q

abbrev pub IsIn : Coding → Part → ℕ → Option Stretch → ℕ → ℕ → ℕ → Folding → Fde → ℕ → Type 0
IsIn c part size None stop states p s f pc = IsOwn c part stop states p s f pc
IsIn c part size (Some own) stop states p s f pc = IsCommon c part size own stop states p s f pc

-- a walk over the instructions of an FDE has come to a pc
pub record IsWalk (w : RowWalk) (f : Fde) (pc : ℕ) : Type 0 where
  pub goes : w.folding.stopped ≡ false
  pub below : w.folding.location ≤ pc
  pub place : w.place ≤ w.stop
  pub stop : w.stop ≤ length w.segment.now.bytes.items
  pub gives :
      IsIn (coding_seen w.coding) (part_of w.segment.now) (length w.segment.now.bytes.items) w.own w.stop (array_vec_len w.folding.states) w.place (folding_seen w.folding) f pc

-- nothing is left of the CIE's instructions, and those of the FDE give its rows behind them
pub record IsNext (c : Coding) (part : Part) (size : ℕ) (own : Stretch) (states : ℕ) (s : Folding) (f : Fde) (pc : ℕ) : Type 0 where
  pub behind : List Instruction
  pub after : ℕ
  pub own_is : IsLeft c part own.stop states own.first behind after
  pub own_first : own.first ≤ own.stop
  pub own_stop : own.stop ≤ size
  pub gives : (q : ℕ) → pc ≤ q → (fold (stepped q) (with_initial s) behind).row ≡ row_at f q

abbrev pub AtEnd : Coding → Part → ℕ → Option Stretch → ℕ → ℕ → ℕ → Folding → Fde → ℕ → Type 0
AtEnd c part size None stop states p s f pc = (o : IsOwn c part stop states p s f pc) × (o.left ≡ [])
AtEnd c part size (Some own) stop states p s f pc = IsNext c part size own states s f pc

-- a walk has come to a pc, and to the end of its list
pub record IsAtEnd (w : RowWalk) (f : Fde) (pc : ℕ) : Type 0 where
  pub goes : w.folding.stopped ≡ false
  pub below : w.folding.location ≤ pc
  pub place : w.place ≤ w.stop
  pub stop : w.stop ≤ length w.segment.now.bytes.items
  pub gives :
      AtEnd (coding_seen w.coding) (part_of w.segment.now) (length w.segment.now.bytes.items) w.own w.stop (array_vec_len w.folding.states) w.place (folding_seen w.folding) f pc

-- from a pc on the row of an FDE is this one, to the end or up to a location
abbrev pub HoldsUntil : Fde → ℕ → Row → Option ℕ → Type 0
HoldsUntil f pc row None = (q : ℕ) → pc ≤ q → row_at f q ≡ row
HoldsUntil f pc row (Some l) = (pc < l) × ((q : ℕ) → pc ≤ q → q < l → row_at f q ≡ row)
