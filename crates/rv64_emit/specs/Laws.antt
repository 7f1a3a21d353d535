-- What the calls of laws state.
use Rattle.std.specs.Prelude.{◌≡◌, ℕ, ◌+◌, ◌-◌, ◌*◌, ◌<◌, ◌≤◌, List, [], ◌∷◌, length, map, take, Some, slice_get}
use Rattle.std.specs.List.{AllByRecursion}
use Rattle.eh_bytes.specs.declared.frames.FrameMove.{FrameMove}
use Rattle.eh_bytes.specs.declared.frames.Region64.{Region64}
use Rattle.eh_bytes.specs.declared.table.ListSite.{ListSite}
use Rattle.eh_bytes.specs.Listed.{ListedFunction}
use Rattle.eh_write.specs.CanWrite.{AreInOrder, ChainIsGood, ChainIsThere, TypeIsThere}
use Rattle.eh_write.specs.CanWriteFrames.{MovesAreGood}
use Rattle.region_forms.specs.Form.{Arguments, call, call_value, construct, defined, destroy, evaluate, Place, Regions, RegionFunction, Slot, store, Value}
use Rattle.linear_forms.specs.Frame.{code_slots, slot_bytes}
use Rattle.linear_forms.specs.Linear.{jump_zero, UnitCode}
use Rattle.linear_forms.specs.Unit.{function_code, unit_of}
use Rattle.machine_forms.specs.Emitted.{emitted_of, shape_of}
use Rattle.machine_forms.specs.LinearCode.{linear_code}
use Rattle.machine_forms.specs.OperationCode.{op_code}
use Rattle.machine_forms.specs.Shape.{Shape, return_offset, slot_offset}

-- functions one behind the other, from a word up to another
abbrev pub StandFrom : (first end : ℕ) → List ListedFunction → Type 0
StandFrom first end [] = first ≡ end
StandFrom first end (f ∷ functions) = (f.first ≡ first) × StandFrom (first + f.words) end functions

-- all words of a unit but its first two are those of its functions, each of one function
abbrev pub FunctionsAreApart : Type 0
FunctionsAreApart = (u : UnitCode) → StandFrom 2 (length (emitted_of u).code) (emitted_of u).functions

-- a site and its pad lie in a function of so many words
pub record SiteIsInside (words : ℕ) (s : ListSite) : Type 0 where
  pub extent : s.start + s.length ≤ 4 * words
  pub pad : s.pad < 4 * words

-- The sites of a function are in order and in the function, and chains, filters, types and lists are there where they are named; so a
-- writer of tables can write it at an address that is right for it.
pub record TableIsGood (f : ListedFunction) : Type 0 where
  pub order : AreInOrder 0 f.table.sites
  pub inside : AllByRecursion (SiteIsInside f.words) f.table.sites
  pub sites : AllByRecursion (λ s. ChainIsThere f.table s.chain) f.table.sites
  pub chains : AllByRecursion (ChainIsGood f.table) f.table.chains
  pub lists : AllByRecursion (AllByRecursion (TypeIsThere f.table)) f.table.lists

-- so it is in each function of a program of regions
abbrev pub TablesAreGood : Type 0
TablesAreGood = (r : Regions) → AllByRecursion TableIsGood (emitted_of (unit_of r)).functions

-- a move of a function that begins at an address
abbrev pub moved_to : ℕ → FrameMove → FrameMove
moved_to start m = record { location = start + m.location; change = m.change }

-- wherever a function stands, a writer of frames can write its moves
abbrev pub MovesFit : ListedFunction → Type 0
MovesFit f = (region : Region64) → region.length ≡ 4 * f.words → MovesAreGood region region.start (map (moved_to region.start) f.moves)

-- so it is with each function of a program of regions, where no frame is larger than its bound
abbrev pub AllMovesFit : Type 0
AllMovesFit = (r : Regions) → AllByRecursion (λ g. g.frame ≤ 2032) (unit_of r).functions → AllByRecursion MovesFit (emitted_of (unit_of r)).functions

-- a slot of a frame lies above the return address, and ends where the one before it begins or below
pub record SlotIsInside (f : Shape) (s : ℕ) (slot : Slot) : Type 0 where
  pub low : return_offset + 8 ≤ slot_offset f s
  pub high : slot_offset f s + slot.size ≤ f.size - slot_bytes (take s f.slots)

-- so it is with each slot of a function
abbrev pub SlotsAreInside : Type 0
SlotsAreInside = (f : RegionFunction) (s : ℕ) (slot : Slot) → slice_get (code_slots f) s ≡ Some slot → SlotIsInside (shape_of (function_code f)) s slot

-- each call of a function and each test of a loop has at least one instruction
pub record TurnsTakeWords (f : Shape) : Type 0 where
  pub evaluated : (n : ℕ) (args : Arguments) → 0 < length (op_code f (evaluate (call_value (defined n) args)))
  pub stored : (p : Place) (n : ℕ) (args : Arguments) → 0 < length (op_code f (store p (call_value (defined n) args)))
  pub called : (n : ℕ) (args : Arguments) → 0 < length (op_code f (call (defined n) args))
  pub constructed : (p : Place) (n : ℕ) (args : Arguments) → 0 < length (op_code f (construct p n args))
  pub destroyed : (p : Place) (n : ℕ) → 0 < length (op_code f (destroy p n))
  pub tested : (v : Value) (l : ℕ) → 0 < length (linear_code f (jump_zero v l))

-- so it is in each function
abbrev pub EachTurnTakesWords : Type 0
EachTurnTakesWords = (f : Shape) → TurnsTakeWords f
