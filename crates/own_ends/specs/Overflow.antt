-- The destructor of an exception's object finds no room for its frame.
use Rattle.std.specs.Prelude.{◌≡◌, ℕ, ◌+◌, ◌<◌, ◌≤◌, true, false, List, [], ◌∷◌, length, Some}
use Rattle.meaning_forms.specs.World.{Installed}
use Rattle.run_items.specs.declared.item.Item.TheVariants.{Leave, Destroy}
use Rattle.cxa_runtime.specs.declared.effect.End.TheVariants.{Stack}
use Rattle.cxa_runtime.specs.World as abi
use Rattle.cxa_runtime.specs.Raising.{Image}
use Rattle.region_forms.specs.Caught.{Entry, is_last}
use Rattle.region_forms.specs.World.{native}
use Rattle.linear_forms.specs.Activation.{Activation, State}
use Rattle.linear_forms.specs.UnitRun.{code_of}
use Rattle.machine_simulation.specs.Plan.{Plan, shape}
use Rattle.machine_simulation.specs.Calls.{open_bytes}
use Rattle.machine_simulation.specs.Exceptions.{live_in}
use Rattle.machine_simulation.specs.Matches.{Matches}
use Rattle.machine_simulation.specs.Objects.{Shows}
use Rattle.machine_exceptions.specs.Leaves.{StepsTo, AtLeave}
use Rattle.machine_exceptions.specs.Destroys.{waiting_catch, in_destructor}
use Rattle.raise_ends.specs.Ends.{RunEnds}
use Rattle.own_ends.specs.Leaving.{AtOwnLeave}

-- a function of the unit, for which the stack has no room below these calls; it looks for it, since it calls something
pub record LacksRoom (p : Plan) (d : ℕ) (active : List Activation) : Type 0 where
  pub known : d < length p.unit.functions
  pub looks : (shape p d).leaf ≡ false
  pub lacks : 0x100_0000 < open_bytes p active + (shape p d).size + 0x1000

-- Three steps lead to the destructor's first operation. The run of the ABI machine shows the same items, and ends for want of stack.
abbrev pub Overflows : (image : Image) (pick : ℕ → ℕ) (j : ℕ) (p : Plan) (d e : ℕ) (st : State) (w : abi.World) → Type 0
Overflows image pick j p d e st w = let next = in_destructor p d e st in let items = Leave e ∷ Destroy e ∷ [] in StepsTo (code_of p.unit) 3 st next × Shows st next items × RunEnds image pick j w items Stack

-- So it is where a compiled function leaves a handler, and where call_unexpected does.
pub record DestructorsOverflow : Type 0 where
  pub compiled : (image : Image) (pick : ℕ → ℕ) (j : ℕ) (p : Plan) (n : ℕ) (st middle : State) (x : Entry) (xs : List Entry) (type d : ℕ) (kept : Installed) (w : abi.World) → Matches p st w → AtLeave p n st middle x xs → is_last x ≡ true →
      live_in st.world.live x.number ≡ Some (native type (Some d) kept) → LacksRoom p d (waiting_catch d x.number ∷ st.top ∷ st.frames) → 20 ≤ j → Overflows image pick j p d x.number st w
  pub own : (image : Image) (pick : ℕ → ℕ) (j : ℕ) (p : Plan) (place k : ℕ) (st : State) (x : Entry) (xs : List Entry) (type d : ℕ) (kept : Installed) (w : abi.World) → AtOwnLeave p place k st w x xs → is_last x ≡ true →
      live_in st.world.live x.number ≡ Some (native type (Some d) kept) → LacksRoom p d (waiting_catch d x.number ∷ st.top ∷ st.frames) → 22 ≤ j → Overflows image pick j p d x.number st w
