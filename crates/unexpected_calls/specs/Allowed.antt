-- What comes out of the unexpected handler is allowed by the list: it is thrown again, which something stops.
use Rattle.std.specs.Prelude.{◌≡◌, ℕ, ◌+◌, pos, List, [], ◌∷◌, Option, Some}
use Rattle.meaning_forms.specs.World.{Installed}
use Rattle.run_items.specs.declared.item.Item.{Item}
use Rattle.run_items.specs.declared.item.Item.TheVariants.{Enter}
use Rattle.rv64_isa.specs.Step.{x}
use Rattle.elf_image.specs.Clean.{CleanImage}
use Rattle.cxa_runtime.specs.World as abi
use Rattle.eh_run.specs.Program.{program_of}
use Rattle.region_forms.specs.World.{type_at}
use Rattle.linear_forms.specs.Search.{found_above}
use Rattle.linear_forms.specs.Activation.{State, goes_to}
use Rattle.linear_forms.specs.Machine.{step}
use Rattle.linear_forms.specs.UnitRun.{code_of}
use Rattle.machine_forms.specs.Registers.{sp}
use Rattle.machine_pieces.specs.Turning.{Reaches}
use Rattle.machine_simulation.specs.Plan.{Plan}
use Rattle.machine_simulation.specs.Objects.{Shows}
use Rattle.machine_exceptions.specs.Leaves.{StepsTo}
use Rattle.machine_raises.specs.Pads.{PadsArePlain, FiltersAreInts}
use Rattle.machine_raises.specs.Throws.{HasAim}
use Rattle.stub_landings.specs.Rests.{Rests}
use Rattle.stub_landings.specs.Landings.{resting, pad_words, GoesOn}
use Rattle.unexpected_calls.specs.Thrown.{ThrownOut, list_says, checked_state}

-- An exception has a target, and is raised in the call that runs, where the frames of the calls begin at an address: so many turns at most, from a
-- world before, lead to one of which something holds, and the header has the target.
pub record RaisedFrom (p : Plan) (i : CleanImage) (st next : State) (w : abi.World) (e stack most : ℕ) (items : List Item) (R : abi.World → Type 0) : Type 0 where
  pub depth : ℕ
  pub found : found_above (code_of p.unit) (type_at next.world e) (st.top ∷ st.frames) ≡ Some depth
  pub ran : Reaches (program_of i).image most w items (λ u. R u × HasAim p u e depth stack (st.top ∷ st.frames))

-- Five steps lead to where the next state rests, and are matched. They show that the exception is entered.
abbrev pub AllowedIsThrown : Type 0
AllowedIsThrown = (i : CleanImage) (p : Plan) (e d type : ℕ) (destructor : Option ℕ) (kept : Installed) (j : ℕ) (st next : State) (w : abi.World) → (h : ThrownOut i p e d type destructor kept j st w) → list_says p h.rests.kept.owner j type ≡ pos 0 →
    let raising = checked_state 10 e (pos 0) st in step (code_of p.unit) raising ≡ goes_to next → GoesOn next → PadsArePlain p → FiltersAreInts p →
    let items = Enter e ∷ [] in StepsTo (code_of p.unit) 5 st next × Shows st next items × RaisedFrom p i raising next w e (x w.hart sp) (19 + pad_words next.top.function) items (λ u. Rests (resting p next) next u)
