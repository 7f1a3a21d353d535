-- A module raises an exception.
use Rattle.std.specs.Prelude.{◌≡◌, ℕ, ◌+◌, ◌<◌, false, pos, List, [], ◌∷◌, length, slice_get, Option, Some}
use Rattle.eh_outer.specs.declared.module.Reply.{Reply}
use Rattle.eh_outer.specs.declared.module.Reply.TheVariants.{Raise}
use Rattle.run_items.specs.declared.item.Item.{Item}
use Rattle.run_items.specs.declared.item.Item.TheVariants.{Foreign}
use Rattle.rv64_isa.specs.Step.{x}
use Rattle.elf_image.specs.Clean.{CleanImage}
use Rattle.caught_stack.specs.Live.{slots}
use Rattle.cxa_runtime.specs.World as abi
use Rattle.eh_run.specs.Program.{program_of}
use Rattle.region_forms.specs.Form.{Place}
use Rattle.region_forms.specs.World.{type_at}
use Rattle.region_forms.specs.Effect.{is_full}
use Rattle.linear_forms.specs.Linear.{LinearOp}
use Rattle.linear_forms.specs.Search.{found_above}
use Rattle.linear_forms.specs.Stub.{compiled}
use Rattle.linear_forms.specs.Activation.{State}
use Rattle.linear_forms.specs.UnitRun.{code_of}
use Rattle.machine_forms.specs.Registers.{sp}
use Rattle.machine_forms.specs.LinearCode.{linear_code}
use Rattle.machine_simulation.specs.Plan.{Plan, shape}
use Rattle.machine_simulation.specs.Matches.{Matches}
use Rattle.machine_simulation.specs.Returns.{closed}
use Rattle.machine_simulation.specs.Steps.{StepAt}
use Rattle.machine_exceptions.specs.Answers.{CallsModule}
use Rattle.machine_simulation.specs.Objects.{with_object, Shows}
use Rattle.machine_exceptions.specs.Picks.{MatchedFor}
use Rattle.machine_raises.specs.Stacks.{IsRunning}
use Rattle.machine_raises.specs.Pads.{PadsArePlain, FiltersAreInts}
use Rattle.machine_raises.specs.Throws.{HasAim}

-- as `RaisedTo`, of an exception that is new, for the slots that are picked
pub record RaisedForTo (p : Plan) (i : CleanImage) (pick : ℕ → ℕ) (st next : State) (w : abi.World) (e words : ℕ) (items : List Item) (R : abi.World → Type 0) : Type 0 where
  pub depth : ℕ
  pub found : found_above (code_of p.unit) (type_at next.world e) (st.top ∷ st.frames) ≡ Some depth
  pub ran : MatchedFor (program_of i).image pick words w items (λ u. R u × HasAim p u e depth (x w.hart sp) (st.top ∷ st.frames))

abbrev pub RaisedFor : (p q : Plan) (i : CleanImage) (pick : ℕ → ℕ) (st next : State) (w : abi.World) (e words : ℕ) (items : List Item) → Type 0
RaisedFor p q i pick st next w e words items = RaisedForTo p i pick st next w e (words + 2) items (λ u. Matches (closed q next.top.frame.call) next u)

-- A step that calls a module which raises, where fewer than 1,024 exceptions are live, and comes to a pad of a compiled function. The exception
-- has its object in a slot that was vacant.
abbrev pub ModulesRaise : Type 0
ModulesRaise = (i : CleanImage) (pick : ℕ → ℕ) (p : Plan) (n m : ℕ) (st next : State) (w : abi.World) (o : LinearOp) (wants : Option Place) (k token : ℕ) (left : List Reply) → Matches p st w → IsRunning p i w.hart → StepAt p st next n o →
    CallsModule p n st wants o (pos k) → slice_get st.world.replies k ≡ Some (Raise token ∷ left) →
    is_full st.world ≡ false → PadsArePlain p → FiltersAreInts p → next.top.function ≡ compiled m →
    let e = st.world.last_number + 1 in
    Shows st next (Foreign e k token ∷ []) × (slot : ℕ) × (slot < slots) × RaisedFor p (with_object p e slot) i pick st next w e (length (linear_code (shape p n) o)) (Foreign e k token ∷ [])
