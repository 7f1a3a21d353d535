-- An exception object is made.
use Rattle.std.specs.Prelude.{◌≡◌, ℕ, ◌+◌, ◌^◌, ◌<◌, false, [], ◌∷◌, length}
use Rattle.run_items.specs.declared.item.Item.TheVariants.{Make}
use Rattle.caught_stack.specs.Live.{slots}
use Rattle.cxa_runtime.specs.World as abi
use Rattle.cxa_runtime.specs.Raising.{Image}
use Rattle.region_forms.specs.Form.{make}
use Rattle.region_forms.specs.WellFormed.{is_variable}
use Rattle.region_forms.specs.Effect.{is_full}
use Rattle.linear_forms.specs.Linear.{plain}
use Rattle.linear_forms.specs.Activation.{State}
use Rattle.machine_forms.specs.Shape.{slot_offset}
use Rattle.machine_forms.specs.LinearCode.{linear_code}
use Rattle.machine_simulation.specs.Plan.{Plan, shape, slot_kinds}
use Rattle.machine_simulation.specs.Matches.{Matches}
use Rattle.machine_simulation.specs.Steps.{StepAt}
use Rattle.machine_simulation.specs.Objects.{with_object, Shows}
use Rattle.machine_exceptions.specs.Picks.{MatchedFor}

-- a slot of a call's frame that is no variable
pub record IsWordSlot (p : Plan) (n s : ℕ) : Type 0 where
  pub inside : s < length (shape p n).slots
  pub plain : is_variable (slot_kinds p n s) ≡ false
  pub near : slot_offset (shape p n) s < 2 ^ 11

-- Where fewer than 1,024 exceptions are live, a step that makes one is matched, whatever slots are picked, by as many turns as the operation
-- has words. They show that it is made, and it has its object in a slot that was vacant.
abbrev pub MakesRun : Type 0
MakesRun = (image : Image) (pick : ℕ → ℕ) (p : Plan) (n s : ℕ) (st next : State) (w : abi.World) → Matches p st w → StepAt p st next n (plain (make s)) → IsWordSlot p n s → is_full st.world ≡ false →
    let e = st.world.last_number + 1 in
    Shows st next (Make e ∷ []) × (slot : ℕ) × (slot < slots) × MatchedFor image pick (length (linear_code (shape p n) (plain (make s)))) w (Make e ∷ []) (λ v. Matches (with_object p e slot) next v)
