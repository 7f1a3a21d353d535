-- An exception object is given back before it is thrown.
use Rattle.std.specs.Prelude.{ℕ, [], ◌∷◌, length}
use Rattle.run_items.specs.declared.item.Item.TheVariants.{Free}
use Rattle.cxa_runtime.specs.World as abi
use Rattle.cxa_runtime.specs.Raising.{Image}
use Rattle.linear_forms.specs.Linear.{free}
use Rattle.linear_forms.specs.Activation.{State}
use Rattle.machine_forms.specs.LinearCode.{linear_code}
use Rattle.machine_simulation.specs.Plan.{Plan, shape}
use Rattle.machine_simulation.specs.Matches.{Matches}
use Rattle.machine_simulation.specs.Operations.{Matched}
use Rattle.machine_simulation.specs.Steps.{StepAt}
use Rattle.machine_simulation.specs.Objects.{without_object, HoldsObject, Shows}

-- A step that frees an exception, whose address the slot holds, is matched by as many turns as the operation has
-- words. They show that the exception is freed, and its object is live no longer.
abbrev pub FreesRun : Type 0
FreesRun = (image : Image) (p : Plan) (n s e : ℕ) (st next : State) (w : abi.World) → Matches p st w → StepAt p st next n (free s) → HoldsObject p n st.top.frame s e →
    Shows st next (Free e ∷ []) × Matched image (length (linear_code (shape p n) (free s))) w (Free e ∷ []) (λ v. Matches (without_object p e) next v)
