-- A handler enters an exception that travels.
use Rattle.std.specs.Prelude.{◌≡◌, ℕ, suc, ◌^◌, ◌<◌, ◌==◌, ◌&&◌, Bool, false, List, [], ◌∷◌, length, if◌then◌else◌}
use Rattle.meaning_forms.specs.Class.{contains}
use Rattle.run_items.specs.declared.item.Item.TheVariants.{Enter}
use Rattle.cxa_runtime.specs.World as abi
use Rattle.cxa_runtime.specs.Raising.{Image}
use Rattle.region_forms.specs.Form.{enter}
use Rattle.region_forms.specs.Caught.{Entry, holds_other}
use Rattle.region_forms.specs.World.{Exception, building, World, exception_at}
use Rattle.region_forms.specs.Effect.{is_foreign}
use Rattle.linear_forms.specs.Linear.{plain}
use Rattle.linear_forms.specs.Activation.{Activation, State}
use Rattle.machine_forms.specs.LinearCode.{linear_code}
use Rattle.machine_simulation.specs.Plan.{Plan, shape}
use Rattle.machine_simulation.specs.Exceptions.{destroyed}
use Rattle.machine_simulation.specs.Matches.{Matches}
use Rattle.machine_simulation.specs.Operations.{Matched}
use Rattle.machine_simulation.specs.Steps.{StepAt}
use Rattle.machine_simulation.specs.Objects.{HoldsObject, Shows}

-- how many handlers have an exception
abbrev pub handlers_of : List Entry → ℕ → ℕ
handlers_of [] e = 0
handlers_of (x ∷ xs) e = if x.number == e then suc x.more else handlers_of xs e

-- an exception is built
abbrev pub IsThrown : Exception → Type 0
IsThrown building = ⊥
IsThrown x = Unit {0}

-- no destructor of an exception runs, and fewer than 2^62 handlers have it
pub record MayEnter (fs : List Activation) (v : World) (e : ℕ) : Type 0 where
  pub whole : contains (destroyed fs) e ≡ false
  pub few : handlers_of v.caught e < 2 ^ 62

-- it is a foreign one while another is handled: entering it terminates
abbrev pub is_crowded : World → ℕ → Bool
is_crowded v e = is_foreign (exception_at v e) && holds_other e v.caught

-- A step that enters such an exception, whose address the slot holds, is matched by as many turns as the operation has words. They show that
-- it is entered.
abbrev pub EntersRun : Type 0
EntersRun = (image : Image) (p : Plan) (n s e : ℕ) (st next : State) (w : abi.World) → Matches p st w → StepAt p st next n (plain (enter s)) → HoldsObject p n st.top.frame s e → MayEnter st.frames st.world e → is_crowded st.world e ≡ false →
    Shows st next (Enter e ∷ []) × Matched image (length (linear_code (shape p n) (plain (enter s)))) w (Enter e ∷ []) (λ v. Matches p next v)
