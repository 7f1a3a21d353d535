-- A raise that comes to a call has a target.
use Rattle.std.proofs.Common.{◌≡◌, refl, ℕ, List, ◌∷◌, Option, Some, None, inl, inr}
use Rattle.std.specs.Prelude.{◌⊎◌}
use Rattle.meaning_forms.specs.Outcome.{aborted}
use Rattle.region_forms.specs.World.{World, Exception, building, native, foreign, exception_at, type_at}
use Rattle.region_forms.specs.Effect.{entered_doomed, flies}
use Rattle.linear_forms.specs.Search.{found_above}
use Rattle.linear_forms.specs.Stub.{terminating}
use Rattle.linear_forms.specs.Activation.{Code, Activation, State, goes_to, finishes, by_program, look}
use Rattle.linear_forms.specs.Unwinding.{unwind, unwound_above, doomed_by, doomed, raised_to, raise}
use Rattle.machine_raises.proofs.Passing.{one_of_both, begins_terminating}

doomed_terminates : (e : ℕ) (fs : List Activation) (w : World) (st : State) → doomed e fs w ≡ goes_to st → st.top.function ≡ terminating
doomed_terminates e fs w st h = by (one_of_both w.ending (finishes (by_program aborted) w) (doomed_by e (exception_at w e) fs w) st h)
  where
    kinds : (x : Exception) → doomed_by e x fs w ≡ goes_to st → st.top.function ≡ terminating
    kinds building g = begins_terminating w.installed.terminate_handler fs w st g
    kinds (native t d handlers) g = begins_terminating handlers.terminate_handler fs (entered_doomed e w) st g
    kinds (foreign k token) g = begins_terminating w.installed.terminate_handler fs w st g

    by : (finishes (by_program aborted) w ≡ goes_to st) ⊎ (doomed_by e (exception_at w e) fs w ≡ goes_to st) → st.top.function ≡ terminating
    by (inl g) = absurd (cc g)
    by (inr g) = kinds (exception_at w e) g

-- its depth is found, and the unwind comes to the next state
pub record Targeted (code : Code) (e : ℕ) (a : Activation) (fs : List Activation) (v : World) (next : State) : Type 0 where
  pub depth : ℕ
  pub found : found_above code (type_at v e) (a ∷ fs) ≡ Some depth
  pub unwound : unwound_above code depth e (a ∷ fs) (flies e v) ≡ goes_to next

pub targeted : (code : Code) (e : ℕ) (a : Activation) (fs : List Activation) (v : World) (next : State) → raise code e a fs v ≡ goes_to next → (next.top.function ≡ terminating → ⊥) → Targeted code e a fs v next
targeted code e a fs v next h live = by (found_above code (type_at v e) (a ∷ fs)) refl h
  where
    by : (o : Option ℕ) → found_above code (type_at v e) (a ∷ fs) ≡ o → raised_to o e (a ∷ fs) v (λ t. unwind code (look code a.function a.place) t e a.function a.frame fs (flies e v)) ≡ goes_to next → Targeted code e a fs v next
    by None is g = absurd (live (doomed_terminates e (a ∷ fs) v next g))
    by (Some depth) is g = record { depth = depth; found = is; unwound = g }
