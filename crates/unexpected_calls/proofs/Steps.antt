-- Steps of the machine for linear code, one behind the other.
use Rattle.std.proofs.Common.{◌≡◌, ◌∙◌, sym, ap, subst, arith, ℕ, zero, suc, ◌+◌}
use Rattle.linear_forms.specs.Activation.{Code, State}
use Rattle.linear_forms.specs.Machine.{Run, go_on, exec}
use Rattle.machine_exceptions.specs.Leaves.{StepsTo}

pub steps_on : (code : Code) (a b : ℕ) (st middle next : State) → StepsTo code a st middle → StepsTo code b middle next → StepsTo code (a + b) st next
steps_on code a b st middle next first second = by a st first
  where
    by : (k : ℕ) (s : State) → StepsTo code k s middle → StepsTo code (k + b) s next
    by zero s h = let count : b ≡ 0 + b = omega arith in subst (λ n. StepsTo code n s next) count (subst (λ (t : State). StepsTo code b t next) (sym h) second)
    by (suc k) s h =
        let count : suc (k + b) ≡ suc k + b = omega arith in
        let all : StepsTo code (suc (k + b)) s next = (h.0, h.1, by k h.0 h.2) in
        subst (λ n. StepsTo code n s next) count all

-- a run goes on where steps lead
pub exec_on : (code : Code) (a b : ℕ) (st middle : State) (r : Run) → StepsTo code a st middle → exec code b middle ≡ r → exec code (a + b) st ≡ r
exec_on code a b st middle r first rest = by a st first
  where
    by : (k : ℕ) (s : State) → StepsTo code k s middle → exec code (k + b) s ≡ r
    by zero s h = let count : 0 + b ≡ b = omega arith in ap (λ n. exec code n s) count ∙ ap (exec code b) h ∙ rest
    by (suc k) s h = let count : suc k + b ≡ suc (k + b) = omega arith in ap (λ n. exec code n s) count ∙ ap (go_on (exec code (k + b))) h.1 ∙ by k h.0 h.2
