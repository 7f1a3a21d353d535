-- Steps one after another.
use Rattle.std.proofs.Common.{◌≡◌, ◌∙◌, refl, sym, ap, arith, ℕ, zero, suc, ◌+◌, Option, Some}
use Rattle.rv64_isa.specs.declared.step.Step.{Step}
use Rattle.rv64_isa.specs.declared.step.Step.TheVariants.{Done, Ecall, Fault}
use Rattle.rv64_isa.specs.State.{State}
use Rattle.rv64_isa.specs.Step.{step_of}
use Rattle.machine_pieces.specs.Executes.{when_done, steps, Executes}

pub no_steps : (s : State) → Executes 0 s s
unfolding steps
no_steps s = refl

pub one_step : (s t : State) → step_of s ≡ (Done, t) → Executes 1 s t
unfolding steps
one_step s t e = ap (λ r. when_done r.0 (Some r.1)) e

pub step_then : (n : ℕ) (s m t : State) → step_of s ≡ (Done, m) → Executes n m t → Executes (suc n) s t
unfolding steps
step_then n s m t e h = ap (λ r. when_done r.0 (steps n r.1)) e ∙ h

behind : (step : Step) (first : Option State) (second : State → Option State) (m : State) → when_done step first ≡ Some m → step ≡ Done
behind Done first second m h = refl
behind Ecall first second m h = absurd (cc h)
behind (Fault kind) first second m h = absurd (cc h)

pub steps_then : (n k : ℕ) (s m t : State) → Executes n s m → Executes k m t → Executes (n + k) s t
unfolding steps
steps_then zero k s m t first second =
    let same : s ≡ m = cc first in
    let count : zero + k ≡ k = omega arith in
    ap (λ x. steps x s) count ∙ ap (steps k) same ∙ second
steps_then (suc n) k s m t first second =
    let went : (step_of s).0 ≡ Done = behind (step_of s).0 (steps n (step_of s).1) (λ x. Some x) m first in
    let rest : steps n (step_of s).1 ≡ Some m = sym (ap (λ d. when_done d (steps n (step_of s).1)) went) ∙ first in
    let count : suc n + k ≡ suc (n + k) = omega arith in
    ap (λ x. steps x s) count ∙ ap (λ d. when_done d (steps (n + k) (step_of s).1)) went ∙ steps_then n k (step_of s).1 m t rest second
