-- What a step is, by what is fetched and decoded.
use Rattle.std.proofs.Common.{ℕ, ◌≡◌, ◌%◌, ◌==◌, false, cond, List, Option, Some, None, ap, sym, ◌∙◌, eq-eqb, arith}
use Rattle.std.proofs.lemmas.Bool.Decides.{nat_tests}
use Rattle.rv64_isa.specs.declared.instr.Instr.{Instr}
use Rattle.rv64_isa.specs.declared.step.FaultKind.TheVariants.{Illegal, Misaligned, Unmapped}
use Rattle.rv64_isa.specs.Decoding.{decoded}
use Rattle.rv64_isa.specs.State.{State, Part, state}
use Rattle.rv64_isa.specs.Step.{Stepped, fault, fetched, decoded_step, fetched_step, done, step_of}

stepped : (s : State) (w : Option ℕ) → s.pc % 4 ≡ 0 → fetched s.memory s.pc ≡ w → step_of s ≡ fetched_step w s
unfolding step_of
stepped s w aligned e = ap (λ b. cond b (fetched_step (fetched s.memory s.pc) s) (fault Misaligned s)) (eq-eqb (s.pc % 4) 0 aligned) ∙ ap (λ o. fetched_step o s) e

not_zero : (n : ℕ) → (n ≡ 0 → ⊥) → (n == 0) ≡ false
not_zero n h = grind (arith, nat_tests)

pub misaligned : (s : State) (pc : ℕ) (regs : List ℕ) (memory : List Part) → state pc regs memory ≡ s → (pc % 4 ≡ 0 → ⊥) → fault Misaligned s ≡ step_of s
unfolding step_of
misaligned s pc regs memory same off =
    sym (ap (λ b. cond b (fetched_step (fetched s.memory s.pc) s) (fault Misaligned s)) (ap (λ t. t.pc % 4 == 0) (sym same) ∙ not_zero (pc % 4) off))

pub unmapped : (s : State) (pc : ℕ) (regs : List ℕ) (memory after : List Part) → state pc regs memory ≡ s → pc % 4 ≡ 0 → None ≡ fetched memory pc → after ≡ memory →
    fault Unmapped (state pc regs after) ≡ step_of s
unmapped s pc regs memory after same aligned none kept =
    ap (λ m. fault Unmapped (state pc regs m)) kept ∙ sym (stepped (state pc regs memory) None aligned (sym none)) ∙ ap step_of same

pub illegal : (s : State) (pc : ℕ) (regs : List ℕ) (memory after : List Part) (w : ℕ) → state pc regs memory ≡ s → pc % 4 ≡ 0 → Some w ≡ fetched memory pc → None ≡ decoded w → after ≡ memory →
    fault Illegal (state pc regs after) ≡ step_of s
illegal s pc regs memory after w same aligned some unlisted kept =
    ap (λ m. fault Illegal (state pc regs m)) kept ∙ ap (λ o. decoded_step o (state pc regs memory)) unlisted ∙
    sym (stepped (state pc regs memory) (Some w) aligned (sym some)) ∙ ap step_of same

pub executed : (s : State) (pc : ℕ) (regs : List ℕ) (memory after : List Part) (w : ℕ) (i : Instr) (r : Stepped) → state pc regs memory ≡ s → pc % 4 ≡ 0 → Some w ≡ fetched memory pc →
    Some i ≡ decoded w → after ≡ memory → r ≡ done i (state pc regs after) → r ≡ step_of s
executed s pc regs memory after w i r same aligned some listed kept e =
    e ∙ ap (λ m. done i (state pc regs m)) kept ∙ ap (λ o. decoded_step o (state pc regs memory)) listed ∙
    sym (stepped (state pc regs memory) (Some w) aligned (sym some)) ∙ ap step_of same
