-- A jump to what lies outside a function.
use Rattle.std.proofs.Common.{◌≡◌, ◌∙◌, refl, ap, arith, ℕ, ◌+◌, ◌-◌, ◌*◌, ◌/◌, ◌%◌, ◌^◌, ◌<◌, ℤ, [], ◌∷◌, length}
use Rattle.std.proofs.Common.{◌≢◌}
use Rattle.rv64_isa.specs.declared.step.Step.TheVariants as steps
use Rattle.rv64_isa.specs.Arithmetic.{add}
use Rattle.rv64_isa.specs.State.{State, state}
use Rattle.rv64_isa.specs.Step.{step_of, jumps, x, imm12, imm20}
use Rattle.machine_forms.specs.Immediate.{upper, lower}
use Rattle.machine_forms.specs.Registers.{zero_register, t0}
use Rattle.machine_forms.specs.Piece.{Target, upper_part, jump_rest, distance}
use Rattle.machine_pieces.specs.Executes.{Executes}
use Rattle.machine_pieces.specs.Standing.{Ground, address, PiecesAt}
use Rattle.machine_pieces.specs.Frames.{Reached}
use Rattle.machine_pieces.proofs.Fetching.{piece_done}
use Rattle.machine_pieces.proofs.Stepping.{one_step, step_then}
use Rattle.machine_pieces.proofs.Registers.{set_length, read_same, read_other}
use Rattle.machine_pieces.proofs.Places.{far_address, reached_from}
use Rattle.machine_pieces.proofs.Framing.{set_state, sets_at, not_zero, auipc_done, jalr_done, jumped}

pub record JumpsFar (first : ℕ) (s : State) : Type 0 where
  pub after : State
  pub runs : Executes 2 s after
  pub pc : after.pc ≡ first
  pub memory : after.memory ≡ s.memory
  pub registers : length after.regs ≡ 32
  pub kept : (r : ℕ) → r ≢ t0 → x after r ≡ x s r

pub jumps_far : (g : Ground) (here first : ℕ) (u : Target) (s : State) → PiecesAt s.memory g here (upper_part t0 u ∷ jump_rest zero_register t0 u ∷ []) → s.pc ≡ address g here → length s.regs ≡ 32 →
    Reached g u first → first % 4 ≡ 0 → first < 2 ^ 64 → JumpsFar first s
jumps_far g here first u s code at regs reached aligned below =
    let d : ℤ = distance g.places here u in
    let high : ℕ = add s.pc (imm20 (upper d)) in
    let one : State = set_state g here s t0 high in
    let step1 : step_of s ≡ (steps.Done, one) = sets_at g here t0 high (upper_part t0 u) s code.0 at (auipc_done t0 (upper d) s) in
    let t01 : x one t0 ≡ high = read_same s.regs t0 high (not_zero t0 (omega arith)) (omega (arith, regs)) in
    let here_again : here + 1 - 1 ≡ here = omega arith in
    let low : lower (distance g.places (here + 1 - 1) u) ≡ lower d = ap (λ i. lower (distance g.places i u)) here_again in
    let near = reached.near here code.0.inside in
    let place : add (x one t0) (imm12 (lower (distance g.places (here + 1 - 1) u))) ≡ first =
    ap (λ a. add a (imm12 (lower (distance g.places (here + 1 - 1) u)))) t01 ∙ ap (λ i. add high (imm12 i)) low ∙ ap (λ p. add (add p (imm20 (upper d))) (imm12 (lower d))) at
    ∙ far_address (address g here) first d (omega (arith, code.0.word.below)) below near.0 near.1 (reached_from g here u first reached) in
    let target : add (x one t0) (imm12 (lower (distance g.places (here + 1 - 1) u))) / 2 * 2 ≡ first = ap (λ a. a / 2 * 2) place ∙ omega (arith, aligned) in
    let two : State = state first one.regs s.memory in
    let step2 : step_of one ≡ (steps.Done, two)
    = piece_done g (here + 1) (jump_rest zero_register t0 u) one code.1.0 refl ∙ jalr_done zero_register t0 (lower (distance g.places (here + 1 - 1) u)) one ∙ ap (jumps one zero_register) target
    ∙ jumped one zero_register first aligned in
    record {
      after = two;
      runs = step_then 1 s one two step1 (one_step one two step2);
      pc = refl;
      memory = refl;
      registers = set_length s.regs t0 high ∙ regs;
      kept = λ r other. read_other s.regs t0 r high other;
    }
