-- A runtime call is one step and then its ECALL.
use Rattle.std.proofs.Common.{◌≡◌, ◌∙◌, refl, ap, arith, ℕ, ◌+◌, ◌^◌, ◌<◌, length}
use Rattle.std.proofs.lemmas.Bool.Decides.{nat_tests}
use Rattle.rv64_isa.specs.declared.step.Step.TheVariants as steps
use Rattle.rv64_isa.specs.declared.instr.Instr.TheVariants.{Addi, Ecall}
use Rattle.rv64_isa.specs.Arithmetic.{add}
use Rattle.rv64_isa.specs.State.{State, state}
use Rattle.rv64_isa.specs.Step.{step_of, next, calls, sets, imm12, done}
use Rattle.machine_forms.specs.Registers.{zero_register, a7}
use Rattle.machine_forms.specs.Piece.{instruction}
use Rattle.machine_forms.specs.RuntimeCall.{runtime_call}
use Rattle.machine_pieces.specs.Standing.{Ground, address, PiecesAt}
use Rattle.machine_pieces.specs.RuntimeCalls.{AtCall}
use Rattle.machine_pieces.specs.Laws.{CallsAreTurns}
use Rattle.machine_pieces.proofs.Fetching.{piece_done}
use Rattle.machine_pieces.proofs.Stepping.{one_step}
use Rattle.machine_pieces.proofs.Registers.{set_length, read_same, read_other}
use Rattle.machine_pieces.proofs.Going.{next_is}
use Rattle.machine_pieces.proofs.Framing.{set_state, sets_at, not_zero, addi_done}
use Rattle.machine_pieces.proofs.Turning.{executes_turns, write_turns, read_turns, end_turns, exit_ends}

ecall_done : (s : State) → done Ecall s ≡ calls s
unfolding done
ecall_done s = refl

small_number : (n : ℕ) → n < 2 ^ 11 → add 0 (imm12 n) ≡ n
small_number n small = grind (arith, nat_tests, small)

pub call_at : (g : Ground) (here number : ℕ) (s : State) → number < 2 ^ 11 → PiecesAt s.memory g here (runtime_call number) → s.pc ≡ address g here → length s.regs ≡ 32 → AtCall g here number s
call_at g here number s small code at regs =
    let one : State = set_state g here s a7 number in
    let step1 : step_of s ≡ (steps.Done, one)
    = sets_at g here a7 number (instruction (Addi a7 zero_register number)) s code.0 at (addi_done a7 zero_register number s ∙ ap (sets s a7) (small_number number small)) in
    record {
      called = one;
      behind = state (next one) one.regs one.memory;
      first = one_step s one step1;
      calls = piece_done g (here + 1) (instruction Ecall) one code.1.0 refl ∙ ecall_done one;
      pc = next_is g (here + 1) (instruction Ecall) one code.1.0 refl ∙ omega arith;
      memory = refl;
      registers = set_length s.regs a7 number ∙ regs;
      is = read_same s.regs a7 number (not_zero a7 (omega arith)) (omega (arith, regs));
      kept = λ r other. read_other s.regs a7 r number other;
    }

pub calls_are_turns : CallsAreTurns
calls_are_turns = record { steps = executes_turns; call = call_at; line = write_turns; byte = read_turns; no_byte = end_turns; exit = exit_ends }
