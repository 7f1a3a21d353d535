-- A runtime call at its ECALL.
use Rattle.std.specs.Prelude.{◌≡◌, ◌≢◌, ℕ, ◌+◌, length}
use Rattle.rv64_isa.specs.declared.step.Step.TheVariants as steps
use Rattle.rv64_isa.specs.State.{State}
use Rattle.rv64_isa.specs.Step.{step_of, x}
use Rattle.machine_forms.specs.Registers.{a7}
use Rattle.machine_pieces.specs.Standing.{Ground, address}
use Rattle.machine_pieces.specs.Executes.{Executes}

-- the number of the call is in a7, and the next step is the ECALL; behind it stands the word behind the call, and all else is as before
pub record AtCall (g : Ground) (here number : ℕ) (s : State) : Type 0 where
  pub called : State
  pub behind : State
  pub first : Executes 1 s called
  pub calls : step_of called ≡ (steps.Ecall, behind)
  pub pc : behind.pc ≡ address g (here + 2)
  pub memory : behind.memory ≡ s.memory
  pub registers : length behind.regs ≡ 32
  pub is : x behind a7 ≡ number
  pub kept : (r : ℕ) → r ≢ a7 → x behind r ≡ x s r
