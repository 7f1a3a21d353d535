-- The runtime call that is next.
use Rattle.std.specs.Prelude.{ℕ, Option, Some, None}
use Rattle.rv64_isa.specs.declared.instr.Instr.{Instr}
use Rattle.rv64_isa.specs.declared.instr.Instr.TheVariants.{Ecall}
use Rattle.rv64_isa.specs.State.{State, reg_of}
use Rattle.rv64_machine.specs.Next.{next_instr}
use Rattle.cxa_runtime.specs.World.{a7}

-- the call that an instruction makes, by its number
abbrev pub call_by : State → Option Instr → Option ℕ
call_by s (Some Ecall) = Some (reg_of s.regs a7)
call_by s _ = None

-- that of the instruction that is next
abbrev pub next_call : State → Option ℕ
next_call s = call_by s (next_instr s)
