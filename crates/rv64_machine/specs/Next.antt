-- The instruction that is next.
use Rattle.std.specs.Prelude.{◌%◌, ◌==◌, Option, None, option_and_then, if◌then◌else◌}
use Rattle.rv64_isa.specs.declared.instr.Instr.{Instr}
use Rattle.rv64_isa.specs.Decoding.{decoded}
use Rattle.rv64_isa.specs.State.{State}
use Rattle.rv64_isa.specs.Step.{fetched}

-- none where it can't be fetched, or is none
unfoldable pub next_instr : State → Option Instr
next_instr s = if s.pc % 4 == 0 then option_and_then decoded (fetched s.memory s.pc) else None
