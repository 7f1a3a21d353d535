-- What the numbers of an instruction are at most.
use Rattle.std.specs.Prelude.{◌<◌, ◌^◌, ⊤}
use Rattle.frame_read.specs.declared.instruction.Instruction.{Instruction}
use Rattle.frame_read.specs.declared.instruction.Instruction.TheVariants as found

-- registers are below 64, and a location moves by less than 2^96
abbrev pub Fits : Instruction → Type 0
Fits found.Nop = ⊤
Fits (found.GoTo l) = ⊤
Fits (found.Advance n) = n < 2 ^ 96
Fits (found.SetCfa r n) = r < 64
Fits (found.SetCfaRegister r) = r < 64
Fits (found.SetCfaOffset n) = ⊤
Fits (found.SetRule r rule) = r < 64
Fits (found.Restore r) = r < 64
Fits found.RememberState = ⊤
Fits found.RestoreState = ⊤
