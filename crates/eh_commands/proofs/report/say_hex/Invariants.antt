use Rattle.std.proofs.Common.{◌≡◌, length}
use Rattle.eh_commands.proofs.Hexadecimal.{HexSoFar}
use Rattle.eh_commands.proofs.report.say_hex.Given as goal

abbrev pub invariant-loop-rest : goal.invariant-loop-rest
invariant-loop-rest g l = HexSoFar l.number l.text l.start l.rest × (length l.text ≡ 16)

abbrev pub decreases-loop-rest : goal.decreases-loop-rest
decreases-loop-rest g l = l.rest
