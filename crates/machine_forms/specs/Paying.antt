-- An operation that pays for a turn has words.
use Rattle.std.specs.Prelude.{◌≡◌, ◌<◌, true, length, Some}
use Rattle.linear_forms.specs.Stub.{CodeOp}
use Rattle.linear_forms.specs.Pace.{pays}
use Rattle.machine_forms.specs.Shape.{Shape}
use Rattle.machine_forms.specs.StubCode.{code_op_code}

-- Each operation that may pay for a turn, of linear code or of the runtime's own, has at least one word, whatever the frame.
abbrev pub PayingTakesWords : Type 0
PayingTakesWords = (f : Shape) (o : CodeOp) → pays (Some o) ≡ true → 0 < length (code_op_code f o)
