use Rattle.std.proofs.Common.{◌≡◌, drop}
use Rattle.cxx_lexer.specs.Close.{close_from}
use Rattle.cxx_lexer.proofs.runs.close_at.Given as goal

abbrev pub invariant-loop-at : goal.invariant-loop-at
invariant-loop-at l = close_from l.at (drop l.at l.text) ≡ close_from 0 l.text
