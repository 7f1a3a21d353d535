use Rattle.std.proofs.Common.{◌≡◌, drop}
use Rattle.cxx_ast.specs.Broken.{same_parameters}
use Rattle.cxx_rules.proofs.agree.same_parameters.Given as goal

abbrev pub invariant-loop-i : goal.invariant-loop-i
invariant-loop-i l = same_parameters (drop l.i l.ps) (drop l.i l.qs) ≡ same_parameters l.ps l.qs
