use Rattle.std.proofs.Common.{◌≡◌, drop}
use Rattle.cxx_ast.specs.ClassRules.{clashes}
use Rattle.cxx_check.proofs.own.clashes.Given as goal

abbrev pub invariant-loop-t : goal.invariant-loop-t
invariant-loop-t l = clashes l.class l.text (drop l.t-index l.before) l.s ≡ clashes l.class l.text l.before l.s
