use Rattle.std.proofs.Common.{◌≡◌, drop}
use Rattle.cxx_rules.specs.Given.{arguments_behind}
use Rattle.cxx_rules.proofs.reference.each_argument.Given as goal

abbrev pub invariant-loop-i : goal.invariant-loop-i
invariant-loop-i l =
    arguments_behind l.env l.found (drop l.i l.parameters) (drop l.i l.given) ≡ arguments_behind l.env l.initial.found l.parameters l.given
