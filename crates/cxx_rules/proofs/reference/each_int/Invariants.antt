use Rattle.std.proofs.Common.{◌≡◌, drop}
use Rattle.cxx_rules.specs.Given.{ints_behind}
use Rattle.cxx_rules.proofs.reference.each_int.Given as goal

abbrev pub invariant-loop-one : goal.invariant-loop-one
invariant-loop-one l = ints_behind l.env l.found (drop l.one-index l.given) ≡ ints_behind l.env l.initial.found l.given
