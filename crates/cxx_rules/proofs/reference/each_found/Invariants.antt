use Rattle.std.proofs.Common.{◌≡◌, drop}
use Rattle.cxx_rules.specs.Given.{all_behind}
use Rattle.cxx_rules.proofs.reference.each_found.Given as goal

abbrev pub invariant-loop-one : goal.invariant-loop-one
invariant-loop-one l = all_behind l.found (drop l.one-index l.given) ≡ all_behind l.initial.found l.given
