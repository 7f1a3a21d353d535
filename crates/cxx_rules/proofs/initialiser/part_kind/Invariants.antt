use Rattle.std.proofs.Common.{◌≡◌, drop}
use Rattle.cxx_ast.specs.FunctionRules.{part_kind}
use Rattle.cxx_rules.proofs.initialiser.part_kind.Given as goal

abbrev pub invariant-loop-f : goal.invariant-loop-f
invariant-loop-f l = part_kind l.text (drop l.f-index l.fields) ≡ part_kind l.text l.fields
