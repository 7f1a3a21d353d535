use Rattle.std.proofs.Common.{◌≡◌, drop}
use Rattle.cxx_ast.specs.Construct.{declares_constructor}
use Rattle.cxx_rules.proofs.construct.declares_constructor.Given as goal

abbrev pub invariant-loop-f : goal.invariant-loop-f
invariant-loop-f l = declares_constructor l.text (drop l.f-index l.functions) ≡ declares_constructor l.text l.functions
