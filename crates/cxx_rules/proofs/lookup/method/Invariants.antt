use Rattle.std.proofs.Common.{◌≡◌, drop}
use Rattle.cxx_ast.specs.Lookup.{method_named}
use Rattle.cxx_rules.proofs.lookup.method.Given as goal

abbrev pub invariant-loop-i : goal.invariant-loop-i
invariant-loop-i l = method_named l.limit l.text l.class l.i (drop l.i l.functions) ≡ method_named l.limit l.text l.class l.first (drop l.first l.functions)
