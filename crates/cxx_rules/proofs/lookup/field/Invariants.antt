use Rattle.std.proofs.Common.{◌≡◌, drop}
use Rattle.cxx_ast.specs.Lookup.{field_named}
use Rattle.cxx_rules.proofs.lookup.field.Given as goal

abbrev pub invariant-loop-i : goal.invariant-loop-i
invariant-loop-i l = field_named l.limit l.text l.class l.i (drop l.i l.fields) ≡ field_named l.limit l.text l.class l.first (drop l.first l.fields)
