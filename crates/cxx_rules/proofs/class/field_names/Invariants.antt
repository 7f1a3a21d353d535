use Rattle.std.proofs.Common.{◌≡◌, ◌++◌, drop}
use Rattle.cxx_rules.specs.NamesOf.{field_texts}
use Rattle.cxx_rules.proofs.class.field_names.Given as goal

abbrev pub invariant-loop-f : goal.invariant-loop-f
invariant-loop-f l = (l.names ++ field_texts (drop l.f-index l.fields)) ≡ field_texts l.fields
