use Rattle.std.proofs.Common.{List, ℕ, drop}
use Rattle.cxx_rules.specs.Positions.{AreAmong, AreWith}
use Rattle.cxx_rules.specs.NamesOf.{field_texts}
use Rattle.cxx_rules.proofs.environment.add_fields.Given as goal

abbrev pub invariant-loop-field : goal.invariant-loop-field
invariant-loop-field l = record {
  kept : AreAmong l.initial.members l.members;
  added : (new : List (List ℕ)) → AreWith l.members (field_texts (drop l.field-index l.fields)) new → AreWith l.initial.members (field_texts l.fields) new;
}
