use Rattle.std.proofs.Common.{◌≡◌, drop}
use Rattle.cxx_rules.specs.Parts.{texts_now, left_behind}
use Rattle.cxx_rules.proofs.initialiser.left_fields.Given as goal

abbrev pub invariant-loop-f : goal.invariant-loop-f
invariant-loop-f l =
    left_behind l.env l.place (texts_now l.names) l.found (drop l.f-index l.fields) ≡ left_behind l.env l.place (texts_now l.names) l.initial.found l.fields
