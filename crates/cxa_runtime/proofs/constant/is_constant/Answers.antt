use Rattle.std.proofs.Common.{◌≡◌, ◌∙◌, sym, ap, not, true, List}
use Rattle.std.specs.List.{list_all}
use Rattle.std.proofs.lemmas.List.Folds.{list_all-map}
use Rattle.eh_bytes.specs.declared.segment.Segment.{Segment}
use Rattle.rv64_isa.specs.State.{Part}
use Rattle.rv64_machine.specs.Parts.{part_of}
use Rattle.cxa_runtime.specs.Constant.{is_constant}
use Rattle.cxa_runtime.proofs.Unwritten.{constant_lasts}
use Rattle.cxa_runtime.proofs.constant.is_constant.Goals as goal

pub returns-clause-constant : goal.returns-clause-constant
returns-clause-constant c =
    let parts = c.tables.result.now.parts.items in
    c.all_are_constant.ensures
    ∙ ap (λ (ps : List Segment). list_all (λ part. not part.write) ps) c.as_slice.ensures.value
    ∙ sym (list_all-map (λ (part : Part). not part.write) part_of parts)
    ∙ sym (ap (λ (ps : List Part). list_all (λ part. not part.write) ps) c.tables.ensures)

pub returns-clause-lasts : goal.returns-clause-lasts
returns-clause-lasts c = λ yes.
    let parts = c.tables.result.now.parts.items in
    let is : is_constant c.args.machine.now ≡ true =
    ap (λ (ps : List Part). list_all (λ part. not part.write) ps) c.tables.ensures
    ∙ list_all-map (λ (part : Part). not part.write) part_of parts
    ∙ sym (ap (λ (ps : List Segment). list_all (λ part. not part.write) ps) c.as_slice.ensures.value)
    ∙ sym c.all_are_constant.ensures ∙ yes in
    constant_lasts c.args.machine.now is
