use Rattle.std.proofs.Common.{ap, sym, ◌∙◌}
use Rattle.std.specs.Prelude.{option_map}
use Rattle.table_forms.specs.Fault.{least, joined}
use Rattle.table_forms.specs.Seen.{fault_of}
use Rattle.lsda_pack.specs.Reaches.{file_taken}
use Rattle.lsda_pack.proofs.LeastOf.{empty, no_more}
use Rattle.lsda_pack.proofs.file_shared.pairs_refusal.Goals as goal

pub returns : goal.returns
returns c =
    let none_left = empty c.parts.rest.now c.in_default.ensures.cases in
    sym (c.parts.invariant ∙ ap (λ xs. joined (option_map fault_of c.parts.first) (least (file_taken c.parts.before.items xs))) none_left ∙ no_more (option_map fault_of c.parts.first))
