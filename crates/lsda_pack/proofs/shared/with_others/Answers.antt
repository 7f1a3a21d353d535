use Rattle.std.proofs.Common.{ap, sym, ◌∙◌}
use Rattle.std.specs.Prelude.{flat_map, option_map}
use Rattle.table_forms.specs.Fault.{least, joined}
use Rattle.table_forms.specs.Seen.{fault_of}
use Rattle.lsda_pack.specs.Reaches.{with_taken}
use Rattle.lsda_pack.proofs.LeastOf.{empty, no_more}
use Rattle.lsda_pack.proofs.shared.with_others.Goals as goal

pub returns : goal.returns
returns c =
    let none_left = empty c.others.rest.now c.in_default.ensures.cases in
    sym (c.others.invariant ∙ ap (λ xs. joined (option_map fault_of c.others.first) (least (flat_map (with_taken c.args.t.now) xs))) none_left ∙ no_more (option_map fault_of c.others.first))
