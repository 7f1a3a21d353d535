use Rattle.std.proofs.Common.{ap, sym, ◌∙◌}
use Rattle.std.specs.Prelude.{flat_map, option_map}
use Rattle.table_forms.specs.Fault.{least, joined}
use Rattle.table_forms.specs.Seen.{fault_of}
use Rattle.lsda_pack.specs.Reaches.{with_taken}
use Rattle.lsda_pack.proofs.LeastOf.{empty, no_more}
use Rattle.lsda_pack.proofs.shared.with_tables.Goals as goal

pub returns : goal.returns
returns c =
    let none_left = empty c.tables.rest.now c.in_default.ensures.cases in
    sym (c.tables.invariant ∙ ap (λ xs. joined (option_map fault_of c.tables.first) (least (flat_map (λ u. with_taken c.args.t.now u.memory) xs))) none_left ∙ no_more (option_map fault_of c.tables.first))
