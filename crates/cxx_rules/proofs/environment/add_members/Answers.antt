use Rattle.std.proofs.Common.{subst}
use Rattle.std.proofs.lemmas.Result.{on_ok_weaker}
use Rattle.cxx_rules.specs.Positions.{AreAmong}
use Rattle.cxx_rules.specs.NamesOf.{field_texts, function_texts}
use Rattle.cxx_rules.proofs.MemberNames.{with_both}
use Rattle.cxx_rules.proofs.environment.add_members.Goals as goal

pub returns-clause-kept : goal.returns-clause-kept
returns-clause-kept c q h = c.add_functions.ensures.kept q (c.add_fields.ensures.kept q h)

pub returns-clause-added : goal.returns-clause-added
returns-clause-added c =
    let class = c.args.class.now in
    let mid = c.add_fields.new.members in
    let new = c.add_functions.new.members in
    let fields = subst (λ fs. AreAmong (field_texts fs) mid) c.fields.ensures c.in_ok-add_fields.ensures.added in
    on_ok_weaker c.add_functions.result
    (λ added. (with_both c.args.members.now mid new (field_texts class.fields) (function_texts class.functions) (c.add_fields.ensures.kept, fields)
    (c.add_functions.ensures.kept, subst (λ fs. AreAmong (function_texts fs) new) c.functions.ensures added)).1) c.add_functions.ensures.added
