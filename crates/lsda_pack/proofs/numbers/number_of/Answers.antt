use Rattle.std.proofs.Common.{◌+◌, sym, ap, ◌∙◌, w64, to_z, of_z, to_z-of_z}
use Rattle.std.specs.BTreeMap.{get}
use Rattle.lsda_pack.specs.EndNumbers.{end_cmp}
use Rattle.lsda_pack.proofs.EndNumbers.{numbers_more, one_more}
use Rattle.lsda_pack.proofs.numbers.number_of.Goals as goal

pub returns-in-Some-clause-number : goal.returns-in-Some-clause-number
returns-in-Some-clause-number c = ap (λ z. get end_cmp c.args.known.now (z, c.args.behind)) (sym (to_z-of_z c.ranges.filter)) ∙ sym c.in-Some.ensures.value

pub returns-clause-numbers : goal.returns-clause-numbers
returns-clause-numbers c =
    let now = c.in_ok-insert.ensures in
    numbers_more c.args.known.now c.insert.new.self (to_z w64 (of_z w64 c.args.filter), c.args.behind) (c.len.result + 1) c.in_ok-insert.field-0 (sym c.in_default.ensures.value) (ap (λ n. n + 1) c.len.ensures.len)
    now.updates.0 now.old now.len c.requires

pub returns-clause-keeps : goal.returns-clause-keeps
returns-clause-keeps c =
    one_more (get end_cmp c.args.known.now) (get end_cmp c.insert.new.self) (to_z w64 (of_z w64 c.args.filter), c.args.behind) (c.len.result + 1) (sym c.in_default.ensures.value)
    c.in_ok-insert.ensures.updates.0

pub returns-clause-number : goal.returns-clause-number
returns-clause-number c = ap (λ z. get end_cmp c.insert.new.self (z, c.args.behind)) (sym (to_z-of_z c.ranges.filter)) ∙ c.in_ok-insert.ensures.updates.1
