use Rattle.std.proofs.Common.{◌≤◌, length, arith}
use Rattle.cxx_check.specs.ClassParts.{field_in}
use Rattle.cxx_rules.proofs.ListLaws.{each_ended}
use Rattle.cxx_check.proofs.class_head.data_members.Goals as goal

pub returns-clause-found : goal.returns-clause-found
returns-clause-found c =
    let over : length c.args.members.now ≤ c.loop-member.member-index = omega arith in
    each_ended c.args.env.now (field_in c.args.env.now c.args.class) _ _ _ _ over c.nothing-found.ensures c.loop-member.invariant.found
