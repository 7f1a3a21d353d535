use Rattle.std.proofs.Common.{sym, subst}
use Rattle.cxx_rules.specs.Known.{HaveMembers}
use Rattle.cxx_rules.proofs.MemberNames.{members_kept, members_push}
use Rattle.cxx_rules.proofs.environment.Environment.add_class.Goals as goal

pub invariant_of-self : goal.invariant_of-self
invariant_of-self c = members_kept c.self.inside.members c.add_members.new.members c.self.inside.classes.items c.add_members.ensures.kept c.self.invariant

pub invariant_of-self-in_err-push : goal.invariant_of-self-in_err-push
invariant_of-self-in_err-push c =
    let members = c.add_members.new.members in
    subst (HaveMembers members) (sym c.in_err-push.ensures.items)
    (members_kept c.self.inside.members members c.self.inside.classes.items c.add_members.ensures.kept c.self.invariant)

pub invariant_of-self-2 : goal.invariant_of-self-2
invariant_of-self-2 c =
    let members = c.add_members.new.members in
    let cs = c.self.inside.classes.items in
    subst (HaveMembers members) (sym c.in_ok-push.ensures.items)
    (members_push members cs c.args.entry (members_kept c.self.inside.members members cs c.add_members.ensures.kept c.self.invariant) c.in_ok-add_members.ensures.added)
