use Rattle.std.proofs.Common.{sym, subst}
use Rattle.cxx_rules.specs.Known.{HaveMembers}
use Rattle.cxx_rules.proofs.MemberNames.{members_taken}
use Rattle.cxx_rules.proofs.environment.Environment.remove_class.Goals as goal

pub invariant_of-self : goal.invariant_of-self
invariant_of-self c =
    subst (HaveMembers c.self.inside.members) (sym c.truncate.ensures.items) (members_taken c.self.inside.members _ c.self.inside.classes.items c.self.invariant)
