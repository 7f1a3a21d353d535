use Rattle.std.proofs.Common.{◌∙◌, sym, subst, not, true, false, Bool, refl, ◌≡◌}
use Rattle.cxx_rules.specs.Known.{HasNoMember}
use Rattle.cxx_rules.proofs.MemberNames.{no_member}
use Rattle.cxx_rules.proofs.environment.Environment.has_no_member.Goals as goal

not_so : (b : Bool) → not b ≡ true → b ≡ false
not_so true h = cc
not_so false h = refl

pub returns : goal.returns
returns c h =
    subst (λ e. HasNoMember c.args.text.now e.classes) c.self.view_is
    (no_member c.args.text.now c.self.inside.members c.self.inside.classes.items (sym c.contains.ensures ∙ not_so c.contains.result h) c.self.invariant)
