use Rattle.std.proofs.Common.{◌∙◌, sym}
use Rattle.cxx_rules.specs.KindOf.{kind_of}
use Rattle.cxx_rules.proofs.AgreeLaws.{has_at}
use Rattle.cxx_rules.proofs.agree.is_at.Goals as goal

pub returns-in-Some : goal.returns-in-Some
returns-in-Some c h =
    has_at kind_of (kind_of c.args.kind) c.args.kinds.now c.args.place _ c.in-Some.k.now c.in-Some.ensures.lookup.0 c.in-Some.ensures.lookup.1 (sym c.is.ensures ∙ h)
