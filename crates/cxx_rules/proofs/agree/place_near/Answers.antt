use Rattle.std.proofs.Common.{ap, ◌∙◌, is_some}
use Rattle.cxx_rules.specs.KindOf.{kind_of}
use Rattle.cxx_rules.proofs.AgreeLaws.{has_place}
use Rattle.cxx_rules.proofs.agree.place_near.Goals as goal

pub returns : goal.returns
returns c = ap is_some c.place_in.ensures ∙ has_place kind_of (kind_of c.args.kind) c.args.kinds.now
