use Rattle.std.proofs.Common.{ap, ◌∙◌, is_some}
use Rattle.cxx_rules.proofs.TextLaws.{has_position}
use Rattle.cxx_rules.proofs.texts.Texts.contains.Goals as goal

pub returns : goal.returns
returns c = c.is_some.ensures ∙ ap is_some c.position.ensures ∙ has_position c.args.text.now c.args.self.now
