use Rattle.std.proofs.Common.{◌∙◌, ap}
use Rattle.meaning_forms.specs.Part.{part_type}
use Rattle.scope_world.proofs.world.World.type_of.Goals as goal

pub returns-in-Some : goal.returns-in-Some
returns-in-Some g c = λ d. c.ty.ensures ∙ ap part_type (c.in-Some.ensures d)

pub returns-in-None : goal.returns-in-None
returns-in-None g c = λ d. ap part_type (c.in-None.ensures d)
