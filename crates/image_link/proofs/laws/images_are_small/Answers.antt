use Rattle.image_link.proofs.Images.{images_are_small}
use Rattle.image_link.proofs.laws.images_are_small.Goals as goal

pub returns : goal.returns
returns c = images_are_small
