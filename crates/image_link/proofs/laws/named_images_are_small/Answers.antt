use Rattle.image_link.proofs.NamedSizes.{named_images_are_small}
use Rattle.image_link.proofs.laws.named_images_are_small.Goals as goal

pub returns : goal.returns
returns c = named_images_are_small
