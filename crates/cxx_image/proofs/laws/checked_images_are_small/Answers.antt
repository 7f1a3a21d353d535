use Rattle.cxx_image.proofs.Names.{checked_images_are_small}
use Rattle.cxx_image.proofs.laws.checked_images_are_small.Goals as goal

pub returns : goal.returns
returns c = checked_images_are_small c.named_images_are_small.ensures c.checked_is_linkable.ensures
