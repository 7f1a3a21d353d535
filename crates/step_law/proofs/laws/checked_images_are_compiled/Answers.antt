use Rattle.step_law.proofs.Complete.{checked_images_are_compiled}
use Rattle.step_law.proofs.laws.checked_images_are_compiled.Goals as goal

pub returns : goal.returns
returns c = checked_images_are_compiled c.checked_images_go_on.ensures c.images_are_compiled.ensures
