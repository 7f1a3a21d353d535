use Rattle.step_law.proofs.Complete.{checked_images_have_enough}
use Rattle.step_law.proofs.laws.checked_images_have_enough.Goals as goal

pub returns : goal.returns
returns c = checked_images_have_enough c.checked_images_go_on.ensures c.images_have_enough.ensures
