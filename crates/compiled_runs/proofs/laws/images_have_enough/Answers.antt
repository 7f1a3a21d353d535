use Rattle.compiled_runs.proofs.Starting.{images_have_enough}
use Rattle.compiled_runs.proofs.laws.images_have_enough.Goals as goal

pub returns : goal.returns
returns c = images_have_enough c.sufficient_images_have_enough.ensures c.followed_images_are_compiled.ensures c.images_start.ensures
