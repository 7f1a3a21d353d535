use Rattle.compiled_runs.proofs.Starting.{images_are_compiled}
use Rattle.compiled_runs.proofs.laws.images_are_compiled.Goals as goal

pub returns : goal.returns
returns c = images_are_compiled c.followed_images_are_compiled.ensures c.images_start.ensures
