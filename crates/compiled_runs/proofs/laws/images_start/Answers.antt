use Rattle.compiled_runs.proofs.Starting.{images_start}
use Rattle.compiled_runs.proofs.laws.images_start.Goals as goal

pub returns : goal.returns
returns c = images_start c.images_begin.ensures c.main_begins.ensures
