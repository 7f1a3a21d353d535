use Rattle.compiled_runs.proofs.Enough.{sufficient_images_have_enough}
use Rattle.compiled_runs.proofs.laws.sufficient_images_have_enough.Goals as goal

pub returns : goal.returns
returns c = sufficient_images_have_enough c.checked_programs_run_as_meant.ensures.run c.shallow_meanings.ensures c.checked_runs_spend_little.ensures c.all_are_counted.ensures
