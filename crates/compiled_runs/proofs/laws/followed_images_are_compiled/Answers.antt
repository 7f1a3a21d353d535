use Rattle.compiled_runs.proofs.Meaning.{followed_images_are_compiled}
use Rattle.compiled_runs.proofs.laws.followed_images_are_compiled.Goals as goal

pub returns : goal.returns
returns c = followed_images_are_compiled c.checked_programs_run_as_meant.ensures.run c.shallow_meanings.ensures
