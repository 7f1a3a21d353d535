use Rattle.cost_paths.proofs.Runs.{few_words_run}
use Rattle.cost_paths.proofs.laws.few_words_run.Goals as goal

pub returns : goal.returns
returns c = few_words_run
