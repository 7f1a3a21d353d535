use Rattle.cost_words.proofs.Spends.{checked_runs_spend_little}
use Rattle.cost_words.proofs.laws.checked_runs_spend_little.Goals as goal

pub returns : goal.returns
returns c = checked_runs_spend_little
