use Rattle.raise_ends.proofs.Throws.{dooms_abort}
use Rattle.raise_ends.proofs.laws.dooms_abort.Goals as goal

pub returns : goal.returns
returns c = dooms_abort c.calls_are_turns.ensures c.calls_are_made.ensures c.terminate_runs.ensures c.raises_agree.ensures
