use Rattle.raise_ends.proofs.Rethrows.{rethrows_doom}
use Rattle.raise_ends.proofs.laws.rethrows_doom.Goals as goal

pub returns : goal.returns
returns c = rethrows_doom c.calls_are_turns.ensures c.calls_are_made.ensures c.terminate_runs.ensures c.raises_agree.ensures
