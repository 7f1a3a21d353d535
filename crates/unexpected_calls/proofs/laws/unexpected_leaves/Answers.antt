use Rattle.unexpected_calls.proofs.Leaving.{unexpected_leaves}
use Rattle.unexpected_calls.proofs.laws.unexpected_leaves.Goals as goal

pub returns : goal.returns
returns c = unexpected_leaves c.unexpected_checks.ensures c.unexpected_ends.ensures
