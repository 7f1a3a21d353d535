use Rattle.unexpected_calls.proofs.ListKept.{lists_are_kept}
use Rattle.unexpected_calls.proofs.laws.lists_are_kept.Goals as goal

pub returns : goal.returns
returns c = lists_are_kept
