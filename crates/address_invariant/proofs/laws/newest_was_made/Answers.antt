use Rattle.address_invariant.proofs.Newest.{newest_was_made}
use Rattle.address_invariant.proofs.laws.newest_was_made.Goals as goal

pub returns : goal.returns
returns c = newest_was_made
