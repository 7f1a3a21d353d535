use Rattle.machine_pieces.proofs.Fetching.{words_are_fetched}
use Rattle.machine_pieces.proofs.laws.words_are_fetched.Goals as goal

pub returns : goal.returns
returns c = words_are_fetched
