use Rattle.meaning_events.proofs.Counted.{fronts_are_allowed}
use Rattle.meaning_events.proofs.laws.fronts_are_allowed.Goals as goal

pub returns : goal.returns
returns c = fronts_are_allowed
