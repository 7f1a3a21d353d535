use Rattle.meaning_events.proofs.Counted.{allowed_are_counted}
use Rattle.meaning_events.proofs.laws.allowed_events_are_counted.Goals as goal

pub returns : goal.returns
returns c = allowed_are_counted
