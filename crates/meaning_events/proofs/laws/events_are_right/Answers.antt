use Rattle.meaning_events.proofs.EventLaws.{event_laws}
use Rattle.meaning_events.proofs.laws.events_are_right.Goals as goal

pub returns : goal.returns
returns c = event_laws
