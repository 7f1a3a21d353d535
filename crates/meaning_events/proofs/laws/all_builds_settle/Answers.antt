use Rattle.meaning_events.proofs.EventLaws.{all_builds_settle}
use Rattle.meaning_events.proofs.laws.all_builds_settle.Goals as goal

pub returns : goal.returns
returns c = all_builds_settle
