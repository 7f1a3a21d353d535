use Rattle.meaning_events.proofs.SettlingCalls.{calls_settle}
use Rattle.meaning_events.proofs.laws.all_calls_settle.Goals as goal

pub returns : goal.returns
returns c = calls_settle
