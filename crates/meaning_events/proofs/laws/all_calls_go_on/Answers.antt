use Rattle.meaning_events.proofs.GoingCalls.{calls_go_on}
use Rattle.meaning_events.proofs.laws.all_calls_go_on.Goals as goal

pub returns : goal.returns
returns c = calls_go_on
