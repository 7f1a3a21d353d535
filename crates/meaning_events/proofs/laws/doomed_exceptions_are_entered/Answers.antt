use Rattle.meaning_events.proofs.Terminating.{doomed_exceptions_are_entered}
use Rattle.meaning_events.proofs.laws.doomed_exceptions_are_entered.Goals as goal

pub returns : goal.returns
returns c = doomed_exceptions_are_entered
