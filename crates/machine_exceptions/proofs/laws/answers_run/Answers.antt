use Rattle.machine_exceptions.proofs.Answers.{answers_run}
use Rattle.machine_exceptions.proofs.laws.answers_run.Goals as goal

pub returns : goal.returns
returns c = answers_run c.places_are_written.ensures c.calls_are_turns.ensures c.calls_are_made.ensures
