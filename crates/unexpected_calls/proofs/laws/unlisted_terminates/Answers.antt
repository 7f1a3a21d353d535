use Rattle.unexpected_calls.proofs.Unlisted.{unlisted_terminates}
use Rattle.unexpected_calls.proofs.laws.unlisted_terminates.Goals as goal

pub returns : goal.returns
returns c = unlisted_terminates c.calls_are_made.ensures c.terminate_runs.ensures c.unexpected_checks.ensures c.unexpected_answers.ensures c.runs_keep_memory.ensures c.lists_answer.ensures
