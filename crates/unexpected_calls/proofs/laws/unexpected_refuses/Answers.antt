use Rattle.unexpected_calls.proofs.Refused.{unexpected_refuses}
use Rattle.unexpected_calls.proofs.laws.unexpected_refuses.Goals as goal

pub returns : goal.returns
returns c = unexpected_refuses c.calls_are_made.ensures c.terminate_runs.ensures c.unexpected_checks.ensures c.unexpected_answers.ensures c.runs_keep_memory.ensures c.lists_answer.ensures
