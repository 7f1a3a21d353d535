use Rattle.unexpected_calls.proofs.Doomed.{allowed_is_doomed}
use Rattle.unexpected_calls.proofs.laws.allowed_is_doomed.Goals as goal

pub returns : goal.returns
returns c = allowed_is_doomed c.calls_are_made.ensures c.terminate_runs.ensures c.unexpected_checks.ensures c.unexpected_answers.ensures c.runs_keep_memory.ensures c.lists_answer.ensures c.stub_stacks_stand.ensures c.raises_agree.ensures
