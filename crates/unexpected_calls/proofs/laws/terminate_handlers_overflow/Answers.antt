use Rattle.unexpected_calls.proofs.TerminateOverflow.{terminate_handlers_overflow}
use Rattle.unexpected_calls.proofs.laws.terminate_handlers_overflow.Goals as goal

pub returns : goal.returns
returns c =
    terminate_handlers_overflow c.calls_are_made.ensures c.terminate_runs.ensures c.unexpected_begins.ensures c.unexpected_checks.ensures c.unexpected_answers.ensures c.runs_keep_memory.ensures c.lists_answer.ensures c.stub_stacks_stand.ensures
    c.raises_agree.ensures c.functions_overflow.ensures
