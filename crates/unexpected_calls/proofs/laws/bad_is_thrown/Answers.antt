use Rattle.unexpected_calls.proofs.Bad.{bad_is_thrown}
use Rattle.unexpected_calls.proofs.laws.bad_is_thrown.Goals as goal

pub returns : goal.returns
returns c = bad_is_thrown c.calls_are_made.ensures c.unexpected_checks.ensures c.unexpected_answers.ensures c.runs_keep_memory.ensures c.lists_answer.ensures c.own_throws_land.ensures
