use Rattle.unexpected_calls.proofs.Answer.{lists_answer}
use Rattle.unexpected_calls.proofs.laws.lists_answer.Goals as goal

pub returns : goal.returns
returns c = lists_answer
