use Rattle.machine_stubs.proofs.UnexpectedAnswers.{unexpected_answers}
use Rattle.machine_stubs.proofs.laws.unexpected_answers.Goals as goal

pub returns : goal.returns
returns c = unexpected_answers
