use Rattle.step_law.proofs.Answers.{answers_follow}
use Rattle.step_law.proofs.laws.answers_follow.Goals as goal

pub returns : goal.returns
returns c = answers_follow c.answers_run.ensures
