use Rattle.step_law.proofs.Modules.{modules_follow}
use Rattle.step_law.proofs.laws.modules_follow.Goals as goal

pub returns : goal.returns
returns c =
    modules_follow c.answers_run.ensures c.modules_land.ensures c.modules_doom.ensures c.modules_are_refused_when_full.ensures c.modules_overflow.ensures c.stacks_hold_calls.ensures
