use Rattle.machine_raises.proofs.Resuming.{resumes_run}
use Rattle.machine_raises.proofs.laws.resumes_run.Goals as goal

pub returns : goal.returns
returns c = resumes_run c.calls_are_turns.ensures c.calls_are_made.ensures c.resumes_agree.ensures
