use Rattle.linear_meaning.proofs.Runs.{checked_programs_run_as_meant}
use Rattle.linear_meaning.proofs.laws.checked_programs_run_as_meant.Goals as goal

pub returns : goal.returns
returns c = record { run = checked_programs_run_as_meant c.caught_list_follows.ensures c.checked_programs_run.ensures.run }
