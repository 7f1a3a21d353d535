use Rattle.own_ends.proofs.Resuming.{catch_frees_on_the_way}
use Rattle.own_ends.proofs.laws.catch_frees_on_the_way.Goals as goal

pub returns : goal.returns
returns c = catch_frees_on_the_way c.end_catch_runs.ensures c.calls_are_made.ensures c.runs_keep_memory.ensures c.own_resumes_land.ensures c.own_forced_lands.ensures
