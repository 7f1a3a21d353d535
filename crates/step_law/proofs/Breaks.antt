-- A step that comes to what is not defined, or to a fault, in a whole run.
use Rattle.std.proofs.Common.{inr}
use Rattle.eh_run.specs.Program.{program_of}
use Rattle.whole_runs.proofs.Single.{breaks_one}
use Rattle.step_law.specs.Facts.{code_for}
use Rattle.step_law.specs.Breaks.{BreaksFollow}

pub breaks_follow : BreaksFollow
breaks_follow x before st w e v h no_end = inr (inr (inr (breaks_one (program_of x.image).image x.pick (code_for x.program) st w e v h no_end)))
