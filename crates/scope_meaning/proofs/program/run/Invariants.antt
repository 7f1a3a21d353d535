use Rattle.std.proofs.Common.{map}
use Rattle.scope_meaning.proofs.program.run.Given as goal

-- the run begins with the modules that are handed in
abbrev pub ghosts-run_from : goal.ghosts-run_from
ghosts-run_from g a = record { views = map g.M.Module.view a.modules.items }
