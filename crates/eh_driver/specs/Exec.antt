-- What holds of the runs of any image.
use Rattle.std.specs.Prelude.{◌≡◌, ◌+◌, ℕ, List}
use Rattle.eh_outer.specs.Module.{ModuleView}
use Rattle.cxa_runtime.specs.Laws.{cleaned_of, live_of, raised_of}
use Rattle.cxa_runtime.specs.Run.{Ran}
use Rattle.eh_run.specs.Laws.{GoesOn}
use Rattle.eh_run.specs.Program.{Program}
use Rattle.eh_run.specs.Runs.{IsRun}

-- Of each module and token, the foreign exceptions that a run has raised are those that were cleaned and those that are live at its end. With the same
-- choices of slots, a run of more steps begins as this run, and is the same where this has ended.
pub record RunsOn (program : Program) (input : List ℕ) (modules : List ModuleView) (n : ℕ) (r : Ran) : Type 0 where
  pub cleaned : (k token : ℕ) → live_of k token r.world.exceptions.live + cleaned_of k token r.items ≡ raised_of k token r.items
  pub further : (m : ℕ) → (long : Ran) × IsRun program input modules (n + m) long × GoesOn r long
