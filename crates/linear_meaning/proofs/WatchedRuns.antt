-- The regions of a checked program of a source are well-formed, and what catches in them has a clause; so their linear code runs.
use Rattle.std.proofs.Common.{◌≡◌, true, refl}
use Rattle.cxx_ast.specs.Checked.{checked}
use Rattle.region_forms.specs.Form.{Regions}
use Rattle.region_forms.specs.Layout.{layout_of}
use Rattle.region_forms.specs.LowerProgram.{regions_of}
use Rattle.region_forms.specs.WellFormed.{is_well_formed}
use Rattle.linear_simulation.specs.FunctionsRun.{catches_have_clauses}
use Rattle.linear_simulation.proofs.Programs.{programs_run}
use Rattle.region_formed.proofs.Sources.{source_well_formed}
use Rattle.linear_meaning.specs.WatchedRuns.{RunAtCost, CheckedProgramsRun, ValidSourcesRun}
use Rattle.linear_meaning.proofs.Handled.{checked_clauses}

regions_run : (r : Regions) → is_well_formed r ≡ true → catches_have_clauses r ≡ true → RunAtCost r
regions_run r h k = record {
  watched = λ limit input replies turns. programs_run.watched r limit h k input replies turns;
  meant = λ limit input replies turns shallow. programs_run.meant r limit h k input replies turns shallow;
}

pub checked_runs : CheckedProgramsRun
checked_runs p c = regions_run (regions_of p (layout_of p)) (source_well_formed p c) (checked_clauses p (layout_of p) c)

pub sources_run : ValidSourcesRun
sources_run source tokens std p lexed tree valid =
    checked_runs (checked std p)
    (record { std = std; source = source; tokens = tokens; program = p; lexed = lexed; tree = tree; valid = valid; resolved = refl })
