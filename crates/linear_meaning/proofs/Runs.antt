-- The linear code of a source runs as its regions, watched, mean, and these mean what the source means.
use Rattle.std.proofs.Common.{refl, subst}
use Rattle.cxx_ast.specs.Checked.{checked}
use Rattle.region_forms.specs.Laws.{CaughtListFollows}
use Rattle.region_forms.specs.Layout.{layout_of}
use Rattle.region_forms.specs.LowerProgram.{regions_of}
use Rattle.linear_simulation.specs.FunctionsRun.{program_cost}
use Rattle.linear_simulation.specs.ProgramRuns.{RunShows}
use Rattle.linear_meaning.specs.WatchedRuns.{CheckedProgramsRun}
use Rattle.linear_meaning.proofs.Regions.{watched_means}
use Rattle.linear_meaning.specs.Runs.{CheckedProgramsRunAsMeant, ValidSourcesRunAsMeant}

pub checked_programs_run_as_meant : CaughtListFollows → CheckedProgramsRun → CheckedProgramsRunAsMeant
checked_programs_run_as_meant laws runs p is_checked input replies turns limit defined =
    let r = regions_of p (layout_of p) in
    subst (λ x. RunShows r x turns (program_cost r) input replies) (watched_means laws p is_checked input replies turns limit defined)
    ((runs p is_checked).watched limit input replies turns)

pub valid_sources_run_as_meant : CaughtListFollows → CheckedProgramsRun → ValidSourcesRunAsMeant
valid_sources_run_as_meant laws runs source tokens std p lexed tree valid =
    checked_programs_run_as_meant laws runs (checked std p)
    (record { std = std; source = source; tokens = tokens; program = p; lexed = lexed; tree = tree; valid = valid; resolved = refl })
