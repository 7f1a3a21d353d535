-- The regions of a checked program mean what the program means.
use Rattle.std.proofs.Common.{refl}
use Rattle.cxx_ast.specs.Checked.{checked}
use Rattle.region_forms.specs.Laws.{CaughtListFollows}
use Rattle.region_forms.specs.Layout.{layout_of}
use Rattle.region_forms.specs.LowerProgram.{regions_of}
use Rattle.region_statements.proofs.Whole.{regions_mean_the_same}
use Rattle.region_typed.proofs.Programs.{checked_typed}
use Rattle.region_meaning.specs.Sources.{CheckedProgramsMeanTheSame, CheckedSourcesMeanTheSame}
use Rattle.region_meaning.proofs.Forms.{forms_are_same}
use Rattle.region_meaning.proofs.Lowered.{programs_are_lowered}
use Rattle.region_meaning.proofs.Ordered.{checked_programs_are_ordered}

pub checked_programs_mean_the_same : CaughtListFollows → CheckedProgramsMeanTheSame
checked_programs_mean_the_same laws p is_checked input replies turns limit =
    let layout = layout_of p in
    let q = regions_of p layout in
    let typed = checked_typed p is_checked in
    regions_mean_the_same p layout q input replies turns limit typed (programs_are_lowered p layout (typed.plain p.main typed.main_there))
    (forms_are_same laws p layout q limit (checked_programs_are_ordered p is_checked) refl)

pub checked_sources_mean_the_same : CaughtListFollows → CheckedSourcesMeanTheSame
checked_sources_mean_the_same laws source tokens std p lexed tree valid =
    checked_programs_mean_the_same laws (checked std p)
    (record { std = std; source = source; tokens = tokens; program = p; lexed = lexed; tree = tree; valid = valid; resolved = refl })
