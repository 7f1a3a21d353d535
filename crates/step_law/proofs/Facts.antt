-- What is known of a checked program and of its image.
use Rattle.std.proofs.Common.{◌≡◌, refl, ap, arith}
use Rattle.std.specs.Prelude.{unwrap_or}
use Rattle.std.proofs.lemmas.List.{length-map}
use Rattle.cxx_ast.specs.Checked.{IsChecked}
use Rattle.cxx_ast.specs.Plain.{Checked}
use Rattle.elf_image.specs.Clean.{CleanImage}
use Rattle.elf_image.specs.Stands.{ImageStands}
use Rattle.image_forms.specs.Linked.{contents_for}
use Rattle.eh_run.specs.Program.{program_of, no_places}
use Rattle.region_forms.specs.Layout.{layout_of}
use Rattle.region_forms.specs.LowerProgram.{regions_of}
use Rattle.region_forms.specs.Numbering.{type_rows}
use Rattle.machine_forms.specs.Emitted.{listed_type}
use Rattle.linear_forms.specs.Stub.{terminating}
use Rattle.linear_premises.proofs.Programs.{checked_programs_fit}
use Rattle.address_bounds.proofs.Reaching.{code_reaches_inside}
use Rattle.checked_units.proofs.Frames.{classes_small, needs_are_small}
use Rattle.checked_units.proofs.Programs.{programs_are_known}
use Rattle.checked_units.proofs.TablesAsked.{checked_tables_are_asked}
use Rattle.kept_selectors.proofs.Programs.{programs_stop}
use Rattle.region_formed.proofs.Sources.{source_well_formed}
use Rattle.region_typed.proofs.Programs.{checked_typed}
use Rattle.source_bounds.specs.Compiled.{unit_for, emitted_for}
use Rattle.source_bounds.proofs.Types.{bad_exception_is_there}
use Rattle.machine_stubs.specs.Stretches.{stub_word}
use Rattle.image_tables.specs.Functions.{records_end}
use Rattle.raise_premises.specs.Premises.{CheckedPadsArePlain, CheckedFiltersAreInts, CheckedJumpsAreInts}
use Rattle.stack_bounds.specs.Taken.{CheckedFramesAreSmall}
use Rattle.address_invariant.specs.Laws.{UnitReaches}
use Rattle.step_law.specs.Facts.{needs_for, FactsStand}

-- the runtime's record in the image has the address of terminate's first word
named : (p : Checked) (i : CleanImage) → ImageStands (contents_for (emitted_for p)) i.image → (program_of i).image.places.terminate ≡ stub_word (records_end (unit_for p)) terminating 0
named p i h = ap (λ r. (unwrap_or r no_places).terminate) h.runtime

unit_reaches : (p : Checked) → IsChecked p → UnitReaches (unit_for p) (needs_for p)
unit_reaches p h = record {
  code = λ n g place o there at. code_reaches_inside p (layout_of p) (checked_typed p h) (classes_small p h) n g place o there at;
  small = λ n s. let few = needs_are_small p h n s in omega (arith, few);
}

pub facts_stand : CheckedPadsArePlain → CheckedFiltersAreInts → CheckedJumpsAreInts → CheckedFramesAreSmall → FactsStand
facts_stand pads filters jumps frames p i h image =
    let fits = checked_programs_fit p h in
    let there = bad_exception_is_there p h in (
      fits.0,
      record {
        known = programs_are_known p h;
        reach = unit_reaches p h;
        carrying = fits.1.0;
        fits = fits.1.1;
        stops = programs_stop (regions_of p (layout_of p)) (source_well_formed p h);
        image = image;
        lists = checked_tables_are_asked.lists (regions_of p (layout_of p));
        chains = λ t less. checked_tables_are_asked.chains p (layout_of p) t h less;
        bad = omega (arith, there, length-map (type_rows p) listed_type);
        tables_are = λ n less. refl;
        frames = λ q same. frames p h q same;
        pads = λ q same. pads p h q same;
        filters = λ q same. filters p h q same;
        jumps = λ q same. jumps p h q same;
        named = named p i image.stands.image;
      },
    )
