-- What never changes in the runs of a checked program's image.
use Rattle.std.specs.Prelude.{◌≡◌, ◌<◌, ℕ, length}
use Rattle.cxx_ast.specs.Checked.{IsChecked}
use Rattle.cxx_ast.specs.Plain.{Checked}
use Rattle.elf_image.specs.Clean.{CleanImage}
use Rattle.eh_run.specs.Program.{program_of}
use Rattle.region_forms.specs.Ending.{bad_row}
use Rattle.region_forms.specs.Form.{Regions}
use Rattle.region_forms.specs.Layout.{layout_of}
use Rattle.region_forms.specs.LowerProgram.{regions_of}
use Rattle.linear_forms.specs.Activation.{Code}
use Rattle.linear_forms.specs.Stub.{terminating}
use Rattle.linear_forms.specs.UnitRun.{code_of}
use Rattle.flight_homes.specs.Keeps.{Carrying}
use Rattle.flight_homes.specs.Laws.{AreCarrying}
use Rattle.flight_homes.specs.Lives.{known_in}
use Rattle.kept_selectors.specs.Stopping.{CodeStops}
use Rattle.linear_invariant.specs.Code.{CodeFits}
use Rattle.address_bounds.specs.Givens.{needs_of}
use Rattle.address_bounds.specs.Reaches.{Needs}
use Rattle.source_bounds.specs.Compiled.{unit_for}
use Rattle.machine_stubs.specs.Stretches.{stub_word}
use Rattle.machine_simulation.specs.Plan.{Plan}
use Rattle.table_verdicts.specs.Asked.{ListsNameTypes}
use Rattle.table_verdicts.specs.Types.{ChainEnds}
use Rattle.image_tables.specs.Functions.{records_end}
use Rattle.image_tables.specs.Read.{IsImageOf}
use Rattle.machine_raises.specs.Pads.{PadsArePlain, FiltersAreInts}
use Rattle.machine_raises.specs.Stacks.{table_of}
use Rattle.stack_bounds.specs.Taken.{FramesAreSmall}
use Rattle.raise_premises.specs.Premises.{JumpsAreInts}
use Rattle.address_invariant.specs.Laws.{UnitReaches}
use Rattle.operation_premises.specs.Known.{IsKnown}

-- the regions of a program, what its functions need behind addresses, and its linear code
abbrev pub regions_for : Checked → Regions
regions_for p = regions_of p (layout_of p)

abbrev pub needs_for : Checked → Needs
needs_for p = needs_of p (layout_of p)

abbrev pub code_for : Checked → Code
code_for p = code_of (unit_for p)

-- What is known of a program and of its image, with the places at which calls carry what a pad caught, and where functions' exception tables are:
-- of its regions, of its linear code, of the tables of the image, and of the bounds of frames, of pads and of filters, wherever the unit stands.
pub record Facts (p : Checked) (i : CleanImage) (k : Carrying) (tables : ℕ → ℕ) : Type 0 where
  pub known : IsKnown (regions_for p) (needs_for p)
  pub reach : UnitReaches (unit_for p) (needs_for p)
  pub carrying : AreCarrying (regions_for p) k
  pub fits : CodeFits (known_in (regions_for p)) (code_for p) k
  pub stops : CodeStops (code_for p)
  pub image : IsImageOf (unit_for p) i
  pub lists : ListsNameTypes (unit_for p)
  pub chains : (t : ℕ) → t < length (unit_for p).types → ChainEnds (unit_for p).types t
  pub bad : bad_row < length (unit_for p).types
  pub tables_are : (n : ℕ) → n < length (unit_for p).functions → tables n ≡ table_of (unit_for p) i n
  pub frames : (q : Plan) → q.unit ≡ unit_for p → FramesAreSmall q
  pub pads : (q : Plan) → q.unit ≡ unit_for p → PadsArePlain q
  pub filters : (q : Plan) → q.unit ≡ unit_for p → FiltersAreInts q
  pub jumps : (q : Plan) → q.unit ≡ unit_for p → JumpsAreInts q
  pub named : (program_of i).image.places.terminate ≡ stub_word (records_end (unit_for p)) terminating 0

-- All of it is so of every checked program and each file that is read as its image.
abbrev pub FactsStand : Type 0
FactsStand = (p : Checked) (i : CleanImage) → IsChecked p → IsImageOf (unit_for p) i → (k : Carrying) × Facts p i k (table_of (unit_for p) i)
