-- What the calls of laws state of checked programs.
use Rattle.std.specs.Prelude.{ℕ, ◌^◌, ◌<◌, ◌≤◌}
use Rattle.std.specs.List.{AllByRecursion}
use Rattle.cxx_ast.specs.Checked.{IsChecked}
use Rattle.cxx_ast.specs.Plain.{Checked}
use Rattle.cxx_ast.specs.Limits.{most_class_bytes}
use Rattle.region_forms.specs.Layout.{layout_of}
use Rattle.region_forms.specs.LowerProgram.{regions_of}
use Rattle.address_bounds.specs.Everywhere.{RegionAll, holders}
use Rattle.address_bounds.specs.Givens.{needs_of}
use Rattle.machine_simulation.specs.Matches.{FrameIs}
use Rattle.operation_premises.specs.Ints.{ints}
use Rattle.operation_premises.specs.Known.{IsKnown}
use Rattle.source_bounds.specs.Compiled.{unit_for}
use Rattle.checked_units.specs.Literals.{ProgramLiterals}

-- each literal of a source is an int
abbrev pub LiteralsAreInts : Type 0
LiteralsAreInts = (p : Checked) → IsChecked p → ProgramLiterals p

-- so is each number in the regions of its program
abbrev pub RegionsHaveInts : Type 0
RegionsHaveInts = (p : Checked) → IsChecked p → AllByRecursion (λ f. RegionAll ints f.body) (regions_of p (layout_of p)).functions

-- a function of at most 2,000 tokens, with at most 256 parts to build, holds few regions that hold others
abbrev pub RegionsHoldFew : Type 0
RegionsHoldFew = (p : Checked) → IsChecked p → AllByRecursion (λ f. holders f.body < 2 ^ 31) (regions_of p (layout_of p)).functions

-- frames are small and as they are laid out
abbrev pub CheckedFramesAreLaidOut : Type 0
CheckedFramesAreLaidOut = (p : Checked) → IsChecked p → AllByRecursion FrameIs (unit_for p).functions

-- behind each address lie no more bytes than a class may have
abbrev pub NeedsAreSmall : Type 0
NeedsAreSmall = (p : Checked) → IsChecked p → (n s : ℕ) → needs_of p (layout_of p) n s ≤ most_class_bytes

-- so all is known that operations ask for
abbrev pub ProgramsAreKnown : Type 0
ProgramsAreKnown = (p : Checked) → IsChecked p → IsKnown (regions_of p (layout_of p)) (needs_of p (layout_of p))
