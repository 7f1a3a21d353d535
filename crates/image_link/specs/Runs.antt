-- What is read of a linked image that is to run.
use Rattle.std.specs.Prelude.{ℕ, List, map, IsSomeAnd, IsOkAnd}
use Rattle.std.specs.List.{AllZip}
use Rattle.eh_bytes.specs.Listed.{ListedUnit}
use Rattle.table_forms.specs.WrittenTable.{TableStands}
use Rattle.table_forms.specs.WrittenFrames.{FdeStands}
use Rattle.elf_image.specs.Clean.{Function, CleanImage}
use Rattle.elf_image.specs.Stands.{ImageStands}
use Rattle.elf_image.specs.Runnable.{runnable}
use Rattle.image_forms.specs.Placed.{code_at, PlacedFunction, all_functions}
use Rattle.image_forms.specs.Tables.{linked_table}
use Rattle.image_forms.specs.Linked.{unit_frames, contents_for}

-- a function of the image has the exception table of one of the unit, where records end at an address
abbrev pub HasTable : ℕ → PlacedFunction → Function → Type 0
HasTable end f g = IsSomeAnd g.table (TableStands (linked_table end f.function.table) g.fde.region)

-- the parts of a unit's image, and its functions one by one, in the order of their addresses: each with its frame and its exception table
pub record UnitStands (u : ListedUnit) (i : CleanImage) : Type 0 where
  pub image : ImageStands (contents_for u) i.image
  pub frames : AllZip FdeStands (unit_frames u) (map (λ g. g.fde) i.functions)
  pub tables : AllZip (HasTable (code_at u)) (all_functions u) i.functions

-- nothing is refused of a file that is to run, and it stands for the unit
abbrev pub RunsUnit : ListedUnit → List ℕ → Type 0
RunsUnit u file = IsOkAnd (runnable file) (UnitStands u)
