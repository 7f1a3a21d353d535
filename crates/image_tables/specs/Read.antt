-- The image of a unit, as it is read to run.
use Rattle.std.specs.Prelude.{◌≡◌, ℕ, List, Ok}
use Rattle.elf_image.specs.Clean.{CleanImage}
use Rattle.elf_image.specs.Runnable.{runnable}
use Rattle.linear_forms.specs.Linear.{UnitCode}
use Rattle.machine_forms.specs.Emitted.{emitted_of}
use Rattle.image_forms.specs.Linkable.{IsLinkable}
use Rattle.image_link.specs.Runs.{UnitStands}

-- A file is read, and its parts, frames and tables are those of the unit. So it is of the file that is linked of a unit which can be linked,
-- as that of every checked program can.
pub record IsImageOf (u : UnitCode) (i : CleanImage) : Type 0 where
  pub linkable : IsLinkable (emitted_of u)
  pub file : List ℕ
  pub read : runnable file ≡ Ok i
  pub stands : UnitStands (emitted_of u) i
