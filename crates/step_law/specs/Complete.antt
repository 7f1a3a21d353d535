-- That the image of a checked program is the compiled program, and what is enough for its runs.
use Rattle.std.specs.Prelude.{◌≡◌, ℕ, List, Ok}
use Rattle.cxx_ast.specs.Checked.{IsChecked}
use Rattle.cxx_ast.specs.Plain.{Checked}
use Rattle.source_bounds.specs.Compiled.{unit_for, emitted_for}
use Rattle.elf_image.specs.Clean.{CleanImage}
use Rattle.elf_image.specs.Runnable.{runnable}
use Rattle.image_link.specs.Runs.{UnitStands}
use Rattle.machine_raises.specs.Stacks.{table_of}
use Rattle.compiled_runs.specs.Compiled.{Compiled}
use Rattle.compiled_runs.specs.Enough.{HasEnough}
use Rattle.compiled_runs.specs.Starts.{StepsGoOn}

-- whatever file is read to run, and stands for what is emitted for the program: steps of linear code go on as turns where main begins
abbrev pub CheckedImagesGoOn : Type 0
CheckedImagesGoOn = (p : Checked) → IsChecked p → (file : List ℕ) (i : CleanImage) → runnable file ≡ Ok i → UnitStands (emitted_for p) i → StepsGoOn p i (table_of (unit_for p) i)

-- so it is the compiled program
abbrev pub CheckedImagesAreCompiled : Type 0
CheckedImagesAreCompiled = (p : Checked) → IsChecked p → (file : List ℕ) (i : CleanImage) → runnable file ≡ Ok i → UnitStands (emitted_for p) i → Compiled p i

-- and so many instructions are enough for its runs
abbrev pub CheckedImagesHaveEnough : Type 0
CheckedImagesHaveEnough = (p : Checked) → IsChecked p → (file : List ℕ) (i : CleanImage) → runnable file ≡ Ok i → UnitStands (emitted_for p) i → HasEnough p i
