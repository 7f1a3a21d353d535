-- The image of a program: its classes laid out, its functions lowered to regions, to linear code with landing pads, and to machine code,
-- and linked with the runtime's own functions, with sections and symbols.
use Rattle.std.specs.Prelude.{ℕ, ◌+◌, ◌*◌, ◌≤◌, List, length}
use Rattle.cxx_ast.specs.Checked.{IsChecked}
use Rattle.cxx_ast.specs.Plain.{Checked}
use Rattle.image_forms.specs.Symbols.{Names, named}
use Rattle.source_bounds.specs.Compiled.{emitted_for}
use Rattle.symbol_names.specs.Names.{functions_names, types_names, globals_names}

-- the names of its functions, types and globals
abbrev pub names_for : Checked → Names
names_for p = record { functions = functions_names p; types = types_names p; globals = globals_names p.program.declarations }

abbrev pub image_for : Checked → List ℕ
image_for p = named (names_for p) (emitted_for p)

-- a program's image has few bytes for its source
abbrev pub CheckedImagesAreSmall : Type 0
CheckedImagesAreSmall = (p : Checked) → IsChecked p → length (image_for p) ≤ 768 * p.program.tokens + 131072
