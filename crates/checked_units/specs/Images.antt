-- What the calls of laws state of images.
use Rattle.std.specs.Prelude.{ℕ, ◌+◌, ◌*◌, ◌^◌, ◌<◌, length}
use Rattle.std.specs.List.{AllByRecursion}
use Rattle.cxx_ast.specs.Checked.{IsChecked}
use Rattle.cxx_ast.specs.Plain.{Checked}
use Rattle.linear_forms.specs.Linear.{UnitCode}
use Rattle.rv64_isa.specs.Listing.{word_of}
use Rattle.machine_forms.specs.Piece.{Piece, Places, placed}
use Rattle.machine_forms.specs.Routine.{routine_words}
use Rattle.machine_forms.specs.Emitted.{emitted_of, function_routine}
use Rattle.eh_bytes.specs.Listed.{ListedUnit}
use Rattle.elf_image.specs.Clean.{CleanImage}
use Rattle.elf_image.specs.Stands.{ImageStands}
use Rattle.image_forms.specs.Linkable.{IsLinkable}
use Rattle.image_forms.specs.Placed.{code_at, all_code}
use Rattle.image_forms.specs.Linked.{contents_for}
use Rattle.eh_run.specs.Program.{program_of}
use Rattle.source_bounds.specs.Compiled.{unit_for, emitted_for}
use Rattle.machine_pieces.specs.Numbers.{IsInt}
use Rattle.machine_pieces.specs.Standing.{PieceFits, HaveBits}
use Rattle.machine_simulation.specs.Beginning.{StandsBefore}

-- a literal is an int, and so is its negation
abbrev pub GlobalsAreInts : Type 0
GlobalsAreInts = (p : Checked) → IsChecked p → AllByRecursion IsInt p.globals

-- the word of a piece whose fields are in their ranges has 32 bits, wherever it stands
abbrev pub WordsHaveBits : Type 0
WordsHaveBits = (places : Places) (here : ℕ) (x : Piece) → PieceFits x → word_of (placed places here x) < 2 ^ 32

-- all words of an image have 32 bits, where no function is longer than its jumps reach
abbrev pub UnitsHaveBits : Type 0
UnitsHaveBits = (u : UnitCode) → AllByRecursion (λ g. routine_words (function_routine g) < 2 ^ 18) u.functions → HaveBits (all_code (emitted_of u))

-- the code of a unit that is within the bounds of its source ends below 2^30
abbrev pub CodeIsLow : Type 0
CodeIsLow = (u : ListedUnit) → IsLinkable u → code_at u + 4 * length (all_code u) < 2 ^ 30

-- Whatever file the image of a checked program was read of, and wherever its functions' tables are: the hart with which a run begins is at
-- the first word of the image, and memory has the unit, the globals with their first values, room for exceptions, and the stack.
abbrev pub ImagesBegin : Type 0
ImagesBegin = (p : Checked) → IsChecked p → (i : CleanImage) (tables : ℕ → ℕ) → ImageStands (contents_for (emitted_for p)) i.image →
    StandsBefore (unit_for p) (code_at (emitted_for p)) tables (program_of i).hart
