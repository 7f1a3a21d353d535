-- What is clean, and yet no compiler meant it.
use Rattle.std.specs.Prelude.{◌≡◌, ℕ, ◌+◌, ◌-◌, ◌==◌, ◌&&◌, not, nat_le, Bool, List, [], ◌++◌, codes, flat_map, is_some, Option, Some, None, option_map, if◌then◌else◌, Vec, Result, Ok, Err}
use Rattle.std.specs.Fmt.{decimal}
use Rattle.std.specs.Global.{Global}
use Rattle.eh_bytes.specs.declared.frames.Region64.{Region64}
use Rattle.eh_bytes.specs.Memory.{Memory, part_with, is_code}
use Rattle.table_forms.specs.declared.found.Site.{Site}
use Rattle.table_forms.specs.Fault.{Fault}
use Rattle.table_forms.specs.Fde.{is_in}
use Rattle.table_forms.specs.Lsda.{Table}
use Rattle.elf_image.specs.declared.error.ImageError.{ImageError}
use Rattle.elf_image.specs.Clean.{Function, CleanImage}
use Rattle.table_check.specs.Checks.{IsReported}
use Rattle.table_dump.specs.Texts.{hex}
use Rattle.place_verdicts.specs.Places.{function_at}
use Rattle.image_doubts.specs.Starts.{begins, is_between, marks_of}

-- ---- what is doubted

-- a function whose first or last byte is no code
abbrev pub is_no_code : Memory → Region64 → Bool
is_no_code memory region = not (region.length == 0) && not (is_code memory region.start && is_code memory (region.start + region.length - 1))

-- a site without a byte
abbrev pub is_empty : Site → Bool
is_empty s = nat_le s.end s.start

-- a site that begins or ends inside an instruction
abbrev pub is_cut : Region64 → List Bool → Site → Bool
is_cut region marks s = not (is_between region marks s.start && is_between region marks s.end)

-- a pad in its function that begins no instruction of it
abbrev pub is_inside : Region64 → List Bool → Site → Bool
is_inside region marks s = not (s.pad == 0) && is_in region s.pad && not (begins region marks s.pad)

-- a pad that is not in the function whose table names it
abbrev pub is_outside : Region64 → Site → Bool
is_outside region s = not (s.pad == 0) && not (is_in region s.pad)

-- a type entry, other than `catch (...)`, that leads outside of memory
abbrev pub is_nowhere : Memory → ℕ → Bool
is_nowhere memory entry = not (entry == 0) && not (is_some (part_with memory entry))

-- ---- the lines, in which a function is named by its start

abbrev pub no_code_line : Memory → Region64 → List ℕ
no_code_line memory region = if is_no_code memory region then codes "function outside of code: " ++ hex region.start ++ codes "\n" else []

-- a site with its end, and the function whose table has it
abbrev pub site_words : Region64 → Site → List ℕ
site_words region s = hex s.start ++ codes " " ++ hex s.end ++ codes " of " ++ hex region.start

abbrev pub pad_words : Site → List ℕ
pad_words s = codes ": pad " ++ hex s.pad

abbrev pub empty_text : Region64 → Site → List ℕ
empty_text region s = codes "empty site: site " ++ site_words region s ++ codes "\n"

abbrev pub empty_line : Region64 → Site → List ℕ
empty_line region s = if is_empty s then empty_text region s else []

abbrev pub cut_text : Region64 → Site → List ℕ
cut_text region s = codes "site inside an instruction: site " ++ site_words region s ++ codes "\n"

abbrev pub cut_line : Region64 → List Bool → Site → List ℕ
cut_line region marks s = if is_cut region marks s then cut_text region s else []

abbrev pub inside_text : Region64 → Site → List ℕ
inside_text region s = codes "pad inside an instruction: site " ++ site_words region s ++ pad_words s ++ codes "\n"

abbrev pub inside_line : Region64 → List Bool → Site → List ℕ
inside_line region marks s = if is_inside region marks s then inside_text region s else []

-- the function of a pad, if there is one
abbrev pub home_words : Option Region64 → List ℕ
home_words None = codes " in none\n"
home_words (Some home) = codes " in " ++ hex home.start ++ codes "\n"

abbrev pub outside_text : Region64 → Site → Option Region64 → List ℕ
outside_text region s home = codes "pad in another function: site " ++ site_words region s ++ pad_words s ++ home_words home

abbrev pub outside_line : Region64 → Site → Option Region64 → List ℕ
outside_line region s home = if is_outside region s then outside_text region s home else []

abbrev pub type_words : Region64 → ℕ → ℕ → List ℕ
type_words region index entry = decimal index ++ codes " of " ++ hex region.start ++ codes ": " ++ hex entry ++ codes "\n"

abbrev pub nowhere_text : Region64 → ℕ → ℕ → List ℕ
nowhere_text region index entry = codes "type outside of memory: type " ++ type_words region index entry

abbrev pub nowhere_line : Memory → Region64 → ℕ × ℕ → List ℕ
nowhere_line memory region (index, entry) = if is_nowhere memory entry then nowhere_text region index entry else []

-- ---- all of them

-- the region of the function that has a place
abbrev pub home_of : List Function → ℕ → Option Region64
home_of functions a = option_map (λ f. f.fde.region) (function_at functions a)

abbrev pub site_doubts : List Function → Region64 → List Bool → Site → List ℕ
site_doubts functions region marks s =
    empty_line region s ++ cut_line region marks s ++ inside_line region marks s ++ outside_line region s (home_of functions s.pad)

-- of a table: its sites in order, and then the types that it names
abbrev pub table_doubts : Memory → List Function → Region64 → Option Table → List ℕ
table_doubts memory functions region None = []
table_doubts memory functions region (Some table) =
    flat_map (site_doubts functions region (marks_of memory region)) table.sites ++ flat_map (nowhere_line memory region) table.types

abbrev pub function_doubts : Memory → List Function → Function → List ℕ
function_doubts memory functions f = no_code_line memory f.fde.region ++ table_doubts memory functions f.fde.region f.table

-- the functions in rising order of region
unfoldable pub doubts : CleanImage → List ℕ
doubts image = flat_map (function_doubts image.image.memory image.functions) image.functions

-- the doubts of the clean image, or the refusal, exactly; want of memory is free
abbrev pub DoubtsImage : Result (Vec ℕ Global) ImageError → Result CleanImage Fault → Type 0
DoubtsImage (Ok text) read = (c : CleanImage) × (read ≡ Ok c) × (text.items ≡ doubts c)
DoubtsImage (Err e) read = IsReported e read
