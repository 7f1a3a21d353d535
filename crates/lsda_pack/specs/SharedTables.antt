-- Tables that share bytes with another table, or with anything else of the image that is read.
use Rattle.std.specs.Prelude.{ℕ, ◌+◌, ◌-◌, ◌*◌, ◌==◌, nat_lt, max, min, List, [], ◌∷◌, ◌++◌, length, flat_map, fold, Option, Some, None, Result, Ok, Err, if◌then◌else◌}
use Rattle.eh_bytes.specs.Memory.{Part, Memory, part_with}
use Rattle.eh_bytes.specs.Encoded.{encoded}
use Rattle.eh_bytes.specs.declared.encoded.Pointer.{Pointer}
use Rattle.eh_bytes.specs.declared.frames.HdrRow.{HdrRow}
use Rattle.table_forms.specs.declared.reason.Reason.TheVariants.{TableShared}
use Rattle.table_forms.specs.Fault.{Fault, fault}
use Rattle.table_forms.specs.Header.{header_at}
use Rattle.table_forms.specs.LsdaHead.{Types, in_table}
use Rattle.table_forms.specs.Spans.{spans_within}
use Rattle.elf_image.specs.declared.program.ProgramHeader.{ProgramHeader}
use Rattle.elf_image.specs.Programs.{headers_of, runtime_header}
use Rattle.elf_image.specs.Runnable.{frames_start}
use Rattle.elf_image.specs.Clean.{CleanImage}
use Rattle.lsda_pack.specs.Placed.{Placed}

-- addresses from a first one up to an end, and the place of the first in the file
pub record Extent : Type 0 where
  pub first : ℕ
  pub end : ℕ
  pub place : ℕ

abbrev pub extent_in : ℕ → ℕ → Option Part → List Extent
extent_in first end None = []
extent_in first end (Some part) = record { first = first; end = end; place = part.file_at + (first - part.address) } ∷ []

abbrev pub extent_at : Memory → ℕ → ℕ → List Extent
extent_at memory first end = extent_in first end (part_with memory first)

-- the frames end behind the length 0 that ends their list, or with their segment
abbrev pub frames_end : Part → ℕ → ℕ
frames_end part p =
    let last = fold (λ e s. max e s.stop) p (spans_within (length part.bytes) part p).list in if last == length part.bytes then last else last + 4

abbrev pub frames_in : ℕ → Option Part → List Extent
frames_in a None = []
frames_in a (Some part) = extent_in a (part.address + frames_end part (a - part.address)) (Some part)

abbrev pub frames_extent : Memory → Option ℕ → List Extent
frames_extent memory None = []
frames_extent memory (Some a) = frames_in a (part_with memory a)

-- eight bytes, and with a table a count and eight for each row
abbrev pub header_size : Option (List HdrRow) → ℕ
header_size None = 8
header_size (Some rows) = 12 + 8 * length rows

abbrev pub header_in : ℕ → Option Part → List Extent
header_in a None = []
header_in a (Some part) = extent_in a (a + header_size (header_at part (a - part.address)).rows) (Some part)

-- the word that an entry names
abbrev pub word_of : Memory → Result (Pointer × ℕ) Fault → List Extent
word_of memory (Ok (pointer, next)) = if pointer.indirect then extent_at memory pointer.value (pointer.value + 8) else []
word_of memory (Err f) = []

abbrev pub words_of : Memory → Part → Option Types → List (ℕ × ℕ) → List Extent
words_of memory part None types = []
words_of memory part (Some t) types =
    flat_map (λ e. word_of memory (in_table (encoded t.encoding (part.address + (t.base - e.0 * t.size))) part (t.base - e.0 * t.size))) types

-- the frames, their header, and the words that entries of tables name
abbrev pub others_in : CleanImage → List Placed → List Extent
others_in i tables =
    let memory = i.image.memory in
    let header = i.image.frame_header in
    frames_extent memory (frames_start memory header) ++ header_in header (part_with memory header) ++
    flat_map (λ t. words_of memory t.part t.head.types t.table.types) tables

-- bytes of the file from a place up to an end
abbrev pub InFile : Type 0
InFile = ℕ × ℕ

-- the header of the file, the program headers, and the record for the runtime
abbrev pub record_in : Option ProgramHeader → List InFile
record_in None = []
record_in (Some h) = (h.offset, h.offset + 24) ∷ []

abbrev pub headers_in : List ProgramHeader → List InFile
headers_in [] = []
headers_in (h ∷ hs) = (h.place, h.place + 56 * length (h ∷ hs)) ∷ []

abbrev pub file_parts : List ℕ → List InFile
file_parts file = (0, 64) ∷ headers_in (headers_of file) ++ record_in (runtime_header (headers_of file))

-- 83: at the later of the two places
abbrev pub with_table : Placed → Placed → List Fault
with_table t u = if nat_lt (max t.first u.first) (min t.end u.end) then fault TableShared (max t.place u.place) ∷ [] else []

abbrev pub with_extent : Placed → Extent → List Fault
with_extent t e = if nat_lt (max t.first e.first) (min t.end e.end) then fault TableShared (max t.place e.place) ∷ [] else []

-- the table's bytes of the file
abbrev pub with_file : Placed → InFile → List Fault
with_file t (first, end) =
    if nat_lt (max t.place first) (min (min (t.place + (t.end - t.first)) t.file_end) end) then fault TableShared (max t.place first) ∷ [] else []

-- each table with those behind it
abbrev pub among_tables : List Placed → List Fault
among_tables [] = []
among_tables (t ∷ ts) = flat_map (with_table t) ts ++ among_tables ts

unfoldable pub shared_faults : List ℕ → CleanImage → List Placed → List Fault
shared_faults file i tables =
    among_tables tables ++ flat_map (λ t. flat_map (with_extent t) (others_in i tables) ++ flat_map (with_file t) (file_parts file)) tables
