-- The linked image of a unit.
use Rattle.std.specs.Prelude.{ℕ, ◌+◌, ◌*◌, Bool, true, false, List, [], ◌∷◌, ◌++◌, length, flat_map}
use Rattle.std.specs.Int.{w32, to_le_bytes}
use Rattle.eh_bytes.specs.Listed.{ListedUnit, ListedFrame}
use Rattle.eh_bytes.specs.Memory.{Part, Memory}
use Rattle.eh_write.specs.WrittenFrames.{frames_bytes}
use Rattle.eh_write.specs.WrittenHeader.{header_bytes}
use Rattle.elf_image.specs.Laid.{Contents}
use Rattle.elf_image.specs.Written.{image_bytes}
use Rattle.linear_forms.specs.Stub.{terminating}
use Rattle.region_forms.specs.Ending.{bad_row}
use Rattle.machine_forms.specs.StubCode.{stub_first}
use Rattle.image_forms.specs.Placed.{globals_at, records_at, code_at, all_code, names_at, record_at, all_functions}
use Rattle.image_forms.specs.Records.{names_bytes, records_bytes, globals_bytes}
use Rattle.image_forms.specs.Tables.{filled, tables_bytes, linked_frames, with_tables, header_rows}

-- the names, up to a multiple of 4
abbrev pub unit_names : ListedUnit → List ℕ
unit_names u = filled (names_bytes u.types)

-- the first byte of the exception tables
abbrev pub tables_at : ListedUnit → ℕ
tables_at u = names_at u + length (unit_names u)

abbrev pub unit_tables : ListedUnit → List ℕ
unit_tables u = tables_bytes (code_at u) (tables_at u) (all_functions u)

abbrev pub unit_frames : ListedUnit → List ListedFrame
unit_frames u = linked_frames (code_at u) (tables_at u) (all_functions u)

-- the first byte of the frames
abbrev pub frames_at : ListedUnit → ℕ
frames_at u = tables_at u + length (unit_tables u)

abbrev pub frames_written : ListedUnit → List ℕ
frames_written u = frames_bytes (with_tables (unit_frames u)) (frames_at u)

-- the first byte of the frames' header
abbrev pub header_at : ListedUnit → ℕ
header_at u = frames_at u + length (frames_written u)

abbrev pub header_written : ListedUnit → List ℕ
header_written u = header_bytes (header_rows (frames_at u) (unit_frames u)) (frames_at u) (header_at u)

-- names, tables, frames and their header
abbrev pub constant_bytes : ListedUnit → List ℕ
constant_bytes u = unit_names u ++ unit_tables u ++ frames_written u ++ header_written u

-- what a segment has at an address; the file places it
abbrev pub part_at : (address : ℕ) (write exec : Bool) → List ℕ → Part
part_at address write exec bytes = record { address = address; bytes = bytes; file_at = 0; write = write; exec = exec }

abbrev pub memory_for : ListedUnit → Memory
memory_for u =
    part_at (globals_at u) true false (globals_bytes u.globals) ∷
    part_at (records_at u) false false (records_bytes (code_at u) (names_at u) u.types) ∷
    part_at (code_at u) false true (flat_map (to_le_bytes w32) (all_code u)) ∷
    part_at (names_at u) false false (constant_bytes u) ∷ []

-- a run begins at start, the first of the runtime's own functions
abbrev pub contents_for : ListedUnit → Contents
contents_for u = record {
  entry = code_at u;
  memory = memory_for u;
  frame_header = header_at u;
  runtime = record { terminate = code_at u + 4 * stub_first terminating; bad_exception = record_at (code_at u) bad_row };
}

-- the file of the image
unfoldable pub linked : ListedUnit → List ℕ
linked u = image_bytes (contents_for u)
