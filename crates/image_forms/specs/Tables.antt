-- The exception tables, frames and header of placed functions.
use Rattle.std.specs.Prelude.{ℕ, ◌+◌, ◌-◌, ◌*◌, ◌%◌, true, List, [], ◌∷◌, ◌++◌, length, map, replicate}
use Rattle.eh_bytes.specs.declared.frames.FrameMove.{FrameMove}
use Rattle.eh_bytes.specs.declared.frames.HdrRow.{HdrRow}
use Rattle.eh_bytes.specs.Listed.{ListedTable, ListedFrame, ListedFrames}
use Rattle.eh_write.specs.Written.{table_bytes}
use Rattle.eh_write.specs.WrittenFrames.{cie_bytes, fde_bytes}
use Rattle.image_forms.specs.Placed.{type_at, PlacedFunction}

-- with the addresses of records in place of types, where the records end at an address
abbrev pub linked_table : ℕ → ListedTable → ListedTable
linked_table end table = record { sites = table.sites; chains = table.chains; types = map (type_at end) table.types; lists = table.lists }

-- zeros up to a multiple of 4
abbrev pub filled : List ℕ → List ℕ
filled bytes = bytes ++ replicate ((4 - length bytes % 4) % 4) 0

-- a function's table at an address
abbrev pub placed_table : (end address : ℕ) → PlacedFunction → List ℕ
placed_table end address f = filled (table_bytes (linked_table end f.function.table) address)

-- the tables of functions, from an address on
abbrev pub tables_bytes : (end address : ℕ) → List PlacedFunction → List ℕ
tables_bytes end address [] = []
tables_bytes end address (f ∷ fs) =
    placed_table end address f ++ tables_bytes end (address + length (placed_table end address f)) fs

-- changes from a function's address on
abbrev pub placed_moves : ℕ → List FrameMove → List FrameMove
placed_moves address moves = map (λ m. record { location = address + m.location; change = m.change }) moves

-- the frame of a function whose table stands at an address
abbrev pub linked_frame : ℕ → PlacedFunction → ListedFrame
linked_frame table f = record {
  region = record { start = f.address; length = 4 * f.function.words };
  lsda = table;
  moves = placed_moves f.address f.function.moves;
}

-- the frames of functions whose tables stand from an address on
abbrev pub linked_frames : (end address : ℕ) → List PlacedFunction → List ListedFrame
linked_frames end address [] = []
linked_frames end address (f ∷ fs) =
    linked_frame address f ∷ linked_frames end (address + length (placed_table end address f)) fs

-- each function has a table
abbrev pub with_tables : List ListedFrame → ListedFrames
with_tables frames = record { lsda = true; frames = frames }

-- a row for each frame, the first of which stands at a place
abbrev pub rows_from : (cie place : ℕ) → List ListedFrame → List HdrRow
rows_from cie place [] = []
rows_from cie place (f ∷ fs) =
    record { location = f.region.start; fde = place } ∷ rows_from cie (place + length (fde_bytes true cie place f)) fs

-- the rows of frames at an address
abbrev pub header_rows : ℕ → List ListedFrame → List HdrRow
header_rows address frames = rows_from address (address + length (cie_bytes true)) frames
