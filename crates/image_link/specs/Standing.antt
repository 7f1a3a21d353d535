-- What the tables, frames and header of an image stand for, in each memory that has them.
use Rattle.std.specs.Prelude.{◌≡◌, ⊤, ℕ, ◌+◌, List, [], ◌∷◌, ◌++◌, length}
use Rattle.eh_bytes.specs.Listed.{ListedTable, ListedFrame, ListedUnit}
use Rattle.eh_write.specs.CanWrite.{CanWrite}
use Rattle.eh_write.specs.CanWriteFrames.{CanWriteFrames}
use Rattle.eh_write.specs.WrittenFrames.{frames_bytes}
use Rattle.eh_write.specs.WrittenHeader.{CanWriteHeader, header_bytes}
use Rattle.image_link.specs.Laws.{TablesCanBeWritten}
use Rattle.eh_write.specs.Written.{table_bytes}
use Rattle.table_forms.specs.WrittenTable.{WritesTable}
use Rattle.table_forms.specs.WrittenFrames.{WritesFrames, WritesHeader}
use Rattle.image_forms.specs.Placed.{code_at, PlacedFunction, all_functions}
use Rattle.image_forms.specs.Tables.{linked_table, placed_table, with_tables, header_rows}
use Rattle.image_forms.specs.Linked.{tables_at, unit_frames, frames_at, frames_written, header_at, header_written, constant_bytes}
use Rattle.image_forms.specs.Linkable.{IsLinkable}

-- a table that can be written at an address stands for its lists
abbrev pub TableWritten : ListedTable → ℕ → Type 0
TableWritten list a = CanWrite list a → WritesTable list a (table_bytes list a)

-- frames that can be written at an address stand for their list
abbrev pub FramesWritten : List ListedFrame → ℕ → Type 0
FramesWritten frames a = CanWriteFrames (with_tables frames) a → WritesFrames (with_tables frames) a (frames_bytes (with_tables frames) a)

-- so does their header at another
abbrev pub HeaderWritten : List ListedFrame → (frames_at header : ℕ) → Type 0
HeaderWritten frames a header =
    CanWriteHeader (header_rows a frames) a header → WritesHeader (header_rows a frames) a header (header_bytes (header_rows a frames) a header)

-- where frames at an address end
abbrev pub frames_end : List ListedFrame → ℕ → ℕ
frames_end frames a = a + length (frames_bytes (with_tables frames) a)

-- frames at an address, and behind them their header
abbrev pub framed_bytes : List ListedFrame → (frames_at header : ℕ) → List ℕ
framed_bytes frames a header = frames_bytes (with_tables frames) a ++ header_bytes (header_rows a frames) a header

-- the tables of functions, from an address on, where records end at another
abbrev pub TablesStand : (end address : ℕ) → List PlacedFunction → Type 0
TablesStand end a [] = ⊤
TablesStand end a (f ∷ fs) =
    WritesTable (linked_table end f.function.table) a (table_bytes (linked_table end f.function.table) a) × TablesStand end (a + length (placed_table end a f)) fs

-- tables of functions that can be written stand for their lists
abbrev pub TablesWritten : (end address : ℕ) → List PlacedFunction → Type 0
TablesWritten end a fs = TablesCanBeWritten end a fs → TablesStand end a fs

pub record ListsStand (u : ListedUnit) : Type 0 where
  pub tables : TablesStand (code_at u) (tables_at u) (all_functions u)
  pub frames : WritesFrames (with_tables (unit_frames u)) (frames_at u) (frames_written u)
  pub header : WritesHeader (header_rows (frames_at u) (unit_frames u)) (frames_at u) (header_at u) (header_written u)

-- names, tables, frames and their header, of which the last three stand at addresses, are those of a unit
pub record AreConstants (u : ListedUnit) (tables frames header : ℕ) (bytes : List ℕ) : Type 0 where
  pub tables_place : tables ≡ tables_at u
  pub frames_place : frames ≡ frames_at u
  pub place : header ≡ header_at u
  pub content : bytes ≡ constant_bytes u
  pub stand : IsLinkable u → ListsStand u
