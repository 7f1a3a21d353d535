-- How many bytes of an image a unit takes. No length depends on an address, so they are those at address 0.
use Rattle.std.specs.Prelude.{ℕ, ◌+◌, ◌*◌, ◌/◌, nat_le, true, List, length, sum_by, take, if◌then◌else◌}
use Rattle.eh_bytes.specs.declared.frames.FrameMove.{FrameMove}
use Rattle.eh_bytes.specs.declared.unit.TypeRow.{TypeRow}
use Rattle.eh_bytes.specs.Listed.{ListedTable, ListedFunction, ListedUnit}
use Rattle.eh_write.specs.Written.{table_bytes}
use Rattle.eh_write.specs.WrittenFrames.{fde_bytes}

-- an exception table, up to the next multiple of 4
abbrev pub table_room : ListedTable → ℕ
table_room table = (length (table_bytes table 0) + 3) / 4 * 4

-- the frame entry of a function
abbrev pub frame_room : List FrameMove → ℕ
frame_room moves = length (fde_bytes true 0 0 (record { region = record { start = 0; length = 0 }; lsda = 0; moves = moves }))

-- beside its words a function has a table, a frame entry, and a row of the frames' header
abbrev pub function_room : ListedFunction → ℕ
function_room f = table_room f.table + frame_room f.moves + 8

-- the first 255 bytes of a name are kept
abbrev pub kept_name : TypeRow → List ℕ
kept_name t = take 255 t.name

-- a record of three words, and a name with a zero behind it
abbrev pub type_room : TypeRow → ℕ
type_room t = 24 + length (kept_name t) + 1

-- a symbol has an entry of 24 bytes, and a name of at most 96 bytes with a zero behind it
abbrev pub symbol_room : ℕ
symbol_room = 24 + 97

-- the symbol of a type's record has a longer name than the type
abbrev pub type_symbol_room : TypeRow → ℕ
type_symbol_room t = if nat_le (length t.name) 96 then symbol_room else 0

-- what the symbols of functions, globals and types take at most
abbrev pub symbols_room : ListedUnit → ℕ
symbols_room u = symbol_room * (length u.functions + length u.globals) + sum_by type_symbol_room u.types

abbrev pub unit_room : ListedUnit → ℕ
unit_room u = 4 * length u.code + sum_by function_room u.functions + sum_by type_room u.types + 4 * length u.globals
