-- The machine code of a program. It can stand at any address that is a multiple of 8, in this order, counted in bytes from the first word
-- of the runtime's own functions:
--     ...            the globals, of 4 bytes each, downwards
--     -24 (t + 1)    the record of type t
--     0              the runtime's own functions
--     4 stub_words   the unit's code: two words that jump to main, then its functions in order
-- So every distance is known before any address is, and does not depend on how long the unit's code is. Whoever links a unit writes records
-- and globals there.
use Rattle.std.specs.Prelude.{ℕ, ℤ, pos, ◌+◌, ◌*◌, ◌-ℤ◌, List, [], ◌∷◌, ◌++◌, map, take, length}
use Rattle.eh_bytes.specs.declared.frames.FrameMove.{FrameMove}
use Rattle.eh_bytes.specs.declared.unit.TypeRow.{TypeRow as ListedType}
use Rattle.eh_bytes.specs.Listed.{ListedUnit}
use Rattle.region_forms.specs.Form.{TypeRow}
use Rattle.linear_forms.specs.Linear.{FunctionCode, UnitCode}
use Rattle.linear_forms.specs.Tables.{label_place}
use Rattle.linear_forms.specs.Stub.{Function, compiled}
use Rattle.machine_forms.specs.Registers.{zero_register, t0, saved_registers}
use Rattle.machine_forms.specs.Piece.{Target, entry, unit_entry, type_record, global_at, Piece, upper_part, jump_rest, words_from}
use Rattle.machine_forms.specs.Shape.{Shape, prologue, frame_moves}
use Rattle.machine_forms.specs.Kept.{kept_slots}
use Rattle.machine_forms.specs.Leaf.{is_leaf}
use Rattle.machine_forms.specs.KeptCode.{saves, save_moves}
use Rattle.machine_forms.specs.LinearCode.{linear_code}
use Rattle.machine_forms.specs.Routine.{Routine, all_words, routines_code, listed_routines}
use Rattle.machine_forms.specs.StubCode.{stub_first, stub_words, stub_routines}

-- the frame of a function
abbrev pub shape_of : FunctionCode → Shape
shape_of g = record { slots = g.slots; size = g.frame; kept = kept_slots g; leaf = is_leaf g }

-- the beginning of a function: its prologue, then its kept variables
abbrev pub function_front : Shape → (parameters : ℕ) → List Piece
function_front f parameters = prologue f ++ saves f parameters saved_registers f.kept

-- the changes of its frame
abbrev pub function_moves : Shape → (parameters : ℕ) → List FrameMove
function_moves f parameters = frame_moves f ++ save_moves f parameters (length (prologue f)) saved_registers f.kept

-- a function as code
abbrev pub function_routine : FunctionCode → Routine
function_routine g = record {
  name = g.name;
  front = function_front (shape_of g) g.parameters;
  blocks = map (linear_code (shape_of g)) g.ops;
  label_at = λ l. label_place g.ops l 0;
  sites = g.sites;
  types = g.types;
  lists = g.lists;
  moves = function_moves (shape_of g) g.parameters;
}

-- the functions of a unit as code
abbrev pub unit_routines : UnitCode → List Routine
unit_routines u = map function_routine u.functions

-- a unit begins with a jump to main
abbrev pub main_jump : UnitCode → List Piece
main_jump u =
    upper_part t0 (entry (compiled u.main)) ∷ jump_rest zero_register t0 (entry (compiled u.main)) ∷ []

-- the first word of the n-th function, from the unit's first word on
abbrev pub function_first : UnitCode → ℕ → ℕ
function_first u n = 2 + all_words (take n (unit_routines u))

-- the first word of a function, from that of the runtime's own functions on
abbrev pub entry_word : UnitCode → Function → ℕ
entry_word u (compiled n) = stub_words + function_first u n
entry_word u g = stub_first g

-- where a target is, in bytes
abbrev pub target_byte : UnitCode → Target → ℤ
target_byte u (entry g) = pos (4 * entry_word u g)
target_byte u unit_entry = pos (4 * stub_words)
target_byte u (type_record t) = pos 0 -ℤ pos (24 * (t + 1))
target_byte u (global_at g n) = pos n -ℤ pos (24 * length u.types + 4 * (g + 1))

-- the words of a unit
abbrev pub unit_words : UnitCode → List ℕ
unit_words u =
    words_from (record { target = target_byte u; label = λ l. l }) stub_words (main_jump u) ++
    routines_code (target_byte u) (stub_words + 2) (unit_routines u)

-- a type's row as it crosses to the writers
abbrev pub listed_type : TypeRow → ListedType
listed_type t = record { kind = t.kind; name = t.name; base = t.base }

-- what is made of linear code
abbrev pub emitted_of : UnitCode → ListedUnit
emitted_of u = record {
  code = unit_words u;
  functions = listed_routines 2 (unit_routines u);
  types = map listed_type u.types;
  globals = u.globals;
  tokens = u.tokens;
}

-- where a target of the runtime's own functions is; they use no globals, and no functions of the unit
abbrev pub stub_target : Target → ℤ
stub_target (entry g) = pos (4 * stub_first g)
stub_target unit_entry = pos (4 * stub_words)
stub_target (type_record t) = pos 0 -ℤ pos (24 * (t + 1))
stub_target (global_at g n) = pos 0

-- the runtime's own functions
abbrev pub emitted_stubs : ListedUnit
emitted_stubs = record {
  code = routines_code stub_target 0 stub_routines;
  functions = listed_routines 0 stub_routines;
  types = [];
  globals = [];
  tokens = 0;
}
