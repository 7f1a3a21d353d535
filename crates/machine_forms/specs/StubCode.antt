-- The runtime's own functions as code (Itanium C++ ABI: Exception Handling, sections 2.4.6 and 2.5.3). Those that linear code calls have
-- its operations, and their slots stand in a frame as those of a compiled function do. They do not look at the stack, and stand before
-- the unit in this order: start, terminate, end_catch, call_unexpected.
use Rattle.std.specs.Prelude.{ℕ, ◌+◌, List, [], ◌∷◌, ◌++◌, map, take, None}
use Rattle.rv64_isa.specs.declared.instr.Instr.TheVariants.{Beq, Jalr, Addi}
use Rattle.eh_bytes.specs.declared.frames.FrameChange.TheVariants.{Undefined}
use Rattle.linear_forms.specs.Linear.{CodeSite}
use Rattle.linear_forms.specs.Sites.{site_at, merged}
use Rattle.linear_forms.specs.Stub.{Function, compiled, end_catch, terminating, call_unexpected, StubOp, leave_newest, destroy_held, call_held, begin_unexpected, check_unexpected, construct_bad, terminate_for, abort, CodeOp, linear, runtime, StubRow, stub_rows}
use Rattle.machine_forms.specs.Registers.{zero_register, ra, a0, a1, a2}
use Rattle.machine_forms.specs.Piece.{Piece, instruction, unit_entry, upper_part, jump_rest}
use Rattle.machine_forms.specs.Shape.{Shape, help_shape, frame_taken, frame_moves, move_at}
use Rattle.machine_forms.specs.PlaceCode.{slot_loaded, slot_stored, int_loaded}
use Rattle.machine_forms.specs.CallCode.{passed}
use Rattle.machine_forms.specs.LinearCode.{linear_code, jump_same}
use Rattle.machine_forms.specs.RuntimeCall.{runtime_call, exit_call, end_catch_call, abort_call, unexpected_begin_call, unexpected_check_call, terminate_for_call}
use Rattle.machine_forms.specs.Routine.{Routine, all_words}

-- the slot of the table of the function whose specification stopped an exception
abbrev pub table_slot : ℕ
table_slot = 2

-- the address in a register is called
abbrev pub address_called : ℕ → Piece
address_called base = instruction (Jalr ra base 0)

-- the code of an operation that only the runtime makes
abbrev pub stub_op_code : Shape → StubOp → List Piece
stub_op_code f (leave_newest o d l) =
    runtime_call end_catch_call ++ slot_stored f a0 o ∷ slot_stored f a1 d ∷ jump_same a0 zero_register l
stub_op_code f (destroy_held d o) =
    slot_loaded f a1 d ∷ instruction (Beq a1 zero_register 8) ∷ slot_loaded f a0 o ∷ passed a0 0 ∷ address_called a1 ∷ []
stub_op_code f (call_held h) = slot_loaded f a0 h ∷ instruction (Beq a0 zero_register 4) ∷ address_called a0 ∷ []
stub_op_code f (begin_unexpected o h) =
    slot_loaded f a0 o ∷ runtime_call unexpected_begin_call ++ slot_stored f a0 h ∷ slot_stored f a1 table_slot ∷ []
stub_op_code f (check_unexpected s t o x) =
    slot_loaded f a0 t ∷ int_loaded f a1 s ∷ slot_loaded f a2 o ∷ runtime_call unexpected_check_call ++ slot_stored f a0 x ∷ []
stub_op_code f construct_bad = instruction (Addi zero_register zero_register 0) ∷ []
stub_op_code f (terminate_for o) = slot_loaded f a0 o ∷ runtime_call terminate_for_call
stub_op_code f abort = runtime_call abort_call

-- the code of one operation
abbrev pub code_op_code : Shape → CodeOp → List Piece
code_op_code f (linear o) = linear_code f o
code_op_code f (runtime o) = stub_op_code f o

-- how many slots each has
abbrev pub stub_slots : Function → ℕ
stub_slots (compiled n) = 0
stub_slots end_catch = 4
stub_slots terminating = 1
stub_slots call_unexpected = 8

-- the frame of one of them
abbrev pub stub_shape : Function → Shape
stub_shape g = help_shape (stub_slots g)

-- terminate gets its handler in a0, and the others what they are passed in their first slots
abbrev pub stub_front : Function → Shape → List Piece
stub_front terminating f = frame_taken f ++ slot_stored f a0 0 ∷ []
stub_front _ f = frame_taken f

-- the names of the runtime's own functions
abbrev pub stub_name : Function → List ℕ
stub_name (compiled n) = []
stub_name end_catch = 101 ∷ 110 ∷ 100 ∷ 95 ∷ 99 ∷ 97 ∷ 116 ∷ 99 ∷ 104 ∷ []
stub_name terminating = 116 ∷ 101 ∷ 114 ∷ 109 ∷ 105 ∷ 110 ∷ 97 ∷ 116 ∷ 101 ∷ []
stub_name call_unexpected = 99 ∷ 97 ∷ 108 ∷ 108 ∷ 95 ∷ 117 ∷ 110 ∷ 101 ∷ 120 ∷ 112 ∷ 101 ∷ 99 ∷ 116 ∷ 101 ∷ 100 ∷ []

abbrev pub start_name : List ℕ
start_name = 115 ∷ 116 ∷ 97 ∷ 114 ∷ 116 ∷ []

-- filter 1 is `catch (...)` where a function has handlers
abbrev pub stub_types : Function → List ℕ
stub_types call_unexpected = 0 ∷ []
stub_types _ = []

-- the sites of operations from place p on, one for each that is covered
abbrev pub row_sites : ℕ → List StubRow → List CodeSite
row_sites p [] = []
row_sites p (row ∷ rows) = site_at p row.cover ++ row_sites (p + 1) rows

-- the sites of one of the runtime's own functions
abbrev pub stub_sites : List StubRow → List CodeSite
stub_sites rows = merged (row_sites 0 rows)

-- one of the runtime's own functions that linear code calls; its labels are places
abbrev pub stub_routine : Function → Routine
stub_routine g = record {
  name = stub_name g;
  front = stub_front g (stub_shape g);
  blocks = map (λ row. code_op_code (stub_shape g) row.op) (stub_rows g);
  label_at = λ l. l;
  sites = stub_sites (stub_rows g);
  types = stub_types g;
  lists = [];
  moves = frame_moves (stub_shape g);
}

-- the first function of a run: it calls main by the unit's first word, and exits with what that gives; nothing is outward of it
abbrev pub start_routine : Routine
start_routine = record {
  name = start_name;
  front = [];
  blocks = (upper_part ra unit_entry ∷ jump_rest ra ra unit_entry ∷ []) ∷ runtime_call exit_call ∷ [];
  label_at = λ l. l;
  sites = record { start = 0; end = 1; pad = None; filters = [] } ∷ [];
  types = [];
  lists = [];
  moves = move_at 0 (Undefined ra) ∷ [];
}

-- the runtime's own functions in order
abbrev pub stub_routines : List Routine
stub_routines = start_routine ∷ stub_routine terminating ∷ stub_routine end_catch ∷ stub_routine call_unexpected ∷ []

-- the first word of one of them
abbrev pub stub_first : Function → ℕ
stub_first (compiled n) = 0
stub_first terminating = all_words (take 1 stub_routines)
stub_first end_catch = all_words (take 2 stub_routines)
stub_first call_unexpected = all_words (take 3 stub_routines)

-- how many words they have
abbrev pub stub_words : ℕ
stub_words = all_words stub_routines
