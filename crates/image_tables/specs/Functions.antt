-- The functions of an image: those of its unit, and the runtime's own.
use Rattle.std.specs.Prelude.{⊤, ◌<◌, ℕ, ◌+◌, ◌*◌, List, [], map, length}
use Rattle.linear_forms.specs.Linear.{UnitCode}
use Rattle.linear_forms.specs.Stub.{Function, compiled}
use Rattle.linear_forms.specs.UnitRun.{code_at}
use Rattle.machine_forms.specs.Shape.{slot_offset}
use Rattle.machine_forms.specs.Routine.{Routine, op_byte}
use Rattle.machine_forms.specs.Kept.{kept_slots}
use Rattle.machine_forms.specs.StubCode.{stub_shape, stub_routine}
use Rattle.machine_forms.specs.Emitted.{shape_of, function_routine, entry_word, emitted_of}
use Rattle.image_forms.specs.Placed as placed

-- a number is that of a function of the unit
abbrev pub IsThere : UnitCode → Function → Type 0
IsThere u (compiled n) = n < length u.functions
IsThere u g = ⊤

-- a function as code
abbrev pub routine_of : UnitCode → Function → Routine
routine_of u (compiled n) = function_routine (code_at u n)
routine_of u g = stub_routine g

-- the bytes of a function's frame
abbrev pub frame_of : UnitCode → Function → ℕ
frame_of u (compiled n) = (code_at u n).frame
frame_of u g = (stub_shape g).size

-- where its calls save the registers of their kept variables, from sp on
abbrev pub saved_places : UnitCode → Function → List ℕ
saved_places u (compiled n) = map (slot_offset (shape_of (code_at u n))) (kept_slots (code_at u n))
saved_places u g = []

-- where the records of types end, and the code begins
abbrev pub records_end : UnitCode → ℕ
records_end u = placed.code_at (emitted_of u)

-- the first byte of a function
abbrev pub first_byte : UnitCode → Function → ℕ
first_byte u f = records_end u + 4 * entry_word u f

-- the first byte of an operation of a function
abbrev pub operation_at : UnitCode → Function → ℕ → ℕ
operation_at u f p = first_byte u f + op_byte (routine_of u f) p
