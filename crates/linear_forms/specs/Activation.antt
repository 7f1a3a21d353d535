-- The state of a machine for linear code: calls that are open, and the world. What is said of a place is said alike of compiled functions
-- and of the runtime's own.
use Rattle.std.specs.Prelude.{ℕ, ◌+◌, ℤ, pos, ◌==◌, Bool, true, false, List, [], ◌∷◌, Option, Some, None, is_some, if◌then◌else◌}
use Rattle.meaning_forms.specs.Outcome.{End, aborted}
use Rattle.region_forms.specs.Form.{Kinds, help_slot, TypeRow}
use Rattle.region_forms.specs.World.{Word, nothing, number_word, Frame, World}
use Rattle.region_forms.specs.Effect.{new_frame, new_world}
use Rattle.linear_forms.specs.Linear.{LinearOp}
use Rattle.linear_forms.specs.Tables.{Cover, Sense}
use Rattle.linear_forms.specs.Stub.{Function, compiled, terminating, CodeOp, linear, stub_op, stub_cover, stub_sense}

-- A program's linear code as functions: the operation at a place, what the tables say of a place, where a label stands, what a filter
-- means, and the kinds of a function's slots.
pub record Code : Type 0 where
  pub rows : List TypeRow
  pub op_at : ℕ → ℕ → Option LinearOp
  pub cover_at : ℕ → ℕ → Cover
  pub label_at : ℕ → ℕ → ℕ
  pub sense_at : ℕ → ℤ → Sense
  pub kinds_at : ℕ → Kinds

-- a call that is open: its function, the place in it, its slots
pub record Activation : Type 0 where
  pub function : Function
  pub place : ℕ
  pub frame : Frame

-- the call that runs, those that wait, innermost first, and the world
pub record State : Type 0 where
  pub top : Activation
  pub frames : List Activation
  pub world : World

-- how a run ends: as the program says, or where nothing more is defined, or by a fault that no run of compiled code has
pub data Final : Type 0 where
  by_program : End → Final
  not_defined : Final
  fault : Final

-- what comes next: a state, or an end
pub data Next : Type 0 where
  goes_to : State → Next
  finishes : Final → World → Next

-- what is defined only where a test holds
abbrev pub next_if : Bool → World → Next → Next
next_if true w x = x
next_if false w x = finishes not_defined w

-- an operation of a compiled function
abbrev pub compiled_op : Option LinearOp → Option CodeOp
compiled_op None = None
compiled_op (Some o) = Some (linear o)

-- the operation at a place
abbrev pub fetch : Code → Function → ℕ → Option CodeOp
fetch code (compiled n) p = compiled_op (code.op_at n p)
fetch code f p = stub_op f p

-- what covers a place
abbrev pub look : Code → Function → ℕ → Cover
look code (compiled n) p = code.cover_at n p
look code f p = stub_cover f p

-- the place of a label
abbrev pub place_of : Code → Function → ℕ → ℕ
place_of code (compiled n) l = code.label_at n l
place_of code f l = l

-- what a filter means
abbrev pub sense : Code → Function → ℤ → Sense
sense code (compiled n) i = code.sense_at n i
sense code f i = stub_sense i

-- the kinds of a function's slots
abbrev pub kinds : Code → Function → Kinds
kinds code (compiled n) = code.kinds_at n
kinds code f = λ s. help_slot

-- the state at a place of the call that runs
abbrev pub at : Function → ℕ → Frame → List Activation → World → Next
at f p x fs w = goes_to (record { top = record { function = f; place = p; frame = x }; frames = fs; world = w })

-- the next operation of the same call
abbrev pub on : Activation → Frame → List Activation → World → Next
on a x fs w = at a.function (a.place + 1) x fs w

-- a call of a compiled function counts, one of the runtime's own does not
abbrev pub counts : Function → ℕ
counts (compiled n) = 1
counts f = 0

-- how many calls of compiled functions are open
abbrev pub depth_of : List Activation → ℕ
depth_of [] = 0
depth_of (a ∷ fs) = depth_of fs + counts a.function

-- a call of a compiled function
abbrev pub enters_function : Code → ℕ → List Word → List Activation → World → Next
enters_function code n given fs w =
    at (compiled n) 0 (new_frame (code.kinds_at n) given w) fs (new_world (code.kinds_at n) given (depth_of fs + 1) w)

-- what the first slots of one of the runtime's own functions hold
abbrev pub stub_frame : Word → Word → Word → Frame
stub_frame x y z = record { call = 0; slots = λ s. if s == 0 then x else if s == 1 then y else if s == 2 then z else nothing }

-- a function's number in a slot, if there is one
abbrev pub function_word : Option ℕ → Word
function_word None = nothing
function_word (Some n) = number_word (pos n)

-- terminate with a handler; while one runs, the program ends as aborted
abbrev pub terminated : Option ℕ → List Activation → World → Next
terminated h fs w =
    if w.ending then finishes (by_program aborted) w else
    at terminating 0 (stub_frame (function_word h) nothing nothing) fs (record w { ending = is_some h })
