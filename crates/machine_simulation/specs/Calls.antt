-- Open calls in memory: a frame with its return address, and the calls that wait, each for the one above it.
use Rattle.std.specs.Prelude.{◌≡◌, ◌⊎◌, ℕ, ◌+◌, ◌*◌, ◌^◌, ◌<◌, ◌≤◌, true, false, List, [], ◌∷◌, ◌++◌, length, slice_get, Option, Some, None}
use Rattle.rv64_isa.specs.State.{Part}
use Rattle.region_forms.specs.Form.{Place, call_value, defined, Arguments, no_arguments, evaluate, store, call, construct, destroy, leave}
use Rattle.region_forms.specs.World.{Base, of_global, of_variable, of_exception, Address, address_in, Frame, World}
use Rattle.linear_forms.specs.Linear.{LinearOp, plain, unexpected, UnitCode}
use Rattle.linear_forms.specs.Stub.{Function, compiled, end_catch, terminating, call_unexpected, linear}
use Rattle.linear_forms.specs.Operation.{wanted_by}
use Rattle.linear_forms.specs.Activation.{Activation}
use Rattle.linear_forms.specs.UnitRun.{code_at}
use Rattle.machine_forms.specs.Registers.{register}
use Rattle.machine_forms.specs.Piece.{Piece, instruction}
use Rattle.machine_forms.specs.Shape.{Shape, return_offset}
use Rattle.machine_forms.specs.KeptCode.{copied, root_register}
use Rattle.machine_forms.specs.PlaceCode.{place_stored}
use Rattle.machine_forms.specs.LinearCode.{linear_code}
use Rattle.machine_forms.specs.Routine.{op_word}
use Rattle.machine_forms.specs.Emitted.{shape_of}
use Rattle.machine_pieces.specs.Memory.{Apart}
use Rattle.machine_pieces.specs.Standing.{address}
use Rattle.machine_pieces.specs.Frames.{AddressAt, FrameHolds}
use Rattle.machine_pieces.specs.Transfers.{lowest_sp}
use Rattle.machine_stubs.specs.Stretches.{frame_size}
use Rattle.machine_simulation.specs.Plan.{Plan, function, shape, slot_kinds, routine, first_word, setting}
use Rattle.machine_simulation.specs.Extents.{newer, SlotsStand}
use Rattle.machine_simulation.specs.StubCalls.{StubWaits, TerminateWaits}

-- What a call's slot may hold the address of: a global, and a variable of that call or of one that is open below it, each of them live; and
-- an exception that was made, which need not be live any more.
abbrev pub HeldBy : Plan → World → ℕ → Base → Type 0
HeldBy p v c (of_global g) = p.live (of_global g) ≡ true
HeldBy p v c (of_variable d s) = (p.live (of_variable d s) ≡ true) × (d ≤ c)
HeldBy p v c (of_exception e) = e ≤ v.last_number

-- an address is of what has begun
abbrev pub IsBegun : World → Base → Type 0
IsBegun v (of_global g) = Unit {0}
IsBegun v (of_variable c s) = c < v.calls
IsBegun v (of_exception e) = e ≤ v.last_number

-- A call of a function with its frame at sp: what its slots hold, and the address that it returns to, apart from all that is live. The
-- frame lies in the stack, where sp was far enough up when it began, and below it are newer calls alone.
pub record CallStands (p : Plan) (n : ℕ) (frame : Frame) (w : World) (memory : List Part) (stack back : ℕ) : Type 0 where
  pub known : n < length p.unit.functions
  pub small : (shape p n).size < 2 ^ 11
  pub above : lowest_sp (shape p n).leaf (shape p n).size ≤ stack + (shape p n).size
  pub below : stack + (shape p n).size ≤ 0x7100_0000
  pub holds : FrameHolds (setting p n) (shape p n) (slot_kinds p n) frame w memory stack
  pub slots : SlotsStand p (shape p n) (slot_kinds p n) frame
  pub held : (s : ℕ) (b : Address) → s < length (shape p n).slots → address_in (frame.slots s) ≡ Some b → HeldBy p w frame.call b.base
  pub saved : AddressAt memory (stack + return_offset) back
  pub alone : (b : Base) → p.live b ≡ true → Apart (p.at b) (p.size b) (stack + return_offset) 8
  pub clear : (b : Base) → p.live b ≡ true → newer frame.call b ≡ false → (p.at b + p.size b ≤ 0x7000_0000) ⊎ (stack ≤ p.at b)

-- a call of a compiled function: its number, the object whose address is passed first, if there is one, and the arguments
pub record CallOf : Type 0 where
  pub number : ℕ
  pub object : Option Place
  pub arguments : Arguments

-- the call that an operation is
abbrev pub call_of : LinearOp → Option CallOf
call_of (plain (evaluate (call_value (defined n) args))) = Some (record { number = n; object = None; arguments = args })
call_of (plain (store q (call_value (defined n) args))) = Some (record { number = n; object = None; arguments = args })
call_of (plain (call (defined n) args)) = Some (record { number = n; object = None; arguments = args })
call_of (plain (construct q n args)) = Some (record { number = n; object = Some q; arguments = args })
call_of (plain (destroy q n)) = Some (record { number = n; object = Some q; arguments = no_arguments })
call_of o = None

-- an operation calls a function: a compiled one, or end_catch, or call_unexpected
abbrev pub IsCalling : LinearOp → Type 0
IsCalling o = ((c : CallOf) × (call_of o ≡ Some c)) ⊎ (o ≡ plain leave) ⊎ ((s : ℕ) × (t : ℕ) × (o ≡ unexpected s t))

-- the pieces that put the value of a call in the register of a kept variable, or in a place of memory
abbrev pub given_in : Shape → Option ℕ → Place → List Piece
given_in f (Some rd) q = instruction (copied rd (register 0)) ∷ []
given_in f None q = place_stored f (register 0) (register 1) q

-- and where it is wanted, if anywhere
abbrev pub stored_in : Shape → Option Place → List Piece
stored_in f None = []
stored_in f (Some q) = given_in f (root_register f q.root) q

-- where an operation wants the value of its call, and its pieces behind the call
abbrev pub wanted : LinearOp → Option Place
wanted o = wanted_by (Some (linear o))

abbrev pub stored_behind : Shape → LinearOp → List Piece
stored_behind f o = stored_in f (wanted o)

-- a call waits at an operation that calls, and what it called returns to the word behind that operation's call
pub record Waits (p : Plan) (n : ℕ) (a : Activation) (w : World) (memory : List Part) (stack back outer : ℕ) : Type 0 where
  pub callee : a.function ≡ compiled n
  pub op : LinearOp
  pub there : slice_get (function p n).ops a.place ≡ Some op
  pub calls : IsCalling op
  pub front : List Piece
  pub is : linear_code (shape p n) op ≡ front ++ stored_behind (shape p n) op
  pub returns : back ≡ address (setting p n).ground (first_word p n + op_word (routine p n) a.place + length front)
  pub stands : CallStands p n a.frame w memory stack outer

-- the word of the first function of a run that main returns to
abbrev pub start_back : Plan → ℕ
start_back p = p.base + 4 * 2

-- where the stack ends
abbrev pub stack_end : ℕ
stack_end = 0x7100_0000

-- the bytes of a function's frame, with those that are hidden between terminate and the calls below it; and of the frames of open calls
abbrev pub frame_of : UnitCode → (hidden : ℕ) → Function → ℕ
frame_of u hidden (compiled n) = (shape_of (code_at u n)).size
frame_of u hidden end_catch = frame_size end_catch
frame_of u hidden call_unexpected = frame_size call_unexpected
frame_of u hidden terminating = frame_size terminating + hidden

abbrev pub frames_bytes : UnitCode → (hidden : ℕ) → List Activation → ℕ
frames_bytes u hidden [] = 0
frames_bytes u hidden (a ∷ fs) = frame_of u hidden a.function + frames_bytes u hidden fs

abbrev pub open_bytes : Plan → List Activation → ℕ
open_bytes p fs = frames_bytes p.unit p.hidden fs

-- The calls that wait, innermost first: the first one's frame begins at `stack`, what it called has the number `limit` and returns to `back`,
-- and each call of a compiled function has a smaller number than the one of such a function above it. The last one was called by the first
-- function of the run, whose sp is at the end of the stack. Below terminate, which never comes back, nothing is asked of the calls but where
-- their frames are.
abbrev pub CallsWait : Plan → List Activation → World → List Part → (stack back limit : ℕ) → Type 0
CallsWait p [] w memory stack back limit = (back ≡ start_back p) × (stack ≡ stack_end)
CallsWait p (a ∷ fs) w memory stack back limit =
    ((a.frame.call < limit) × (n : ℕ) × (outer : ℕ) × Waits p n a w memory stack back outer × CallsWait p fs w memory (stack + (shape p n).size) outer a.frame.call)
    ⊎ ((outer : ℕ) × StubWaits p a w memory stack back outer × CallsWait p fs w memory (stack + frame_size a.function) outer limit)
    ⊎ (TerminateWaits p.base a stack back × (stack + frame_size terminating + p.hidden + open_bytes p fs ≡ stack_end))
