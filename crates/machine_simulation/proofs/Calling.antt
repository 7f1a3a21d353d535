-- A call of a compiled function is matched.
use Rattle.std.proofs.Common.{◌≡◌, ◌∙◌, refl, sym, ap, subst, arith, ℕ, ◌+◌, ◌-◌, ◌*◌, ◌^◌, ◌<◌, ◌≤◌, List, [], ◌∷◌, ◌++◌, length, length-append, append_assoc, Option, Some, None, inl, inr}
use Rattle.std.specs.Prelude.{◌⊎◌, slice_get}
use Rattle.rv64_isa.specs.State.{State, Part, with_value}
use Rattle.rv64_isa.specs.Step.{x}
use Rattle.cxa_runtime.specs.World as abi
use Rattle.cxa_runtime.specs.Raising.{Image}
use Rattle.region_forms.specs.Form.{Place, Arguments}
use Rattle.region_forms.specs.World.{Address, Word, address_word, Frame, World}
use Rattle.region_forms.specs.Evaluation.{with_some, address_of, words_in}
use Rattle.region_forms.specs.Effect.{new_frame, new_world}
use Rattle.linear_forms.specs.Linear.{LinearOp}
use Rattle.linear_forms.specs.Stub.{Function, compiled, end_catch, call_unexpected}
use Rattle.linear_forms.specs.Activation.{Activation, State as LinearState, goes_to, depth_of}
use Rattle.linear_forms.specs.Machine.{step}
use Rattle.linear_forms.specs.UnitRun.{code_of}
use Rattle.machine_forms.specs.Bounds.{ArgumentsFit}
use Rattle.machine_forms.specs.Registers.{sp, a0, saved_registers}
use Rattle.machine_forms.specs.KeptCode.{saves}
use Rattle.machine_forms.specs.Piece.{Piece}
use Rattle.machine_forms.specs.Shape.{Shape, return_offset}
use Rattle.machine_forms.specs.PlaceCode.{place_address}
use Rattle.machine_forms.specs.CallCode.{passed, arguments_passed, function_called}
use Rattle.machine_forms.specs.LinearCode.{linear_code}
use Rattle.machine_forms.specs.Routine.{op_word}
use Rattle.machine_pieces.specs.Standing.{Ground, address, PiecesAt}
use Rattle.machine_pieces.specs.Memory.{Holds}
use Rattle.machine_pieces.specs.Keeping.{saved_of, KeptHolds, AreSmall}
use Rattle.machine_pieces.specs.Transfers.{lowest_sp, entry_steps}
use Rattle.machine_pieces.specs.Frames.{byte_of}
use Rattle.machine_pieces.proofs.Storing.{holds_apart}
use Rattle.machine_pieces.specs.Laws.{AddressesAreComputed}
use Rattle.machine_pieces.proofs.Fetching.{pieces_split, pieces_still}
use Rattle.machine_pieces.proofs.Stepping.{steps_then}
use Rattle.machine_stubs.specs.Stretches.{frame_size}
use Rattle.machine_simulation.specs.Plan.{Plan, function, shape, slot_kinds, routine, first_word, setting}
use Rattle.machine_simulation.specs.StubCalls.{DestructorWaits, UnexpectedWaits, LeavingWaits, StubWaits}
use Rattle.machine_simulation.specs.Calls.{HeldBy, CallOf, call_of, stored_behind, stack_end, CallsWait, frame_of, open_bytes}
use Rattle.machine_simulation.specs.Exceptions.{LinearExceptions, addresses_of, exceptions_in, kept_by, destroyed, ExceptionsMatch, PlanHas}
use Rattle.machine_simulation.specs.KeptCalls.{kept_of, KeptCalls}
use Rattle.machine_simulation.specs.Matches.{RuntimeMatches, FrameIs, MemoryMatches, Matches}
use Rattle.machine_simulation.specs.Operations.{Matched}
use Rattle.machine_simulation.specs.Entering.{opened, frame_for, ObjectStands, ArgumentsStand, with_object, given_to, CallFits, entry_turns, CallsRun}
use Rattle.machine_simulation.proofs.Asked.{object_stands, arguments_stand}
use Rattle.machine_simulation.proofs.Held.{address_held, address_below}
use Rattle.machine_simulation.proofs.Words.{OperationAt, operation_at, word_below}
use Rattle.machine_simulation.proofs.Matching.{Stands, stands_by, Arrives, matched}
use Rattle.machine_simulation.proofs.Passing.{address_passed, Passes, word_passed, passes_then, arguments_pass}
use Rattle.machine_simulation.proofs.Given.{same_beside, number_beside}
use Rattle.machine_simulation.proofs.Closing.{destroyed_nothing}
use Rattle.machine_simulation.proofs.KeptSlots.{ready_of}
use Rattle.machine_simulation.proofs.KeptCalls.{call_behind}
use Rattle.machine_simulation.proofs.KeptOpened.{opened_registers}
use Rattle.machine_simulation.proofs.KeptEntered.{BegunCall, begins_saved}
use Rattle.machine_simulation.proofs.Taken.{call_free, free_at}
use Rattle.machine_simulation.proofs.Floors.{lowest_floor, begin_above}
use Rattle.machine_simulation.proofs.Beneath.{Begins}
use Rattle.machine_simulation.proofs.Opening.{call_opened, waits_opened}
use Rattle.machine_simulation.proofs.Entering.{call_step, object_passed, before, passing, CallCode, call_code_of}
use Rattle.machine_simulation.proofs.Entered.{CalleeEntered, callee_entered, given_less, call_begins}

-- ---- what is passed

-- the object's address, then the arguments
pub all_pass : AddressesAreComputed → (p : Plan) (n : ℕ) (frame : Frame) (fs : List Activation) (v : World) (back here : ℕ) (object : Option Place) (args : Arguments) (given : List Word) (s : State) →
    MemoryMatches p n frame fs v s.memory (x s sp) back → KeptHolds (kept_of p n) frame v (saved_of s) → length s.regs ≡ 32 → s.pc ≡ address (setting p n).ground here →
    PiecesAt s.memory (setting p n).ground here (object_passed (shape p n) object ++ arguments_passed (shape p n) (before object) args) →
    length (object_passed (shape p n) object ++ arguments_passed (shape p n) (before object) args) < 2 ^ 18 → ObjectStands p n frame object → ArgumentsStand p n frame v args →
    ArgumentsFit 0 0 args → with_object object (slot_kinds p n) frame (words_in (slot_kinds p n) frame v args) ≡ Some given →
    8 * length given < 2 ^ 11 → 0x7000_0000 + 8 * length given ≤ x s sp →
    Passes p n frame fs v back here (length (object_passed (shape p n) object ++ arguments_passed (shape p n) (before object) args)) 0 given s
all_pass addresses p n frame fs v back here None args given s h keeps regs at code short object stands few is small room =
    arguments_pass addresses p n frame fs v back here 0 args given s h keeps regs at code short stands few is (omega (arith, small)) (omega (arith, room))
all_pass addresses p n frame fs v back here (Some q) args given s h keeps regs at code short object stands few is small room =
    by (address_of (slot_kinds p n) frame q) (words_in (slot_kinds p n) frame v args) refl refl is
  where
    by : (o : Option Address) (os : Option (List Word)) → address_of (slot_kinds p n) frame q ≡ o → words_in (slot_kinds p n) frame v args ≡ os →
        with_some o (λ b. with_some os (λ ws. Some (address_word b ∷ ws))) ≡ Some given →
        Passes p n frame fs v back here (length (object_passed (shape p n) (Some q) ++ arguments_passed (shape p n) 1 args)) 0 given s
    by None os e es got = absurd (cc got)
    by (Some b) None e es got = absurd (cc got)
    by (Some b) (Some others) e es got =
        let same : address_word b ∷ others ≡ given = cc got in
        let count : length given ≡ length others + 1 = ap length (sym same) ∙ omega arith in
        let g : Ground = (setting p n).ground in
        let front : List Piece = place_address (shape p n) a0 q in
        let first_pieces : List Piece = front ++ passed a0 0 ∷ [] in
        let rear : List Piece = arguments_passed (shape p n) 1 args in
        let sum : length (first_pieces ++ rear) ≡ length first_pieces + length rear = length-append first_pieces rear in
        let one : length first_pieces ≡ length front + 1 = length-append front (passed a0 0 ∷ []) in
        let parts = pieces_split s.memory g here first_pieces rear code in
        let heads = pieces_split s.memory g here front (passed a0 0 ∷ []) parts.0 in
        let ready = ready_of p n frame v s regs h.top.holds keeps in
        let may_hold : HeldBy p v frame.call b.base = address_held p n frame v s.memory (x s sp) back h.top q b object.0 object.1 e in
        let below : byte_of (setting p n) b < 2 ^ 64 = address_below p n frame fs v s.memory (x s sp) back b h may_hold (object.2 b e) in
        let value = addresses.place (setting p n) (shape p n) (slot_kinds p n) frame v 0 here s q b ready (omega arith) object.0 heads.0 at below e in
        let first = word_passed p n frame fs v back here (length front) 0 (address_word b) a0 s value.goes value.is (address_passed (setting p n) b below)
        (λ d is. let eq : b ≡ d = cc is in subst (λ (k : Address). HeldBy p v frame.call k.base) eq may_hold) h (omega (arith, small, count)) (omega (arith, room, count)) heads.1.0 in
        let m : State = first.after in
        let code_m : PiecesAt m.memory g (here + (length front + 1)) rear
        = subst (λ k. PiecesAt m.memory g k rear) (omega (arith, one)) (pieces_still s.memory m.memory g (here + length first_pieces) rear first.written parts.1) in
        let memory_m : MemoryMatches p n frame fs v m.memory (x m sp) back = subst (λ a. MemoryMatches p n frame fs v m.memory a back) (sym first.stack) first.memory in
        let keeps_m : KeptHolds (kept_of p n) frame v (saved_of m) = subst (λ rs. KeptHolds (kept_of p n) frame v rs) (sym first.saved) keeps in
        let rest = arguments_pass addresses p n frame fs v back (here + (length front + 1)) (0 + 1) args others m memory_m keeps_m first.registers first.pc code_m (omega (arith, short, sum)) stands few es
        (omega (arith, small, count)) (omega (arith, room, count, first.stack)) in
        let all = passes_then p n frame fs v back here (length front + 1) (length rear) 0 (address_word b) others s first (omega (arith, room, count)) rest in
        subst (λ ws. Passes p n frame fs v back here (length (first_pieces ++ rear)) 0 ws s) same
        (subst (λ k. Passes p n frame fs v back here k 0 (address_word b ∷ others) s) (omega (arith, sum, one)) all)

-- ---- where sp is

-- one of the runtime's own functions that waits and comes back takes its frame
stub_bytes_are : (p : Plan) (a : Activation) (v : World) (memory : List Part) (stack back outer : ℕ) → StubWaits p a v memory stack back outer → frame_of p.unit p.hidden a.function ≡ frame_size a.function
stub_bytes_are p a v memory stack back outer h = by h.waits
  where
    own : (f : Function) → a.function ≡ f → frame_of p.unit p.hidden f ≡ frame_size f → frame_of p.unit p.hidden a.function ≡ frame_size a.function
    own f is e = subst (λ g. frame_of p.unit p.hidden g ≡ frame_size g) (sym is) e

    by : DestructorWaits p a v memory stack back ⊎ UnexpectedWaits p a v memory stack back ⊎ LeavingWaits p a v memory stack back → frame_of p.unit p.hidden a.function ≡ frame_size a.function
    by (inl w) = own end_catch w.callee refl
    by (inr (inl w)) = own call_unexpected w.callee refl
    by (inr (inr w)) = own call_unexpected w.callee refl

waiting_end : (p : Plan) (fs : List Activation) (v : World) (memory : List Part) (stack back limit : ℕ) → CallsWait p fs v memory stack back limit → stack + open_bytes p fs ≡ stack_end
waiting_end p [] v memory stack back limit h = omega (arith, h.1)
waiting_end p (a ∷ fs) v memory stack back limit (inl h) =
    omega (arith, waiting_end p fs v memory (stack + (shape p h.1).size) h.2 a.frame.call h.4, ap (frame_of p.unit p.hidden) h.3.callee)
waiting_end p (a ∷ fs) v memory stack back limit (inr (inl h)) =
    omega (arith, waiting_end p fs v memory (stack + frame_size a.function) h.0 limit h.2, stub_bytes_are p a v memory stack back h.0 h.1)
waiting_end p (a ∷ fs) v memory stack back limit (inr (inr h)) = omega (arith, h.1, ap (frame_of p.unit p.hidden) h.0.callee)

pub stack_at : (p : Plan) (n : ℕ) (st : LinearState) (w : abi.World) (back : ℕ) → Stands p n st w back → x w.hart sp + open_bytes p (st.top ∷ st.frames) ≡ stack_end
stack_at p n st w back h =
    omega (arith, waiting_end p st.frames st.world w.hart.memory (x w.hart sp + (shape p n).size) back st.top.frame.call h.memory.waiting, ap (frame_of p.unit p.hidden) h.runs)

-- ---- a call

pub same_next : (a b : LinearState) → goes_to a ≡ goes_to b → a ≡ b
same_next a b e = cc e

-- a call begins
pub runtime_opened : (p : Plan) (m low : ℕ) (fs : List Activation) (given : List Word) (d : ℕ) (v : World) (w : abi.World) → RuntimeMatches p fs v w →
    RuntimeMatches (opened p m v.calls low) fs (new_world (slot_kinds p m) given d v) w
runtime_opened p m low fs given d v w h =
    let same = same_beside (slot_kinds p m) v.calls 0 given v in
    record {
      input = h.input ∙ sym same.input;
      replies = h.replies ∙ sym same.replies;
      last_number = h.last_number ∙ ap (λ (e : LinearExceptions). e.last_number) (sym same.kept);
      terminating = h.terminating ∙ sym same.ending;
      exceptions = subst (λ es. ExceptionsMatch (addresses_of p) (destroyed fs) es (kept_by w)) (sym same.kept) h.exceptions;
      plan = subst (PlanHas (opened p m v.calls low)) (ap (λ (e : LinearExceptions). e.live) (sym same.kept)) (record { live = h.plan.live; size = h.plan.size; ints = h.plan.ints });
    }

-- a call of a compiled function waits
pub runtime_pushed : (p : Plan) (n : ℕ) (a : Activation) (fs : List Activation) (v : World) (w : abi.World) → a.function ≡ compiled n → RuntimeMatches p fs v w → RuntimeMatches p (a ∷ fs) v w
runtime_pushed p n a fs v w callee h = record {
  input = h.input;
  replies = h.replies;
  last_number = h.last_number;
  terminating = h.terminating;
  exceptions = subst (λ ds. ExceptionsMatch (addresses_of p) ds (exceptions_in v) (kept_by w)) (ap (λ ds. ds ++ destroyed fs) (sym (destroyed_nothing p n a callee))) h.exceptions;
  plan = h.plan;
}

-- where the new call is
abbrev pub enters_to : Plan → ℕ → List Word → LinearState → LinearState
enters_to p m given st = record {
  top = record { function = compiled m; place = 0; frame = new_frame (slot_kinds p m) given st.world };
  frames = st.top ∷ st.frames;
  world = new_world (slot_kinds p m) given (depth_of (st.top ∷ st.frames) + 1) st.world;
}

-- the words are passed, and then the function is entered
record AllPassed (p : Plan) (n m here : ℕ) (st : LinearState) (back : ℕ) (given : List Word) (front : List Piece) (s : State) : Type 0 where
  passes : Passes p n st.top.frame st.frames st.world back here (length front) 0 given s
  enters : CalleeEntered p n m (here + length front) passes.after

-- bytes of the caller's frame and above keep what they hold
above_still : (p : Plan) (n m here : ℕ) (st : LinearState) (back : ℕ) (given : List Word) (front : List Piece) (s : State) → (shape p m).size + 0x7000_0000 ≤ x s sp → 16 ≤ (shape p m).size → (h : AllPassed p n m here st back given front s) →
    (b k z : ℕ) → x s sp ≤ b → Holds s.memory b k z → Holds h.enters.after.memory b k z
above_still p n m here st back given front s floor size h b k z high held =
    let place : ℕ = x h.passes.after sp - (shape p m).size + return_offset in
    let first : Holds h.passes.after.memory b k z = h.passes.above b k z (omega (arith, high)) held in
    subst (λ ps. Holds ps b k z) (sym h.enters.memory)
    (holds_apart h.passes.after.memory place 8 (address (setting p n).ground (here + length front + 2)) b k z (λ i j hi hj e. absurd (omega (arith, h.passes.stack, floor, size, high, hi, e))) first)

-- the call begins, and its caller waits
call_begun : (p : Plan) (n : ℕ) (st : LinearState) (w : abi.World) (o : LinearOp) (c : CallOf) (given : List Word) (back : ℕ) → Stands p n st w back →
    slice_get (function p n).ops st.top.place ≡ Some o → call_of o ≡ Some c → CallFits p n st.top.frame st.world (st.top ∷ st.frames) c given → CallCode (shape p n) o c →
    lowest_sp (shape p c.number).leaf (shape p c.number).size ≤ x w.hart sp → (h : AllPassed p n c.number (first_word p n + op_word (routine p n) st.top.place) st back given (passing (shape p n) c) w.hart) →
    address (setting p n).ground (first_word p n + op_word (routine p n) st.top.place + length (passing (shape p n) c) + 2) < 2 ^ 64 → let t = h.enters.after in let d = depth_of (st.top ∷ st.frames) + 1 in
    BegunCall (opened p c.number st.world.calls (x t sp)) c.number (new_frame (slot_kinds p c.number) given st.world) (st.top ∷ st.frames) (new_world (slot_kinds p c.number) given d st.world)
    (address (setting p n).ground (first_word p n + op_word (routine p n) st.top.place + length (passing (shape p n) c) + 2)) (length (saves (shape p c.number) (function p c.number).parameters saved_registers (shape p c.number).kept)) t
call_begun p n st w o c given back stood there is fits code room h small =
    let m : ℕ = c.number in
    let m1 : State = h.passes.after in
    let t : State = h.enters.after in
    let s : State = w.hart in
    let stack : ℕ = x s sp in
    let low : ℕ = stack - (shape p m).size in
    let front : List Piece = passing (shape p n) c ++ function_called (compiled m) in
    let behind : List Piece = stored_behind (shape p n) o in
    let pieces : linear_code (shape p n) o ≡ front ++ behind = code.pieces ∙ sym (append_assoc (passing (shape p n) c) (function_called (compiled m)) behind) in
    let here : ℕ = first_word p n + op_word (routine p n) st.top.place + length (passing (shape p n) c) + 2 in
    let ret : ℕ = address (setting p n).ground here in
    let new : List Part = with_value m1.memory (low + return_offset) 8 ret in
    let begun = call_begins p n m here st.top.frame st.frames st.world back given m1.memory stack h.passes.memory fits.known room h.passes.passed h.passes.held fits.passed fits.taken fits.words small in
    let memory : t.memory ≡ new = h.enters.memory ∙ ap (λ a. with_value m1.memory (a - (shape p m).size + return_offset) 8 ret) h.passes.stack in
    let pointer : x t sp ≡ low = h.enters.stack ∙ ap (λ a. a - (shape p m).size) h.passes.stack in
    let saved : saved_of t ≡ saved_of s = h.enters.saved ∙ h.passes.saved in
    let under : MemoryMatches p n st.top.frame st.frames st.world t.memory stack back = subst (λ ps. MemoryMatches p n st.top.frame st.frames st.world ps stack back) (sym memory) begun.0 in
    let begins : Begins p n m st.world t.memory stack (x t sp) ret given
    = subst (λ a. Begins p n m st.world t.memory stack a ret given) (sym pointer) (subst (λ ps. Begins p n m st.world ps stack low ret given) (sym memory) begun.1) in
    let q : Plan = opened p m st.world.calls (x t sp) in
    let d : ℕ = depth_of (st.top ∷ st.frames) + 1 in
    let u : World = new_world (slot_kinds p m) given d st.world in
    let frame_is : FrameIs (function p m) = under.unit.frames m fits.known in
    let floor = lowest_floor (shape p m).leaf (shape p m).size stack frame_is.small room in
    let later : st.world.last_number ≤ u.last_number = omega (arith, number_beside (slot_kinds p m) st.world.calls 0 given st.world) in
    let room_t : x t sp + (shape p m).size ≤ stack = omega (arith, pointer, floor) in
    let registers = opened_registers p m (x t sp) n st.top.frame st.frames st.world given d s.memory t.memory stack back (saved_of s) frame_is room_t
    (above_still p n m (first_word p n + op_word (routine p n) st.top.place) st back given (passing (shape p n) c) s (omega (arith, floor)) (omega (arith, frame_is.size)) h) stood.memory stood.kept in
    let waiting : KeptCalls q (st.top ∷ st.frames) u t.memory stack (saved_of s)
    = call_behind q st.top.frame u t.memory stack (saved_of s) (λ next outer. KeptCalls q st.frames u t.memory next outer) st.top.function n stood.runs (registers.before, registers.top, registers.waiting) in
    begins_saved p n m st.world stack ret given d (st.top ∷ st.frames) t begins h.enters.registers h.enters.pc (subst AreSmall (sym saved) stood.kept.small)
    (λ ints. inl (
      under.newest,
      n,
      back,
      record {
        callee = stood.runs;
        op = o;
        there = there;
        calls = inl (c, is);
        front = front;
        is = pieces;
        returns = omega (arith, length-append (passing (shape p n) c) (function_called (compiled m)));
        stands = call_opened p m st.world.calls (x t sp) n st.top.frame st.world u t.memory stack back frame_is later under.newest room_t ints under.top;
      },
      waits_opened p m st.world.calls (x t sp) st.frames st.world u t.memory (stack + (shape p n).size) back st.top.frame.call frame_is later (omega (arith, under.newest)) (omega (arith, room_t)) ints under.waiting,
    )) (subst (λ rs. KeptCalls q (st.top ∷ st.frames) u t.memory stack rs) (sym saved) waiting)

call_runs : AddressesAreComputed → (image : Image) (p : Plan) (n : ℕ) (st next : LinearState) (w : abi.World) (o : LinearOp) (c : CallOf) (given : List Word) (back : ℕ) → Stands p n st w back →
    slice_get (function p n).ops st.top.place ≡ Some o → call_of o ≡ Some c → given_to (slot_kinds p n) st.top.frame st.world c ≡ Some given →
    CallFits p n st.top.frame st.world (st.top ∷ st.frames) c given → step (code_of p.unit) st ≡ goes_to next →
    Matched image (length (linear_code (shape p n) o) + entry_turns p c.number) w [] (λ v. Matches (opened p c.number st.world.calls (frame_for p c.number (st.top ∷ st.frames))) next v)
call_runs addresses image p n st next w o c given back h there is given_is fits e =
    let m : ℕ = c.number in
    let f : Shape = shape p n in
    let fm : Shape = shape p m in
    let g : Ground = (setting p n).ground in
    let here : ℕ = first_word p n + op_word (routine p n) st.top.place in
    let s : State = w.hart in
    let frame_is : FrameIs (function p m) = h.memory.unit.frames m fits.known in
    let whole_stack : x s sp + open_bytes p (st.top ∷ st.frames) ≡ stack_end = stack_at p n st w back h in
    let room : lowest_sp fm.leaf fm.size ≤ x s sp = begin_above fm.leaf fm.size (open_bytes p (st.top ∷ st.frames)) (x s sp) whole_stack fits.room in
    let floor = lowest_floor fm.leaf fm.size (x s sp) frame_is.small room in
    let low_is : x s sp - fm.size ≡ frame_for p m (st.top ∷ st.frames) = omega (arith, whole_stack) in
    let stood = operation_at p s.memory n st.top.place o h.memory.unit h.memory.top.known there in
    let code = call_code_of f o c is (h.memory.unit.registers n st.top.place o there) in
    let front : List Piece = passing f c in
    let call : List Piece = function_called (compiled m) in
    let behind : List Piece = stored_behind f o in
    let own : OperationAt p s.memory n st.top.place (front ++ (call ++ behind)) = subst (OperationAt p s.memory n st.top.place) code.pieces stood in
    let sum : length (front ++ (call ++ behind)) ≡ length front + (2 + length behind) = length-append front (call ++ behind) ∙ omega arith in
    let total : length (linear_code f o) ≡ length front + (2 + length behind) = ap length code.pieces ∙ sum in
    let parts = pieces_split s.memory g here front (call ++ behind) own.code in
    let calls = pieces_split s.memory g (here + length front) call behind parts.1 in
    let most = given_less p m given frame_is fits.passed fits.words in
    let short : length front < 2 ^ 18 = omega (arith, own.inside, sum, h.memory.unit.short n h.memory.top.known) in
    let ret_below : address g (here + length front + 2) < 2 ^ 64 = omega (arith, word_below p s.memory n st.top.place (front ++ (call ++ behind)) h.memory.unit h.memory.top.known own, sum) in
    let free = call_free p n o c is (free_at p n st.top.place o there) in
    let passes = all_pass addresses p n st.top.frame st.frames st.world back here c.object c.arguments given s h.memory h.kept.top.keeps h.registers h.pc parts.0 short
    (object_stands p n st.top.frame st.world s.memory (x s sp) back h.memory.top c.object free.object fits.object) (arguments_stand p n st.top.frame st.world s.memory (x s sp) back h.memory.top c.arguments free.arguments fits.arguments) code.fits given_is
    (omega (arith, most, frame_is.small)) (omega (arith, most, floor)) in
    let next_is : enters_to p m given st ≡ next = same_next (enters_to p m given st) next (call_step p n st next o c given h.runs there is given_is e) in
    both passes calls.0 room low_is code next_is ret_below total
  where
    both : (passes : Passes p n st.top.frame st.frames st.world back (first_word p n + op_word (routine p n) st.top.place) (length (passing (shape p n) c)) 0 given w.hart) →
        PiecesAt w.hart.memory (setting p n).ground (first_word p n + op_word (routine p n) st.top.place + length (passing (shape p n) c)) (function_called (compiled c.number)) →
        lowest_sp (shape p c.number).leaf (shape p c.number).size ≤ x w.hart sp → x w.hart sp - (shape p c.number).size ≡ frame_for p c.number (st.top ∷ st.frames) → CallCode (shape p n) o c → enters_to p c.number given st ≡ next →
        address (setting p n).ground (first_word p n + op_word (routine p n) st.top.place + length (passing (shape p n) c) + 2) < 2 ^ 64 →
        length (linear_code (shape p n) o) ≡ length (passing (shape p n) c) + (2 + length (stored_behind (shape p n) o)) →
        Matched image (length (linear_code (shape p n) o) + entry_turns p c.number) w [] (λ v. Matches (opened p c.number st.world.calls (frame_for p c.number (st.top ∷ st.frames))) next v)
    both passes pieces room low_is code next_is below total =
        let m : ℕ = c.number in
        let m1 : State = passes.after in
        let here : ℕ = first_word p n + op_word (routine p n) st.top.place + length (passing (shape p n) c) in
        let enters = callee_entered p n m here st.top.frame st.frames st.world back m1 (subst (λ a. MemoryMatches p n st.top.frame st.frames st.world m1.memory a back) (sym passes.stack) passes.memory)
        passes.registers passes.pc (pieces_still w.hart.memory m1.memory (setting p n).ground here (function_called (compiled m)) passes.written pieces) fits.known
        (subst (λ a. lowest_sp (shape p m).leaf (shape p m).size ≤ a) (sym passes.stack) room) in
        let t : State = enters.after in
        let begun = call_begun p n st w o c given back h there is fits code room (record { passes = passes; enters = enters }) below in
        let low_t : x t sp ≡ frame_for p m (st.top ∷ st.frames) = enters.stack ∙ ap (λ a. a - (shape p m).size) passes.stack ∙ low_is in
        let q : Plan = opened p m st.world.calls (x t sp) in
        let ret : ℕ = address (setting p n).ground (here + 2) in
        let there_u : Arrives q m (enters_to p m given st) ret begun.after = record { runs = refl; registers = begun.registers; pc = begun.pc; memory = begun.memory; kept = begun.kept } in
        let arrives : Arrives q m next ret begun.after = subst (λ y. Arrives q m y ret begun.after) next_is there_u in
        let runtime = subst (λ (y : LinearState). RuntimeMatches q y.frames y.world w) next_is
        (runtime_opened p m (x t sp) (st.top ∷ st.frames) given (depth_of (st.top ∷ st.frames) + 1) st.world w (runtime_pushed p n st.top st.frames st.world w h.runs h.runtime)) in
        let taken : ℕ = 2 + entry_steps (shape p m).leaf in
        let words : ℕ = length (saves (shape p m) (function p m).parameters saved_registers (shape p m).kept) in
        let all : ℕ = length (linear_code (shape p n) o) + entry_turns p m in
        subst (λ a. Matched image all w [] (λ v. Matches (opened p m st.world.calls a) next v)) low_t
        (matched image q m next w ret all (passes.steps + taken + words) begun.after (omega (arith, passes.most, total)) (λ some. omega arith)
        (steps_then (passes.steps + taken) words w.hart t begun.after (steps_then passes.steps taken w.hart m1 t passes.runs enters.runs) begun.runs) arrives runtime)

pub calls_run : AddressesAreComputed → CallsRun
calls_run addresses image p n st next w o c given h runs there is given_is fits e = call_runs addresses image p n st next w o c given h.back (stands_by p n st w h runs) there is given_is fits e
