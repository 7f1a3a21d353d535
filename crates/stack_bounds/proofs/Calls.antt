-- A call of a function for which the stack has no room.
use Rattle.std.proofs.Common.{◌≡◌, ◌∙◌, refl, sym, ap, subst, arith, ℕ, ◌+◌, ◌-◌, ◌^◌, ◌<◌, false, List, ◌∷◌, ◌++◌, length, length-append, Some}
use Rattle.rv64_isa.specs.State.{State}
use Rattle.rv64_isa.specs.Step.{x}
use Rattle.cxa_runtime.specs.World as abi
use Rattle.machine_forms.specs.Piece.{Piece, entry}
use Rattle.machine_forms.specs.Registers.{sp}
use Rattle.machine_forms.specs.LinearCode.{linear_code}
use Rattle.machine_forms.specs.CallCode.{function_called}
use Rattle.machine_forms.specs.Routine.{op_word}
use Rattle.machine_forms.specs.Shape.{Shape}
use Rattle.machine_forms.specs.Leaf.{linear_stays}
use Rattle.region_forms.specs.Form.{call_value, defined, evaluate, store, call, construct, destroy}
use Rattle.linear_forms.specs.Linear.{LinearOp, plain}
use Rattle.linear_forms.specs.Stub.{compiled}
use Rattle.machine_pieces.specs.Laws.{AddressesAreComputed}
use Rattle.machine_pieces.specs.Standing.{Ground, address}
use Rattle.machine_pieces.proofs.Fetching.{pieces_split, pieces_still}
use Rattle.machine_pieces.proofs.Framing.{function_calls}
use Rattle.machine_pieces.proofs.Stepping.{steps_then}
use Rattle.machine_pieces.proofs.Turning.{executes_turns}
use Rattle.machine_simulation.specs.Calls.{CallOf, call_of, stored_behind, stack_end, open_bytes}
use Rattle.machine_simulation.specs.Matches.{StackMay, UnitStands, FrameIs}
use Rattle.machine_simulation.specs.Plan.{function, shape, routine, first_word, setting}
use Rattle.machine_simulation.proofs.Asked.{object_stands, arguments_stand}
use Rattle.machine_simulation.proofs.Calling.{all_pass, stack_at}
use Rattle.machine_simulation.proofs.Floors.{caller_above}
use Rattle.machine_simulation.proofs.Taken.{free_at, call_free}
use Rattle.machine_simulation.proofs.Entered.{entry_reached, given_less}
use Rattle.machine_simulation.proofs.Entering.{passing, call_code_of}
use Rattle.machine_simulation.proofs.Matching.{stands_by}
use Rattle.machine_simulation.proofs.Words.{OperationAt, operation_at, even_base}
use Rattle.stack_bounds.specs.Overflow.{RunOverflows, FunctionsOverflow, CallsOverflow}
use Rattle.stack_bounds.proofs.Overflow.{overflows_later}

-- a call is no operation that is done inside its function
call_leaves : (o : LinearOp) (c : CallOf) → call_of o ≡ Some c → linear_stays o ≡ false
call_leaves (plain (evaluate (call_value (defined m) args))) c is = refl
call_leaves (plain (store q (call_value (defined m) args))) c is = refl
call_leaves (plain (call (defined m) args)) c is = refl
call_leaves (plain (construct q m args)) c is = refl
call_leaves (plain (destroy q m)) c is = refl
call_leaves o c is = absurd (cc is)

pub calls_overflow : AddressesAreComputed → FunctionsOverflow → CallsOverflow
calls_overflow addresses overflow image pick k p n st w o c given matches runs there is given_is lacks many =
    let h = stands_by p n st w matches runs in
    let m : ℕ = c.number in
    let f : Shape = shape p n in
    let fm : Shape = shape p m in
    let g : Ground = (setting p n).ground in
    let here : ℕ = first_word p n + op_word (routine p n) st.top.place in
    let s : State = w.hart in
    let whole_stack : x s sp + open_bytes p (st.top ∷ st.frames) ≡ stack_end = stack_at p n st w matches.back h in
    let stood = operation_at p s.memory n st.top.place o h.memory.unit h.memory.top.known there in
    let code = call_code_of f o c is (h.memory.unit.registers n st.top.place o there) in
    let front : List Piece = passing f c in
    let call : List Piece = function_called (compiled m) in
    let behind : List Piece = stored_behind f o in
    let own : OperationAt p s.memory n st.top.place (front ++ (call ++ behind)) = subst (OperationAt p s.memory n st.top.place) code.pieces stood in
    let sum : length (front ++ (call ++ behind)) ≡ length front + (2 + length behind) = length-append front (call ++ behind) ∙ omega arith in
    let total : length (linear_code f o) ≡ length front + (2 + length behind) = ap length code.pieces ∙ sum in
    let parts = pieces_split s.memory g here front (call ++ behind) own.code in
    let calls = pieces_split s.memory g (here + length front) call behind parts.1 in
    let frame_is : FrameIs (function p m) = h.memory.unit.frames m lacks.known in
    let most = given_less p m given frame_is lacks.passed lacks.words in
    let short : length front < 2 ^ 18 = omega (arith, own.inside, sum, h.memory.unit.short n h.memory.top.known) in
    let floor = caller_above p n st.top.place st.top.frame st.world s.memory (x s sp) matches.back o there (call_leaves o c is) h.memory.top in
    let free = call_free p n o c is (free_at p n st.top.place o there) in
    let passes = all_pass addresses p n st.top.frame st.frames st.world matches.back here c.object c.arguments given s h.memory h.kept.top.keeps h.registers h.pc parts.0 short
    (object_stands p n st.top.frame st.world s.memory (x s sp) matches.back h.memory.top c.object free.object lacks.object) (arguments_stand p n st.top.frame st.world s.memory (x s sp) matches.back h.memory.top c.arguments free.arguments lacks.arguments) code.fits given_is
    (omega (arith, most, frame_is.small)) (omega (arith, most, frame_is.small, floor)) in
    let s1 : State = passes.after in
    let first : ℕ = address (setting p m).ground (first_word p m) in
    let held = passes.memory in
    let even = even_base p s1.memory held.unit in
    let called = function_calls g (here + length front) first (entry (compiled m)) s1 (pieces_still s.memory s1.memory g (here + length front) call passes.written calls.0) passes.pc passes.registers
    (entry_reached p n m s1.memory held.unit lacks.known) (omega (arith, even)) (omega (arith, (held.unit.functions m lacks.known).0.word.below)) in
    let s2 : State = called.after in
    let ran = executes_turns image (passes.steps + 2) w s s2 refl (steps_then passes.steps 2 s s1 s2 passes.runs called.runs) in
    let v : abi.World = ran.after in
    let stack : x v.hart sp ≡ x s sp = ap (λ (y : State). x y sp) ran.hart ∙ called.kept sp (λ e. absurd (omega (arith, e))) ∙ passes.stack in
    let memory : v.hart.memory ≡ s1.memory = ap (λ (y : State). y.memory) ran.hart ∙ called.memory in
    let left : ℕ = k - (passes.steps + 2) in
    let count : k ≡ passes.steps + 2 + left = omega (arith, passes.most, total, many) in
    let last = overflow image pick left p m v (record {
      known = lacks.known;
      looks = lacks.looks;
      registers = ap (λ (y : State). length y.regs) ran.hart ∙ called.registers;
      pc = ap (λ (y : State). y.pc) ran.hart ∙ called.pc;
      aligned = omega (arith, stack, h.memory.top.saved.aligned);
      above = omega (arith, stack, floor, frame_is.small);
      short = omega (arith, stack, whole_stack, lacks.lacks);
      below = omega (arith, stack, whole_stack);
      unit = subst (UnitStands p) (sym memory) held.unit;
      may = subst StackMay (sym memory) held.may;
    }) (omega (arith, passes.most, total, many, count)) in
    subst (λ i. RunOverflows image pick i w) (sym count) (overflows_later image pick (passes.steps + 2) left w v (ran.turns.run pick left) last)
