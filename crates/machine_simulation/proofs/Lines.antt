-- A line is written alike.
use Rattle.std.proofs.Common.{◌≡◌, ◌∙◌, refl, sym, ap, subst, arith, ℕ, ◌+◌, ◌^◌, ◌<◌, ◌≤◌, ℤ, List, [], ◌∷◌, ◌++◌, length, length-append, append-nil, Option, Some, None, inl, inr}
use Rattle.std.specs.Prelude.{slice_get}
use Rattle.cxx_ast.specs.declared.name.Builtin.TheVariants.{WriteInt}
use Rattle.run_items.specs.declared.item.Item.TheVariants.{Line}
use Rattle.rv64_isa.specs.declared.step.Step.TheVariants.{Ecall}
use Rattle.rv64_isa.specs.State.{State, Part}
use Rattle.rv64_isa.specs.Step.{step_of, x}
use Rattle.cxa_runtime.specs.World as abi
use Rattle.cxa_runtime.specs.Raising.{Image}
use Rattle.region_forms.specs.Form.{Value, call_value, builtin, int_argument, no_arguments, argument_then, Op, evaluate, call}
use Rattle.region_forms.specs.World.{of_variable, of_exception, number_word, Frame, World, with_item}
use Rattle.region_forms.specs.Evaluation.{with_some, value_in, words_in}
use Rattle.region_forms.specs.Effect.{goes, if_some, number_at}
use Rattle.linear_forms.specs.Linear.{LinearOp, plain}
use Rattle.linear_forms.specs.Stub.{compiled}
use Rattle.linear_forms.specs.Activation.{Activation, State as LinearState, goes_to}
use Rattle.linear_forms.specs.Machine.{step}
use Rattle.linear_forms.specs.Operation.{performed}
use Rattle.linear_forms.specs.UnitRun.{code_of}
use Rattle.machine_forms.specs.Bounds.{LinearFits}
use Rattle.machine_forms.specs.Registers.{sp, a0, register}
use Rattle.machine_forms.specs.Piece.{Piece}
use Rattle.machine_forms.specs.Shape.{Shape}
use Rattle.machine_forms.specs.RuntimeCall.{runtime_call}
use Rattle.machine_forms.specs.ValueCode.{needs, value_code}
use Rattle.machine_forms.specs.LinearCode.{linear_code}
use Rattle.machine_forms.specs.Routine.{op_word}
use Rattle.machine_pieces.specs.Numbers.{extended}
use Rattle.machine_pieces.specs.Standing.{Ground}
use Rattle.machine_pieces.specs.Keeping.{saved_of}
use Rattle.machine_pieces.specs.RuntimeCalls.{AtCall}
use Rattle.machine_pieces.proofs.Keeping.{kept_saved, same_saved}
use Rattle.machine_pieces.specs.Frames.{ValueStands}
use Rattle.machine_pieces.specs.Turning.{after_line}
use Rattle.machine_pieces.specs.Laws.{CallsAreTurns}
use Rattle.machine_pieces.proofs.Fetching.{pieces_split}
use Rattle.machine_pieces.proofs.Stepping.{steps_then}
use Rattle.machine_pieces.proofs.Going.{kept_low}
use Rattle.machine_pieces.proofs.Values.{code_after}
use Rattle.machine_pieces.proofs.Testing.{values_are_computed}
use Rattle.machine_pieces.proofs.Turning.{turns_then, executes_turns, write_turns}
use Rattle.machine_simulation.specs.Plan.{Plan, function, shape, slot_kinds, routine, first_word, setting}
use Rattle.machine_simulation.specs.Calls.{CallStands}
use Rattle.machine_simulation.specs.KeptCalls.{RegistersMatch}
use Rattle.machine_simulation.specs.Matches.{MemoryMatches, Matches}
use Rattle.machine_simulation.proofs.KeptSlots.{kept_slot}
use Rattle.machine_simulation.proofs.KeptCalls.{kept_alone}
use Rattle.machine_simulation.proofs.KeptStores.{registers_still}
use Rattle.machine_simulation.specs.Operations.{Matched}
use Rattle.machine_simulation.specs.Lines.{Writes, LinesRun}
use Rattle.machine_simulation.proofs.Asked.{value_stands}
use Rattle.machine_simulation.proofs.Words.{OperationAt, operation_at}
use Rattle.machine_simulation.proofs.StubKeeping.{stub_same}
use Rattle.machine_simulation.proofs.Keeping.{held_later, waits_stay}
use Rattle.machine_simulation.proofs.Holding.{same_number}
use Rattle.machine_simulation.proofs.Matching.{Stands, stands_by, ready_here, runtime_stays, kept_at, values_saved}
use Rattle.machine_simulation.proofs.Quiet.{moved, step_is, plain_is}

-- ---- a world with more items

-- a world that has the same ints and calls is held alike
call_alike : (p : Plan) (n : ℕ) (frame : Frame) (v u : World) (memory : List Part) (stack back : ℕ) → u.memory ≡ v.memory → v.last_number ≤ u.last_number → CallStands p n frame v memory stack back → CallStands p n frame u memory stack back
call_alike p n frame v u memory stack back ints later st = record {
  known = st.known;
  small = st.small;
  above = st.above;
  below = st.below;
  holds = record {
    room = st.holds.room;
    slots = st.holds.slots;
    variables = st.holds.variables;
    own = st.holds.own;
    ints = λ a z live there. st.holds.ints a z live (ap (λ m. m a) (sym ints) ∙ there);
    reached = st.holds.reached;
    all_globals = st.holds.all_globals;
  };
  slots = st.slots;
  held = λ s b inside is. held_later p v u frame.call b.base later (st.held s b inside is);
  saved = st.saved;
  alone = st.alone;
  clear = st.clear;
}

pub matches_alike : (p : Plan) (n : ℕ) (frame : Frame) (fs : List Activation) (v u : World) (memory : List Part) (stack back : ℕ) → u.memory ≡ v.memory → u.calls ≡ v.calls → v.last_number ≤ u.last_number →
    MemoryMatches p n frame fs v memory stack back → MemoryMatches p n frame fs u memory stack back
matches_alike p n frame fs v u memory stack back ints calls later h = record {
  top = call_alike p n frame v u memory stack back ints later h.top;
  newest = omega (arith, h.newest, calls);
  waiting = waits_stay p fs v u memory memory (stack + (shape p n).size) back frame.call later (λ f s b stub. stub_same f s memory)
      (λ m g s b less st. call_alike p m g v u memory s b ints later st) h.waiting;
  apart = h.apart;
  inside = λ a z live there. h.inside a z live (ap (λ m. m a) (sym ints) ∙ there);
  may = h.may;
  last = h.last;
  fresh = λ c s o more. ap (λ m. m (record { base = of_variable c s; offset = o })) ints ∙ h.fresh c s o (omega (arith, more, calls));
  objects = record {
    may = h.objects.may;
    made = λ e live. omega (arith, h.objects.made e live, later);
    fresh = λ e o more. ap (λ m. m (record { base = of_exception e; offset = o })) ints ∙ h.objects.fresh e o (omega (arith, more, later));
    away = h.objects.away;
    placed = h.objects.placed;
  };
  unit = h.unit;
}

-- and so are registers
pub registers_alike : (p : Plan) (n : ℕ) (frame : Frame) (fs : List Activation) (v u : World) (memory : List Part) (stack back : ℕ) (regs : List ℕ) → u.memory ≡ v.memory → MemoryMatches p n frame fs v memory stack back →
    RegistersMatch p n frame fs v memory stack regs → RegistersMatch p n frame fs u memory stack regs
registers_alike p n frame fs v u memory stack back regs ints h r =
    registers_still p p.at p.size p.live p.ints n frame frame fs v u memory memory stack back regs refl h
    (λ m f place home rs before above le st one. record {
      ints = λ s q is. ap (λ w. w (record { base = of_variable f.call s; offset = 0 })) ints;
      saved = λ s q b is held. held;
      dead = one.dead;
      alone = λ b s q live is. let k = kept_slot (function p m) s q is in kept_alone p m f v memory place rs before b s q one live is k.place k.slot_is;
    }) r

-- a runtime call leaves the registers of kept variables
pub call_saved : (g : Ground) (here number : ℕ) (s : State) → (at : AtCall g here number s) → saved_of at.behind ≡ saved_of s
call_saved g here number s at = same_saved s at.behind (λ r k. at.kept r (kept_saved 0 r k 7 (omega arith) (omega arith)))

-- ---- the step and the pieces

-- both operations are alike
record LineOp (p : Plan) (n : ℕ) (v : Value) (st : LinearState) (o : LinearOp) : Type 0 where
  pieces : linear_code (shape p n) o ≡ (value_code (shape p n) (register 0) 0 v ++ []) ++ runtime_call 1
  fits : LinearFits o → 0 + needs v ≤ 15
  steps : (next : LinearState) → step (code_of p.unit) st ≡ goes_to next →
      performed (code_of p.unit) (if_some (words_in (slot_kinds p n) st.top.frame st.world (argument_then (int_argument v) no_arguments))
      (λ given. goes st.top.frame (with_item (Line (number_at given 0)) st.world))) st.top st.frames st.world ≡ goes_to next

line_op : (p : Plan) (n : ℕ) (v : Value) (st : LinearState) (o : LinearOp) → st.top.function ≡ compiled n → slice_get (function p n).ops st.top.place ≡ Some o → Writes v o → LineOp p n v st o
line_op p n v st o runs there (inl is) =
    let c : Op = call (builtin WriteInt) (argument_then (int_argument v) no_arguments) in
    record {
      pieces = ap (linear_code (shape p n)) is;
      fits = λ few. (subst LinearFits is few).0;
      steps = λ next e. sym (plain_is p n st c runs) ∙ sym (step_is p n st (plain c) runs (there ∙ ap Some is)) ∙ e;
    }
line_op p n v st o runs there (inr is) =
    let c : Op = evaluate (call_value (builtin WriteInt) (argument_then (int_argument v) no_arguments)) in
    record {
      pieces = ap (linear_code (shape p n)) is;
      fits = λ few. (subst LinearFits is few).0;
      steps = λ next e. sym (plain_is p n st c runs) ∙ sym (step_is p n st (plain c) runs (there ∙ ap Some is)) ∙ e;
    }

record LineStep (p : Plan) (n : ℕ) (v : Value) (st next : LinearState) : Type 0 where
  value : ℤ
  value_is : value_in (slot_kinds p n) st.top.frame st.world v ≡ Some value
  next_is : moved st (st.top.place + 1) st.top.frame (with_item (Line value) st.world) ≡ next

line_step : (p : Plan) (n : ℕ) (v : Value) (st next : LinearState) (o : LinearOp) → LineOp p n v st o → step (code_of p.unit) st ≡ goes_to next → LineStep p n v st next
line_step p n v st next o h e = by (value_in (slot_kinds p n) st.top.frame st.world v) refl (h.steps next e)
  where
    by : (oz : Option ℤ) → value_in (slot_kinds p n) st.top.frame st.world v ≡ oz →
        performed (code_of p.unit) (if_some (with_some (with_some oz (λ z. Some (number_word z))) (λ word. Some (word ∷ []))) (λ given. goes st.top.frame (with_item (Line (number_at given 0)) st.world)))
        st.top st.frames st.world ≡ goes_to next → LineStep p n v st next
    by None is got = absurd (cc got)
    by (Some z) is got = record { value = z; value_is = is; next_is = cc got }

-- ---- a line

line_runs : CallsAreTurns → (image : Image) (p : Plan) (n : ℕ) (st next : LinearState) (w : abi.World) (back : ℕ) (o : LinearOp) (v : Value) → Stands p n st w back → slice_get (function p n).ops st.top.place ≡ Some o →
    LineOp p n v st o → ValueStands (setting p n) (shape p n) (slot_kinds p n) st.top.frame st.world v → (went : LineStep p n v st next) →
    Matched image (length (linear_code (shape p n) o)) w (Line went.value ∷ []) (λ u. Matches p next u)
line_runs turns image p n st next w back o v h there line stands went =
    let f : Shape = shape p n in
    let g : Ground = (setting p n).ground in
    let here : ℕ = first_word p n + op_word (routine p n) st.top.place in
    let s : State = w.hart in
    let front : List Piece = value_code f (register 0) 0 v in
    let rear : List Piece = runtime_call 1 in
    let pieces : linear_code f o ≡ front ++ rear = line.pieces ∙ ap (λ ps. ps ++ rear) (append-nil front) in
    let stood = operation_at p s.memory n st.top.place o h.memory.unit h.memory.top.known there in
    let own : OperationAt p s.memory n st.top.place (front ++ rear) = subst (OperationAt p s.memory n st.top.place) pieces stood in
    let sum : length (front ++ rear) ≡ length front + 2 = length-append front rear in
    let total : length (linear_code f o) ≡ length front + 2 = ap length pieces ∙ sum in
    let short : length front < 2 ^ 18 = omega (arith, own.inside, sum, h.memory.unit.short n h.memory.top.known) in
    let parts = pieces_split s.memory g here front rear own.code in
    let value = values_are_computed.value (setting p n) f (slot_kinds p n) st.top.frame st.world v went.value 0 here s stands went.value_is (line.fits (h.memory.unit.registers n st.top.place o there)) short parts.0 h.pc
    (ready_here p n st w back h) in
    let m : State = value.computes.goes.after in
    let at = turns.call g (here + length front) 1 m (omega arith) (code_after g here (length front) 0 (here + length front) rear s value.computes.goes parts.1) value.computes.goes.pc value.computes.goes.registers in
    let k : ℕ = value.computes.goes.steps + 1 in
    let ran = executes_turns image k w s at.called refl (steps_then value.computes.goes.steps 1 s m at.called value.computes.goes.runs at.first) in
    let u : abi.World = ran.after in
    let stepped : step_of u.hart ≡ (Ecall, at.behind) = ap step_of ran.hart ∙ at.calls in
    let there_a0 : x at.behind a0 ≡ extended went.value = at.kept a0 (λ e. absurd (omega (arith, e))) ∙ value.computes.is in
    let shown = write_turns image u at.behind went.value stepped at.is there_a0 value.int in
    let last : abi.World = after_line went.value at.behind u in
    let stack : x at.behind sp ≡ x s sp = at.kept sp (λ e. absurd (omega (arith, e))) ∙ value.computes.goes.kept sp (kept_low 0 sp (omega arith)) in
    let memory : at.behind.memory ≡ s.memory = at.memory ∙ value.computes.goes.memory in
    let world : World = with_item (Line went.value) st.world in
    let held = matches_alike p n st.top.frame st.frames st.world world s.memory (x s sp) back refl refl (same_number st.world) h.memory in
    let kept = registers_alike p n st.top.frame st.frames st.world world s.memory (x s sp) back (saved_of s) refl h.memory h.kept in
    let saved : saved_of at.behind ≡ saved_of s = call_saved g (here + length front) 1 m at ∙ values_saved s m value.computes.goes.kept in
    let to : LinearState = moved st (st.top.place + 1) st.top.frame world in
    subst (λ (y : LinearState). Matched image (length (linear_code f o)) w (Line went.value ∷ []) (λ b. Matches p y b)) went.next_is (record {
      turns = k + 1;
      few = omega (arith, value.computes.goes.most, total);
      some = λ words. omega arith;
      after = last;
      runs = turns_then image k 1 w u last [] (Line went.value ∷ []) ran.turns shown;
      holds = record {
        number = n;
        back = back;
        runs = h.runs;
        registers = at.registers;
        pc = at.pc ∙ omega (arith, stood.next, total);
        memory = subst (λ ps. MemoryMatches p n st.top.frame st.frames world ps (x at.behind sp) back) (sym memory) (subst (λ a. MemoryMatches p n st.top.frame st.frames world s.memory a back) (sym stack) held);
        kept = kept_at p n to (x s sp) s.memory (saved_of s) at.behind memory stack saved kept;
        runtime = let r = runtime_stays p st.frames st.world w u ran.runtime h.runtime in
            record { input = r.input; replies = r.replies; last_number = r.last_number; terminating = r.terminating; exceptions = r.exceptions; plan = r.plan };
      };
    })

pub lines_run : CallsAreTurns → LinesRun
lines_run turns image p n st next w o v h runs there writes asked e =
    let stood = stands_by p n st w h runs in
    let line = line_op p n v st o runs there writes in
    let went = line_step p n v st next o line e in (
      Line went.value ∷ [],
      record { value = went.value; is = went.value_is; shown = refl; more = ap (λ (y : LinearState). y.world.items) (sym went.next_is) },
      line_runs turns image p n st next w h.back o v stood there line (value_stands p n st.top.frame st.world w.hart.memory (x w.hart sp) h.back stood.memory.top v asked) went,
    )
