-- A byte is read alike.
use Rattle.std.proofs.Common.{◌≡◌, ◌∙◌, refl, sym, ap, subst, arith, ℕ, ◌+◌, ◌<◌, ℤ, pos, negsuc, List, [], ◌∷◌, ◌++◌, length, Option, Some, None, inl, inr, Bool, true, false}
use Rattle.std.specs.Prelude.{◌⊎◌, slice_get}
use Rattle.std.proofs.lemmas.Bool.Decides.{nat_tests}
use Rattle.cxx_ast.specs.declared.name.Builtin.TheVariants.{ReadByte}
use Rattle.rv64_isa.specs.declared.step.Step.TheVariants.{Ecall}
use Rattle.rv64_isa.specs.State.{State, state, with_reg}
use Rattle.rv64_isa.specs.Step.{step_of, x}
use Rattle.cxa_runtime.specs.World as abi
use Rattle.cxa_runtime.specs.Raising.{Image}
use Rattle.region_forms.specs.Form.{Kinds, Place, call_value, builtin, no_arguments, Op, evaluate, store, call}
use Rattle.region_forms.specs.World.{Frame, World, number_word, with_slot, written}
use Rattle.region_forms.specs.Evaluation.{Location, in_memory, in_frame, locate}
use Rattle.region_forms.specs.Effect.{effect, goes, if_some, finished, stored_at, byte_of, bytes_after, only_where}
use Rattle.linear_forms.specs.Linear.{LinearOp, plain}
use Rattle.linear_forms.specs.Stub.{compiled}
use Rattle.linear_forms.specs.Activation.{Code, Activation, State as LinearState, goes_to}
use Rattle.linear_forms.specs.Machine.{step}
use Rattle.linear_forms.specs.Operation.{performed}
use Rattle.linear_forms.specs.UnitRun.{code_of}
use Rattle.machine_forms.specs.Registers.{sp, a0, a7}
use Rattle.machine_forms.specs.Piece.{Piece}
use Rattle.machine_forms.specs.RuntimeCall.{runtime_call}
use Rattle.machine_forms.specs.LinearCode.{linear_code}
use Rattle.machine_forms.specs.Routine.{op_word}
use Rattle.machine_pieces.specs.Numbers.{IsInt, extended}
use Rattle.machine_pieces.specs.Standing.{Ground, PiecesAt}
use Rattle.machine_pieces.specs.Keeping.{saved_of}
use Rattle.machine_pieces.proofs.Keeping.{kept_saved, same_saved}
use Rattle.machine_forms.specs.KeptCode.{root_register}
use Rattle.machine_forms.specs.OperationCode.{value_stored}
use Rattle.machine_simulation.specs.KeptCalls.{RegistersMatch}
use Rattle.machine_pieces.specs.Turning.{Turns, after_byte, after_step}
use Rattle.machine_pieces.specs.Laws.{PlacesAreWritten, CallsAreTurns}
use Rattle.machine_pieces.proofs.Fetching.{pieces_split}
use Rattle.machine_pieces.proofs.Registers.{set_length, read_same, read_other}
use Rattle.machine_pieces.proofs.Framing.{not_zero}
use Rattle.machine_pieces.proofs.Turning.{turns_then, executes_turns}
use Rattle.machine_simulation.specs.Plan.{Plan, function, shape, slot_kinds, routine, first_word, setting}
use Rattle.machine_simulation.specs.Calls.{given_in, stored_in}
use Rattle.machine_forms.specs.Shape.{Shape}
use Rattle.machine_simulation.specs.Matches.{MemoryMatches, Matches, RuntimeMatches}
use Rattle.machine_simulation.specs.Operations.{Matched}
use Rattle.machine_simulation.specs.Returns.{WantedStands}
use Rattle.machine_simulation.specs.Bytes.{Reads, AreBytes, BytesRun}
use Rattle.machine_simulation.proofs.Asked.{wanted_stands}
use Rattle.machine_simulation.proofs.Words.{OperationAt, operation_at}
use Rattle.machine_simulation.proofs.Matching.{Stands, stands_by, Arrives, runtime_stays}
use Rattle.machine_simulation.proofs.Quiet.{moved, step_is, plain_is}
use Rattle.machine_simulation.proofs.Returning.{receives, runtime_finished}
use Rattle.machine_simulation.proofs.Holding.{same_number}
use Rattle.machine_simulation.proofs.Lines.{matches_alike, registers_alike, call_saved}
use Rattle.region_forms.specs.Lives.{is_there}

-- ---- the step

-- the world from which a byte is taken
abbrev pub taken : World → World
taken v = record v { input = bytes_after v.input }

pub record ReadOp (p : Plan) (n : ℕ) (wants : Option Place) (st : LinearState) (o : LinearOp) : Type 0 where
  pub pieces : linear_code (shape p n) o ≡ runtime_call 2 ++ stored_in (shape p n) wants
  pub steps : (next : LinearState) → step (code_of p.unit) st ≡ goes_to next →
      performed (code_of p.unit) (finished (slot_kinds p n) wants (byte_of st.world.input) st.top.frame (taken st.world)) st.top st.frames st.world ≡ goes_to next

read_by : (p : Plan) (n : ℕ) (wants : Option Place) (st : LinearState) (o : LinearOp) (own : Option Place) (c : Op) → st.top.function ≡ compiled n → slice_get (function p n).ops st.top.place ≡ Some o → wants ≡ own → o ≡ plain c →
    linear_code (shape p n) (plain c) ≡ runtime_call 2 ++ stored_in (shape p n) own →
    performed (code_of p.unit) (finished (slot_kinds p n) own (byte_of st.world.input) st.top.frame (taken st.world)) st.top st.frames st.world
    ≡ performed (code_of p.unit) (effect (slot_kinds p n) c st.top.frame st.world) st.top st.frames st.world → ReadOp p n wants st o
read_by p n wants st o own c runs there same is code does = record {
  pieces = ap (linear_code (shape p n)) is ∙ code ∙ ap (λ q. runtime_call 2 ++ stored_in (shape p n) q) (sym same);
  steps = λ next e.
      ap (λ q. performed (code_of p.unit) (finished (slot_kinds p n) q (byte_of st.world.input) st.top.frame (taken st.world)) st.top st.frames st.world) same
      ∙ does ∙ sym (plain_is p n st c runs) ∙ sym (step_is p n st (plain c) runs (there ∙ ap Some is)) ∙ e;
}

-- the value is stored behind the runtime call
read_stored : (f : Shape) (o : Option ℕ) (q : Place) → value_stored f o q (call_value (builtin ReadByte) no_arguments) ≡ runtime_call 2 ++ given_in f o q
read_stored f (Some rd) q = refl
read_stored f None q = refl

pub read_op : (p : Plan) (n : ℕ) (wants : Option Place) (st : LinearState) (o : LinearOp) → st.top.function ≡ compiled n → slice_get (function p n).ops st.top.place ≡ Some o → Reads wants o → ReadOp p n wants st o
read_op p n wants st o runs there h = by h.is
  where
    by : ((q : Place) × (wants ≡ Some q) × (o ≡ plain (store q (call_value (builtin ReadByte) no_arguments)))) ⊎
        ((wants ≡ None) × (o ≡ plain (evaluate (call_value (builtin ReadByte) no_arguments)))) ⊎ ((wants ≡ None) × (o ≡ plain (call (builtin ReadByte) no_arguments))) → ReadOp p n wants st o
    by (inl s) = read_by p n wants st o (Some s.0) (store s.0 (call_value (builtin ReadByte) no_arguments)) runs there s.1 s.2 (read_stored (shape p n) (root_register (shape p n) s.0.root) s.0) refl
    by (inr (inl s)) = read_by p n wants st o None (evaluate (call_value (builtin ReadByte) no_arguments)) runs there s.0 s.1 refl refl
    by (inr (inr s)) = read_by p n wants st o None (call (builtin ReadByte) no_arguments) runs there s.0 s.1 refl refl

-- a value that is stored or dropped
pub record FinishedStep (kinds : Kinds) (wants : Option Place) (z : ℤ) (v : World) (st next : LinearState) : Type 0 where
  pub frame : Frame
  pub world : World
  pub stored : finished kinds wants z st.top.frame v ≡ goes frame world
  pub next_is : moved st (st.top.place + 1) frame world ≡ next

pub finished_step : (code : Code) (kinds : Kinds) (wants : Option Place) (z : ℤ) (v : World) (st next : LinearState) → performed code (finished kinds wants z st.top.frame v) st.top st.frames st.world ≡ goes_to next →
    FinishedStep kinds wants z v st next
finished_step code kinds None z v st next e = record { frame = st.top.frame; world = v; stored = refl; next_is = cc e }
finished_step code kinds (Some q) z v st next e = by (locate kinds st.top.frame q) refl e
  where
    put : (l : Location) → locate kinds st.top.frame q ≡ Some l → performed code (stored_at l z st.top.frame v) st.top st.frames st.world ≡ goes_to next → FinishedStep kinds (Some q) z v st next
    put (in_memory a) is got = to (is_there v a.base) refl got
      where
        to : (b : Bool) → is_there v a.base ≡ b → performed code (only_where b (goes st.top.frame (written a z v))) st.top st.frames st.world ≡ goes_to next → FinishedStep kinds (Some q) z v st next
        to true there got = record {
          frame = st.top.frame;
          world = written a z v;
          stored = ap (λ o. if_some o (λ l. stored_at l z st.top.frame v)) is ∙ ap (λ b. only_where b (goes st.top.frame (written a z v))) there;
          next_is = cc got;
        }
        to false there got = absurd (cc got)
    put (in_frame s) is got = record {
      frame = with_slot s (number_word z) st.top.frame;
      world = v;
      stored = ap (λ o. if_some o (λ l. stored_at l z st.top.frame v)) is;
      next_is = cc got;
    }

    by : (o : Option Location) → locate kinds st.top.frame q ≡ o → performed code (if_some o (λ l. stored_at l z st.top.frame v)) st.top st.frames st.world ≡ goes_to next → FinishedStep kinds (Some q) z v st next
    by None is got = absurd (cc got)
    by (Some l) is got = put l is got

-- ---- the runtime call

-- one turn puts what is read in a0
record ReadTurn (p : Plan) (fs : List Activation) (image : Image) (u : abi.World) (behind : State) (v : World) : Type 0 where
  int : IsInt (byte_of v.input)
  after : abi.World
  turn : Turns image 1 u after []
  hart : after.hart ≡ state behind.pc (with_reg behind.regs a0 (extended (byte_of v.input))) behind.memory
  runtime : RuntimeMatches p fs (taken v) after

byte_int : (b : ℕ) → b < 256 → IsInt (pos b)
byte_int b small = grind (arith, nat_tests, small)

byte_bits : (b : ℕ) → b < 256 → extended (pos b) ≡ b
byte_bits b small = omega (arith, small)

read_turn : CallsAreTurns → (p : Plan) (fs : List Activation) (image : Image) (u : abi.World) (behind : State) (v : World) → step_of u.hart ≡ (Ecall, behind) → x behind a7 ≡ 2 → AreBytes v.input → RuntimeMatches p fs v u → ReadTurn p fs image u behind v
read_turn turns p fs image u behind v e number bytes h = by v.input refl bytes
  where
    by : (input : List ℕ) → v.input ≡ input → AreBytes input → ReadTurn p fs image u behind v
    by [] is ok =
        let none : byte_of v.input ≡ negsuc 0 = ap byte_of is in
        let last : abi.World = abi.gives a0 (extended (negsuc 0)) (after_step behind u) in
        record {
          int = subst IsInt (sym none) refl;
          after = last;
          turn = turns.no_byte image u behind e number (h.input ∙ is);
          hart = ap (λ z. state behind.pc (with_reg behind.regs a0 (extended z)) behind.memory) (sym none);
          runtime = record { input = h.input ∙ is ∙ ap bytes_after (sym is); replies = h.replies; last_number = h.last_number; terminating = h.terminating; exceptions = h.exceptions; plan = h.plan };
        }
    by (b ∷ rest) is ok =
        let some : byte_of v.input ≡ pos b = ap byte_of is in
        record {
          int = subst IsInt (sym some) (byte_int b ok.0);
          after = after_byte b rest behind u;
          turn = turns.byte image u behind b rest e number (h.input ∙ is);
          hart = ap (λ k. state behind.pc (with_reg behind.regs a0 k) behind.memory) (sym (byte_bits b ok.0)) ∙ ap (λ z. state behind.pc (with_reg behind.regs a0 (extended z)) behind.memory) (sym some);
          runtime = record { input = ap bytes_after (sym is); replies = h.replies; last_number = h.last_number; terminating = h.terminating; exceptions = h.exceptions; plan = h.plan };
        }

-- ---- a byte

read_runs : PlacesAreWritten → CallsAreTurns → (image : Image) (p : Plan) (n : ℕ) (st next : LinearState) (w : abi.World) (back : ℕ) (o : LinearOp) (wants : Option Place) → Stands p n st w back →
    slice_get (function p n).ops st.top.place ≡ Some o → ReadOp p n wants st o → AreBytes st.world.input → WantedStands p n st.top.frame wants →
    FinishedStep (slot_kinds p n) wants (byte_of st.world.input) (taken st.world) st next → Matched image (length (linear_code (shape p n) o)) w [] (λ u. Matches p next u)
read_runs places turns image p n st next w back o wants h there read bytes stands went =
    let g : Ground = (setting p n).ground in
    let here : ℕ = first_word p n + op_word (routine p n) st.top.place in
    let s : State = w.hart in
    let rear : List Piece = stored_in (shape p n) wants in
    let stood = operation_at p s.memory n st.top.place o h.memory.unit h.memory.top.known there in
    let own : OperationAt p s.memory n st.top.place (runtime_call 2 ++ rear) = subst (OperationAt p s.memory n st.top.place) read.pieces stood in
    let total : length (linear_code (shape p n) o) ≡ 2 + length rear = ap length read.pieces ∙ omega arith in
    let parts = pieces_split s.memory g here (runtime_call 2) rear own.code in
    let at = turns.call g here 2 s (omega arith) parts.0 h.pc h.registers in
    let ran = executes_turns image 1 w s at.called refl at.first in
    let u : abi.World = ran.after in
    let stepped : step_of u.hart ≡ (Ecall, at.behind) = ap step_of ran.hart ∙ at.calls in
    let turn = read_turn turns p st.frames image u at.behind st.world stepped at.is bytes (runtime_stays p st.frames st.world w u ran.runtime h.runtime) in
    let value : ℕ = extended (byte_of st.world.input) in
    let t : State = state at.behind.pc (with_reg at.behind.regs a0 value) at.behind.memory in
    let stack : x t sp ≡ x s sp = read_other at.behind.regs a0 sp value (λ e. absurd (omega (arith, e))) ∙ at.kept sp (λ e. absurd (omega (arith, e))) in
    let held = matches_alike p n st.top.frame st.frames st.world (taken st.world) s.memory (x s sp) back refl refl (same_number st.world) h.memory in
    let held_t : MemoryMatches p n st.top.frame st.frames (taken st.world) t.memory (x t sp) back
    = subst (λ ps. MemoryMatches p n st.top.frame st.frames (taken st.world) ps (x t sp) back) (sym at.memory) (subst (λ a. MemoryMatches p n st.top.frame st.frames (taken st.world) s.memory a back) (sym stack) held) in
    let kept = registers_alike p n st.top.frame st.frames st.world (taken st.world) s.memory (x s sp) back (saved_of s) refl h.memory h.kept in
    let saved : saved_of t ≡ saved_of s = same_saved at.behind t (λ r k. read_other at.behind.regs a0 r value (kept_saved 0 r k 0 (omega arith) (omega arith))) ∙ call_saved g here 2 s at in
    let kept_t : RegistersMatch p n st.top.frame st.frames (taken st.world) t.memory (x t sp) (saved_of t)
    = subst (λ ps. RegistersMatch p n st.top.frame st.frames (taken st.world) ps (x t sp) (saved_of t)) (sym at.memory) (subst (λ a. RegistersMatch p n st.top.frame st.frames (taken st.world) s.memory a (saved_of t)) (sym stack)
    (subst (λ rs. RegistersMatch p n st.top.frame st.frames (taken st.world) s.memory (x s sp) rs) (sym saved) kept)) in
    let code_t : PiecesAt t.memory g (here + 2) rear = subst (λ ps. PiecesAt ps g (here + 2) rear) (sym at.memory) parts.1 in
    let got = receives places p n (here + 2) st.top.frame went.frame st.frames (taken st.world) went.world back wants (byte_of st.world.input) t held_t kept_t (set_length at.behind.regs a0 value ∙ at.registers) at.pc code_t turn.int
    (read_same at.behind.regs a0 value (not_zero a0 (omega arith)) (omega (arith, at.registers))) stands went.stored in
    let last = executes_turns image got.steps turn.after t got.after turn.hart got.runs in
    let end : abi.World = last.after in
    let to : LinearState = moved st (st.top.place + 1) went.frame went.world in
    let there_end : Arrives p n to back end.hart = subst (Arrives p n to back) (sym last.hart) (record {
      runs = h.runs;
      registers = got.registers;
      pc = got.pc ∙ omega (arith, stood.next, total);
      memory = got.memory;
      kept = got.kept;
    }) in
    let runtime_end : RuntimeMatches p st.frames went.world end
    = runtime_finished p st.frames (slot_kinds p n) wants (byte_of st.world.input) st.top.frame went.frame (taken st.world) went.world end went.stored
    (runtime_stays p st.frames (taken st.world) turn.after end last.runtime turn.runtime) in
    subst (λ (y : LinearState). Matched image (length (linear_code (shape p n) o)) w [] (λ b. Matches p y b)) went.next_is (record {
      turns = 1 + 1 + got.steps;
      few = omega (arith, got.most, total);
      some = λ words. omega arith;
      after = end;
      runs = turns_then image (1 + 1) got.steps w turn.after end [] [] (turns_then image 1 1 w u turn.after [] [] ran.turns turn.turn) last.turns;
      holds = record { number = n; back = back; runs = there_end.runs; registers = there_end.registers; pc = there_end.pc; memory = there_end.memory; kept = there_end.kept; runtime = runtime_end };
    })

pub bytes_run : PlacesAreWritten → CallsAreTurns → BytesRun
bytes_run places turns image p n st next w o wants h runs there reads bytes asked e =
    let stood = stands_by p n st w h runs in
    let read = read_op p n wants st o runs there reads in
    read_runs places turns image p n st next w h.back o wants stood there read bytes (wanted_stands p n st.top.frame st.world w.hart.memory (x w.hart sp) h.back stood.memory.top wants asked)
    (finished_step (code_of p.unit) (slot_kinds p n) wants (byte_of st.world.input) (taken st.world) st next (read.steps next e))
