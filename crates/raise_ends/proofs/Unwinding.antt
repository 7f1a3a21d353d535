-- A forced unwind begins or goes on: the step, and the runtime call.
use Rattle.std.proofs.Common.{◌≡◌, ◌∙◌, refl, sym, ap, subst, arith, ℕ, ◌+◌, ◌^◌, ◌<◌, ◌≤◌, ◌==◌, false, ℤ, pos, List, [], ◌∷◌, ◌++◌, length, length-append, append-nil, Option, Some, inl, inr}
use Rattle.std.specs.Prelude.{◌⊎◌, slice_get, if◌then◌else◌}
use Rattle.cxx_ast.specs.declared.name.Builtin.TheVariants.{Cancel}
use Rattle.rv64_isa.specs.Arithmetic.{add}
use Rattle.rv64_isa.specs.declared.instr.Instr.TheVariants.{Ld}
use Rattle.rv64_isa.specs.State.{State}
use Rattle.rv64_isa.specs.Step.{x, imm12}
use Rattle.elf_image.specs.Clean.{CleanImage}
use Rattle.raise_core.specs.Raise as unwinder
use Rattle.cxa_runtime.specs.Number.{as_int}
use Rattle.cxa_runtime.specs.World as abi
use Rattle.cxa_runtime.specs.World.{argument, needs}
use Rattle.cxa_runtime.specs.Raising.{Image}
use Rattle.cxa_runtime.specs.Cancel.{forced_as, unwinds, cancel}
use Rattle.cxa_runtime.specs.Throw.{resume_object, resume_unwind}
use Rattle.cxa_runtime.specs.Call.{call_effect, numbered}
use Rattle.eh_run.specs.Program.{program_of}
use Rattle.region_forms.specs.Form.{Value, call_value, builtin, int_argument, no_arguments, argument_then, evaluate, call}
use Rattle.region_forms.specs.World.{number_word, unwinding}
use Rattle.region_forms.specs.Evaluation.{with_some, value_in}
use Rattle.region_forms.specs.Effect.{cancels, number_at, if_some}
use Rattle.linear_forms.specs.Linear.{LinearOp, resume}
use Rattle.linear_forms.specs.Stub.{compiled}
use Rattle.linear_forms.specs.Activation.{State as LinearState, Next}
use Rattle.linear_forms.specs.Machine.{step}
use Rattle.linear_forms.specs.Operation.{act, performed, resumed}
use Rattle.linear_forms.specs.Forced.{forced_above}
use Rattle.linear_forms.specs.UnitRun.{code_of}
use Rattle.machine_forms.specs.Bounds.{LinearFits}
use Rattle.machine_forms.specs.Immediate.{immediate}
use Rattle.machine_forms.specs.Registers.{sp, a0, register}
use Rattle.machine_forms.specs.Piece.{Piece, instruction}
use Rattle.machine_forms.specs.PlaceCode.{within, slot_loaded}
use Rattle.machine_forms.specs.Shape.{Shape, slot_offset}
use Rattle.machine_forms.specs.ValueCode.{needs as registers_needed, value_code}
use Rattle.machine_forms.specs.RuntimeCall.{runtime_call}
use Rattle.machine_forms.specs.Leaf.{linear_stays}
use Rattle.machine_forms.specs.LinearCode.{linear_code}
use Rattle.machine_forms.specs.Routine.{op_word}
use Rattle.machine_pieces.specs.Numbers.{extended}
use Rattle.machine_pieces.specs.Standing.{Ground, address, PieceAt}
use Rattle.machine_pieces.specs.Frames.{AddressAt, WordHolds}
use Rattle.machine_pieces.specs.Going.{Computes}
use Rattle.machine_pieces.specs.Laws.{CallsAreTurns, ValuesAreComputed}
use Rattle.machine_pieces.proofs.Fetching.{pieces_split}
use Rattle.machine_pieces.proofs.Going.{sets_value}
use Rattle.machine_pieces.proofs.Places.{near_address, address_done}
use Rattle.machine_pieces.proofs.Turning.{as_int_extended}
use Rattle.machine_stubs.specs.Calls.{asked}
use Rattle.machine_simulation.specs.Plan.{Plan, function, shape, slot_kinds, routine, first_word, setting}
use Rattle.machine_simulation.specs.Matches.{RuntimeMatches}
use Rattle.machine_simulation.proofs.Asked.{value_stands}
use Rattle.machine_simulation.proofs.Words.{OperationAt, operation_at}
use Rattle.machine_simulation.proofs.Matching.{Stands, ready_here}
use Rattle.machine_simulation.proofs.Quiet.{step_is, plain_is}
use Rattle.machine_exceptions.proofs.Ecalls.{ecall_reached}
use Rattle.machine_raises.specs.Cancels.{Cancels}
use Rattle.machine_raises.specs.Forced.{ForcedAsked}
use Rattle.machine_raises.specs.Stacks.{GoesOnIn}
use Rattle.machine_raises.proofs.Resuming.{resume_is}
use Rattle.raise_ends.specs.Unwinds.{BeginsUnwind, GoesOnUnwinding, AtUnwind}
use Rattle.raise_ends.proofs.Asking.{AtCall, high_at, at_call}

cancel_is : (image : Image) (wish : ℕ) (t : abi.World) → call_effect 15 image wish t ≡ cancel image t
unfolding call_effect numbered
cancel_is image wish t = refl

-- The unwinder is called, in a world that has the number of the unwind.
pub record UnwindAsked (i : CleanImage) (p : Plan) (n : ℕ) (k : ℤ) (st : LinearState) (w : abi.World) (back words : ℕ) : Type 0 where
  pub number : ℕ
  pub call : AtCall (program_of i).image p n st w back number words
  pub more : call.turns + 1 ≤ words
  pub goes_on : GoesOnIn p n st.top.place call.behind.pc
  pub to : abi.World
  pub hart : to.hart ≡ call.behind
  pub shown : to.shown ≡ []
  pub exceptions : to.exceptions ≡ w.exceptions
  pub on : to.unwinding ≡ Some k
  pub runtime : RuntimeMatches p st.frames st.world to
  pub effect : (wish : ℕ) → call_effect number (program_of i).image wish (asked call.behind call.at) ≡ forced_as (program_of i).image.places k to (unwinder.forced_unwind (program_of i).image.fdes call.behind)

-- ---- one that begins

-- the step
cancel_step : (p : Plan) (n : ℕ) (k : ℤ) (st : LinearState) (o : LinearOp) (v : Value) → st.top.function ≡ compiled n → slice_get (function p n).ops st.top.place ≡ Some o → Cancels v o → value_in (slot_kinds p n) st.top.frame st.world v ≡ Some k →
    step (code_of p.unit) st ≡ forced_above (code_of p.unit) k (st.top ∷ st.frames) st.world
cancel_step p n k st o v runs there is number = step_is p n st o runs there ∙ by is ∙ ap with_value number
  where
    does : LinearOp → Next
    does c = act (code_of p.unit) c st.top st.frames st.world

    with_value : Option ℤ → Next
    with_value oz = performed (code_of p.unit) (if_some (with_some (with_some oz (λ z. Some (number_word z))) (λ word. Some (word ∷ []))) (λ given. cancels (number_at given 0) st.world)) st.top st.frames st.world

    by : Cancels v o → does o ≡ with_value (value_in (slot_kinds p n) st.top.frame st.world v)
    by (inl h) = ap does h ∙ plain_is p n st (call (builtin Cancel) (argument_then (int_argument v) no_arguments)) runs
    by (inr h) = ap does h ∙ plain_is p n st (evaluate (call_value (builtin Cancel) (argument_then (int_argument v) no_arguments))) runs

cancel_pieces : (p : Plan) (n : ℕ) (o : LinearOp) (v : Value) → Cancels v o → linear_code (shape p n) o ≡ (value_code (shape p n) (register 0) 0 v ++ []) ++ runtime_call 15
cancel_pieces p n o v (inl is) = ap (linear_code (shape p n)) is
cancel_pieces p n o v (inr is) = ap (linear_code (shape p n)) is

cancel_fits : (o : LinearOp) (v : Value) → Cancels v o → LinearFits o → 0 + registers_needed v ≤ 15
cancel_fits o v (inl is) few = (subst LinearFits is few).0
cancel_fits o v (inr is) few = (subst LinearFits is few).0

-- a forced unwind leaves the function
cancel_leaves : (o : LinearOp) (v : Value) → Cancels v o → linear_stays o ≡ false
cancel_leaves o v (inl is) = ap linear_stays is
cancel_leaves o v (inr is) = ap linear_stays is

cancel_asked : CallsAreTurns → ValuesAreComputed → (i : CleanImage) (p : Plan) (n : ℕ) (k : ℤ) (st : LinearState) (w : abi.World) (back : ℕ) (o : LinearOp) → Stands p n st w back → slice_get (function p n).ops st.top.place ≡ Some o → BeginsUnwind p n st o k →
    UnwindAsked i p n k st w back (length (linear_code (shape p n) o))
cancel_asked turns values i p n k st w back o h there b =
    let image : Image = (program_of i).image in
    let f : Shape = shape p n in
    let g : Ground = (setting p n).ground in
    let here : ℕ = first_word p n + op_word (routine p n) st.top.place in
    let v : Value = b.value in
    let front : List Piece = value_code f (register 0) 0 v in
    let rear : List Piece = runtime_call 15 in
    let pieces : linear_code f o ≡ front ++ rear = cancel_pieces p n o v b.is ∙ ap (λ ps. ps ++ rear) (append-nil front) in
    let own : OperationAt p w.hart.memory n st.top.place (front ++ rear) = subst (OperationAt p w.hart.memory n st.top.place) pieces (operation_at p w.hart.memory n st.top.place o h.memory.unit h.memory.top.known there) in
    let sum : length (front ++ rear) ≡ length front + 2 = length-append front rear in
    let total : length (linear_code f o) ≡ length front + 2 = ap length pieces ∙ sum in
    let short : length front < 2 ^ 18 = omega (arith, own.inside, sum, h.memory.unit.short n h.memory.top.known) in
    let parts = pieces_split w.hart.memory g here front rear own.code in
    let stands = value_stands p n st.top.frame st.world w.hart.memory (x w.hart sp) back h.memory.top v b.asked in
    let value = values.value (setting p n) f (slot_kinds p n) st.top.frame st.world v k 0 here w.hart stands b.number (cancel_fits o v b.is (h.memory.unit.registers n st.top.place o there)) short parts.0 h.pc (ready_here p n st w back h) in
    let ec = ecall_reached turns image g here (length front) 0 15 w value.computes.goes (omega arith) parts.1 in
    let c = at_call image p n st w back g here (length front) 15 (length (linear_code f o)) value.computes.goes.after h ec (omega (arith, total)) (high_at p n st w back o h there (cancel_leaves o v b.is)) in
    let y : abi.World = asked c.behind c.at in
    let is0 : argument y 10 ≡ extended k = ec.kept a0 (λ e. absurd (omega (arith, e))) ∙ value.computes.is in
    let number : as_int (argument y 10) ≡ k = ap as_int is0 ∙ as_int_extended k value.int in
    let r = c.runtime in
    record {
      number = 15;
      call = c;
      more = omega (arith, ec.few, total);
      goes_on = record { operation = o; there = there; word = length front + 1; inside = omega (arith, total); is = ec.pc ∙ omega arith };
      to = record y { unwinding = Some k };
      hart = refl;
      shown = refl;
      exceptions = c.kept.exceptions;
      on = refl;
      runtime = record { input = r.input; replies = r.replies; last_number = r.last_number; terminating = r.terminating; exceptions = r.exceptions; plan = r.plan };
      effect = λ wish. cancel_is image wish y ∙ ap (λ z. unwinds image z (record y { unwinding = Some z })) number;
    }

-- ---- one that goes on

-- a slot's 0 comes into a0
zero_loaded : (p : Plan) (n : ℕ) (st : LinearState) (w : abi.World) (back here s : ℕ) (k : ℤ) → Stands p n st w back → ForcedAsked p n st w s k → PieceAt w.hart.memory (setting p n).ground here (slot_loaded (shape p n) a0 s) →
    w.hart.pc ≡ address (setting p n).ground here → Computes (setting p n).ground here 1 0 w.hart 0
zero_loaded p n st w back here s k h asks code at =
    let m : State = w.hart in
    let field : ℕ = within (shape p n) s 0 in
    let zero : AddressAt m.memory (x m sp + slot_offset (shape p n) s) 0
    = subst (WordHolds (setting p n) m.memory (x m sp + slot_offset (shape p n) s)) asks.is (h.memory.top.holds.slots s asks.inside) in
    let place : add (x m sp) (imm12 field) ≡ x m sp + slot_offset (shape p n) s
    = ap (λ o. add (x m sp) (imm12 (immediate (pos o)))) (omega arith) ∙ near_address (x m sp) (slot_offset (shape p n) s) asks.near zero.below in
    sets_value (setting p n).ground here 0 (instruction (Ld 10 2 field)) m 0 code at h.registers (omega arith) (address_done 10 2 field (x m sp + slot_offset (shape p n) s) 0 m place zero)

unwinds_so : (image : Image) (y : abi.World) (k : ℤ) → argument y 10 ≡ 0 → y.unwinding ≡ Some k → resume_unwind image y ≡ unwinds image k y
unwinds_so image y k is on = ap (λ a. if a == 0 then needs y y.unwinding (λ n. unwinds image n y) else resume_object image y) is ∙ ap (λ o. needs y o (λ n. unwinds image n y)) on

resume_asked : CallsAreTurns → (i : CleanImage) (p : Plan) (n s : ℕ) (k : ℤ) (st : LinearState) (w : abi.World) (back : ℕ) → Stands p n st w back → slice_get (function p n).ops st.top.place ≡ Some (resume s) → ForcedAsked p n st w s k →
    UnwindAsked i p n k st w back (length (linear_code (shape p n) (resume s)))
resume_asked turns i p n s k st w back h there asks =
    let image : Image = (program_of i).image in
    let g : Ground = (setting p n).ground in
    let here : ℕ = first_word p n + op_word (routine p n) st.top.place in
    let own = operation_at p w.hart.memory n st.top.place (resume s) h.memory.unit h.memory.top.known there in
    let first = zero_loaded p n st w back here s k h asks own.code.0 h.pc in
    let ec = ecall_reached turns image g here 1 0 9 w first.goes (omega arith) own.code.1 in
    let c = at_call image p n st w back g here 1 9 (length (linear_code (shape p n) (resume s))) first.goes.after h ec (omega arith) (high_at p n st w back (resume s) h there refl) in
    let y : abi.World = asked c.behind c.at in
    let is0 : argument y 10 ≡ 0 = ec.kept a0 (λ b. absurd (omega (arith, b))) ∙ first.is in
    record {
      number = 9;
      call = c;
      more = omega (arith, ec.few);
      goes_on = record { operation = resume s; there = there; word = 2; inside = omega arith; is = ec.pc ∙ omega arith };
      to = y;
      hart = refl;
      shown = refl;
      exceptions = c.kept.exceptions;
      on = c.kept.unwinding ∙ asks.on;
      runtime = c.runtime;
      effect = λ wish. resume_is image wish y ∙ unwinds_so image y k is0 (c.kept.unwinding ∙ asks.on);
    }

resume_step : (p : Plan) (n s : ℕ) (k : ℤ) (st : LinearState) → st.top.function ≡ compiled n → slice_get (function p n).ops st.top.place ≡ Some (resume s) → st.top.frame.slots s ≡ unwinding k →
    step (code_of p.unit) st ≡ forced_above (code_of p.unit) k (st.top ∷ st.frames) st.world
resume_step p n s k st runs there is = step_is p n st (resume s) runs there ∙ ap (λ y. resumed (code_of p.unit) y st.top st.frames st.world) is

-- ---- both

pub unwind_step : (p : Plan) (n : ℕ) (k : ℤ) (st : LinearState) (w : abi.World) (at : AtUnwind p n st w k) → step (code_of p.unit) st ≡ forced_above (code_of p.unit) k (st.top ∷ st.frames) st.world
unwind_step p n k st w at = by at.unwinds
  where
    by : BeginsUnwind p n st at.operation k ⊎ GoesOnUnwinding p n st w at.operation k → step (code_of p.unit) st ≡ forced_above (code_of p.unit) k (st.top ∷ st.frames) st.world
    by (inl b) = cancel_step p n k st at.operation b.value at.runs at.there b.is b.number
    by (inr r) = resume_step p n r.slot k st at.runs (at.there ∙ ap Some r.is) r.asked.is

pub unwind_asked : CallsAreTurns → ValuesAreComputed → (i : CleanImage) (p : Plan) (n : ℕ) (k : ℤ) (st : LinearState) (w : abi.World) (back : ℕ) → Stands p n st w back → (at : AtUnwind p n st w k) →
    UnwindAsked i p n k st w back (length (linear_code (shape p n) at.operation))
unwind_asked turns values i p n k st w back h at = by at.unwinds
  where
    by : BeginsUnwind p n st at.operation k ⊎ GoesOnUnwinding p n st w at.operation k → UnwindAsked i p n k st w back (length (linear_code (shape p n) at.operation))
    by (inl b) = cancel_asked turns values i p n k st w back at.operation h at.there b
    by (inr r) = subst (λ o. UnwindAsked i p n k st w back (length (linear_code (shape p n) o))) (sym r.is) (resume_asked turns i p n r.slot k st w back h (at.there ∙ ap Some r.is) r.asked)
