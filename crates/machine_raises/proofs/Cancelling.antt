-- A forced unwind begins on both machines.
use Rattle.std.proofs.Common.{◌≡◌, ◌∙◌, refl, sym, ap, subst, arith, ℕ, ◌+◌, ◌^◌, ◌<◌, ◌≤◌, ℤ, pos, List, [], ◌∷◌, ◌++◌, length, length-append, append-nil, Option, Some, None, inl, inr}
use Rattle.std.specs.Prelude.{slice_get}
use Rattle.cxx_ast.specs.declared.name.Builtin.TheVariants.{Cancel}
use Rattle.rv64_isa.specs.State.{State}
use Rattle.rv64_isa.specs.Step.{x}
use Rattle.elf_image.specs.Clean.{CleanImage}
use Rattle.cxa_runtime.specs.Number.{as_int}
use Rattle.cxa_runtime.specs.World as abi
use Rattle.cxa_runtime.specs.World.{argument, at_hart}
use Rattle.cxa_runtime.specs.Raising.{Image, at_pad}
use Rattle.cxa_runtime.specs.Cancel.{forced_as, unwinds, cancel}
use Rattle.cxa_runtime.specs.Call.{call_effect, numbered}
use Rattle.cxa_runtime.specs.Run.{counted}
use Rattle.eh_run.specs.Program.{program_of}
use Rattle.region_forms.specs.Form.{Value, call_value, builtin, int_argument, no_arguments, argument_then, Op, evaluate, call}
use Rattle.region_forms.specs.World.{number_word, World}
use Rattle.region_forms.specs.Evaluation.{with_some, value_in, words_in}
use Rattle.region_forms.specs.Effect.{cancels, number_at, if_some}
use Rattle.linear_forms.specs.Linear.{LinearOp, plain}
use Rattle.linear_forms.specs.Stub.{compiled, terminating}
use Rattle.linear_forms.specs.Activation.{State as LinearState, goes_to}
use Rattle.linear_forms.specs.Machine.{step}
use Rattle.linear_forms.specs.Operation.{performed}
use Rattle.linear_forms.specs.Forced.{forced_above}
use Rattle.linear_forms.specs.UnitRun.{code_of}
use Rattle.machine_forms.specs.Registers.{sp, a0, register}
use Rattle.machine_forms.specs.Bounds.{LinearFits}
use Rattle.machine_forms.specs.Piece.{Piece}
use Rattle.machine_forms.specs.Shape.{Shape}
use Rattle.machine_forms.specs.ValueCode.{needs, value_code}
use Rattle.machine_forms.specs.RuntimeCall.{runtime_call}
use Rattle.machine_forms.specs.LinearCode.{linear_code}
use Rattle.machine_forms.specs.Routine.{op_word}
use Rattle.machine_pieces.specs.Numbers.{extended}
use Rattle.machine_pieces.specs.Standing.{Ground}
use Rattle.machine_pieces.specs.Frames.{ValueStands}
use Rattle.machine_pieces.specs.Laws.{CallsAreTurns, ValuesAreComputed}
use Rattle.machine_pieces.specs.Turning.{SameRuntime}
use Rattle.machine_pieces.proofs.Fetching.{pieces_split}
use Rattle.machine_pieces.proofs.Turning.{as_forced, forced_then, as_int_extended}
use Rattle.machine_stubs.specs.Calls.{asked, CallsAreMade}
use Rattle.raise_simulation.specs.Resumes.{ForcedAgree}
use Rattle.machine_simulation.specs.Plan.{Plan, function, shape, slot_kinds, routine, first_word, setting}
use Rattle.machine_simulation.specs.Matches.{RuntimeMatches}
use Rattle.machine_simulation.specs.Operations.{Matched, ForcedMatched}
use Rattle.machine_simulation.specs.Steps.{StepAt}
use Rattle.machine_simulation.proofs.Words.{OperationAt, operation_at}
use Rattle.machine_simulation.proofs.Matching.{Stands, stands_by, ready_here}
use Rattle.machine_simulation.proofs.Asked.{value_stands}
use Rattle.machine_simulation.proofs.Quiet.{step_is, plain_is}
use Rattle.machine_exceptions.proofs.Ecalls.{ecall_reached, call_unwinds}
use Rattle.machine_raises.specs.Stacks.{IsRunning}
use Rattle.machine_raises.specs.Pads.{PadsArePlain, FiltersAreInts}
use Rattle.machine_raises.specs.Cancels.{Cancels, CancelsRun}
use Rattle.machine_raises.proofs.AtCalls.{call_at, when_asked}
use Rattle.machine_raises.proofs.Entered.{EntersPad, Arrived, pad_entered_runs, compiled_lives}
use Rattle.machine_raises.proofs.Forcing.{forced_lands}

cancel_is : (image : Image) (wish : ℕ) (t : abi.World) → call_effect 15 image wish t ≡ cancel image t
unfolding call_effect numbered
cancel_is image wish t = refl

-- ---- the step and the pieces
pub record CancelOp (p : Plan) (n : ℕ) (v : Value) (st : LinearState) (o : LinearOp) : Type 0 where
  pub pieces : linear_code (shape p n) o ≡ (value_code (shape p n) (register 0) 0 v ++ []) ++ runtime_call 15
  pub fits : LinearFits o → 0 + needs v ≤ 15
  pub steps : (next : LinearState) → step (code_of p.unit) st ≡ goes_to next →
      performed (code_of p.unit) (if_some (words_in (slot_kinds p n) st.top.frame st.world (argument_then (int_argument v) no_arguments)) (λ given. cancels (number_at given 0) st.world)) st.top st.frames st.world ≡ goes_to next

pub cancel_op : (p : Plan) (n : ℕ) (v : Value) (st : LinearState) (o : LinearOp) → st.top.function ≡ compiled n → slice_get (function p n).ops st.top.place ≡ Some o → Cancels v o → CancelOp p n v st o
cancel_op p n v st o runs there (inl is) =
    let c : Op = call (builtin Cancel) (argument_then (int_argument v) no_arguments) in
    record {
      pieces = ap (linear_code (shape p n)) is;
      fits = λ few. (subst LinearFits is few).0;
      steps = λ next e. sym (plain_is p n st c runs) ∙ sym (step_is p n st (plain c) runs (there ∙ ap Some is)) ∙ e;
    }
cancel_op p n v st o runs there (inr is) =
    let c : Op = evaluate (call_value (builtin Cancel) (argument_then (int_argument v) no_arguments)) in
    record {
      pieces = ap (linear_code (shape p n)) is;
      fits = λ few. (subst LinearFits is few).0;
      steps = λ next e. sym (plain_is p n st c runs) ∙ sym (step_is p n st (plain c) runs (there ∙ ap Some is)) ∙ e;
    }

pub record CancelStep (p : Plan) (n : ℕ) (v : Value) (st next : LinearState) : Type 0 where
  pub value : ℤ
  pub is : value_in (slot_kinds p n) st.top.frame st.world v ≡ Some value
  pub goes : forced_above (code_of p.unit) value (st.top ∷ st.frames) st.world ≡ goes_to next

pub cancel_step : (p : Plan) (n : ℕ) (v : Value) (st next : LinearState) (o : LinearOp) → CancelOp p n v st o → step (code_of p.unit) st ≡ goes_to next → CancelStep p n v st next
cancel_step p n v st next o h e = by (value_in (slot_kinds p n) st.top.frame st.world v) refl (h.steps next e)
  where
    by : (oz : Option ℤ) → value_in (slot_kinds p n) st.top.frame st.world v ≡ oz →
        performed (code_of p.unit) (if_some (with_some (with_some oz (λ z. Some (number_word z))) (λ word. Some (word ∷ []))) (λ given. cancels (number_at given 0) st.world)) st.top st.frames st.world ≡ goes_to next → CancelStep p n v st next
    by None is got = absurd (cc got)
    by (Some z) is got = record { value = z; is = is; goes = got }

-- ---- the turns
-- so many turns lead to a world of which this holds, where the runtime keeps its exceptions, and the number
abbrev pub CancelledTo : (i : CleanImage) (w : abi.World) (words : ℕ) (k : ℤ) (R : abi.World → Type 0) → Type 0
CancelledTo i w words k R = ForcedMatched (program_of i).image words w [] (λ u. R u × (u.exceptions ≡ w.exceptions) × (u.unwinding ≡ Some k))

pub cancel_runs : CallsAreTurns → CallsAreMade → ValuesAreComputed → ForcedAgree → (words : ℕ) (R : Plan → abi.World → Type 0) (i : CleanImage) (p : Plan) (n : ℕ) (st next : LinearState) (w : abi.World) (back : ℕ) (o : LinearOp) (v : Value) →
    EntersPad i st.top next words R → (next.top.function ≡ terminating → ⊥) → Stands p n st w back → IsRunning p i w.hart → StepAt p st next n o → CancelOp p n v st o → ValueStands (setting p n) (shape p n) (slot_kinds p n) st.top.frame st.world v →
    (went : CancelStep p n v st next) → PadsArePlain p → FiltersAreInts p → (next.world ≡ st.world) × CancelledTo i w (length (linear_code (shape p n) o) + words) went.value (R p)
cancel_runs turns made values agree words R i p n st next w back o v enters alive h running at op stands went plains ints =
    let image : Image = (program_of i).image in
    let f : Shape = shape p n in
    let g : Ground = (setting p n).ground in
    let here : ℕ = first_word p n + op_word (routine p n) st.top.place in
    let s : State = w.hart in
    let k : ℤ = went.value in
    let front : List Piece = value_code f (register 0) 0 v in
    let rear : List Piece = runtime_call 15 in
    let pieces : linear_code f o ≡ front ++ rear = op.pieces ∙ ap (λ ps. ps ++ rear) (append-nil front) in
    let stood = operation_at p s.memory n st.top.place o h.memory.unit h.memory.top.known at.there in
    let own : OperationAt p s.memory n st.top.place (front ++ rear) = subst (OperationAt p s.memory n st.top.place) pieces stood in
    let sum : length (front ++ rear) ≡ length front + 2 = length-append front rear in
    let total : length (linear_code f o) ≡ length front + 2 = ap length pieces ∙ sum in
    let short : length front < 2 ^ 18 = omega (arith, own.inside, sum, h.memory.unit.short n h.memory.top.known) in
    let parts = pieces_split s.memory g here front rear own.code in
    let value = values.value (setting p n) f (slot_kinds p n) st.top.frame st.world v k 0 here s stands went.is (op.fits (h.memory.unit.registers n st.top.place o at.there)) short parts.0 h.pc (ready_here p n st w back h) in
    let ec = ecall_reached turns image g here (length front) 0 15 w value.computes.goes (omega arith) parts.1 in
    let y : abi.World = record (asked ec.behind ec.at) { unwinding = Some k } in
    let c = call_at i image p n st w back g here (length front) 15 value.computes.goes.after h running ec (record { operation = o; there = at.there; word = length front + 1; inside = omega (arith, total); is = ec.pc ∙ omega arith }) in
    let q = when_asked p st.frames st.world ec.behind ec.at c.runtime in
    let r : RuntimeMatches p st.frames st.world y = record { input = q.input; replies = q.replies; last_number = q.last_number; terminating = q.terminating; exceptions = q.exceptions; plan = q.plan } in
    let is0 : argument (asked ec.behind ec.at) 10 ≡ extended k = ec.kept a0 (λ b. absurd (omega (arith, b))) ∙ value.computes.is in
    let number : as_int (argument (asked ec.behind ec.at) 10) ≡ k = ap as_int is0 ∙ as_int_extended k value.int in
    let lands = forced_lands p i st.top st.frames st.world ec.behind c.running c.on agree words R next enters alive y k went.goes plains ints r in
    let to : abi.World = at_pad 0 (pos 0) (at_hart lands.after y) in
    let effect : (wish : ℕ) → call_effect 15 image wish (asked ec.behind ec.at) ≡ abi.goes to = λ wish. cancel_is image wish (asked ec.behind ec.at)
    ∙ ap (λ z. unwinds image z (record (asked ec.behind ec.at) { unwinding = Some z })) number ∙ ap (forced_as image.places k y) lands.installs in
    let called = call_unwinds made image g here (length front) 15 w value.computes.goes.after ec to effect in
    let ran : Matched image words (counted to) [] (λ u. R p u × SameRuntime y u) = subst (λ z. Matched image words (counted (at_pad 0 z (at_hart lands.after y))) [] (λ u. R p u × SameRuntime y u)) lands.chosen lands.ran in (
      lands.world,
      record {
        turns = ec.turns + 1 + ran.turns;
        few = omega (arith, ec.few, ran.few, total);
        some = λ some. omega arith;
        after = ran.after;
        runs = forced_then image (ec.turns + 1) ran.turns w (counted to) ran.after [] [] called (as_forced image ran.turns (counted to) ran.after [] ran.runs);
        holds = (ran.holds.0, ran.holds.1.exceptions ∙ ec.runtime.exceptions, ran.holds.1.unwinding);
      },
    )

pub cancels_run : CallsAreTurns → CallsAreMade → ValuesAreComputed → ForcedAgree → CancelsRun
cancels_run turns made values agree i p n m st next w o v h running at is asks plains ints callee =
    let stood = stands_by p n st w h at.runs in
    let op = cancel_op p n v st o at.runs at.there is in
    let went = cancel_step p n v st next o op at.step in
    let all = cancel_runs turns made values agree 2 (Arrived next) i p n st next w h.back o v (pad_entered_runs i st.top next m callee) (compiled_lives next m callee) stood running at op
    (value_stands p n st.top.frame st.world w.hart.memory (x w.hart sp) h.back stood.memory.top v asks) went plains ints in
    (ap (λ (u : World). u.items) all.0 ∙ sym (append-nil st.world.items), went.value, went.is, record { ran = all.1 })
