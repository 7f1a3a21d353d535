-- A module is called that raises: the step, and the runtime call.
use Rattle.std.proofs.Common.{◌≡◌, ◌∙◌, refl, sym, ap, subst, arith, ℕ, ◌+◌, ◌%◌, ◌^◌, pos, false, List, ◌∷◌, ◌++◌, length, length-append, Option, Some, inl, inr}
use Rattle.std.specs.Prelude.{slice_get, slice_set}
use Rattle.cxx_ast.specs.declared.name.Builtin.{Builtin}
use Rattle.cxx_ast.specs.declared.name.Builtin.TheVariants.{Module}
use Rattle.eh_outer.specs.declared.module.Reply.{Reply}
use Rattle.eh_outer.specs.declared.module.Reply.TheVariants.{Raise}
use Rattle.elf_image.specs.Clean.{CleanImage}
use Rattle.cxa_runtime.specs.Objects.{slot_for}
use Rattle.cxa_runtime.specs.World as abi
use Rattle.cxa_runtime.specs.World.{argument}
use Rattle.cxa_runtime.specs.Raising.{Image}
use Rattle.cxa_runtime.specs.Foreign.{raised_in, module_call, module_number, asked as module_asked}
use Rattle.cxa_runtime.specs.Call.{call_effect, numbered}
use Rattle.eh_run.specs.Program.{program_of}
use Rattle.region_forms.specs.Form.{Place, call_value, builtin, Arguments, evaluate, store, call}
use Rattle.region_forms.specs.World.{World}
use Rattle.region_forms.specs.Evaluation.{words_in}
use Rattle.region_forms.specs.Effect.{if_some, built_in, replied, answered}
use Rattle.linear_forms.specs.Linear.{LinearOp}
use Rattle.linear_forms.specs.Stub.{compiled}
use Rattle.linear_forms.specs.Activation.{State as LinearState, Next}
use Rattle.linear_forms.specs.Machine.{step}
use Rattle.linear_forms.specs.Operation.{act, performed}
use Rattle.linear_forms.specs.UnitRun.{code_of}
use Rattle.machine_forms.specs.Registers.{a0}
use Rattle.machine_forms.specs.Piece.{Piece}
use Rattle.machine_forms.specs.RuntimeCall.{runtime_call}
use Rattle.machine_forms.specs.Leaf.{linear_stays}
use Rattle.machine_forms.specs.LinearCode.{linear_code}
use Rattle.machine_forms.specs.Routine.{op_word}
use Rattle.machine_pieces.specs.Numbers.{extended}
use Rattle.machine_pieces.specs.Standing.{Ground}
use Rattle.machine_pieces.specs.Laws.{CallsAreTurns}
use Rattle.machine_pieces.proofs.Fetching.{pieces_split}
use Rattle.machine_pieces.proofs.Numbers.{small_pos}
use Rattle.machine_stubs.specs.Calls.{asked}
use Rattle.machine_simulation.specs.Plan.{Plan, function, shape, slot_kinds, routine, first_word, setting}
use Rattle.machine_simulation.specs.Calls.{stored_in}
use Rattle.machine_simulation.proofs.Words.{OperationAt, operation_at}
use Rattle.machine_simulation.proofs.Matching.{Stands}
use Rattle.machine_simulation.proofs.Quiet.{step_is, plain_is}
use Rattle.machine_exceptions.specs.Answers.{CallsBuiltin, both_ints}
use Rattle.machine_exceptions.proofs.Ecalls.{ecall_reached}
use Rattle.machine_exceptions.proofs.ModuleCalls.{words_are, module_begins}
use Rattle.machine_raises.specs.Stacks.{GoesOnIn}
use Rattle.raise_ends.specs.Modules.{AtRaise}
use Rattle.raise_ends.proofs.Asking.{AtCall, high_at, at_call}
use Rattle.raise_ends.proofs.ForeignMade.{left_in}

module_is : (image : Image) (wish : ℕ) (t : abi.World) → call_effect 14 image wish t ≡ module_call image wish t
unfolding call_effect numbered
module_is image wish t = refl

-- ---- the step

-- a call of a built-in function
built_step : (p : Plan) (n : ℕ) (b : Builtin) (args : Arguments) (wants : Option Place) (st : LinearState) (o : LinearOp) → st.top.function ≡ compiled n → slice_get (function p n).ops st.top.place ≡ Some o → CallsBuiltin b args wants o →
    step (code_of p.unit) st ≡ performed (code_of p.unit) (if_some (words_in (slot_kinds p n) st.top.frame st.world args) (λ given. built_in (slot_kinds p n) b wants given st.top.frame st.world)) st.top st.frames st.world
built_step p n b args wants st o runs there calls = step_is p n st o runs there ∙ by calls
  where
    does : LinearOp → Next
    does c = act (code_of p.unit) c st.top st.frames st.world

    wanted : Option Place → Next
    wanted q = performed (code_of p.unit) (if_some (words_in (slot_kinds p n) st.top.frame st.world args) (λ given. built_in (slot_kinds p n) b q given st.top.frame st.world)) st.top st.frames st.world

    by : CallsBuiltin b args wants o → does o ≡ wanted wants
    by (inl h) = ap does h.2 ∙ plain_is p n st (store h.0 (call_value (builtin b) args)) runs ∙ ap wanted (sym h.1)
    by (inr (inl h)) = ap does h.1 ∙ plain_is p n st (evaluate (call_value (builtin b) args)) runs ∙ ap wanted (sym h.0)
    by (inr (inr h)) = ap does h.1 ∙ plain_is p n st (call (builtin b) args) runs ∙ ap wanted (sym h.0)

-- the next reply raises
pub raise_step : (i : CleanImage) (p : Plan) (n k token : ℕ) (left : List Reply) (st : LinearState) (at : AtRaise i p n k token left st) →
    step (code_of p.unit) st ≡ performed (code_of p.unit) (answered (slot_kinds p n) at.wants k (Raise token) st.top.frame (record (st.world) { replies = slice_set st.world.replies k left })) st.top st.frames st.world
raise_step i p n k token left st at =
    let code = code_of p.unit in
    let v : World = st.world in
    let c = at.calls in
    built_step p n Module (both_ints c.number c.other) at.wants st at.operation at.runs at.there c.calls
    ∙ ap (λ a. performed code (if_some a (λ gives. built_in (slot_kinds p n) Module at.wants gives st.top.frame v)) st.top st.frames v) (words_are (slot_kinds p n) st.top.frame v c.number c.other (pos k) c.given c.is c.other_is)
    ∙ ap (λ a. performed code (replied (slot_kinds p n) at.wants k a st.top.frame v) st.top st.frames v) at.reply

-- ---- the runtime call

-- a call of a module leaves its function
module_leaves : (args : Arguments) (wants : Option Place) (o : LinearOp) → CallsBuiltin Module args wants o → linear_stays o ≡ false
module_leaves args wants o (inl h) = ap linear_stays h.2
module_leaves args wants o (inr (inl h)) = ap linear_stays h.1
module_leaves args wants o (inr (inr h)) = ap linear_stays h.1

-- an exception is raised from the slot that is wished for, or the first that is vacant
pub record RaiseAsked (i : CleanImage) (p : Plan) (n k token : ℕ) (left : List Reply) (st : LinearState) (w : abi.World) (back words : ℕ) : Type 0 where
  pub call : AtCall (program_of i).image p n st w back 14 words
  pub goes_on : GoesOnIn p n st.top.place call.behind.pc
  pub effect : (wish : ℕ) → let y = asked call.behind call.at in call_effect 14 (program_of i).image wish y ≡ raised_in (program_of i).image (left_in y k left) k token (slot_for y.exceptions.live wish)

pub raise_asked : CallsAreTurns → (i : CleanImage) (p : Plan) (n k token : ℕ) (left : List Reply) (st : LinearState) (w : abi.World) (back : ℕ) → Stands p n st w back → (at : AtRaise i p n k token left st) →
    RaiseAsked i p n k token left st w back (length (linear_code (shape p n) at.operation))
raise_asked turns i p n k token left st w back h at =
    let image : Image = (program_of i).image in
    let g : Ground = (setting p n).ground in
    let here : ℕ = first_word p n + op_word (routine p n) st.top.place in
    let v : World = st.world in
    let o : LinearOp = at.operation in
    let begins = module_begins p n st w back at.wants o (pos k) h at.there at.calls in
    let front : List Piece = begins.front in
    let rest : List Piece = stored_in (shape p n) at.wants in
    let rear : List Piece = runtime_call 14 ++ rest in
    let pieces : linear_code (shape p n) o ≡ front ++ rear = begins.pieces in
    let own : OperationAt p w.hart.memory n st.top.place (front ++ rear) = subst (OperationAt p w.hart.memory n st.top.place) pieces (operation_at p w.hart.memory n st.top.place o h.memory.unit h.memory.top.known at.there) in
    let sum : length (front ++ rear) ≡ length front + length rear = length-append front rear in
    let total : length (linear_code (shape p n) o) ≡ length front + 2 + length rest = ap length pieces ∙ omega (arith, sum, length-append (runtime_call 14) rest) in
    let parts = pieces_split w.hart.memory g here front rear own.code in
    let ecall = pieces_split w.hart.memory g (here + length front) (runtime_call 14) rest parts.1 in
    let ec = ecall_reached turns image g here (length front) 0 14 w begins.value.computes.goes (omega arith) ecall.0 in
    let c = at_call image p n st w back g here (length front) 14 (length (linear_code (shape p n) o)) begins.value.computes.goes.after h ec (omega (arith, total)) (high_at p n st w back o h at.there (module_leaves (both_ints at.calls.number at.calls.other) at.wants o at.calls.calls)) in
    let y : abi.World = asked c.behind c.at in
    let is0 : argument y 10 ≡ extended (pos k) = ec.kept a0 (λ b. absurd (omega (arith, b))) ∙ begins.value.computes.is in
    let low = small_pos k begins.value.int in
    let number : module_number y ≡ k = ap (λ a. a % 2 ^ 32) is0 ∙ omega (arith, low) in
    let replies : slice_get y.replies k ≡ Some (Raise token ∷ left) = ap (λ rs. slice_get rs k) c.runtime.replies ∙ at.reply in
    record {
      call = c;
      goes_on = record { operation = o; there = at.there; word = length front + 1; inside = omega (arith, total); is = ec.pc ∙ omega arith };
      effect = λ wish. module_is image wish y ∙ ap (λ a. module_asked image wish y a (slice_get y.replies a)) number ∙ ap (module_asked image wish y k) replies;
    }
