-- A call of a module: its words, its step, and its number in the first register.
use Rattle.std.proofs.Common.{◌≡◌, ◌∙◌, refl, sym, ap, subst, arith, ℕ, ◌+◌, ◌^◌, ◌<◌, ℤ, List, [], ◌∷◌, ◌++◌, append-nil, length, length-append, Option, Some, inl, inr}
use Rattle.std.specs.Prelude.{slice_get}
use Rattle.cxx_ast.specs.declared.name.Builtin.TheVariants.{Module}
use Rattle.rv64_isa.specs.Step.{x}
use Rattle.cxa_runtime.specs.World as abi
use Rattle.region_forms.specs.Form.{Kinds, Place, Value, int_argument, no_arguments, argument_then}
use Rattle.region_forms.specs.World.{Frame, World, number_word}
use Rattle.region_forms.specs.Evaluation.{value_in, with_some, words_in}
use Rattle.region_forms.specs.Effect.{if_some, built_in, module_called}
use Rattle.linear_forms.specs.Linear.{LinearOp}
use Rattle.linear_forms.specs.Activation.{State as LinearState, goes_to}
use Rattle.linear_forms.specs.Machine.{step}
use Rattle.linear_forms.specs.Operation.{performed}
use Rattle.linear_forms.specs.UnitRun.{code_of}
use Rattle.machine_forms.specs.Bounds.{ArgumentsFit, LinearFits}
use Rattle.machine_forms.specs.Registers.{sp, register}
use Rattle.machine_forms.specs.Piece.{Piece}
use Rattle.machine_forms.specs.ValueCode.{needs, value_code}
use Rattle.machine_forms.specs.CallCode.{arguments_held}
use Rattle.machine_forms.specs.RuntimeCall.{runtime_call}
use Rattle.machine_forms.specs.LinearCode.{linear_code}
use Rattle.machine_forms.specs.Routine.{op_word}
use Rattle.machine_pieces.specs.Standing.{Ground}
use Rattle.machine_pieces.specs.Going.{Gives}
use Rattle.machine_pieces.proofs.Fetching.{pieces_split}
use Rattle.machine_pieces.proofs.Values.{both}
use Rattle.machine_simulation.specs.Plan.{Plan, function, shape, slot_kinds, routine, first_word, setting}
use Rattle.machine_simulation.specs.Calls.{stored_in}
use Rattle.machine_simulation.proofs.Words.{OperationAt, operation_at}
use Rattle.machine_simulation.proofs.Asked.{value_stands}
use Rattle.machine_simulation.proofs.Matching.{Stands, ready_here}
use Rattle.machine_exceptions.specs.Answers.{CallsBuiltin, both_ints, CallsModule}
use Rattle.machine_exceptions.proofs.Builtins.{builtin_op}
use Rattle.machine_exceptions.proofs.Forced.{in_place, in_place_serves}

-- what is passed
pub words_are : (ks : Kinds) (f : Frame) (w : World) (e a : Value) (k z : ℤ) → value_in ks f w e ≡ Some k → value_in ks f w a ≡ Some z → words_in ks f w (both_ints e a) ≡ Some (number_word k ∷ number_word z ∷ [])
words_are ks f w e a k z h i =
    ap (λ q. with_some (with_some q (λ y. Some (number_word y))) (λ word. with_some (words_in ks f w (argument_then (int_argument a) no_arguments)) (λ words. Some (word ∷ words)))) h
    ∙ ap (λ q. with_some (with_some (with_some q (λ y. Some (number_word y))) (λ word. Some (word ∷ []))) (λ words. Some (number_word k ∷ words))) i

both_fit : (e a : Value) (wants : Option Place) (o : LinearOp) → CallsBuiltin Module (both_ints e a) wants o → LinearFits o → ArgumentsFit 1 0 (both_ints e a)
both_fit e a wants o (inl s) few = subst LinearFits s.2 few
both_fit e a wants o (inr (inl s)) few = subst LinearFits s.1 few
both_fit e a wants o (inr (inr s)) few = subst LinearFits s.1 few

-- The words up to the runtime call compute both ints, and the module's number comes into a0.
pub record ModuleBegins (p : Plan) (n : ℕ) (st : LinearState) (w : abi.World) (wants : Option Place) (o : LinearOp) (k : ℤ) : Type 0 where
  pub front : List Piece
  pub pieces : linear_code (shape p n) o ≡ front ++ (runtime_call 14 ++ stored_in (shape p n) wants)
  pub value : Gives (setting p n).ground (first_word p n + op_word (routine p n) st.top.place) (length front) 0 w.hart k
  pub steps : (next : LinearState) → step (code_of p.unit) st ≡ goes_to next → performed (code_of p.unit) (module_called (slot_kinds p n) wants k st.top.frame st.world) st.top st.frames st.world ≡ goes_to next

pub module_begins : (p : Plan) (n : ℕ) (st : LinearState) (w : abi.World) (back : ℕ) (wants : Option Place) (o : LinearOp) (k : ℤ) → Stands p n st w back → slice_get (function p n).ops st.top.place ≡ Some o → CallsModule p n st wants o k →
    ModuleBegins p n st w wants o k
module_begins p n st w back wants o k h there c =
    let g : Ground = (setting p n).ground in
    let here : ℕ = first_word p n + op_word (routine p n) st.top.place in
    let op = builtin_op p n Module (both_ints c.number c.other) st o h.runs there wants c.calls (inr refl) in
    let front : List Piece = value_code (shape p n) (register 0) 0 c.number ++ value_code (shape p n) (register 1) 1 c.other in
    let rear : List Piece = runtime_call 14 ++ stored_in (shape p n) wants in
    let held : arguments_held (shape p n) 0 (both_ints c.number c.other) ≡ front = ap (λ ps. value_code (shape p n) (register 0) 0 c.number ++ ps) (append-nil (value_code (shape p n) (register 1) 1 c.other)) in
    let pieces : linear_code (shape p n) o ≡ front ++ rear = op.pieces ∙ ap (λ ps. ps ++ rear) held in
    let own : OperationAt p w.hart.memory n st.top.place (front ++ rear) = subst (OperationAt p w.hart.memory n st.top.place) pieces (operation_at p w.hart.memory n st.top.place o h.memory.unit h.memory.top.known there) in
    let sum : length (front ++ rear) ≡ length front + length rear = length-append front rear in
    let short : length front < 2 ^ 18 = omega (arith, own.inside, sum, h.memory.unit.short n h.memory.top.known) in
    let parts = pieces_split w.hart.memory g here front rear own.code in
    let fits = both_fit c.number c.other wants o c.calls (h.memory.unit.registers n st.top.place o there) in
    let first = in_place_serves (setting p n) (shape p n) (slot_kinds p n) st.top.frame st.world c.number k (value_stands p n st.top.frame st.world w.hart.memory (x w.hart sp) back h.memory.top c.number c.asked) c.is in
    let second = in_place_serves (setting p n) (shape p n) (slot_kinds p n) st.top.frame st.world c.other c.given (value_stands p n st.top.frame st.world w.hart.memory (x w.hart sp) back h.memory.top c.other c.other_asked) c.other_is in
    let two = both (setting p n) (shape p n) (slot_kinds p n) st.top.frame st.world (in_place (shape p n) c.number) (in_place (shape p n) c.other) (needs c.number) (needs c.other) k c.given first second 0 here w.hart
    fits.0 fits.1.0 (omega arith) short parts.0 h.pc (ready_here p n st w back h) in
    record {
      front = front;
      pieces = pieces;
      value = record { int = two.first_int; computes = record { goes = two.goes; is = two.first } };
      steps = λ next e.
          ap (λ q. performed (code_of p.unit) (if_some q (λ given. built_in (slot_kinds p n) Module wants given st.top.frame st.world)) st.top st.frames st.world)
          (sym (words_are (slot_kinds p n) st.top.frame st.world c.number c.other k c.given c.is c.other_is))
          ∙ op.steps next e;
    }
