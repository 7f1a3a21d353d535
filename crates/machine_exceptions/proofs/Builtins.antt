-- Operations that call built-in functions: their pieces and their steps.
use Rattle.std.proofs.Common.{◌≡◌, ◌∙◌, refl, sym, ap, ℕ, List, [], ◌++◌, append_assoc, append-nil, Option, Some, None, inl, inr}
use Rattle.std.specs.Prelude.{◌⊎◌, slice_get}
use Rattle.cxx_ast.specs.declared.name.Builtin.{Builtin}
use Rattle.region_forms.specs.Form.{Place, call_value, builtin, Arguments, Op, evaluate, store, call}
use Rattle.region_forms.specs.Evaluation.{words_in}
use Rattle.region_forms.specs.Effect.{if_some, built_in, effect}
use Rattle.linear_forms.specs.Linear.{LinearOp, plain}
use Rattle.linear_forms.specs.Stub.{compiled}
use Rattle.linear_forms.specs.Activation.{State, goes_to}
use Rattle.linear_forms.specs.Machine.{step}
use Rattle.linear_forms.specs.Operation.{performed}
use Rattle.linear_forms.specs.UnitRun.{code_of}
use Rattle.machine_forms.specs.Piece.{Piece}
use Rattle.machine_forms.specs.CallCode.{arguments_held}
use Rattle.machine_forms.specs.RuntimeCall.{builtin_call, builtin_value}
use Rattle.machine_forms.specs.LinearCode.{linear_code}
use Rattle.machine_forms.specs.Shape.{Shape}
use Rattle.machine_forms.specs.KeptCode.{root_register}
use Rattle.machine_forms.specs.OperationCode.{whole_value, value_stored}
use Rattle.machine_simulation.specs.Plan.{Plan, function, shape, slot_kinds}
use Rattle.machine_simulation.specs.Calls.{stored_in, given_in}
use Rattle.machine_simulation.proofs.Quiet.{step_is, plain_is}
use Rattle.machine_exceptions.specs.Answers.{CallsBuiltin}

pub record BuiltinOp (p : Plan) (n : ℕ) (b : Builtin) (args : Arguments) (wants : Option Place) (st : State) (o : LinearOp) : Type 0 where
  pub pieces : linear_code (shape p n) o ≡ arguments_held (shape p n) 0 args ++ (builtin_call b ++ stored_in (shape p n) wants)
  pub steps : (next : State) → step (code_of p.unit) st ≡ goes_to next →
      performed (code_of p.unit) (if_some (words_in (slot_kinds p n) st.top.frame st.world args) (λ given. built_in (slot_kinds p n) b wants given st.top.frame st.world)) st.top st.frames st.world ≡ goes_to next

-- where the call's value is stored
stored_call : (f : Shape) (o : Option ℕ) (q : Place) (b : Builtin) (args : Arguments) → value_stored f o q (call_value (builtin b) args) ≡ whole_value f (call_value (builtin b) args) ++ given_in f o q
stored_call f None q b args = refl
stored_call f (Some rd) q b args = refl

module _ (p : Plan) (n : ℕ) (b : Builtin) (args : Arguments) (st : State) (o : LinearOp) (runs : st.top.function ≡ compiled n) (there : slice_get (function p n).ops st.top.place ≡ Some o) where
  by_effect : (own wants : Option Place) (c : Op) → wants ≡ own → o ≡ plain c → linear_code (shape p n) (plain c) ≡ arguments_held (shape p n) 0 args ++ (builtin_call b ++ stored_in (shape p n) own) →
      if_some (words_in (slot_kinds p n) st.top.frame st.world args) (λ given. built_in (slot_kinds p n) b own given st.top.frame st.world) ≡ effect (slot_kinds p n) c st.top.frame st.world → BuiltinOp p n b args wants st o
  by_effect own wants c same is code does = record {
    pieces = ap (linear_code (shape p n)) is ∙ code ∙ ap (λ q. arguments_held (shape p n) 0 args ++ (builtin_call b ++ stored_in (shape p n) q)) (sym same);
    steps = λ next e.
        ap (λ q. performed (code_of p.unit) (if_some (words_in (slot_kinds p n) st.top.frame st.world args) (λ given. built_in (slot_kinds p n) b q given st.top.frame st.world)) st.top st.frames st.world) same
        ∙ ap (λ f. performed (code_of p.unit) f st.top st.frames st.world) does ∙ sym (plain_is p n st c runs) ∙ sym (step_is p n st (plain c) runs (there ∙ ap Some is)) ∙ e;
  }

  -- no value is stored
  unwanted : arguments_held (shape p n) 0 args ++ builtin_call b ≡ arguments_held (shape p n) 0 args ++ (builtin_call b ++ [])
  unwanted = ap (λ ps. arguments_held (shape p n) 0 args ++ ps) (sym (append-nil (builtin_call b)))

  pub builtin_op : (wants : Option Place) → CallsBuiltin b args wants o → (wants ≡ None) ⊎ (builtin_value b ≡ []) → BuiltinOp p n b args wants st o
  builtin_op wants (inr (inl h)) own = by_effect None wants (evaluate (call_value (builtin b) args)) h.0 h.1 unwanted refl
  builtin_op wants (inr (inr h)) own = by_effect None wants (call (builtin b) args) h.0 h.1 unwanted refl
  builtin_op wants (inl h) (inl none) = absurd (let both : Some h.0 ≡ None = sym h.1 ∙ none in cc both)
  builtin_op wants (inl h) (inr own) =
      let front : List Piece = arguments_held (shape p n) 0 args in
      let stored : List Piece = stored_in (shape p n) (Some h.0) in
      by_effect (Some h.0) wants (store h.0 (call_value (builtin b) args)) h.1 h.2
      (stored_call (shape p n) (root_register (shape p n) h.0.root) h.0 b args ∙ ap (λ v. ((front ++ builtin_call b) ++ v) ++ stored) own ∙ ap (λ ps. ps ++ stored) (append-nil (front ++ builtin_call b)) ∙ append_assoc front (builtin_call b) stored) refl
