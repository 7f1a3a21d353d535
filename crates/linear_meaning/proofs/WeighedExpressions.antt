-- What expressions become weighs at most 40 for each token.
use Rattle.std.proofs.Common.{ℕ, ◌+◌, ◌*◌, ◌≤◌, Bool, true, false, List, [], ◌∷◌, ◌++◌, drop, if◌then◌else◌, arith}
use Rattle.std.specs.Prelude.{pos}
use Rattle.cxx_ast.specs.declared.expression.BinaryOp.{BinaryOp}
use Rattle.cxx_ast.specs.declared.expression.BinaryOp.TheVariants.{And, Or}
use Rattle.cxx_ast.specs.declared.name.Bound.{Bound}
use Rattle.cxx_ast.specs.declared.name.Bound.TheVariants.{Builtin as BuiltinBound}
use Rattle.cxx_ast.specs.declared.name.Builtin.TheVariants.{SetTerminate, SetUnexpected}
use Rattle.cxx_ast.specs.declared.types.Ty.{Ty}
use Rattle.cxx_ast.specs.Plain.{Expression, number, path, paren, unary, binary, call, std_call, Expressions, no_expressions, expression_then}
use Rattle.meaning_forms.specs.Running.{constructor}
use Rattle.meaning_forms.specs.Expression.{lvalue_of, names_of, callee_bound, receiver, parameter_types, constructor_types}
use Rattle.region_forms.specs.Form.{Place, Value, number as number_value, call_value, arguments_from, store, evaluate, construct, call as call_only, op, branch, in_order}
use Rattle.region_forms.specs.Numbering.{number_of}
use Rattle.region_forms.specs.LowerExpression.{Lowering, slot_place, place_of, has_call, some_call, Lowered, LoweredArguments, LoweredCall, stored_in, truth_of, if_true, if_false, left_stored, both, given_before, call_of, call_placed, call_stored, call_dropped, int_passed, address_passed, refers, lower, lower_arguments, dropped, lower_store, constructor_chosen, lower_construct}
use Rattle.source_bounds.specs.LeastTokens.{tokens_in, tokens_in_all}
use Rattle.linear_meaning.proofs.Weights.{Weigh, Weighs, no_weight, upto, first_of, single, then_others, then_one, an_op, in_a_row, two_sides}

-- a value with what comes before it; one operation's weight is left
pub record Priced (m : ℕ) (x : Lowered) : Type 0 where
  pub front : ℕ
  pub before : Weigh front x.before
  pub total : front + 16 ≤ m

quiet_store : (t : ℕ) (o : Value) → Weighs 16 (stored_in t o)
quiet_store t o = an_op (store (slot_place t) o)

decided : (t m k : ℕ) (a b : Lowered) → Priced m a → Priced k b → Priced (m + k + 40) (if_true t a b)
decided t m k a b h g =
    let right = b.before ++ stored_in t (truth_of b.value) ∷ [] in
    let wrong = stored_in t (number_value (pos 0)) ∷ [] in
    let sides = two_sides a.value (in_order right) (in_order wrong)
    (in_a_row right (then_one b.before (stored_in t (truth_of b.value)) g.before (quiet_store t (truth_of b.value))))
    (in_a_row wrong (single (quiet_store t (number_value (pos 0))))) in
    record {
      front = h.front + g.front + 40;
      before = upto (h.front + g.front + 40) (then_one a.before (branch a.value (in_order right) (in_order wrong)) h.before sides) (omega arith);
      total = omega (arith, h.total, g.total);
    }

chosen : (t m k : ℕ) (a b : Lowered) → Priced m a → Priced k b → Priced (m + k + 40) (if_false t a b)
chosen t m k a b h g =
    let right = stored_in t (number_value (pos 1)) ∷ [] in
    let wrong = b.before ++ stored_in t (truth_of b.value) ∷ [] in
    let sides = two_sides a.value (in_order right) (in_order wrong) (in_a_row right (single (quiet_store t (number_value (pos 1)))))
    (in_a_row wrong (then_one b.before (stored_in t (truth_of b.value)) g.before (quiet_store t (truth_of b.value)))) in
    record {
      front = h.front + g.front + 40;
      before = upto (h.front + g.front + 40) (then_one a.before (branch a.value (in_order right) (in_order wrong)) h.before sides) (omega arith);
      total = omega (arith, h.total, g.total);
    }

kept : (o : BinaryOp) (t m k : ℕ) (a b : Lowered) → Priced m a → Priced k b → Priced (m + k + 40) (left_stored o t a b)
kept o t m k a b h g = record {
  front = h.front + 16 + g.front;
  before = upto (h.front + 16 + g.front) (then_others a.before (stored_in t a.value ∷ b.before) h.before (first_of (quiet_store t a.value) g.before)) (omega arith);
  total = omega (arith, h.total, g.total);
}

both_priced : (o : BinaryOp) (c : Bool) (t m k : ℕ) (a : Lowered) (b : ℕ → Lowered) → Priced m a → ((u : ℕ) → Priced k (b u)) → Priced (m + k + 40) (both o c t a b)
both_priced o false t m k a b h g = record { front = h.front; before = h.before; total = omega (arith, h.total) }
both_priced And true t m k a b h g = decided t m k a (b t) h (g t)
both_priced Or true t m k a b h g = chosen t m k a (b t) h (g t)
both_priced o true t m k a b h g = kept o t m k a (b (t + 1)) h (g (t + 1))

given_weigh : (m : ℕ) (b : Bound) (given : LoweredArguments) → Weigh m given.before → Weigh m (given_before b given)
given_weigh m (BuiltinBound SetTerminate) given h = no_weight m
given_weigh m (BuiltinBound SetUnexpected) given h = no_weight m
given_weigh m b given h = h

call_priced : (t m : ℕ) (c : LoweredCall) → Weigh m c.before → Priced (m + 32) (call_stored t c)
call_priced t m c h = record {
  front = m + 16;
  before = then_one c.before (stored_in t (call_value c.callee (arguments_from c.arguments))) h (quiet_store t (call_value c.callee (arguments_from c.arguments)));
  total = omega arith;
}

int_weighs : (c : Bool) (t m k : ℕ) (a : Lowered) (rest : ℕ → LoweredArguments) → Priced m a → ((u : ℕ) → Weigh k (rest u).before) → Weigh (m + k) (int_passed c t a rest).before
int_weighs false t m k a rest h g = upto (m + k) h.before (omega (arith, h.total))
int_weighs true t m k a rest h g =
    upto (m + k) (then_others a.before (stored_in t a.value ∷ (rest (t + 1)).before) h.before (first_of (quiet_store t a.value) (g (t + 1)))) (omega (arith, h.total))

module _ (l : Lowering) where
  first_weighs : (c : Bool) (e : Expression) (es : Expressions) (types : List Ty) (t : ℕ) → Priced (40 * tokens_in e) (lower l e t) →
      ((u : ℕ) → Weigh (40 * tokens_in_all es) (lower_arguments l es (drop 1 types) u).before) →
      Weigh (40 * tokens_in_all (expression_then e es)) (if c then address_passed (place_of l (names_of (lvalue_of e))) (lower_arguments l es (drop 1 types) t)
      else int_passed (some_call es) t (lower l e t) (λ u. lower_arguments l es (drop 1 types) u)).before
  first_weighs true e es types t h g = upto (40 * tokens_in_all (expression_then e es)) (g t) (omega arith)
  first_weighs false e es types t h g =
      upto (40 * tokens_in_all (expression_then e es))
      (int_weighs (some_call es) t (40 * tokens_in e) (40 * tokens_in_all es) (lower l e t) (λ u. lower_arguments l es (drop 1 types) u) h g) (omega arith)

  mutual
    pub priced : (e : Expression) (t : ℕ) → Priced (40 * tokens_in e) (lower l e t)
    priced (number v place) t = record { front = 0; before = no_weight 0; total = omega arith }
    priced (path names) t = record { front = 0; before = no_weight 0; total = omega arith }
    priced (paren e place) t = let h = priced e t in record { front = h.front; before = h.before; total = omega (arith, h.total) }
    priced (unary o e place) t = let h = priced e t in record { front = h.front; before = h.before; total = omega (arith, h.total) }
    priced (binary o a b) t =
        let h = both_priced o (has_call b) t (40 * tokens_in a) (40 * tokens_in b) (lower l a t) (λ u. lower l b u) (priced a t) (λ u. priced b u) in
        record { front = h.front; before = h.before; total = omega (arith, h.total) }
    priced (call names es) t =
        let b = callee_bound names in
        let given = lower_arguments l es (parameter_types l.program b) t in
        let h = call_priced t (40 * tokens_in_all es) (call_of l b (receiver names) es given) (given_weigh (40 * tokens_in_all es) b given (arguments_weigh es (parameter_types l.program b) t)) in
        record { front = h.front; before = h.before; total = omega (arith, h.total) }
    priced (std_call n es place) t =
        let given = lower_arguments l es [] t in
        let h = call_priced t (40 * tokens_in_all es) (call_of l n.bound [] es given) (given_weigh (40 * tokens_in_all es) n.bound given (arguments_weigh es [] t)) in
        record { front = h.front; before = h.before; total = omega (arith, h.total) }

    arguments_weigh : (es : Expressions) (types : List Ty) (t : ℕ) → Weigh (40 * tokens_in_all es) (lower_arguments l es types t).before
    arguments_weigh no_expressions types t = no_weight 0
    arguments_weigh (expression_then e es) types t = first_weighs (refers types) e es types t (priced e t) (λ u. arguments_weigh es (drop 1 types) u)

  valued_weighs : (e : Expression) (t : ℕ) → Priced (40 * tokens_in e) (lower l e t) → Weigh (40 * tokens_in e) ((lower l e t).before ++ op (evaluate (lower l e t).value) ∷ [])
  valued_weighs e t h =
      upto (40 * tokens_in e) (then_one (lower l e t).before (op (evaluate (lower l e t).value)) h.before (an_op (evaluate (lower l e t).value))) (omega (arith, h.total))

  call_dropped_weighs : (m : ℕ) (c : LoweredCall) → Weigh m c.before → Weigh (m + 16) (call_dropped c)
  call_dropped_weighs m c h = then_one c.before (op (call_only c.callee (arguments_from c.arguments))) h (an_op (call_only c.callee (arguments_from c.arguments)))

  pub dropped_weighs : (e : Expression) (t : ℕ) → Weigh (40 * tokens_in e) (dropped l e t)
  dropped_weighs (call names es) t =
      let b = callee_bound names in
      let given = lower_arguments l es (parameter_types l.program b) t in
      upto (40 * tokens_in (call names es))
      (call_dropped_weighs (40 * tokens_in_all es) (call_of l b (receiver names) es given) (given_weigh (40 * tokens_in_all es) b given (arguments_weigh es (parameter_types l.program b) t))) (omega arith)
  dropped_weighs (std_call n es place) t =
      let given = lower_arguments l es [] t in
      upto (40 * tokens_in (std_call n es place))
      (call_dropped_weighs (40 * tokens_in_all es) (call_of l n.bound [] es given) (given_weigh (40 * tokens_in_all es) n.bound given (arguments_weigh es [] t))) (omega arith)
  dropped_weighs (paren e place) t = upto (40 * tokens_in (paren e place)) (dropped_weighs e t) (omega arith)
  dropped_weighs e t = valued_weighs e t (priced e t)

  call_placed_weighs : (m : ℕ) (p : Place) (c : LoweredCall) → Weigh m c.before → Weigh (m + 16) (call_placed p c)
  call_placed_weighs m p c h =
      let value = call_value c.callee (arguments_from c.arguments) in then_one c.before (op (store p value)) h (an_op (store p value))

  pub stored_weighs : (e : Expression) (p : Place) (t : ℕ) → Priced (40 * tokens_in e) (lower l e t) → Weigh (40 * tokens_in e) ((lower l e t).before ++ op (store p (lower l e t).value) ∷ [])
  stored_weighs e p t h =
      upto (40 * tokens_in e) (then_one (lower l e t).before (op (store p (lower l e t).value)) h.before (an_op (store p (lower l e t).value))) (omega (arith, h.total))

  pub store_weighs : (e : Expression) (p : Place) (t : ℕ) → Weigh (40 * tokens_in e) (lower_store l e p t)
  store_weighs (call names es) p t =
      let b = callee_bound names in
      let given = lower_arguments l es (parameter_types l.program b) t in
      upto (40 * tokens_in (call names es))
      (call_placed_weighs (40 * tokens_in_all es) p (call_of l b (receiver names) es given) (given_weigh (40 * tokens_in_all es) b given (arguments_weigh es (parameter_types l.program b) t))) (omega arith)
  store_weighs (std_call n es place) p t =
      let given = lower_arguments l es [] t in
      upto (40 * tokens_in (std_call n es place))
      (call_placed_weighs (40 * tokens_in_all es) p (call_of l n.bound [] es given) (given_weigh (40 * tokens_in_all es) n.bound given (arguments_weigh es [] t))) (omega arith)
  store_weighs (paren e place) p t = upto (40 * tokens_in (paren e place)) (store_weighs e p t) (omega arith)
  store_weighs e p t = stored_weighs e p t (priced e t)

  pub built_weighs : (k : ℕ) (es : Expressions) (p : Place) (t : ℕ) → Weigh (40 * tokens_in_all es + 16) (lower_construct l k es p t)
  built_weighs k es p t =
      let n = number_of l.program (constructor k (constructor_chosen l k es)) in
      let types = constructor_types l.program k (constructor_chosen l k es) in
      let given = lower_arguments l es types t in
      then_one given.before (op (construct p n (arguments_from given.arguments))) (arguments_weigh es types t) (an_op (construct p n (arguments_from given.arguments)))
