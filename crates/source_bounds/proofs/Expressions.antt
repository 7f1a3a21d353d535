-- What expressions become: for each token at most 32 words.
use Rattle.std.proofs.Common.{◌≡◌, ℕ, ◌+◌, ◌*◌, ◌≤◌, Bool, true, false, List, [], ◌∷◌, ◌++◌, drop, Option, Some, None, if◌then◌else◌, arith}
use Rattle.std.specs.Prelude.{pos}
use Rattle.cxx_ast.specs.declared.expression.BinaryOp.{BinaryOp}
use Rattle.cxx_ast.specs.declared.expression.BinaryOp.TheVariants.{And, Or}
use Rattle.cxx_ast.specs.declared.name.Bound.{Bound}
use Rattle.cxx_ast.specs.declared.name.Bound.TheVariants.{Method, Builtin as BuiltinBound}
use Rattle.cxx_ast.specs.declared.name.Builtin.TheVariants.{SetTerminate, SetUnexpected}
use Rattle.cxx_ast.specs.declared.name.Name.{Name}
use Rattle.cxx_ast.specs.declared.types.Ty.{Ty}
use Rattle.cxx_ast.specs.Plain.{Expression, number, path, paren, unary, binary, call, std_call, Expressions, no_expressions, expression_then}
use Rattle.meaning_forms.specs.Running.{constructor}
use Rattle.meaning_forms.specs.Expression.{lvalue_of, names_of, callee_bound, receiver, parameter_types, constructor_types, function_named}
use Rattle.region_forms.specs.Form.{Place, Value, number as number_value, call_value, Argument, arguments_from, store, evaluate, construct, call as call_only, op, branch, in_order}
use Rattle.region_forms.specs.Numbering.{number_of}
use Rattle.region_forms.specs.LowerExpression.{Lowering, slot_place, place_of, has_call, some_call, Lowered, LoweredArguments, LoweredCall, stored_in, truth_of, if_true, if_false, left_stored, both, receiver_argument, handler_arguments, call_of, call_placed, call_stored, call_dropped, int_passed, address_passed, refers, lower, lower_arguments, dropped, lower_store, constructor_chosen, lower_construct}
use Rattle.source_bounds.specs.OperationWords.{value_words, arguments_words}
use Rattle.source_bounds.specs.LeastTokens.{tokens_in, tokens_in_all}
use Rattle.source_bounds.proofs.Budget.{Fine, Whole, no_more, within, behind, with_last, in_front, alone, one_op, ordered, tested}

-- an expression has a token
pub some_token : (e : Expression) → 1 ≤ tokens_in e
some_token (number v place) = omega arith
some_token (path names) = omega arith
some_token (paren e place) = omega (arith, some_token e)
some_token (unary o e place) = omega (arith, some_token e)
some_token (binary o a b) = omega (arith, some_token a)
some_token (call names es) = omega arith
some_token (std_call n es place) = omega arith

arguments-append : (a b : List Argument) → arguments_words (arguments_from (a ++ b)) ≡ arguments_words (arguments_from a) + arguments_words (arguments_from b)
arguments-append [] b = omega arith
arguments-append (x ∷ a) b = omega (arith, arguments-append a b)

module _ (rows i : ℕ) where
  -- a value with what comes before it; eight words are left
  pub record Costs (d m : ℕ) (x : Lowered) : Type 0 where
    pub front : ℕ
    pub before : Fine rows i d front x.before
    pub total : front + value_words x.value + 8 ≤ m

  -- arguments with what comes before them
  pub record ArgumentsCost (d m : ℕ) (x : LoweredArguments) : Type 0 where
    pub front : ℕ
    pub before : Fine rows i d front x.before
    pub total : front + arguments_words (arguments_from x.arguments) ≤ m

  -- a call with what comes before it
  pub record CallCosts (d m : ℕ) (x : LoweredCall) : Type 0 where
    pub front : ℕ
    pub before : Fine rows i d front x.before
    pub total : front + arguments_words (arguments_from x.arguments) ≤ m

  abbrev stored : (d t : ℕ) (v : Value) → Whole rows i d (value_words v + 2) (stored_in t v)
  stored d t v = one_op rows i d (store (slot_place t) v)

  decided : (d t m k : ℕ) (a b : Lowered) → Costs d m a → Costs (d + 2) k b → Costs d (m + k + 8) (if_true t a b)
  decided d t m k a b h g =
      let right = ordered (d + 1) (d + 2) (b.before ++ stored_in t (truth_of b.value) ∷ []) (omega arith)
      (with_last b.before (stored_in t (truth_of b.value)) g.before (stored (d + 2) t (truth_of b.value))) in
      let wrong = ordered (d + 1) (d + 2) (stored_in t (number_value (pos 0)) ∷ []) (omega arith) (alone (stored (d + 2) t (number_value (pos 0)))) in
      let sides = tested d (d + 1) a.value (in_order (b.before ++ stored_in t (truth_of b.value) ∷ [])) (in_order (stored_in t (number_value (pos 0)) ∷ [])) (omega arith) right wrong in
      record {
        front = _;
        before = with_last a.before (branch a.value (in_order (b.before ++ stored_in t (truth_of b.value) ∷ [])) (in_order (stored_in t (number_value (pos 0)) ∷ []))) h.before sides;
        total = omega (arith, h.total, g.total);
      }

  chosen : (d t m k : ℕ) (a b : Lowered) → Costs d m a → Costs (d + 2) k b → Costs d (m + k + 8) (if_false t a b)
  chosen d t m k a b h g =
      let right = ordered (d + 1) (d + 2) (stored_in t (number_value (pos 1)) ∷ []) (omega arith) (alone (stored (d + 2) t (number_value (pos 1)))) in
      let wrong = ordered (d + 1) (d + 2) (b.before ++ stored_in t (truth_of b.value) ∷ []) (omega arith)
      (with_last b.before (stored_in t (truth_of b.value)) g.before (stored (d + 2) t (truth_of b.value))) in
      let sides = tested d (d + 1) a.value (in_order (stored_in t (number_value (pos 1)) ∷ [])) (in_order (b.before ++ stored_in t (truth_of b.value) ∷ [])) (omega arith) right wrong in
      record {
        front = _;
        before = with_last a.before (branch a.value (in_order (stored_in t (number_value (pos 1)) ∷ [])) (in_order (b.before ++ stored_in t (truth_of b.value) ∷ []))) h.before sides;
        total = omega (arith, h.total, g.total);
      }

  kept : (o : BinaryOp) (d t m k : ℕ) (a b : Lowered) → Costs d m a → Costs d k b → Costs d (m + k + 8) (left_stored o t a b)
  kept o d t m k a b h g = record {
    front = _;
    before = behind a.before (stored_in t a.value ∷ b.before) h.before (in_front (stored d t a.value) g.before);
    total = omega (arith, h.total, g.total);
  }

  both_cost : (o : BinaryOp) (c : Bool) (d t m k : ℕ) (a : Lowered) (b : ℕ → Lowered) → Costs d m a → ((e u : ℕ) → Costs e k (b u)) →
      Costs d (m + k + 8) (both o c t a b)
  both_cost o false d t m k a b h g = let right = g d a.next in record { front = h.front; before = h.before; total = omega (arith, h.total, right.total) }
  both_cost And true d t m k a b h g = decided d t m k a (b t) h (g (d + 2) t)
  both_cost Or true d t m k a b h g = chosen d t m k a (b t) h (g (d + 2) t)
  both_cost o true d t m k a b h g = kept o d t m k a (b (t + 1)) h (g d (t + 1))

  module _ (l : Lowering) where
    receiver_short : (b : Bound) (object : List Name) → arguments_words (arguments_from (receiver_argument l b object)) ≤ 3
    receiver_short (Method k j) object = omega arith
    receiver_short b object = omega arith

    handler_short : (n : Option ℕ) → arguments_words (arguments_from (handler_arguments n)) ≤ 3
    handler_short None = omega arith
    handler_short (Some n) = omega arith

    -- the function that is given stands in the place of arguments
    given_cost : (d m : ℕ) (b : Bound) (object : List Name) (es : Expressions) (given : LoweredArguments) → ArgumentsCost d m given →
        CallCosts d (m + 6) (call_of l b object es given)
    given_cost d m (BuiltinBound SetTerminate) object es given h =
        let n = function_named es in
        record { front = 0; before = no_more rows i d 0; total = omega (arith, handler_short n) }
    given_cost d m (BuiltinBound SetUnexpected) object es given h =
        let n = function_named es in
        record { front = 0; before = no_more rows i d 0; total = omega (arith, handler_short n) }
    given_cost d m b object es given h = record {
      front = h.front;
      before = h.before;
      total = omega (arith, h.total, arguments-append (receiver_argument l b object) given.arguments, receiver_short b object);
    }

    call_cost : (d t m : ℕ) (c : LoweredCall) → CallCosts d m c → Costs d (m + 15) (call_stored t c)
    call_cost d t m c h = record {
      front = _;
      before = with_last c.before (stored_in t (call_value c.callee (arguments_from c.arguments))) h.before (stored d t (call_value c.callee (arguments_from c.arguments)));
      total = omega (arith, h.total);
    }

    dropped_call : (d m : ℕ) (c : LoweredCall) → CallCosts d m c → Fine rows i d (m + 2) (call_dropped c)
    dropped_call d m c h =
        within (m + 2) (with_last c.before (op (call_only c.callee (arguments_from c.arguments))) h.before (one_op rows i d (call_only c.callee (arguments_from c.arguments))))
        (omega (arith, h.total))

    address_cost : (d m : ℕ) (p : Place) (rest : LoweredArguments) → ArgumentsCost d m rest → ArgumentsCost d (m + 3) (address_passed p rest)
    address_cost d m p rest h = record { front = h.front; before = h.before; total = omega (arith, h.total) }

    int_cost : (c : Bool) (d t m k : ℕ) (a : Lowered) (rest : ℕ → LoweredArguments) → Costs d m a → ((u : ℕ) → ArgumentsCost d k (rest u)) →
        ArgumentsCost d (m + k) (int_passed c t a rest)
    int_cost false d t m k a rest h g =
        let others = g a.next in record { front = h.front; before = h.before; total = omega (arith, h.total, others.total) }
    int_cost true d t m k a rest h g =
        let others = g (t + 1) in
        record {
          front = _;
          before = behind a.before (stored_in t a.value ∷ (rest (t + 1)).before) h.before (in_front (stored d t a.value) others.before);
          total = omega (arith, h.total, others.total);
        }

    -- the first argument, then the others
    first_cost : (c : Bool) (e : Expression) (es : Expressions) (types : List Ty) (d t : ℕ) → Costs d (32 * tokens_in e) (lower l e t) →
        ((u : ℕ) → ArgumentsCost d (32 * tokens_in_all es) (lower_arguments l es (drop 1 types) u)) →
        ArgumentsCost d (32 * tokens_in_all (expression_then e es)) (if c then address_passed (place_of l (names_of (lvalue_of e))) (lower_arguments l es (drop 1 types) t)
        else int_passed (some_call es) t (lower l e t) (λ u. lower_arguments l es (drop 1 types) u))
    first_cost true e es types d t h g =
        let others = address_cost d (32 * tokens_in_all es) (place_of l (names_of (lvalue_of e))) (lower_arguments l es (drop 1 types) t) (g t) in
        record { front = others.front; before = others.before; total = omega (arith, others.total, some_token e) }
    first_cost false e es types d t h g =
        let all = int_cost (some_call es) d t (32 * tokens_in e) (32 * tokens_in_all es) (lower l e t) (λ u. lower_arguments l es (drop 1 types) u) h g in
        record { front = all.front; before = all.before; total = omega (arith, all.total) }

    mutual
      pub lowered : (e : Expression) (d t : ℕ) → Costs d (32 * tokens_in e) (lower l e t)
      lowered (number v place) d t = record { front = 0; before = no_more rows i d 0; total = omega arith }
      lowered (path names) d t = record { front = 0; before = no_more rows i d 0; total = omega arith }
      lowered (paren e place) d t = let h = lowered e d t in record { front = h.front; before = h.before; total = omega (arith, h.total) }
      lowered (unary o e place) d t = let h = lowered e d t in record { front = h.front; before = h.before; total = omega (arith, h.total) }
      lowered (binary o a b) d t =
          let h = both_cost o (has_call b) d t (32 * tokens_in a) (32 * tokens_in b) (lower l a t) (λ u. lower l b u) (lowered a d t) (λ e u. lowered b e u) in
          record { front = h.front; before = h.before; total = omega (arith, h.total) }
      lowered (call names es) d t =
          let b = callee_bound names in
          let given = lower_arguments l es (parameter_types l.program b) t in
          let h = call_cost d t (32 * tokens_in_all es + 6) (call_of l b (receiver names) es given) (given_cost d (32 * tokens_in_all es) b (receiver names) es given (arguments_cost es (parameter_types l.program b) d t)) in
          record { front = h.front; before = h.before; total = omega (arith, h.total) }
      lowered (std_call n es place) d t =
          let given = lower_arguments l es [] t in
          let h = call_cost d t (32 * tokens_in_all es + 6) (call_of l n.bound [] es given) (given_cost d (32 * tokens_in_all es) n.bound [] es given (arguments_cost es [] d t)) in
          record { front = h.front; before = h.before; total = omega (arith, h.total) }

      pub arguments_cost : (es : Expressions) (types : List Ty) (d t : ℕ) → ArgumentsCost d (32 * tokens_in_all es) (lower_arguments l es types t)
      arguments_cost no_expressions types d t = record { front = 0; before = no_more rows i d 0; total = omega arith }
      arguments_cost (expression_then e es) types d t =
          first_cost (refers types) e es types d t (lowered e d t) (λ u. arguments_cost es (drop 1 types) d u)

    valued_for_nothing : (e : Expression) (d t : ℕ) → Costs d (32 * tokens_in e) (lower l e t) →
        Fine rows i d (32 * tokens_in e) ((lower l e t).before ++ op (evaluate (lower l e t).value) ∷ [])
    valued_for_nothing e d t h =
        within (32 * tokens_in e) (with_last (lower l e t).before (op (evaluate (lower l e t).value)) h.before (one_op rows i d (evaluate (lower l e t).value))) (omega (arith, h.total))

    -- an expression whose value is dropped
    pub dropped_fine : (e : Expression) (d t : ℕ) → Fine rows i d (32 * tokens_in e) (dropped l e t)
    dropped_fine (call names es) d t =
        let b = callee_bound names in
        let given = lower_arguments l es (parameter_types l.program b) t in
        within (32 * tokens_in (call names es))
        (dropped_call d (32 * tokens_in_all es + 6) (call_of l b (receiver names) es given)
        (given_cost d (32 * tokens_in_all es) b (receiver names) es given (arguments_cost es (parameter_types l.program b) d t))) (omega arith)
    dropped_fine (std_call n es place) d t =
        let given = lower_arguments l es [] t in
        within (32 * tokens_in (std_call n es place))
        (dropped_call d (32 * tokens_in_all es + 6) (call_of l n.bound [] es given) (given_cost d (32 * tokens_in_all es) n.bound [] es given (arguments_cost es [] d t))) (omega arith)
    dropped_fine (paren e place) d t = within (32 * tokens_in (paren e place)) (dropped_fine e d t) (omega arith)
    dropped_fine e d t = valued_for_nothing e d t (lowered e d t)

    -- an expression whose value is stored in a place
    placed_call : (d m : ℕ) (p : Place) (c : LoweredCall) → CallCosts d m c → Fine rows i d (m + 5) (call_placed p c)
    placed_call d m p c h =
        let value = call_value c.callee (arguments_from c.arguments) in
        within (m + 5) (with_last c.before (op (store p value)) h.before (one_op rows i d (store p value))) (omega (arith, h.total))

    pub valued : (e : Expression) (p : Place) (d t : ℕ) → Costs d (32 * tokens_in e) (lower l e t) → Fine rows i d (32 * tokens_in e) ((lower l e t).before ++ op (store p (lower l e t).value) ∷ [])
    valued e p d t h =
        within (32 * tokens_in e) (with_last (lower l e t).before (op (store p (lower l e t).value)) h.before (one_op rows i d (store p (lower l e t).value))) (omega (arith, h.total))

    pub store_fine : (e : Expression) (p : Place) (d t : ℕ) → Fine rows i d (32 * tokens_in e) (lower_store l e p t)
    store_fine (call names es) p d t =
        let b = callee_bound names in
        let given = lower_arguments l es (parameter_types l.program b) t in
        within (32 * tokens_in (call names es))
        (placed_call d (32 * tokens_in_all es + 6) p (call_of l b (receiver names) es given)
        (given_cost d (32 * tokens_in_all es) b (receiver names) es given (arguments_cost es (parameter_types l.program b) d t))) (omega arith)
    store_fine (std_call n es place) p d t =
        let given = lower_arguments l es [] t in
        within (32 * tokens_in (std_call n es place))
        (placed_call d (32 * tokens_in_all es + 6) p (call_of l n.bound [] es given) (given_cost d (32 * tokens_in_all es) n.bound [] es given (arguments_cost es [] d t))) (omega arith)
    store_fine (paren e place) p d t = within (32 * tokens_in (paren e place)) (store_fine e p d t) (omega arith)
    store_fine e p d t = valued e p d t (lowered e d t)

    -- an object is built
    pub built_fine : (k : ℕ) (es : Expressions) (p : Place) (d t : ℕ) → Fine rows i d (32 * tokens_in_all es + 5) (lower_construct l k es p t)
    built_fine k es p d t =
        let n = number_of l.program (constructor k (constructor_chosen l k es)) in
        let types = constructor_types l.program k (constructor_chosen l k es) in
        let given = lower_arguments l es types t in
        let h = arguments_cost es types d t in
        within (32 * tokens_in_all es + 5) (with_last given.before (op (construct p n (arguments_from given.arguments))) h.before (one_op rows i d (construct p n (arguments_from given.arguments))))
        (omega (arith, h.total))
