-- What expressions become has no more call sites than they have tokens.
use Rattle.std.proofs.Common.{ℕ, ◌+◌, ◌≤◌, Bool, true, false, List, [], ◌∷◌, ◌++◌, drop, if◌then◌else◌, arith}
use Rattle.std.specs.Prelude.{pos}
use Rattle.cxx_ast.specs.declared.expression.BinaryOp.{BinaryOp}
use Rattle.cxx_ast.specs.declared.expression.BinaryOp.TheVariants.{And, Or}
use Rattle.cxx_ast.specs.declared.name.Bound.{Bound}
use Rattle.cxx_ast.specs.declared.name.Bound.TheVariants.{Builtin as BuiltinBound}
use Rattle.cxx_ast.specs.declared.name.Builtin.TheVariants.{SetTerminate, SetUnexpected}
use Rattle.cxx_ast.specs.declared.types.Ty.{Ty}
use Rattle.cxx_ast.specs.Plain.{Expression, number, path, paren, unary, binary, call, std_call, Expressions, no_expressions, expression_then}
use Rattle.meaning_forms.specs.Running.{constructor}
use Rattle.meaning_forms.specs.Expression.{lvalue_of, names_of, callee_bound, receiver, parameter_types, constructor_types}
use Rattle.region_forms.specs.Form.{Place, Value, number as number_value, call_value, arguments_from, store, evaluate, construct, call as call_only, op, branch, in_order}
use Rattle.region_forms.specs.Numbering.{number_of}
use Rattle.region_forms.specs.LowerExpression.{Lowering, slot_place, place_of, has_call, some_call, Lowered, LoweredArguments, LoweredCall, stored_in, truth_of, if_true, if_false, left_stored, both, given_before, call_of, call_placed, call_stored, call_dropped, int_passed, address_passed, refers, lower, lower_arguments, dropped, lower_store, constructor_chosen, lower_construct}
use Rattle.source_bounds.specs.LeastTokens.{tokens_in, tokens_in_all}
use Rattle.source_bounds.proofs.Tabled.{Tabled, TabledRegion, no_table, upto, first_of, single, then_others, then_one, an_op, in_a_row, two_sides}

-- a value with what comes before it; one site is left
pub record Sited (m : ℕ) (x : Lowered) : Type 0 where
  pub front : ℕ
  pub before : Tabled front 0 x.before
  pub total : front + 1 ≤ m

quiet_store : (t : ℕ) (o : Value) → TabledRegion 1 0 (stored_in t o)
quiet_store t o = an_op (store (slot_place t) o)

decided : (t m k : ℕ) (a b : Lowered) → Sited m a → Sited k b → Sited (m + k + 1) (if_true t a b)
decided t m k a b h g =
    let right = b.before ++ stored_in t (truth_of b.value) ∷ [] in
    let wrong = stored_in t (number_value (pos 0)) ∷ [] in
    let last : TabledRegion 0 0 (stored_in t (truth_of b.value)) = record { sites = omega arith; guards = omega arith } in
    let other : TabledRegion 0 0 (stored_in t (number_value (pos 0))) = record { sites = omega arith; guards = omega arith } in
    let sides = two_sides a.value (in_order right) (in_order wrong) (in_a_row right (then_one b.before (stored_in t (truth_of b.value)) g.before last)) (in_a_row wrong (single other)) in
    record {
      front = h.front + g.front;
      before = upto (h.front + g.front) 0 (then_one a.before (branch a.value (in_order right) (in_order wrong)) h.before sides) (omega arith) (omega arith);
      total = omega (arith, h.total, g.total);
    }

chosen : (t m k : ℕ) (a b : Lowered) → Sited m a → Sited k b → Sited (m + k + 1) (if_false t a b)
chosen t m k a b h g =
    let right = stored_in t (number_value (pos 1)) ∷ [] in
    let wrong = b.before ++ stored_in t (truth_of b.value) ∷ [] in
    let last : TabledRegion 0 0 (stored_in t (truth_of b.value)) = record { sites = omega arith; guards = omega arith } in
    let other : TabledRegion 0 0 (stored_in t (number_value (pos 1))) = record { sites = omega arith; guards = omega arith } in
    let sides = two_sides a.value (in_order right) (in_order wrong) (in_a_row right (single other)) (in_a_row wrong (then_one b.before (stored_in t (truth_of b.value)) g.before last)) in
    record {
      front = h.front + g.front;
      before = upto (h.front + g.front) 0 (then_one a.before (branch a.value (in_order right) (in_order wrong)) h.before sides) (omega arith) (omega arith);
      total = omega (arith, h.total, g.total);
    }

kept : (o : BinaryOp) (t m k : ℕ) (a b : Lowered) → Sited m a → Sited k b → Sited (m + k + 1) (left_stored o t a b)
kept o t m k a b h g = record {
  front = h.front + 1 + g.front;
  before = upto (h.front + 1 + g.front) 0 (then_others a.before (stored_in t a.value ∷ b.before) h.before (first_of (quiet_store t a.value) g.before)) (omega arith) (omega arith);
  total = omega (arith, h.total, g.total);
}

both_sited : (o : BinaryOp) (c : Bool) (t m k : ℕ) (a : Lowered) (b : ℕ → Lowered) → Sited m a → ((u : ℕ) → Sited k (b u)) → Sited (m + k + 1) (both o c t a b)
both_sited o false t m k a b h g = record { front = h.front; before = h.before; total = omega (arith, h.total) }
both_sited And true t m k a b h g = decided t m k a (b t) h (g t)
both_sited Or true t m k a b h g = chosen t m k a (b t) h (g t)
both_sited o true t m k a b h g = kept o t m k a (b (t + 1)) h (g (t + 1))

given_sited : (m : ℕ) (b : Bound) (given : LoweredArguments) → Tabled m 0 given.before → Tabled m 0 (given_before b given)
given_sited m (BuiltinBound SetTerminate) given h = no_table m 0
given_sited m (BuiltinBound SetUnexpected) given h = no_table m 0
given_sited m b given h = h

call_sited : (t m : ℕ) (c : LoweredCall) → Tabled m 0 c.before → Sited (m + 2) (call_stored t c)
call_sited t m c h = record {
  front = m + 1;
  before = upto (m + 1) 0 (then_one c.before (stored_in t (call_value c.callee (arguments_from c.arguments))) h (quiet_store t (call_value c.callee (arguments_from c.arguments)))) (omega arith) (omega arith);
  total = omega arith;
}

int_sited : (c : Bool) (t m k : ℕ) (a : Lowered) (rest : ℕ → LoweredArguments) → Sited m a → ((u : ℕ) → Tabled k 0 (rest u).before) → Tabled (m + k) 0 (int_passed c t a rest).before
int_sited false t m k a rest h g = upto (m + k) 0 h.before (omega (arith, h.total)) (omega arith)
int_sited true t m k a rest h g =
    upto (m + k) 0 (then_others a.before (stored_in t a.value ∷ (rest (t + 1)).before) h.before (first_of (quiet_store t a.value) (g (t + 1)))) (omega (arith, h.total)) (omega arith)

module _ (l : Lowering) where
  first_sited : (c : Bool) (e : Expression) (es : Expressions) (types : List Ty) (t : ℕ) → Sited (tokens_in e) (lower l e t) →
      ((u : ℕ) → Tabled (tokens_in_all es) 0 (lower_arguments l es (drop 1 types) u).before) →
      Tabled (tokens_in_all (expression_then e es)) 0 (if c then address_passed (place_of l (names_of (lvalue_of e))) (lower_arguments l es (drop 1 types) t)
      else int_passed (some_call es) t (lower l e t) (λ u. lower_arguments l es (drop 1 types) u)).before
  first_sited true e es types t h g = upto (tokens_in_all (expression_then e es)) 0 (g t) (omega arith) (omega arith)
  first_sited false e es types t h g = int_sited (some_call es) t (tokens_in e) (tokens_in_all es) (lower l e t) (λ u. lower_arguments l es (drop 1 types) u) h g

  mutual
    pub sited : (e : Expression) (t : ℕ) → Sited (tokens_in e) (lower l e t)
    sited (number v place) t = record { front = 0; before = no_table 0 0; total = omega arith }
    sited (path names) t = record { front = 0; before = no_table 0 0; total = omega arith }
    sited (paren e place) t = let h = sited e t in record { front = h.front; before = h.before; total = omega (arith, h.total) }
    sited (unary o e place) t = let h = sited e t in record { front = h.front; before = h.before; total = omega (arith, h.total) }
    sited (binary o a b) t = both_sited o (has_call b) t (tokens_in a) (tokens_in b) (lower l a t) (λ u. lower l b u) (sited a t) (λ u. sited b u)
    sited (call names es) t =
        let b = callee_bound names in
        let given = lower_arguments l es (parameter_types l.program b) t in
        let h = call_sited t (tokens_in_all es) (call_of l b (receiver names) es given) (given_sited (tokens_in_all es) b given (arguments_sited es (parameter_types l.program b) t)) in
        record { front = h.front; before = h.before; total = omega (arith, h.total) }
    sited (std_call n es place) t =
        let given = lower_arguments l es [] t in
        let h = call_sited t (tokens_in_all es) (call_of l n.bound [] es given) (given_sited (tokens_in_all es) n.bound given (arguments_sited es [] t)) in
        record { front = h.front; before = h.before; total = omega (arith, h.total) }

    pub arguments_sited : (es : Expressions) (types : List Ty) (t : ℕ) → Tabled (tokens_in_all es) 0 (lower_arguments l es types t).before
    arguments_sited no_expressions types t = no_table 0 0
    arguments_sited (expression_then e es) types t = first_sited (refers types) e es types t (sited e t) (λ u. arguments_sited es (drop 1 types) u)

  valued_sited : (e : Expression) (t : ℕ) → Sited (tokens_in e) (lower l e t) → Tabled (tokens_in e) 0 ((lower l e t).before ++ op (evaluate (lower l e t).value) ∷ [])
  valued_sited e t h = upto (tokens_in e) 0 (then_one (lower l e t).before (op (evaluate (lower l e t).value)) h.before (an_op (evaluate (lower l e t).value))) (omega (arith, h.total)) (omega arith)

  call_dropped_sited : (m : ℕ) (c : LoweredCall) → Tabled m 0 c.before → Tabled (m + 1) 0 (call_dropped c)
  call_dropped_sited m c h =
      upto (m + 1) 0 (then_one c.before (op (call_only c.callee (arguments_from c.arguments))) h (an_op (call_only c.callee (arguments_from c.arguments)))) (omega arith) (omega arith)

  pub dropped_sited : (e : Expression) (t : ℕ) → Tabled (tokens_in e) 0 (dropped l e t)
  dropped_sited (call names es) t =
      let b = callee_bound names in
      let given = lower_arguments l es (parameter_types l.program b) t in
      upto (tokens_in (call names es)) 0
      (call_dropped_sited (tokens_in_all es) (call_of l b (receiver names) es given) (given_sited (tokens_in_all es) b given (arguments_sited es (parameter_types l.program b) t))) (omega arith) (omega arith)
  dropped_sited (std_call n es place) t =
      let given = lower_arguments l es [] t in
      upto (tokens_in (std_call n es place)) 0
      (call_dropped_sited (tokens_in_all es) (call_of l n.bound [] es given) (given_sited (tokens_in_all es) n.bound given (arguments_sited es [] t))) (omega arith) (omega arith)
  dropped_sited (paren e place) t = upto (tokens_in (paren e place)) 0 (dropped_sited e t) (omega arith) (omega arith)
  dropped_sited e t = valued_sited e t (sited e t)

  call_placed_sited : (m : ℕ) (p : Place) (c : LoweredCall) → Tabled m 0 c.before → Tabled (m + 1) 0 (call_placed p c)
  call_placed_sited m p c h =
      let value = call_value c.callee (arguments_from c.arguments) in
      upto (m + 1) 0 (then_one c.before (op (store p value)) h (an_op (store p value))) (omega arith) (omega arith)

  pub stored_sited : (e : Expression) (p : Place) (t : ℕ) → Sited (tokens_in e) (lower l e t) → Tabled (tokens_in e) 0 ((lower l e t).before ++ op (store p (lower l e t).value) ∷ [])
  stored_sited e p t h = upto (tokens_in e) 0 (then_one (lower l e t).before (op (store p (lower l e t).value)) h.before (an_op (store p (lower l e t).value))) (omega (arith, h.total)) (omega arith)

  pub store_sited : (e : Expression) (p : Place) (t : ℕ) → Tabled (tokens_in e) 0 (lower_store l e p t)
  store_sited (call names es) p t =
      let b = callee_bound names in
      let given = lower_arguments l es (parameter_types l.program b) t in
      upto (tokens_in (call names es)) 0
      (call_placed_sited (tokens_in_all es) p (call_of l b (receiver names) es given) (given_sited (tokens_in_all es) b given (arguments_sited es (parameter_types l.program b) t))) (omega arith) (omega arith)
  store_sited (std_call n es place) p t =
      let given = lower_arguments l es [] t in
      upto (tokens_in (std_call n es place)) 0
      (call_placed_sited (tokens_in_all es) p (call_of l n.bound [] es given) (given_sited (tokens_in_all es) n.bound given (arguments_sited es [] t))) (omega arith) (omega arith)
  store_sited (paren e place) p t = upto (tokens_in (paren e place)) 0 (store_sited e p t) (omega arith) (omega arith)
  store_sited e p t = stored_sited e p t (sited e t)

  pub built_sited : (k : ℕ) (es : Expressions) (p : Place) (t : ℕ) → Tabled (tokens_in_all es + 1) 0 (lower_construct l k es p t)
  built_sited k es p t =
      let n = number_of l.program (constructor k (constructor_chosen l k es)) in
      let types = constructor_types l.program k (constructor_chosen l k es) in
      let given = lower_arguments l es types t in
      upto (tokens_in_all es + 1) 0 (then_one given.before (op (construct p n (arguments_from given.arguments))) (arguments_sited es types t) (an_op (construct p n (arguments_from given.arguments)))) (omega arith) (omega arith)
