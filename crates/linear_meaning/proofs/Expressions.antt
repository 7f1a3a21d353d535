-- What comes before a value catches nothing.
use Rattle.std.proofs.Common.{◌+◌, ℕ, Bool, true, false, List, [], ◌∷◌, ◌++◌, drop, if◌then◌else◌, refl}
use Rattle.std.specs.Cmp.Derive.{both_true}
use Rattle.cxx_ast.specs.declared.name.Bound.{Bound}
use Rattle.cxx_ast.specs.declared.name.Bound.TheVariants.{Builtin as BuiltinBound}
use Rattle.cxx_ast.specs.declared.name.Builtin.TheVariants.{SetTerminate, SetUnexpected}
use Rattle.cxx_ast.specs.declared.types.Ty.{Ty}
use Rattle.cxx_ast.specs.declared.expression.BinaryOp.{BinaryOp}
use Rattle.cxx_ast.specs.declared.expression.BinaryOp.TheVariants.{And, Or}
use Rattle.cxx_ast.specs.Plain.{Expression, number, path, paren, unary, binary, call, std_call, Expressions, no_expressions, expression_then}
use Rattle.meaning_forms.specs.Expression.{lvalue_of, names_of, callee_bound, receiver, parameter_types, constructor_types}
use Rattle.region_forms.specs.Form.{Place, op, evaluate, store}
use Rattle.region_forms.specs.LowerExpression.{Lowering, Lowered, LoweredArguments, LoweredCall, has_call, some_call, both, call_of, call_placed, call_stored, call_dropped, given_before, int_passed, address_passed, refers, place_of, lower, lower_arguments, dropped, lower_store, constructor_chosen, lower_construct}
use Rattle.linear_meaning.proofs.Rows.{Row, behind, with_last}

-- two operands
both_row : (o : BinaryOp) (calls : Bool) (t : ℕ) (a : Lowered) (b : ℕ → Lowered) → Row a.before → ((u : ℕ) → Row (b u).before) → Row (both o calls t a b).before
both_row o false t a b h k = h
both_row And true t a b h k = with_last a.before _ h (both_true (with_last (b t).before _ (k t) refl) refl)
both_row Or true t a b h k = with_last a.before _ h (both_true refl (with_last (b t).before _ (k t) refl))
both_row o true t a b h k = behind a.before _ h (k (t + 1))

-- what comes before a call
given_row : (b : Bound) (given : LoweredArguments) → Row given.before → Row (given_before b given)
given_row (BuiltinBound SetTerminate) given h = refl
given_row (BuiltinBound SetUnexpected) given h = refl
given_row b given h = h

-- its value is stored, or dropped
stored : (t : ℕ) (c : LoweredCall) → Row c.before → Row (call_stored t c).before
stored t c h = with_last c.before _ h refl

left_alone : (c : LoweredCall) → Row c.before → Row (call_dropped c)
left_alone c h = with_last c.before _ h refl

-- an argument with those behind it
passed : (calls : Bool) (t : ℕ) (a : Lowered) (rest : ℕ → LoweredArguments) → Row a.before → ((u : ℕ) → Row (rest u).before) → Row (int_passed calls t a rest).before
passed false t a rest h k = h
passed true t a rest h k = behind a.before _ h (k (t + 1))

either : (by_address : Bool) (x y : LoweredArguments) → Row x.before → Row y.before → Row (if by_address then x else y).before
either true x y h k = h
either false x y h k = k

mutual
  pub lowered : (l : Lowering) (e : Expression) (t : ℕ) → Row (lower l e t).before
  lowered l (number v place) t = refl
  lowered l (path names) t = refl
  lowered l (paren e place) t = lowered l e t
  lowered l (unary o e place) t = lowered l e t
  lowered l (binary o a b) t = both_row o (has_call b) t (lower l a t) (λ u. lower l b u) (lowered l a t) (λ u. lowered l b u)
  lowered l (call names es) t =
      let given = lower_arguments l es (parameter_types l.program (callee_bound names)) t in
      stored t (call_of l (callee_bound names) (receiver names) es given)
      (given_row (callee_bound names) given (lowered_arguments l es (parameter_types l.program (callee_bound names)) t))
  lowered l (std_call n es place) t =
      stored t (call_of l n.bound [] es (lower_arguments l es [] t)) (given_row n.bound (lower_arguments l es [] t) (lowered_arguments l es [] t))

  lowered_arguments : (l : Lowering) (es : Expressions) (types : List Ty) (t : ℕ) → Row (lower_arguments l es types t).before
  lowered_arguments l no_expressions types t = refl
  lowered_arguments l (expression_then e es) types t =
      either (refers types) (address_passed (place_of l (names_of (lvalue_of e))) (lower_arguments l es (drop 1 types) t))
      (int_passed (some_call es) t (lower l e t) (λ u. lower_arguments l es (drop 1 types) u)) (lowered_arguments l es (drop 1 types) t)
      (passed (some_call es) t (lower l e t) (λ u. lower_arguments l es (drop 1 types) u) (lowered l e t) (λ u. lowered_arguments l es (drop 1 types) u))

-- an expression that is evaluated for its effects alone
evaluated : (x : Lowered) → Row x.before → Row (x.before ++ op (evaluate x.value) ∷ [])
evaluated x h = with_last x.before _ h refl

pub dropped_row : (l : Lowering) (e : Expression) (t : ℕ) → Row (dropped l e t)
dropped_row l (call names es) t =
    let given = lower_arguments l es (parameter_types l.program (callee_bound names)) t in
    left_alone (call_of l (callee_bound names) (receiver names) es given)
    (given_row (callee_bound names) given (lowered_arguments l es (parameter_types l.program (callee_bound names)) t))
dropped_row l (std_call n es place) t =
    left_alone (call_of l n.bound [] es (lower_arguments l es [] t)) (given_row n.bound (lower_arguments l es [] t) (lowered_arguments l es [] t))
dropped_row l (paren e place) t = dropped_row l e t
dropped_row l e t = evaluated (lower l e t) (lowered l e t)

-- an expression's value is stored in a place
call_placed_row : (p : Place) (c : LoweredCall) → Row c.before → Row (call_placed p c)
call_placed_row p c h = with_last c.before _ h refl

pub stored_row : (x : Lowered) (p : Place) → Row x.before → Row (x.before ++ op (store p x.value) ∷ [])
stored_row x p h = with_last x.before _ h refl

pub store_row : (l : Lowering) (e : Expression) (p : Place) (t : ℕ) → Row (lower_store l e p t)
store_row l (call names es) p t =
    let given = lower_arguments l es (parameter_types l.program (callee_bound names)) t in
    call_placed_row p (call_of l (callee_bound names) (receiver names) es given)
    (given_row (callee_bound names) given (lowered_arguments l es (parameter_types l.program (callee_bound names)) t))
store_row l (std_call n es place) p t =
    call_placed_row p (call_of l n.bound [] es (lower_arguments l es [] t)) (given_row n.bound (lower_arguments l es [] t) (lowered_arguments l es [] t))
store_row l (paren e place) p t = store_row l e p t
store_row l e p t = stored_row (lower l e t) p (lowered l e t)

-- an object is built in a place
pub constructed_row : (l : Lowering) (k : ℕ) (es : Expressions) (p : Place) (t : ℕ) → Row (lower_construct l k es p t)
constructed_row l k es p t =
    let types = constructor_types l.program k (constructor_chosen l k es) in
    with_last (lower_arguments l es types t).before _ (lowered_arguments l es types t) refl
