-- What comes before a value has the shape, and the value makes no call.
use Rattle.std.proofs.Common.{◌≡◌, ◌+◌, ℕ, Bool, true, false, List, [], ◌∷◌, ◌++◌, Option, Some, None, drop, if◌then◌else◌, refl}
use Rattle.std.specs.Cmp.Derive.{both_true}
use Rattle.cxx_ast.specs.declared.name.Bound.{Bound}
use Rattle.cxx_ast.specs.declared.name.Bound.TheVariants.{Method, Builtin as BuiltinBound}
use Rattle.cxx_ast.specs.declared.name.Builtin.TheVariants.{SetTerminate, SetUnexpected}
use Rattle.cxx_ast.specs.declared.name.Name.{Name}
use Rattle.cxx_ast.specs.declared.types.Ty.{Ty}
use Rattle.cxx_ast.specs.declared.expression.BinaryOp.{BinaryOp}
use Rattle.cxx_ast.specs.declared.expression.BinaryOp.TheVariants.{And, Or}
use Rattle.cxx_ast.specs.Plain.{Expression, number, path, paren, unary, binary, call, std_call, Expressions, no_expressions, expression_then}
use Rattle.meaning_forms.specs.Expression.{lvalue_of, names_of, callee_bound, receiver, parameter_types, constructor_types, function_named}
use Rattle.region_forms.specs.Form.{Place, Value, call_value, Argument, arguments_from, op, store, evaluate}
use Rattle.region_forms.specs.LowerExpression.{Lowering, Lowered, LoweredArguments, LoweredCall, has_call, some_call, both, call_of, call_placed, call_stored, call_dropped, given_before, given_arguments, handler_arguments, receiver_argument, int_passed, address_passed, refers, place_of, lower, lower_arguments, dropped, constructor_chosen, lower_store, lower_construct}
use Rattle.region_ir.specs.Shape.{is_pure, is_pure_or_call, are_pure}
use Rattle.region_ir.proofs.ShapedRows.{Row, behind, with_last}

-- arguments that make no call
abbrev pub Pure : List Argument → Type 0
Pure args = are_pure (arguments_from args) ≡ true

-- a lowered expression
pub record Shaped (x : Lowered) : Type 0 where
  pub before : Row x.before
  pub value : is_pure x.value ≡ true

-- lowered arguments
pub record ShapedArguments (x : LoweredArguments) : Type 0 where
  pub before : Row x.before
  pub arguments : Pure x.arguments

-- a call with what comes before it
pub record ShapedCall (c : LoweredCall) : Type 0 where
  pub before : Row c.before
  pub arguments : Pure c.arguments

-- a value without calls may stand where a call may
pub whole : (v : Value) → is_pure v ≡ true → is_pure_or_call v ≡ true
whole (call_value c args) h = absurd (cc h)
whole v h = h

-- two operands
both_shaped : (o : BinaryOp) (calls : Bool) (t : ℕ) (a : Lowered) (b : ℕ → Lowered) → Shaped a → ((u : ℕ) → Shaped (b u)) → Shaped (both o calls t a b)
both_shaped o false t a b h k = record { before = h.before; value = both_true h.value (k a.next).value }
both_shaped And true t a b h k = record {
  before = with_last a.before _ h.before (both_true h.value (both_true (with_last (b t).before _ (k t).before (both_true (k t).value refl)) refl));
  value = refl;
}
both_shaped Or true t a b h k = record {
  before = with_last a.before _ h.before (both_true h.value (both_true refl (with_last (b t).before _ (k t).before (both_true (k t).value refl))));
  value = refl;
}
both_shaped o true t a b h k = record {
  before = behind a.before _ h.before (both_true (whole a.value h.value) (k (t + 1)).before);
  value = (k (t + 1)).value;
}

-- a call's arguments
handler_pure : (f : Option ℕ) → Pure (handler_arguments f)
handler_pure None = refl
handler_pure (Some n) = refl

given_pure : (b : Bound) (es : Expressions) (given : LoweredArguments) → Pure given.arguments → Pure (given_arguments b es given)
given_pure (BuiltinBound SetTerminate) es given h = handler_pure (function_named es)
given_pure (BuiltinBound SetUnexpected) es given h = handler_pure (function_named es)
given_pure b es given h = h

given_row : (b : Bound) (given : LoweredArguments) → Row given.before → Row (given_before b given)
given_row (BuiltinBound SetTerminate) given h = refl
given_row (BuiltinBound SetUnexpected) given h = refl
given_row b given h = h

received : (l : Lowering) (b : Bound) (object : List Name) (args : List Argument) → Pure args → Pure (receiver_argument l b object ++ args)
received l (Method k i) object args h = h
received l b object args h = h

called : (l : Lowering) (b : Bound) (object : List Name) (es : Expressions) (given : LoweredArguments) →
    ShapedArguments given → ShapedCall (call_of l b object es given)
called l b object es given h = record {
  before = given_row b given h.before;
  arguments = received l b object (given_arguments b es given) (given_pure b es given h.arguments);
}

-- a call's value is stored, or dropped
stored : (t : ℕ) (c : LoweredCall) → ShapedCall c → Shaped (call_stored t c)
stored t c h = record { before = with_last c.before _ h.before h.arguments; value = refl }

left_alone : (c : LoweredCall) → ShapedCall c → Row (call_dropped c)
left_alone c h = with_last c.before _ h.before h.arguments

-- an argument with those behind it
passed : (calls : Bool) (t : ℕ) (a : Lowered) (rest : ℕ → LoweredArguments) → Shaped a → ((u : ℕ) → ShapedArguments (rest u)) →
    ShapedArguments (int_passed calls t a rest)
passed false t a rest h k = record { before = h.before; arguments = both_true h.value (k a.next).arguments }
passed true t a rest h k = record {
  before = behind a.before _ h.before (both_true (whole a.value h.value) (k (t + 1)).before);
  arguments = (k (t + 1)).arguments;
}

either : (by_address : Bool) (x y : LoweredArguments) → ShapedArguments x → ShapedArguments y → ShapedArguments (if by_address then x else y)
either true x y h k = h
either false x y h k = k

mutual
  pub lowered : (l : Lowering) (e : Expression) (t : ℕ) → Shaped (lower l e t)
  lowered l (number v place) t = record { before = refl; value = refl }
  lowered l (path names) t = record { before = refl; value = refl }
  lowered l (paren e place) t = lowered l e t
  lowered l (unary o e place) t = record { before = (lowered l e t).before; value = (lowered l e t).value }
  lowered l (binary o a b) t = both_shaped o (has_call b) t (lower l a t) (λ u. lower l b u) (lowered l a t) (λ u. lowered l b u)
  lowered l (call names es) t =
      stored t _ (called l (callee_bound names) (receiver names) es _ (lowered_arguments l es (parameter_types l.program (callee_bound names)) t))
  lowered l (std_call n es place) t = stored t _ (called l n.bound [] es _ (lowered_arguments l es [] t))

  pub lowered_arguments : (l : Lowering) (es : Expressions) (types : List Ty) (t : ℕ) → ShapedArguments (lower_arguments l es types t)
  lowered_arguments l no_expressions types t = record { before = refl; arguments = refl }
  lowered_arguments l (expression_then e es) types t =
      let h = lowered_arguments l es (drop 1 types) t in
      either (refers types) (address_passed (place_of l (names_of (lvalue_of e))) (lower_arguments l es (drop 1 types) t))
      (int_passed (some_call es) t (lower l e t) (λ u. lower_arguments l es (drop 1 types) u))
      (record { before = h.before; arguments = h.arguments })
      (passed (some_call es) t (lower l e t) (λ u. lower_arguments l es (drop 1 types) u) (lowered l e t) (λ u. lowered_arguments l es (drop 1 types) u))

-- an expression that is evaluated for its effects alone
evaluated : (x : Lowered) → Shaped x → Row (x.before ++ op (evaluate x.value) ∷ [])
evaluated x h = with_last x.before _ h.before h.value

pub dropped_shaped : (l : Lowering) (e : Expression) (t : ℕ) → Row (dropped l e t)
dropped_shaped l (call names es) t =
    left_alone _ (called l (callee_bound names) (receiver names) es _ (lowered_arguments l es (parameter_types l.program (callee_bound names)) t))
dropped_shaped l (std_call n es place) t = left_alone _ (called l n.bound [] es _ (lowered_arguments l es [] t))
dropped_shaped l (paren e place) t = dropped_shaped l e t
dropped_shaped l e t = evaluated (lower l e t) (lowered l e t)

-- an expression's value is stored in a place
pub valued : (x : Lowered) (p : Place) → Shaped x → Row (x.before ++ op (store p x.value) ∷ [])
valued x p h = with_last x.before _ h.before (whole x.value h.value)

call_valued : (p : Place) (c : LoweredCall) → ShapedCall c → Row (call_placed p c)
call_valued p c h = with_last c.before _ h.before h.arguments

pub store_shaped : (l : Lowering) (e : Expression) (p : Place) (t : ℕ) → Row (lower_store l e p t)
store_shaped l (call names es) p t =
    call_valued p _ (called l (callee_bound names) (receiver names) es _ (lowered_arguments l es (parameter_types l.program (callee_bound names)) t))
store_shaped l (std_call n es place) p t = call_valued p _ (called l n.bound [] es _ (lowered_arguments l es [] t))
store_shaped l (paren e place) p t = store_shaped l e p t
store_shaped l e p t = valued (lower l e t) p (lowered l e t)

-- an object is built in a place
pub constructed_shaped : (l : Lowering) (k : ℕ) (es : Expressions) (p : Place) (t : ℕ) → Row (lower_construct l k es p t)
constructed_shaped l k es p t =
    let given = lowered_arguments l es (constructor_types l.program k (constructor_chosen l k es)) t in
    with_last (lower_arguments l es (constructor_types l.program k (constructor_chosen l k es)) t).before _ given.before given.arguments
