-- The slots that what an expression becomes mentions: those of variables, and behind them at most one for each level and each argument.
use Rattle.std.proofs.Common.{◌≡◌, ◌+◌, ◌≤◌, ℕ, Bool, true, false, ◌||◌, List, [], ◌∷◌, ◌++◌, length, Option, Some, None, drop, if◌then◌else◌, refl, arith}
use Rattle.std.specs.Prelude.{pos}
use Rattle.cxx_ast.specs.declared.name.Bound.{Bound}
use Rattle.cxx_ast.specs.declared.name.Bound.TheVariants.{Global, Local, Field, Method, Builtin as BuiltinBound}
use Rattle.cxx_ast.specs.declared.name.Builtin.TheVariants.{SetTerminate, SetUnexpected}
use Rattle.cxx_ast.specs.declared.name.Name.{Name}
use Rattle.cxx_ast.specs.declared.types.Ty.{Ty}
use Rattle.cxx_ast.specs.declared.types.Ty.TheVariants.{IntRef, ObjectRef}
use Rattle.cxx_ast.specs.declared.expression.BinaryOp.{BinaryOp}
use Rattle.cxx_ast.specs.declared.expression.BinaryOp.TheVariants.{And, Or}
use Rattle.cxx_ast.specs.Plain.{Expression, number, path, paren, unary, binary, call, std_call, Expressions, no_expressions, expression_then}
use Rattle.cxx_ast.specs.Sizes.{levels, most_levels, arguments_in, arguments_of}
use Rattle.meaning_forms.specs.Expression.{lvalue_of, names_of, callee_bound, receiver, parameter_types, constructor_types, function_named}
use Rattle.region_forms.specs.Form.{Place, Value, number as number_value, Argument, arguments_from, Region, op, evaluate, store, branch, regions_from, in_order}
use Rattle.region_forms.specs.Mentioned.{slots_of_root, slots_of_value, slots_of_arguments, slots_of, slots_of_all}
use Rattle.region_forms.specs.LowerExpression.{Lowering, Lowered, LoweredArguments, LoweredCall, first_temporary, variable_root, variable_type, named_place, has_call, some_call, both, stored_in, truth_of, call_of, call_placed, call_stored, call_dropped, given_before, given_arguments, handler_arguments, receiver_argument, int_passed, address_passed, refers, place_of, lower, lower_arguments, dropped, lower_store, constructor_chosen, lower_construct}
use Rattle.landing_pads.specs.Numbered.{BoundFits, PathFits, ExpressionFits, ExpressionsFit}

-- regions mention no slot from m on
abbrev pub Below : ℕ → List Region → Type 0
Below m rs = slots_of_all (regions_from rs) ≤ m

pub behind : (m : ℕ) (rs others : List Region) → Below m rs → Below m others → Below m (rs ++ others)
behind m [] others h k = k
behind m (r ∷ rs) others h k = let rest = behind m rs others (omega (arith, h)) k in omega (arith, h, rest)

pub with_last : (m : ℕ) (rs : List Region) (r : Region) → Below m rs → slots_of r ≤ m → Below m (rs ++ r ∷ [])
with_last m rs r h k = behind m rs (r ∷ []) h (omega (arith, k))

-- arguments do not
abbrev pub ArgumentsBelow : ℕ → List Argument → Type 0
ArgumentsBelow m args = slots_of_arguments (arguments_from args) ≤ m

-- the slot of a variable, also one that holds an address
variable_slots : (t : Ty) (s : ℕ) → slots_of_root (variable_root t s) ≡ s + 1
variable_slots (IntRef const) s = refl
variable_slots (ObjectRef const k) s = refl
variable_slots t s = refl

module _ (l : Lowering) where
  abbrev pub count : ℕ
  count = length l.variables

  bound_below : (b : Bound) → BoundFits count b → slots_of_root (named_place l b).root ≤ first_temporary l
  bound_below (Global g) h = omega arith
  bound_below (Local k) h = let e = variable_slots (variable_type l k) (l.first_variable + k) in omega (arith, h, e)
  bound_below (Field k i) h = omega arith
  bound_below b h = omega arith

  pub path_below : (names : List Name) → PathFits count names → slots_of_root (place_of l names).root ≤ first_temporary l
  path_below [] h = omega arith
  path_below (x ∷ names) h = bound_below x.bound h

  receiver_fits : (names : List Name) → PathFits count names → PathFits count (receiver names)
  receiver_fits [] h = tt
  receiver_fits (x ∷ []) h = tt
  receiver_fits (x ∷ y ∷ names) h = h

  pub lvalue_fits : (e : Expression) → ExpressionFits count e → PathFits count (names_of (lvalue_of e))
  lvalue_fits (path names) h = h
  lvalue_fits (paren e place) h = lvalue_fits e h
  lvalue_fits e h = tt

  -- an expression without calls mentions variables alone
  record PureIs (x : Lowered) : Type 0 where
    before : x.before ≡ []
    value : slots_of_value x.value ≤ first_temporary l

  record PureArguments (x : LoweredArguments) : Type 0 where
    before : x.before ≡ []
    arguments : ArgumentsBelow (first_temporary l) x.arguments

  neither : (a b : Bool) → (a || b) ≡ false → (a ≡ false) × (b ≡ false)
  neither true b e = absurd (cc e)
  neither false b e = (refl, e)

  pure_both : (o : BinaryOp) (c : Bool) (t : ℕ) (a : Lowered) (b : ℕ → Lowered) → c ≡ false → PureIs a → ((u : ℕ) → PureIs (b u)) → PureIs (both o c t a b)
  pure_both o false t a b e h k = record { before = h.before; value = omega (arith, h.value, (k a.next).value) }
  pure_both o true t a b e h k = absurd (cc e)

  pure_passed : (c : Bool) (t : ℕ) (a : Lowered) (rest : ℕ → LoweredArguments) → c ≡ false → PureIs a → ((u : ℕ) → PureArguments (rest u)) →
      PureArguments (int_passed c t a rest)
  pure_passed false t a rest e h k = record { before = h.before; arguments = omega (arith, h.value, (k a.next).arguments) }
  pure_passed true t a rest e h k = absurd (cc e)

  pure_either : (by_address : Bool) (x y : LoweredArguments) → PureArguments x → PureArguments y → PureArguments (if by_address then x else y)
  pure_either true x y h k = h
  pure_either false x y h k = k

  mutual
    pure : (e : Expression) (t : ℕ) → ExpressionFits count e → has_call e ≡ false → PureIs (lower l e t)
    pure (number v place) t h c = record { before = refl; value = omega arith }
    pure (path names) t h c = record { before = refl; value = path_below names h }
    pure (paren e place) t h c = pure e t h c
    pure (unary o e place) t h c = record { before = (pure e t h c).before; value = (pure e t h c).value }
    pure (binary o a b) t h c =
        let parts = neither (has_call a) (has_call b) c in
        pure_both o (has_call b) t (lower l a t) (λ u. lower l b u) parts.1 (pure a t h.0 parts.0) (λ u. pure b u h.1 parts.1)
    pure (call names es) t h c = absurd (cc c)
    pure (std_call n es place) t h c = absurd (cc c)

    pure_arguments : (es : Expressions) (types : List Ty) (t : ℕ) → ExpressionsFit count es → some_call es ≡ false → PureArguments (lower_arguments l es types t)
    pure_arguments no_expressions types t h c = record { before = refl; arguments = omega arith }
    pure_arguments (expression_then e es) types t h c =
        let parts = neither (has_call e) (some_call es) c in
        let rest = pure_arguments es (drop 1 types) t h.1 parts.1 in
        let p = place_of l (names_of (lvalue_of e)) in
        let named = path_below (names_of (lvalue_of e)) (lvalue_fits e h.0) in
        pure_either (refers types) (address_passed p (lower_arguments l es (drop 1 types) t))
        (int_passed (some_call es) t (lower l e t) (λ u. lower_arguments l es (drop 1 types) u))
        (record { before = rest.before; arguments = omega (arith, named, rest.arguments) })
        (pure_passed (some_call es) t (lower l e t) (λ u. lower_arguments l es (drop 1 types) u) parts.1 (pure e t h.0 parts.0) (λ u. pure_arguments es (drop 1 types) u h.1 parts.1))

  -- what is computed mentions no slot from m on
  pub record Lies (m : ℕ) (x : Lowered) : Type 0 where
    pub before : Below m x.before
    pub value : slots_of_value x.value ≤ m

  pub record ArgumentsLie (m : ℕ) (x : LoweredArguments) : Type 0 where
    pub before : Below m x.before
    pub arguments : ArgumentsBelow m x.arguments

  record CallLies (m : ℕ) (c : LoweredCall) : Type 0 where
    before : Below m c.before
    arguments : ArgumentsBelow m c.arguments

  stored_below : (m t : ℕ) (v : Value) → t + 1 ≤ m → slots_of_value v ≤ m → slots_of (stored_in t v) ≤ m
  stored_below m t v h k = omega (arith, h, k)

  both_lie : (o : BinaryOp) (c : Bool) (t m : ℕ) (a : Lowered) (b : ℕ → Lowered) → t + 1 ≤ m → Lies m a →
      (c ≡ false → (u : ℕ) → slots_of_value (b u).value ≤ m) → ((u : ℕ) → u ≤ t + 1 → t ≤ u → Lies m (b u)) → Lies m (both o c t a b)
  both_lie o false t m a b h k p q = record { before = k.before; value = omega (arith, k.value, p refl a.next) }
  both_lie And true t m a b h k p q =
      let x = q t (omega arith) (omega arith) in
      let last = stored_in t (truth_of (b t).value) in
      let row = with_last m (b t).before last x.before (omega (arith, h, x.value)) in
      record {
        before = with_last m a.before (branch a.value (in_order ((b t).before ++ last ∷ [])) (in_order (stored_in t (number_value (pos 0)) ∷ []))) k.before (omega (arith, h, k.value, row));
        value = omega (arith, h);
      }
  both_lie Or true t m a b h k p q =
      let x = q t (omega arith) (omega arith) in
      let last = stored_in t (truth_of (b t).value) in
      let row = with_last m (b t).before last x.before (omega (arith, h, x.value)) in
      record {
        before = with_last m a.before (branch a.value (in_order (stored_in t (number_value (pos 1)) ∷ [])) (in_order ((b t).before ++ last ∷ []))) k.before (omega (arith, h, k.value, row));
        value = omega (arith, h);
      }
  both_lie o true t m a b h k p q =
      let x = q (t + 1) (omega arith) (omega arith) in
      record { before = behind m a.before _ k.before (omega (arith, h, k.value, x.before)); value = omega (arith, h, x.value) }

  handler_below : (m : ℕ) (f : Option ℕ) → ArgumentsBelow m (handler_arguments f)
  handler_below m None = omega arith
  handler_below m (Some n) = omega arith

  given_below : (m : ℕ) (b : Bound) (es : Expressions) (given : LoweredArguments) → ArgumentsBelow m given.arguments → ArgumentsBelow m (given_arguments b es given)
  given_below m (BuiltinBound SetTerminate) es given h = handler_below m (function_named es)
  given_below m (BuiltinBound SetUnexpected) es given h = handler_below m (function_named es)
  given_below m b es given h = h

  given_row : (m : ℕ) (b : Bound) (given : LoweredArguments) → Below m given.before → Below m (given_before b given)
  given_row m (BuiltinBound SetTerminate) given h = omega arith
  given_row m (BuiltinBound SetUnexpected) given h = omega arith
  given_row m b given h = h

  received : (m : ℕ) (b : Bound) (object : List Name) (args : List Argument) → slots_of_root (place_of l object).root ≤ m → ArgumentsBelow m args →
      ArgumentsBelow m (receiver_argument l b object ++ args)
  received m (Method k i) object args h g = omega (arith, h, g)
  received m b object args h g = g

  called : (m : ℕ) (b : Bound) (object : List Name) (es : Expressions) (given : LoweredArguments) → slots_of_root (place_of l object).root ≤ m →
      ArgumentsLie m given → CallLies m (call_of l b object es given)
  called m b object es given h g = record {
    before = given_row m b given g.before;
    arguments = received m b object (given_arguments b es given) h (given_below m b es given g.arguments);
  }

  stored : (m t : ℕ) (c : LoweredCall) → t + 1 ≤ m → CallLies m c → Lies m (call_stored t c)
  stored m t c h k = record { before = with_last m c.before _ k.before (omega (arith, h, k.arguments)); value = omega (arith, h) }

  left_alone : (m : ℕ) (c : LoweredCall) → CallLies m c → Below m (call_dropped c)
  left_alone m c h = with_last m c.before _ h.before (omega (arith, h.arguments))

  passed : (c : Bool) (t m : ℕ) (a : Lowered) (rest : ℕ → LoweredArguments) → t + 1 ≤ m → Lies m a → (c ≡ false → (u : ℕ) → ArgumentsBelow m (rest u).arguments) →
      ArgumentsLie m (rest (t + 1)) → ArgumentsLie m (int_passed c t a rest)
  passed false t m a rest h k p q = record { before = k.before; arguments = omega (arith, k.value, p refl a.next) }
  passed true t m a rest h k p q = record {
    before = behind m a.before _ k.before (omega (arith, h, k.value, q.before));
    arguments = omega (arith, h, q.arguments);
  }

  either : (m : ℕ) (by_address : Bool) (x y : LoweredArguments) → ArgumentsLie m x → ArgumentsLie m y → ArgumentsLie m (if by_address then x else y)
  either m true x y h k = h
  either m false x y h k = k

  mutual
    pub lowered : (e : Expression) (t m : ℕ) → ExpressionFits count e → first_temporary l ≤ t → t + levels e + arguments_in e ≤ m → Lies m (lower l e t)
    lowered (number v place) t m h f k = record { before = omega arith; value = omega arith }
    lowered (path names) t m h f k = record { before = omega arith; value = omega (arith, path_below names h, f, k) }
    lowered (paren e place) t m h f k = lowered e t m h f (omega (arith, k))
    lowered (unary o e place) t m h f k = let x = lowered e t m h f (omega (arith, k)) in record { before = x.before; value = x.value }
    lowered (binary o a b) t m h f k =
        both_lie o (has_call b) t m (lower l a t) (λ u. lower l b u) (omega (arith, k)) (lowered a t m h.0 f (omega (arith, k)))
        (λ e u. omega (arith, (pure b u h.1 e).value, f, k))
        (λ u low high. lowered b u m h.1 (omega (arith, f, high)) (omega (arith, k, low)))
    lowered (call names es) t m h f k =
        stored m t _ (omega (arith, k)) (called m (callee_bound names) (receiver names) es _ (omega (arith, path_below (receiver names) (receiver_fits names h.0), f, k))
        (lowered_arguments es (parameter_types l.program (callee_bound names)) t m h.1 f (omega (arith, k))))
    lowered (std_call n es place) t m h f k =
        stored m t _ (omega (arith, k)) (called m n.bound [] es _ (omega (arith, f, k)) (lowered_arguments es [] t m h f (omega (arith, k))))

    pub lowered_arguments : (es : Expressions) (types : List Ty) (t m : ℕ) → ExpressionsFit count es → first_temporary l ≤ t →
        t + most_levels es + arguments_of es ≤ m → ArgumentsLie m (lower_arguments l es types t)
    lowered_arguments no_expressions types t m h f k = record { before = omega arith; arguments = omega arith }
    lowered_arguments (expression_then e es) types t m h f k =
        let rest = lowered_arguments es (drop 1 types) t m h.1 f (omega (arith, k)) in
        let named = path_below (names_of (lvalue_of e)) (lvalue_fits e h.0) in
        either m (refers types) (address_passed (place_of l (names_of (lvalue_of e))) (lower_arguments l es (drop 1 types) t))
        (int_passed (some_call es) t (lower l e t) (λ u. lower_arguments l es (drop 1 types) u))
        (record { before = rest.before; arguments = omega (arith, named, f, k, rest.arguments) })
        (passed (some_call es) t m (lower l e t) (λ u. lower_arguments l es (drop 1 types) u) (omega (arith, k)) (lowered e t m h.0 f (omega (arith, k)))
        (λ c u. omega (arith, (pure_arguments es (drop 1 types) u h.1 c).arguments, f, k))
        (lowered_arguments es (drop 1 types) (t + 1) m h.1 (omega (arith, f)) (omega (arith, k))))

  evaluated : (m : ℕ) (x : Lowered) → Lies m x → Below m (x.before ++ op (evaluate x.value) ∷ [])
  evaluated m x h = with_last m x.before (op (evaluate x.value)) h.before h.value

  -- expressions at the first slot for values between calls
  pub dropped_below : (e : Expression) (m : ℕ) → ExpressionFits count e → first_temporary l + levels e + arguments_in e ≤ m → Below m (dropped l e (first_temporary l))
  dropped_below (call names es) m h k =
      left_alone m _ (called m (callee_bound names) (receiver names) es _ (omega (arith, path_below (receiver names) (receiver_fits names h.0), k))
      (lowered_arguments es (parameter_types l.program (callee_bound names)) (first_temporary l) m h.1 (omega arith) (omega (arith, k))))
  dropped_below (std_call n es place) m h k =
      left_alone m _ (called m n.bound [] es _ (omega (arith, k)) (lowered_arguments es [] (first_temporary l) m h (omega arith) (omega (arith, k))))
  dropped_below (paren e place) m h k = dropped_below e m h (omega (arith, k))
  dropped_below e m h k = evaluated m (lower l e (first_temporary l)) (lowered e (first_temporary l) m h (omega arith) k)

  pub valued : (m : ℕ) (x : Lowered) (p : Place) → slots_of_root p.root ≤ m → Lies m x → Below m (x.before ++ op (store p x.value) ∷ [])
  valued m x p h k = with_last m x.before (op (store p x.value)) k.before (omega (arith, h, k.value))

  call_valued : (m : ℕ) (p : Place) (c : LoweredCall) → slots_of_root p.root ≤ m → CallLies m c → Below m (call_placed p c)
  call_valued m p c h k = with_last m c.before _ k.before (omega (arith, h, k.arguments))

  pub store_below : (e : Expression) (p : Place) (m : ℕ) → ExpressionFits count e → slots_of_root p.root ≤ m → first_temporary l + levels e + arguments_in e ≤ m →
      Below m (lower_store l e p (first_temporary l))
  store_below (call names es) p m h r k =
      call_valued m p _ r (called m (callee_bound names) (receiver names) es _ (omega (arith, path_below (receiver names) (receiver_fits names h.0), k))
      (lowered_arguments es (parameter_types l.program (callee_bound names)) (first_temporary l) m h.1 (omega arith) (omega (arith, k))))
  store_below (std_call n es place) p m h r k =
      call_valued m p _ r (called m n.bound [] es _ (omega (arith, k)) (lowered_arguments es [] (first_temporary l) m h (omega arith) (omega (arith, k))))
  store_below (paren e place) p m h r k = store_below e p m h r (omega (arith, k))
  store_below e p m h r k = valued m (lower l e (first_temporary l)) p r (lowered e (first_temporary l) m h (omega arith) k)

  pub constructed_below : (c : ℕ) (es : Expressions) (p : Place) (m : ℕ) → ExpressionsFit count es → slots_of_root p.root ≤ m →
      first_temporary l + most_levels es + arguments_of es ≤ m → Below m (lower_construct l c es p (first_temporary l))
  constructed_below c es p m h r k =
      let types = constructor_types l.program c (constructor_chosen l c es) in
      let given = lowered_arguments es types (first_temporary l) m h (omega arith) k in
      with_last m (lower_arguments l es types (first_temporary l)).before _ given.before (omega (arith, r, given.arguments))
