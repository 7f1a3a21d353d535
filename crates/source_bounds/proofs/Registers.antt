-- The values of an expression need few registers: twice as many tokens for each one more.
use Rattle.std.proofs.Common.{◌≡◌, ℕ, zero, suc, ◌+◌, ◌-◌, ◌*◌, ◌≤◌, ◌==◌, Bool, true, false, List, [], ◌∷◌, ◌++◌, drop, length, Option, Some, None, if◌then◌else◌, refl, sym, ap, subst, arith}
use Rattle.std.specs.Prelude.{max, nat_le}
use Rattle.std.proofs.lemmas.Bool.Decides.{nat_tests}
use Rattle.cxx_ast.specs.declared.expression.BinaryOp.{BinaryOp}
use Rattle.cxx_ast.specs.declared.expression.BinaryOp.TheVariants.{And, Or}
use Rattle.cxx_ast.specs.declared.name.Bound.{Bound}
use Rattle.cxx_ast.specs.declared.name.Bound.TheVariants.{Method, Builtin as BuiltinBound}
use Rattle.cxx_ast.specs.declared.name.Builtin.TheVariants.{SetTerminate, SetUnexpected}
use Rattle.cxx_ast.specs.declared.name.Name.{Name}
use Rattle.cxx_ast.specs.declared.types.Ty.{Ty}
use Rattle.cxx_ast.specs.Plain.{Expression, number, path, paren, unary, binary, call, std_call, Expressions, no_expressions, expression_then}
use Rattle.meaning_forms.specs.Expression.{lvalue_of, names_of, count_of, callee_bound, receiver, parameter_types, constructor_types, function_named}
use Rattle.region_forms.specs.Form.{Place, Value, number as number_value, load, unary as unary_value, binary as binary_value, call_value, Argument, int_argument, address_argument, handler_argument, arguments_from, store, evaluate, Region, op, regions_from}
use Rattle.region_forms.specs.LowerExpression.{Lowering, place_of, has_call, some_call, Lowered, LoweredArguments, stored_in, truth_of, both, callee_of, receiver_argument, handler_arguments, given_before, call_of, int_passed, address_passed, refers, lower, lower_arguments, dropped, lower_store, constructor_chosen, lower_construct}
use Rattle.machine_forms.specs.Bounds.{ArgumentsFit, CallFits, ValueFits}
use Rattle.machine_forms.specs.ValueCode.{operator_needs, needs}
use Rattle.source_bounds.specs.BuiltinCalls.{GivenFits, CallsFit, AllCallsFit}
use Rattle.source_bounds.specs.LeastTokens.{tokens_in, tokens_in_all}
use Rattle.source_bounds.specs.RegisterWeights.{RegionFits, RegionsFit}
use Rattle.source_bounds.proofs.Expressions.{some_token}

-- powers of 2
abbrev twice : ℕ → ℕ
twice zero = 1
twice (suc n) = 2 * twice n

twice_next : (n : ℕ) → twice (n + 1) ≡ 2 * twice n
twice_next n = let e : n + 1 ≡ suc n = omega arith in ap twice e

some_twice : (n : ℕ) → 1 ≤ twice n
some_twice zero = omega arith
some_twice (suc n) = omega (arith, some_twice n)

large_twice : (k : ℕ) → 4096 ≤ twice (k + 12)
large_twice zero = omega arith
large_twice (suc k) = let e : suc k + 12 ≡ suc (k + 12) = omega arith in subst (λ n. 4096 ≤ n) (sym (ap twice e)) (omega (arith, large_twice k))

few : (n : ℕ) → twice n ≤ 4000 → n ≤ 11
few n h = go (nat_le n 11) refl
  where
    below : nat_le n 11 ≡ true → n ≤ 11
    below e = grind (arith, nat_tests, e)

    above : nat_le n 11 ≡ false → n ≡ (n - 12) + 12
    above e = grind (arith, nat_tests, e)

    go : (b : Bool) → nat_le n 11 ≡ b → n ≤ 11
    go true e = below e
    go false e = absurd (omega (arith, h, large_twice (n - 12), ap twice (above e)))

twice_max : (x y : ℕ) → twice (max x y) ≤ twice x + twice y
twice_max x y = go (nat_le x y) refl
  where
    right : nat_le x y ≡ true → max x y ≡ y
    right e = grind (arith, nat_tests, e)

    left : nat_le x y ≡ false → max x y ≡ x
    left e = grind (arith, nat_tests, e)

    go : (b : Bool) → nat_le x y ≡ b → twice (max x y) ≤ twice x + twice y
    go true e = omega (arith, ap twice (right e))
    go false e = omega (arith, ap twice (left e))

same_or_max : (x y : ℕ) → twice (if x == y then x + 1 else max x y) ≤ twice x + twice y
same_or_max x y = go (x == y) refl
  where
    same : (x == y) ≡ true → x ≡ y
    same e = grind (arith, nat_tests, e)

    go : (b : Bool) → (x == y) ≡ b → twice (if b then x + 1 else max x y) ≤ twice x + twice y
    go true e = omega (arith, twice_next x, ap twice (same e))
    go false e = twice_max x y

operator_few : (o : BinaryOp) (x y : ℕ) → twice (operator_needs o x y) ≤ twice x + twice y
operator_few And x y = twice_max x y
operator_few Or x y = twice_max x y
operator_few o x y = same_or_max x y

both_few : (o : BinaryOp) (c : Bool) (t m k : ℕ) (a : Lowered) (b : ℕ → Lowered) → 1 ≤ m → 1 ≤ k → twice (needs a.value) ≤ 2 * m → ((u : ℕ) → twice (needs (b u).value) ≤ 2 * k) →
    twice (needs (both o c t a b).value) ≤ 2 * (m + k + 1)
both_few o false t m k a b p q h g = omega (arith, operator_few o (needs a.value) (needs (b a.next).value), h, g a.next)
both_few And true t m k a b p q h g = omega arith
both_few Or true t m k a b p q h g = omega arith
both_few o true t m k a b p q h g = omega (arith, operator_few o 1 (needs (b (t + 1)).value), g (t + 1))

narrow : (l : Lowering) (e : Expression) (t : ℕ) → twice (needs (lower l e t).value) ≤ 2 * tokens_in e
narrow l (number v place) t = omega arith
narrow l (path names) t = omega arith
narrow l (paren e place) t = omega (arith, narrow l e t)
narrow l (unary o e place) t = omega (arith, narrow l e t)
narrow l (binary o a b) t =
    both_few o (has_call b) t (tokens_in a) (tokens_in b) (lower l a t) (λ u. lower l b u) (some_token a) (some_token b) (narrow l a t) (λ u. narrow l b u)
narrow l (call names es) t = omega arith
narrow l (std_call n es place) t = omega arith

-- no value of an expression with at most 2,000 tokens needs more than 11 registers
pub needs_few : (l : Lowering) (e : Expression) (t : ℕ) → tokens_in e ≤ 2000 → needs (lower l e t).value ≤ 11
needs_few l e t h = few (needs (lower l e t).value) (omega (arith, h, narrow l e t))

-- a value that is no call
abbrev pub Pure : Value → Type 0
Pure (call_value c args) = ⊥
Pure v = Unit {0}

pure_fits : (v : Value) → Pure v → needs v ≤ 15 → ValueFits v
pure_fits (number_value n) h k = k
pure_fits (load p) h k = k
pure_fits (unary_value o v) h k = k
pure_fits (binary_value o a b) h k = k
pure_fits (call_value c args) h k = absurd h

both_pure : (o : BinaryOp) (c : Bool) (t : ℕ) (a : Lowered) (b : ℕ → Lowered) → Pure (both o c t a b).value
both_pure o false t a b = tt
both_pure And true t a b = tt
both_pure Or true t a b = tt
both_pure o true t a b = tt

pure : (l : Lowering) (e : Expression) (t : ℕ) → Pure (lower l e t).value
pure l (number v place) t = tt
pure l (path names) t = tt
pure l (paren e place) t = pure l e t
pure l (unary o e place) t = tt
pure l (binary o a b) t = both_pure o (has_call b) t (lower l a t) (λ u. lower l b u)
pure l (call names es) t = tt
pure l (std_call n es place) t = tt

-- regions one after the other
abbrev pub AllFit : List Region → Type 0
AllFit rs = RegionsFit (regions_from rs)

pub then_fit : (rs others : List Region) → AllFit rs → AllFit others → AllFit (rs ++ others)
then_fit [] others h k = k
then_fit (r ∷ rs) others h k = (h.0, then_fit rs others h.1 k)

-- what comes before a value
pub record Held (x : Lowered) : Type 0 where
  pub before : AllFit x.before
  pub is_pure : Pure x.value
  pub narrow : needs x.value ≤ 11

stored_fits : (t : ℕ) (x : Lowered) → Held x → RegionFits (stored_in t x.value)
stored_fits t x h = pure_fits x.value h.is_pure (omega (arith, h.narrow))

truth_fits : (x : Lowered) → Held x → needs (truth_of x.value) ≤ 15
truth_fits x h = go (needs x.value == 1)
  where
    go : (b : Bool) → (if b then needs x.value + 1 else max (needs x.value) 1) ≤ 15
    go true = omega (arith, h.narrow)
    go false = omega (arith, h.narrow)

both_before : (o : BinaryOp) (c : Bool) (t : ℕ) (a : Lowered) (b : ℕ → Lowered) → Held a → ((u : ℕ) → Held (b u)) → AllFit (both o c t a b).before
both_before o false t a b h g = h.before
both_before And true t a b h g =
    let right = g t in
    then_fit a.before _ h.before ((omega (arith, h.narrow), then_fit (b t).before _ right.before (truth_fits (b t) right, tt), (omega arith, tt)), tt)
both_before Or true t a b h g =
    let right = g t in
    then_fit a.before _ h.before ((omega (arith, h.narrow), (omega arith, tt), then_fit (b t).before _ right.before (truth_fits (b t) right, tt)), tt)
both_before o true t a b h g = then_fit a.before _ h.before (stored_fits t a h, (g (t + 1)).before)

-- arguments
abbrev AreNarrow : List Argument → Type 0
AreNarrow [] = Unit {0}
AreNarrow (int_argument v ∷ args) = (needs v ≤ 11) × AreNarrow args
AreNarrow (a ∷ args) = AreNarrow args

arguments_fit : (step k : ℕ) (args : List Argument) → AreNarrow args → k + step * length args ≤ 4 → ArgumentsFit step k (arguments_from args)
arguments_fit step k [] h le = tt
arguments_fit step k (int_argument v ∷ args) h le = (omega (arith, h.0, le), arguments_fit step (k + step) args h.1 (omega (arith, le)))
arguments_fit step k (address_argument p ∷ args) h le = (tt, arguments_fit step (k + step) args h (omega (arith, le)))
arguments_fit step k (handler_argument n ∷ args) h le = (tt, arguments_fit step (k + step) args h (omega (arith, le)))

none_step : (k n : ℕ) → k ≤ 4 → k + 0 * n ≤ 4
none_step k n h = omega (arith, h)

behind_receiver : (l : Lowering) (b : Bound) (object : List Name) (args : List Argument) → AreNarrow args → AreNarrow (receiver_argument l b object ++ args)
behind_receiver l (Method k i) object args h = h
behind_receiver l b object args h = h

handler_narrow : (n : Option ℕ) → AreNarrow (handler_arguments n) × (length (handler_arguments n) ≤ 1)
handler_narrow None = (tt, omega arith)
handler_narrow (Some n) = (tt, omega arith)

record Given (es : Expressions) (x : LoweredArguments) : Type 0 where
  before : AllFit x.before
  narrow : AreNarrow x.arguments
  count : length x.arguments ≡ count_of es

call_fits : (l : Lowering) (b : Bound) (object : List Name) (es : Expressions) (given : LoweredArguments) → Given es given → GivenFits b es →
    CallFits (callee_of l b) (arguments_from (call_of l b object es given).arguments)
call_fits l (BuiltinBound SetTerminate) object es given h k =
    let one = handler_narrow (function_named es) in arguments_fit 1 0 (handler_arguments (function_named es)) one.0 (omega (arith, one.1))
call_fits l (BuiltinBound SetUnexpected) object es given h k =
    let one = handler_narrow (function_named es) in arguments_fit 1 0 (handler_arguments (function_named es)) one.0 (omega (arith, one.1))
call_fits l (BuiltinBound b) object es given h k = arguments_fit 1 0 given.arguments h.narrow (omega (arith, h.count, k))
call_fits l b object es given h k =
    let args = receiver_argument l b object ++ given.arguments in arguments_fit 0 0 args (behind_receiver l b object given.arguments h.narrow) (none_step 0 (length args) (omega arith))

before_fits : (b : Bound) (es : Expressions) (given : LoweredArguments) → Given es given → AllFit (given_before b given)
before_fits (BuiltinBound SetTerminate) es given h = tt
before_fits (BuiltinBound SetUnexpected) es given h = tt
before_fits b es given h = h.before

module _ (l : Lowering) where
  int_given : (c : Bool) (t : ℕ) (e : Expression) (es : Expressions) (a : Lowered) (rest : ℕ → LoweredArguments) → Held a → ((u : ℕ) → Given es (rest u)) →
      Given (expression_then e es) (int_passed c t a rest)
  int_given false t e es a rest h g = let others = g a.next in record { before = h.before; narrow = (h.narrow, others.narrow); count = omega (arith, others.count) }
  int_given true t e es a rest h g =
      let others = g (t + 1) in
      record { before = then_fit a.before _ h.before (stored_fits t a h, others.before); narrow = (omega arith, others.narrow); count = omega (arith, others.count) }

  first_given : (c : Bool) (e : Expression) (es : Expressions) (types : List Ty) (t : ℕ) → Held (lower l e t) → ((u : ℕ) → Given es (lower_arguments l es (drop 1 types) u)) →
      Given (expression_then e es) (if c then address_passed (place_of l (names_of (lvalue_of e))) (lower_arguments l es (drop 1 types) t)
      else int_passed (some_call es) t (lower l e t) (λ u. lower_arguments l es (drop 1 types) u))
  first_given true e es types t h g = let others = g t in record { before = others.before; narrow = others.narrow; count = omega (arith, others.count) }
  first_given false e es types t h g = int_given (some_call es) t e es (lower l e t) (λ u. lower_arguments l es (drop 1 types) u) h g

  held_of : (e : Expression) (t : ℕ) → tokens_in e ≤ 2000 → AllFit (lower l e t).before → Held (lower l e t)
  held_of e t h k = record { before = k; is_pure = pure l e t; narrow = needs_few l e t h }

  mutual
    lowered_before : (e : Expression) (t : ℕ) → tokens_in e ≤ 2000 → CallsFit e → AllFit (lower l e t).before
    lowered_before (number v place) t h c = tt
    lowered_before (path names) t h c = tt
    lowered_before (paren e place) t h c = lowered_before e t (omega (arith, h)) c
    lowered_before (unary o e place) t h c = lowered_before e t (omega (arith, h)) c
    lowered_before (binary o a b) t h c =
        both_before o (has_call b) t (lower l a t) (λ u. lower l b u) (held_of a t (omega (arith, h)) (lowered_before a t (omega (arith, h)) c.0))
        (λ u. held_of b u (omega (arith, h)) (lowered_before b u (omega (arith, h)) c.1))
    lowered_before (call names es) t h c =
        let b = callee_bound names in
        let types = parameter_types l.program b in
        let given = arguments_given es types t (omega (arith, h)) c.1 in
        then_fit (given_before b (lower_arguments l es types t)) _ (before_fits b es (lower_arguments l es types t) given) (call_fits l b (receiver names) es (lower_arguments l es types t) given c.0, tt)
    lowered_before (std_call n es place) t h c =
        let given = arguments_given es [] t (omega (arith, h)) c.1 in
        then_fit (given_before n.bound (lower_arguments l es [] t)) _ (before_fits n.bound es (lower_arguments l es [] t) given) (call_fits l n.bound [] es (lower_arguments l es [] t) given c.0, tt)

    arguments_given : (es : Expressions) (types : List Ty) (t : ℕ) → tokens_in_all es ≤ 2000 → AllCallsFit es → Given es (lower_arguments l es types t)
    arguments_given no_expressions types t h c = record { before = tt; narrow = tt; count = refl }
    arguments_given (expression_then e es) types t h c =
        first_given (refers types) e es types t (held_of e t (omega (arith, h)) (lowered_before e t (omega (arith, h)) c.0)) (λ u. arguments_given es (drop 1 types) u (omega (arith, h)) c.1)

  pub held : (e : Expression) (t : ℕ) → tokens_in e ≤ 2000 → CallsFit e → Held (lower l e t)
  held e t h c = held_of e t h (lowered_before e t h c)

  -- a value's operation
  pub valued_fits : (e : Expression) (t : ℕ) (p : Place) → tokens_in e ≤ 2000 → CallsFit e → AllFit ((lower l e t).before ++ op (store p (lower l e t).value) ∷ [])
  valued_fits e t p h c = let x = held e t h c in then_fit (lower l e t).before _ x.before (pure_fits (lower l e t).value x.is_pure (omega (arith, x.narrow)), tt)

  evaluated : (e : Expression) (t : ℕ) → Held (lower l e t) → AllFit ((lower l e t).before ++ op (evaluate (lower l e t).value) ∷ [])
  evaluated e t x = then_fit (lower l e t).before _ x.before (pure_fits (lower l e t).value x.is_pure (omega (arith, x.narrow)), tt)

  pub dropped_fits : (e : Expression) (t : ℕ) → tokens_in e ≤ 2000 → CallsFit e → AllFit (dropped l e t)
  dropped_fits (call names es) t h c =
      let b = callee_bound names in
      let types = parameter_types l.program b in
      let given = arguments_given es types t (omega (arith, h)) c.1 in
      then_fit (given_before b (lower_arguments l es types t)) _ (before_fits b es (lower_arguments l es types t) given) (call_fits l b (receiver names) es (lower_arguments l es types t) given c.0, tt)
  dropped_fits (std_call n es place) t h c =
      let given = arguments_given es [] t (omega (arith, h)) c.1 in
      then_fit (given_before n.bound (lower_arguments l es [] t)) _ (before_fits n.bound es (lower_arguments l es [] t) given) (call_fits l n.bound [] es (lower_arguments l es [] t) given c.0, tt)
  dropped_fits (paren e place) t h c = dropped_fits e t (omega (arith, h)) c
  dropped_fits e t h c = evaluated e t (held e t h c)

  pub store_fits : (e : Expression) (p : Place) (t : ℕ) → tokens_in e ≤ 2000 → CallsFit e → AllFit (lower_store l e p t)
  store_fits (call names es) p t h c =
      let b = callee_bound names in
      let types = parameter_types l.program b in
      let given = arguments_given es types t (omega (arith, h)) c.1 in
      then_fit (given_before b (lower_arguments l es types t)) _ (before_fits b es (lower_arguments l es types t) given) (call_fits l b (receiver names) es (lower_arguments l es types t) given c.0, tt)
  store_fits (std_call n es place) p t h c =
      let given = arguments_given es [] t (omega (arith, h)) c.1 in
      then_fit (given_before n.bound (lower_arguments l es [] t)) _ (before_fits n.bound es (lower_arguments l es [] t) given) (call_fits l n.bound [] es (lower_arguments l es [] t) given c.0, tt)
  store_fits (paren e place) p t h c = store_fits e p t (omega (arith, h)) c
  store_fits e p t h c = valued_fits e t p h c

  pub built_fits : (k : ℕ) (es : Expressions) (p : Place) (t : ℕ) → tokens_in_all es ≤ 2000 → AllCallsFit es → AllFit (lower_construct l k es p t)
  built_fits k es p t h c =
      let types = constructor_types l.program k (constructor_chosen l k es) in
      let given = arguments_given es types t h c in
      let args = (lower_arguments l es types t).arguments in
      then_fit (lower_arguments l es types t).before _ given.before (arguments_fit 0 0 args given.narrow (none_step 0 (length args) (omega arith)), tt)
