-- The numbers of what expressions become are ints, where their literals are, and few of its regions hold others.
use Rattle.std.proofs.Common.{ℕ, ◌+◌, ◌*◌, ◌≤◌, Bool, true, false, List, [], ◌∷◌, ◌++◌, drop, Option, Some, None, if◌then◌else◌, refl, arith}
use Rattle.cxx_ast.specs.declared.expression.BinaryOp.{BinaryOp}
use Rattle.cxx_ast.specs.declared.expression.BinaryOp.TheVariants.{And, Or}
use Rattle.cxx_ast.specs.declared.name.Bound.{Bound}
use Rattle.cxx_ast.specs.declared.name.Bound.TheVariants.{Method, Builtin as BuiltinBound}
use Rattle.cxx_ast.specs.declared.name.Builtin.TheVariants.{SetTerminate, SetUnexpected}
use Rattle.cxx_ast.specs.declared.name.Name.{Name}
use Rattle.cxx_ast.specs.declared.types.Ty.{Ty}
use Rattle.cxx_ast.specs.Plain.{Expression, number, path, paren, unary, binary, call, std_call, Expressions, no_expressions, expression_then}
use Rattle.meaning_forms.specs.Expression.{lvalue_of, names_of, callee_bound, receiver, parameter_types, constructor_types, function_named}
use Rattle.region_forms.specs.Form.{Place, Argument, arguments_from, store, Region, op, regions_from}
use Rattle.region_forms.specs.LowerExpression.{Lowering, place_of, has_call, some_call, Lowered, LoweredArguments, stored_in, truth_of, both, receiver_argument, handler_arguments, given_arguments, given_before, call_of, int_passed, address_passed, refers, lower, lower_arguments, dropped, lower_store, constructor_chosen, lower_construct}
use Rattle.address_bounds.specs.Everywhere.{RegionsAll, holders_all}
use Rattle.operation_premises.specs.Ints.{HasInts, HaveInts, ints}
use Rattle.source_bounds.specs.LeastTokens.{tokens_in, tokens_in_all}
use Rattle.checked_units.specs.Literals.{LiteralsIn, AllLiterals}

-- the numbers of regions one after the other are ints, and no more than so many of them and of those inside hold others
abbrev pub Good : ℕ → List Region → Type 0
Good n rs = RegionsAll ints (regions_from rs) × (holders_all (regions_from rs) ≤ n)

pub then_good : (m n k : ℕ) (rs others : List Region) → Good m rs → Good n others → m + n ≤ k → Good k (rs ++ others)
then_good m n k [] others h g le = (g.0, omega (arith, g.1, le))
then_good m n k (r ∷ rs) others h g le =
    let rest = then_good (holders_all (regions_from rs)) n (holders_all (regions_from rs) + n) rs others (h.0.1, omega arith) g (omega arith) in ((h.0.0, rest.0), omega (arith, rest.1, h.1, le))

pub none_good : (n : ℕ) → Good n []
none_good n = (tt, omega arith)

-- what comes before a value, and the value
abbrev pub Held : ℕ → Lowered → Type 0
Held n x = Good n x.before × HasInts x.value

abbrev Given : ℕ → LoweredArguments → Type 0
Given n x = Good n x.before × HaveInts (arguments_from x.arguments)

both_held : (o : BinaryOp) (c : Bool) (t m k n : ℕ) (a : Lowered) (b : ℕ → Lowered) → Held m a → ((u : ℕ) → Held k (b u)) → m + k + 3 ≤ n → Held n (both o c t a b)
both_held o false t m k n a b h g le = ((h.0.0, omega (arith, h.0.1, le)), (h.1, (g a.next).1))
both_held And true t m k n a b h g le =
    let right = g t in
    let inner : Good k ((b t).before ++ stored_in t (truth_of (b t).value) ∷ []) = then_good k 0 k (b t).before (stored_in t (truth_of (b t).value) ∷ []) right.0 (((right.1, refl), tt), omega arith) (omega arith) in
    (then_good m (k + 3) n a.before _ h.0 (((h.1, inner.0, (refl, tt)), tt), omega (arith, inner.1)) (omega (arith, le)), tt)
both_held Or true t m k n a b h g le =
    let right = g t in
    let inner : Good k ((b t).before ++ stored_in t (truth_of (b t).value) ∷ []) = then_good k 0 k (b t).before (stored_in t (truth_of (b t).value) ∷ []) right.0 (((right.1, refl), tt), omega arith) (omega arith) in
    (then_good m (k + 3) n a.before _ h.0 (((h.1, (refl, tt), inner.0), tt), omega (arith, inner.1)) (omega (arith, le)), tt)
both_held o true t m k n a b h g le =
    let right = g (t + 1) in
    (then_good m k n a.before _ h.0 ((h.1, right.0.0), omega (arith, right.0.1)) (omega (arith, le)), (tt, right.1))

behind_receiver : (l : Lowering) (b : Bound) (object : List Name) (args : List Argument) → HaveInts (arguments_from args) → HaveInts (arguments_from (receiver_argument l b object ++ args))
behind_receiver l (Method k i) object args h = (tt, h)
behind_receiver l b object args h = h

handler_ints : (n : Option ℕ) → HaveInts (arguments_from (handler_arguments n))
handler_ints None = tt
handler_ints (Some n) = (tt, tt)

given_ints : (b : Bound) (es : Expressions) (given : LoweredArguments) → HaveInts (arguments_from given.arguments) → HaveInts (arguments_from (given_arguments b es given))
given_ints (BuiltinBound SetTerminate) es given h = handler_ints (function_named es)
given_ints (BuiltinBound SetUnexpected) es given h = handler_ints (function_named es)
given_ints b es given h = h

before_good : (n : ℕ) (b : Bound) (given : LoweredArguments) → Good n given.before → Good n (given_before b given)
before_good n (BuiltinBound SetTerminate) given h = none_good n
before_good n (BuiltinBound SetUnexpected) given h = none_good n
before_good n b given h = h

call_ints : (l : Lowering) (b : Bound) (object : List Name) (es : Expressions) (given : LoweredArguments) → HaveInts (arguments_from given.arguments) →
    HaveInts (arguments_from (call_of l b object es given).arguments)
call_ints l b object es given h = behind_receiver l b object (given_arguments b es given) (given_ints b es given h)

int_given : (c : Bool) (t m k n : ℕ) (a : Lowered) (rest : ℕ → LoweredArguments) → Held m a → ((u : ℕ) → Given k (rest u)) → m + k ≤ n →
    Given n (int_passed c t a rest)
int_given false t m k n a rest h g le = ((h.0.0, omega (arith, h.0.1, le)), (h.1, (g a.next).1))
int_given true t m k n a rest h g le =
    let others = g (t + 1) in (then_good m k n a.before _ h.0 ((h.1, others.0.0), omega (arith, others.0.1)) (omega (arith, le)), (tt, others.1))

module _ (l : Lowering) where
  first_given : (c : Bool) (e : Expression) (es : Expressions) (types : List Ty) (t : ℕ) → Held (3 * tokens_in e) (lower l e t) →
      ((u : ℕ) → Given (3 * tokens_in_all es) (lower_arguments l es (drop 1 types) u)) →
      Given (3 * tokens_in_all (expression_then e es)) (if c then address_passed (place_of l (names_of (lvalue_of e))) (lower_arguments l es (drop 1 types) t)
      else int_passed (some_call es) t (lower l e t) (λ u. lower_arguments l es (drop 1 types) u))
  first_given true e es types t h g = let others = g t in ((others.0.0, omega (arith, others.0.1)), (tt, others.1))
  first_given false e es types t h g =
      int_given (some_call es) t (3 * tokens_in e) (3 * tokens_in_all es) (3 * tokens_in_all (expression_then e es)) (lower l e t) (λ u. lower_arguments l es (drop 1 types) u) h g (omega arith)

  mutual
    pub held : (e : Expression) (t : ℕ) → LiteralsIn e → Held (3 * tokens_in e) (lower l e t)
    held (number v place) t h = (none_good 3, h)
    held (path names) t h = (none_good 3, tt)
    held (paren e place) t h = let x = held e t h in ((x.0.0, omega (arith, x.0.1)), x.1)
    held (unary o e place) t h = let x = held e t h in ((x.0.0, omega (arith, x.0.1)), x.1)
    held (binary o a b) t h =
        both_held o (has_call b) t (3 * tokens_in a) (3 * tokens_in b) (3 * tokens_in (binary o a b)) (lower l a t) (λ u. lower l b u) (held a t h.0) (λ u. held b u h.1) (omega arith)
    held (call names es) t h =
        let b = callee_bound names in
        let types = parameter_types l.program b in
        let given = arguments_given es types t h in
        let n = 3 * tokens_in_all es in (
          then_good n 0 (3 * tokens_in (call names es)) (given_before b (lower_arguments l es types t)) _ (before_good n b (lower_arguments l es types t) given.0)
              ((call_ints l b (receiver names) es (lower_arguments l es types t) given.1, tt), omega arith) (omega arith),
          tt,
        )
    held (std_call x es place) t h =
        let given = arguments_given es [] t h in
        let n = 3 * tokens_in_all es in (
          then_good n 0 (3 * tokens_in (std_call x es place)) (given_before x.bound (lower_arguments l es [] t)) _ (before_good n x.bound (lower_arguments l es [] t) given.0)
              ((call_ints l x.bound [] es (lower_arguments l es [] t) given.1, tt), omega arith) (omega arith),
          tt,
        )

    arguments_given : (es : Expressions) (types : List Ty) (t : ℕ) → AllLiterals es → Given (3 * tokens_in_all es) (lower_arguments l es types t)
    arguments_given no_expressions types t h = (none_good 0, tt)
    arguments_given (expression_then e es) types t h = first_given (refers types) e es types t (held e t h.0) (λ u. arguments_given es (drop 1 types) u h.1)

  -- a value's operation
  pub valued : (e : Expression) (t : ℕ) (p : Place) → LiteralsIn e → Good (3 * tokens_in e) ((lower l e t).before ++ op (store p (lower l e t).value) ∷ [])
  valued e t p h = let x = held e t h in then_good (3 * tokens_in e) 0 (3 * tokens_in e) (lower l e t).before _ x.0 ((x.1, tt), omega arith) (omega arith)

  pub dropped_good : (e : Expression) (t : ℕ) → LiteralsIn e → Good (3 * tokens_in e) (dropped l e t)
  dropped_good (call names es) t h =
      let b = callee_bound names in
      let types = parameter_types l.program b in
      let given = arguments_given es types t h in
      let n = 3 * tokens_in_all es in
      then_good n 0 (3 * tokens_in (call names es)) (given_before b (lower_arguments l es types t)) _ (before_good n b (lower_arguments l es types t) given.0)
      ((call_ints l b (receiver names) es (lower_arguments l es types t) given.1, tt), omega arith) (omega arith)
  dropped_good (std_call x es place) t h =
      let given = arguments_given es [] t h in
      let n = 3 * tokens_in_all es in
      then_good n 0 (3 * tokens_in (std_call x es place)) (given_before x.bound (lower_arguments l es [] t)) _ (before_good n x.bound (lower_arguments l es [] t) given.0)
      ((call_ints l x.bound [] es (lower_arguments l es [] t) given.1, tt), omega arith) (omega arith)
  dropped_good (paren e place) t h = let x = dropped_good e t h in (x.0, omega (arith, x.1))
  dropped_good (number v place) t h = ((h, tt), omega arith)
  dropped_good (path names) t h = ((tt, tt), omega arith)
  dropped_good (unary o e place) t h =
      let x = held (unary o e place) t h in then_good (3 * tokens_in (unary o e place)) 0 (3 * tokens_in (unary o e place)) (lower l (unary o e place) t).before _ x.0 ((x.1, tt), omega arith) (omega arith)
  dropped_good (binary o a b) t h =
      let x = held (binary o a b) t h in then_good (3 * tokens_in (binary o a b)) 0 (3 * tokens_in (binary o a b)) (lower l (binary o a b) t).before _ x.0 ((x.1, tt), omega arith) (omega arith)

  pub store_good : (e : Expression) (p : Place) (t : ℕ) → LiteralsIn e → Good (3 * tokens_in e) (lower_store l e p t)
  store_good (call names es) p t h =
      let b = callee_bound names in
      let types = parameter_types l.program b in
      let given = arguments_given es types t h in
      let n = 3 * tokens_in_all es in
      then_good n 0 (3 * tokens_in (call names es)) (given_before b (lower_arguments l es types t)) _ (before_good n b (lower_arguments l es types t) given.0)
      ((call_ints l b (receiver names) es (lower_arguments l es types t) given.1, tt), omega arith) (omega arith)
  store_good (std_call x es place) p t h =
      let given = arguments_given es [] t h in
      let n = 3 * tokens_in_all es in
      then_good n 0 (3 * tokens_in (std_call x es place)) (given_before x.bound (lower_arguments l es [] t)) _ (before_good n x.bound (lower_arguments l es [] t) given.0)
      ((call_ints l x.bound [] es (lower_arguments l es [] t) given.1, tt), omega arith) (omega arith)
  store_good (paren e place) p t h = let x = store_good e p t h in (x.0, omega (arith, x.1))
  store_good (number v place) p t h = valued (number v place) t p h
  store_good (path names) p t h = valued (path names) t p h
  store_good (unary o e place) p t h = valued (unary o e place) t p h
  store_good (binary o a b) p t h = valued (binary o a b) t p h

  pub built_good : (k : ℕ) (es : Expressions) (p : Place) (t : ℕ) → AllLiterals es → Good (3 * tokens_in_all es) (lower_construct l k es p t)
  built_good k es p t h =
      let types = constructor_types l.program k (constructor_chosen l k es) in
      let given = arguments_given es types t h in
      then_good (3 * tokens_in_all es) 0 (3 * tokens_in_all es) (lower_arguments l es types t).before _ given.0 ((given.1, tt), omega arith) (omega arith)
