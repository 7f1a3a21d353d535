-- What expressions become gives functions to what installs handlers.
use Rattle.std.proofs.Common.{ℕ, ◌+◌, Bool, true, false, List, [], ◌∷◌, ◌++◌, drop, Option, Some, None, if◌then◌else◌}
use Rattle.std.specs.Prelude.{⊤}
use Rattle.cxx_ast.specs.declared.expression.BinaryOp.{BinaryOp}
use Rattle.cxx_ast.specs.declared.expression.BinaryOp.TheVariants.{And, Or}
use Rattle.cxx_ast.specs.declared.name.Bound.{Bound}
use Rattle.cxx_ast.specs.declared.name.Bound.TheVariants.{Free, Global, Local, Field, Class, Func, Method, Builtin as BuiltinBound}
use Rattle.cxx_ast.specs.declared.name.Builtin.TheVariants.{WriteInt, ReadByte, Exit, Module, Cancel, Terminate, SetTerminate, SetUnexpected, Uncaught, BadException}
use Rattle.cxx_ast.specs.declared.name.Name.{Name}
use Rattle.cxx_ast.specs.declared.types.Ty.{Ty}
use Rattle.cxx_ast.specs.Plain.{Expression, number, path, paren, unary, binary, call, std_call, Expressions, no_expressions, expression_then}
use Rattle.meaning_forms.specs.Expression.{lvalue_of, names_of, callee_bound, receiver, parameter_types, constructor_types, function_named}
use Rattle.region_forms.specs.Form.{Place, arguments_from, store, evaluate, op, Region, regions_from}
use Rattle.region_forms.specs.LowerExpression.{Lowering, place_of, has_call, some_call, Lowered, LoweredArguments, stored_in, truth_of, both, receiver_argument, callee_of, handler_arguments, given_arguments, given_before, int_passed, address_passed, refers, lower, lower_arguments, dropped, lower_store, constructor_chosen, lower_construct}
use Rattle.address_bounds.specs.Everywhere.{Said, RegionsAll}
use Rattle.flight_homes.specs.Lives.{HandlersKnown, CalleeKnown, ValueKnown, OpKnown, anything}

-- said of all operations of a region: what installs handlers is given functions
abbrev pub gives : Said
gives = record { operation = OpKnown anything; test = λ v. ⊤; caught = λ s. ⊤; freed = λ s. ⊤ }

abbrev pub Good : List Region → Type 0
Good rs = RegionsAll gives (regions_from rs)

pub then_good : (rs others : List Region) → Good rs → Good others → Good (rs ++ others)
then_good [] others h g = g
then_good (r ∷ rs) others h g = (h.0, then_good rs others h.1 g)

-- what comes before a value, and the value
abbrev pub Held : Lowered → Type 0
Held x = Good x.before × ValueKnown anything x.value

both_held : (o : BinaryOp) (c : Bool) (t : ℕ) (a : Lowered) (b : ℕ → Lowered) → Held a → ((u : ℕ) → Held (b u)) → Held (both o c t a b)
both_held o false t a b h g = (h.0, tt)
both_held And true t a b h g =
    let right = g t in (then_good a.before _ h.0 ((tt, then_good (b t).before (stored_in t (truth_of (b t).value) ∷ []) right.0 (tt, tt), (tt, tt)), tt), tt)
both_held Or true t a b h g =
    let right = g t in (then_good a.before _ h.0 ((tt, (tt, tt), then_good (b t).before (stored_in t (truth_of (b t).value) ∷ []) right.0 (tt, tt)), tt), tt)
both_held o true t a b h g = let right = g (t + 1) in (then_good a.before _ h.0 (h.1, right.0), tt)

-- what installs a handler is given a function, if one is named
handler_known : (n : Option ℕ) → HandlersKnown anything (arguments_from (handler_arguments n))
handler_known None = tt
handler_known (Some n) = tt

call_known : (l : Lowering) (b : Bound) (object : List Name) (es : Expressions) (given : LoweredArguments) →
    CalleeKnown anything (callee_of l b) (arguments_from (receiver_argument l b object ++ given_arguments b es given))
call_known l Free object es given = tt
call_known l (Global g) object es given = tt
call_known l (Local n) object es given = tt
call_known l (Field k i) object es given = tt
call_known l (Class k) object es given = tt
call_known l (Func n) object es given = tt
call_known l (Method k i) object es given = tt
call_known l (BuiltinBound WriteInt) object es given = tt
call_known l (BuiltinBound ReadByte) object es given = tt
call_known l (BuiltinBound Exit) object es given = tt
call_known l (BuiltinBound Module) object es given = tt
call_known l (BuiltinBound Cancel) object es given = tt
call_known l (BuiltinBound Terminate) object es given = tt
call_known l (BuiltinBound SetTerminate) object es given = handler_known (function_named es)
call_known l (BuiltinBound SetUnexpected) object es given = handler_known (function_named es)
call_known l (BuiltinBound Uncaught) object es given = tt
call_known l (BuiltinBound BadException) object es given = tt

before_good : (b : Bound) (given : LoweredArguments) → Good given.before → Good (given_before b given)
before_good (BuiltinBound SetTerminate) given h = tt
before_good (BuiltinBound SetUnexpected) given h = tt
before_good b given h = h

int_given : (c : Bool) (t : ℕ) (a : Lowered) (rest : ℕ → LoweredArguments) → Held a → ((u : ℕ) → Good (rest u).before) → Good (int_passed c t a rest).before
int_given false t a rest h g = h.0
int_given true t a rest h g = then_good a.before _ h.0 (h.1, g (t + 1))

module _ (l : Lowering) where
  first_given : (c : Bool) (e : Expression) (es : Expressions) (types : List Ty) (t : ℕ) → Held (lower l e t) → ((u : ℕ) → Good (lower_arguments l es (drop 1 types) u).before) →
      Good (if c then address_passed (place_of l (names_of (lvalue_of e))) (lower_arguments l es (drop 1 types) t)
      else int_passed (some_call es) t (lower l e t) (λ u. lower_arguments l es (drop 1 types) u)).before
  first_given true e es types t h g = g t
  first_given false e es types t h g = int_given (some_call es) t (lower l e t) (λ u. lower_arguments l es (drop 1 types) u) h g

  mutual
    pub held : (e : Expression) (t : ℕ) → Held (lower l e t)
    held (number v place) t = (tt, tt)
    held (path names) t = (tt, tt)
    held (paren e place) t = held e t
    held (unary o e place) t = ((held e t).0, tt)
    held (binary o a b) t = both_held o (has_call b) t (lower l a t) (λ u. lower l b u) (held a t) (λ u. held b u)
    held (call names es) t =
        let b = callee_bound names in
        let given = lower_arguments l es (parameter_types l.program b) t in
        (then_good (given_before b given) _ (before_good b given (arguments_given es (parameter_types l.program b) t)) (call_known l b (receiver names) es given, tt), tt)
    held (std_call x es place) t =
        let given = lower_arguments l es [] t in
        (then_good (given_before x.bound given) _ (before_good x.bound given (arguments_given es [] t)) (call_known l x.bound [] es given, tt), tt)

    arguments_given : (es : Expressions) (types : List Ty) (t : ℕ) → Good (lower_arguments l es types t).before
    arguments_given no_expressions types t = tt
    arguments_given (expression_then e es) types t = first_given (refers types) e es types t (held e t) (λ u. arguments_given es (drop 1 types) u)

  -- a value's operation
  pub valued : (e : Expression) (t : ℕ) (p : Place) → Good ((lower l e t).before ++ op (store p (lower l e t).value) ∷ [])
  valued e t p = let x = held e t in then_good (lower l e t).before _ x.0 (x.1, tt)

  evaluated : (e : Expression) (t : ℕ) → Good ((lower l e t).before ++ op (evaluate (lower l e t).value) ∷ [])
  evaluated e t = let x = held e t in then_good (lower l e t).before _ x.0 (x.1, tt)

  pub dropped_good : (e : Expression) (t : ℕ) → Good (dropped l e t)
  dropped_good (call names es) t =
      let b = callee_bound names in
      let given = lower_arguments l es (parameter_types l.program b) t in
      then_good (given_before b given) _ (before_good b given (arguments_given es (parameter_types l.program b) t)) (call_known l b (receiver names) es given, tt)
  dropped_good (std_call x es place) t =
      let given = lower_arguments l es [] t in then_good (given_before x.bound given) _ (before_good x.bound given (arguments_given es [] t)) (call_known l x.bound [] es given, tt)
  dropped_good (paren e place) t = dropped_good e t
  dropped_good (number v place) t = evaluated (number v place) t
  dropped_good (path names) t = evaluated (path names) t
  dropped_good (unary o e place) t = evaluated (unary o e place) t
  dropped_good (binary o a b) t = evaluated (binary o a b) t

  pub store_good : (e : Expression) (p : Place) (t : ℕ) → Good (lower_store l e p t)
  store_good (call names es) p t =
      let b = callee_bound names in
      let given = lower_arguments l es (parameter_types l.program b) t in
      then_good (given_before b given) _ (before_good b given (arguments_given es (parameter_types l.program b) t)) (call_known l b (receiver names) es given, tt)
  store_good (std_call x es place) p t =
      let given = lower_arguments l es [] t in then_good (given_before x.bound given) _ (before_good x.bound given (arguments_given es [] t)) (call_known l x.bound [] es given, tt)
  store_good (paren e place) p t = store_good e p t
  store_good (number v place) p t = valued (number v place) t p
  store_good (path names) p t = valued (path names) t p
  store_good (unary o e place) p t = valued (unary o e place) t p
  store_good (binary o a b) p t = valued (binary o a b) t p

  pub built_good : (k : ℕ) (es : Expressions) (p : Place) (t : ℕ) → Good (lower_construct l k es p t)
  built_good k es p t =
      let types = constructor_types l.program k (constructor_chosen l k es) in then_good (lower_arguments l es types t).before _ (arguments_given es types t) (tt, tt)
