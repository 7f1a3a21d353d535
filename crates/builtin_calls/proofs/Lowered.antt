-- What expressions become gives each built-in function what it takes, and stores the value only of one that gives a value.
use Rattle.std.proofs.Common.{ℕ, zero, suc, ◌+◌, Bool, true, false, List, [], ◌∷◌, ◌++◌, drop, Option, Some, None, if◌then◌else◌}
use Rattle.std.specs.Prelude.{⊤}
use Rattle.cxx_ast.specs.declared.expression.BinaryOp.{BinaryOp}
use Rattle.cxx_ast.specs.declared.expression.BinaryOp.TheVariants.{And, Or}
use Rattle.cxx_ast.specs.declared.name.Bound.{Bound}
use Rattle.cxx_ast.specs.declared.name.Bound.TheVariants.{Free, Global, Local, Field, Class, Func, Method, Builtin as BuiltinBound}
use Rattle.cxx_ast.specs.declared.name.Builtin.{Builtin}
use Rattle.cxx_ast.specs.declared.name.Builtin.TheVariants.{WriteInt, ReadByte, Exit, Module, Cancel, Terminate, SetTerminate, SetUnexpected, Uncaught, BadException}
use Rattle.cxx_ast.specs.declared.name.Name.{Name}
use Rattle.cxx_ast.specs.declared.types.Ty.{Ty}
use Rattle.cxx_ast.specs.Plain.{Expression, number, path, paren, unary, binary, call, std_call, Expressions, no_expressions, expression_then}
use Rattle.meaning_forms.specs.Expression.{lvalue_of, names_of, callee_bound, receiver, parameter_types, constructor_types, function_named}
use Rattle.region_forms.specs.Form.{Place, Callee, defined, builtin, Value, number as number_value, load, unary as unary_value, binary as binary_value, call_value, int_argument, address_argument, handler_argument, Arguments, no_arguments, argument_then, arguments_from, Op, store, evaluate, call as call_only, op, Region, regions_from}
use Rattle.region_forms.specs.LowerExpression.{Lowering, place_of, has_call, some_call, Lowered, LoweredArguments, stored_in, truth_of, both, slot_place, receiver_argument, callee_of, handler_arguments, given_arguments, given_before, int_passed, address_passed, refers, lower, lower_arguments, dropped, lower_store, constructor_chosen, lower_construct}
use Rattle.address_bounds.specs.Everywhere.{Said, RegionsAll}
use Rattle.builtin_calls.proofs.Trees.{HasCount, IsNamed, BoundTakes, GivesValue, BoundGives, Fits, AllFit, IsValued}

-- so many ints
abbrev pub AreInts : ℕ → Arguments → Type 0
AreInts zero no_arguments = Unit {0}
AreInts zero (argument_then a args) = ⊥
AreInts (suc n) no_arguments = ⊥
AreInts (suc n) (argument_then (int_argument v) args) = AreInts n args
AreInts (suc n) (argument_then (address_argument p) args) = ⊥
AreInts (suc n) (argument_then (handler_argument m) args) = ⊥

-- one function
abbrev pub IsHandler : Arguments → Type 0
IsHandler (argument_then (handler_argument m) no_arguments) = Unit {0}
IsHandler (argument_then (handler_argument m) (argument_then a args)) = ⊥
IsHandler (argument_then (int_argument v) args) = ⊥
IsHandler (argument_then (address_argument p) args) = ⊥
IsHandler no_arguments = ⊥

-- what a built-in function takes
abbrev pub IsGiven : Builtin → Arguments → Type 0
IsGiven WriteInt args = AreInts 1 args
IsGiven ReadByte args = AreInts 0 args
IsGiven Exit args = AreInts 1 args
IsGiven Module args = AreInts 2 args
IsGiven Cancel args = AreInts 1 args
IsGiven Terminate args = AreInts 0 args
IsGiven Uncaught args = AreInts 0 args
IsGiven SetTerminate args = IsHandler args
IsGiven SetUnexpected args = IsHandler args
IsGiven BadException args = ⊥

-- a call whose value is dropped, and one whose value is stored
abbrev pub DroppedFits : Callee → Arguments → Type 0
DroppedFits (builtin b) args = IsGiven b args
DroppedFits (defined n) args = Unit {0}

abbrev pub StoredFits : Callee → Arguments → Type 0
StoredFits (builtin b) args = IsGiven b args × GivesValue b
StoredFits (defined n) args = Unit {0}

-- said of an operation
abbrev pub OpFits : Op → Type 0
OpFits (evaluate (call_value c args)) = DroppedFits c args
OpFits (store p (call_value c args)) = StoredFits c args
OpFits (call_only c args) = DroppedFits c args
OpFits o = Unit {0}

abbrev pub gives : Said
gives = record { operation = OpFits; test = λ v. ⊤; caught = λ s. ⊤; freed = λ s. ⊤ }

abbrev pub Good : List Region → Type 0
Good rs = RegionsAll gives (regions_from rs)

pub then_good : (rs others : List Region) → Good rs → Good others → Good (rs ++ others)
then_good [] others h g = g
then_good (r ∷ rs) others h g = (h.0, then_good rs others h.1 g)

-- a value that is no call
abbrev pub NoCall : Value → Type 0
NoCall (number_value n) = Unit {0}
NoCall (load p) = Unit {0}
NoCall (unary_value o v) = Unit {0}
NoCall (binary_value o v u) = Unit {0}
NoCall (call_value c args) = ⊥

pub stores : (p : Place) (v : Value) → NoCall v → OpFits (store p v)
stores p (number_value n) h = tt
stores p (load q) h = tt
stores p (unary_value o v) h = tt
stores p (binary_value o v u) h = tt
stores p (call_value c args) h = absurd h

evaluates : (v : Value) → NoCall v → OpFits (evaluate v)
evaluates (number_value n) h = tt
evaluates (load q) h = tt
evaluates (unary_value o v) h = tt
evaluates (binary_value o v u) h = tt
evaluates (call_value c args) h = absurd h

-- what comes before a value, and the value
abbrev pub Held : Lowered → Type 0
Held x = Good x.before × NoCall x.value

both_held : (o : BinaryOp) (c : Bool) (t : ℕ) (a : Lowered) (b : ℕ → Lowered) → Held a → ((u : ℕ) → Held (b u)) → Held (both o c t a b)
both_held o false t a b h g = (h.0, tt)
both_held And true t a b h g =
    let right = g t in (then_good a.before _ h.0 ((tt, then_good (b t).before (stored_in t (truth_of (b t).value) ∷ []) right.0 (tt, tt), (tt, tt)), tt), tt)
both_held Or true t a b h g =
    let right = g t in (then_good a.before _ h.0 ((tt, (tt, tt), then_good (b t).before (stored_in t (truth_of (b t).value) ∷ []) right.0 (tt, tt)), tt), tt)
both_held o true t a b h g = let right = g (t + 1) in (then_good a.before _ h.0 (stores (slot_place t) a.value h.1, right.0), tt)

-- the arguments of built-in functions

first_int : (c : Bool) (n t : ℕ) (a : Lowered) (rest : ℕ → LoweredArguments) → ((u : ℕ) → AreInts n (arguments_from (rest u).arguments)) →
    AreInts (suc n) (arguments_from (int_passed c t a rest).arguments)
first_int false n t a rest h = h a.next
first_int true n t a rest h = h (t + 1)

ints_passed : (l : Lowering) (es : Expressions) (n t : ℕ) → HasCount n es → AreInts n (arguments_from (lower_arguments l es [] t).arguments)
ints_passed l no_expressions zero t h = tt
ints_passed l no_expressions (suc n) t h = absurd h
ints_passed l (expression_then e es) zero t h = absurd h
ints_passed l (expression_then e es) (suc n) t h = first_int (some_call es) n t (lower l e t) (λ u. lower_arguments l es [] u) (λ u. ints_passed l es n u h)

handler_passed : (n : Option ℕ) → IsNamed n → IsHandler (arguments_from (handler_arguments n))
handler_passed None h = absurd h
handler_passed (Some n) h = tt

-- said where a built-in function is called
abbrev AtBuiltin : Bound → Type 0 → Type 0
AtBuiltin (BuiltinBound b) A = A
AtBuiltin b A = Unit {0}

abbrev PassInts : Expressions → LoweredArguments → Type 0
PassInts es given = (n : ℕ) → HasCount n es → AreInts n (arguments_from given.arguments)

-- what a call is given
abbrev GivenTo : Lowering → Bound → List Name → Expressions → LoweredArguments → Arguments
GivenTo l b object es given = arguments_from (receiver_argument l b object ++ given_arguments b es given)

drops : (l : Lowering) (b : Bound) (object : List Name) (es : Expressions) (given : LoweredArguments) → AtBuiltin b (PassInts es given) → BoundTakes b es →
    DroppedFits (callee_of l b) (GivenTo l b object es given)
drops l Free object es given i h = tt
drops l (Global g) object es given i h = tt
drops l (Local n) object es given i h = tt
drops l (Field k j) object es given i h = tt
drops l (Class k) object es given i h = tt
drops l (Func n) object es given i h = tt
drops l (Method k j) object es given i h = tt
drops l (BuiltinBound WriteInt) object es given i h = i 1 h
drops l (BuiltinBound ReadByte) object es given i h = i 0 h
drops l (BuiltinBound Exit) object es given i h = i 1 h
drops l (BuiltinBound Module) object es given i h = i 2 h
drops l (BuiltinBound Cancel) object es given i h = i 1 h
drops l (BuiltinBound Terminate) object es given i h = i 0 h
drops l (BuiltinBound Uncaught) object es given i h = i 0 h
drops l (BuiltinBound SetTerminate) object es given i h = handler_passed (function_named es) h
drops l (BuiltinBound SetUnexpected) object es given i h = handler_passed (function_named es) h
drops l (BuiltinBound BadException) object es given i h = absurd h

keeps : (l : Lowering) (b : Bound) (object : List Name) (es : Expressions) (given : LoweredArguments) → AtBuiltin b (PassInts es given) → BoundTakes b es → BoundGives b →
    StoredFits (callee_of l b) (GivenTo l b object es given)
keeps l Free object es given i h v = tt
keeps l (Global g) object es given i h v = tt
keeps l (Local n) object es given i h v = tt
keeps l (Field k j) object es given i h v = tt
keeps l (Class k) object es given i h v = tt
keeps l (Func n) object es given i h v = tt
keeps l (Method k j) object es given i h v = tt
keeps l (BuiltinBound b) object es given i h v = (drops l (BuiltinBound b) object es given i h, v)

ints_at : (l : Lowering) (b : Bound) (es : Expressions) (t : ℕ) → AtBuiltin b (PassInts es (lower_arguments l es (parameter_types l.program b) t))
ints_at l Free es t = tt
ints_at l (Global g) es t = tt
ints_at l (Local n) es t = tt
ints_at l (Field k j) es t = tt
ints_at l (Class k) es t = tt
ints_at l (Func n) es t = tt
ints_at l (Method k j) es t = tt
ints_at l (BuiltinBound b) es t = λ n h. ints_passed l es n t h

std_ints_at : (l : Lowering) (b : Bound) (es : Expressions) (t : ℕ) → AtBuiltin b (PassInts es (lower_arguments l es [] t))
std_ints_at l Free es t = tt
std_ints_at l (Global g) es t = tt
std_ints_at l (Local n) es t = tt
std_ints_at l (Field k j) es t = tt
std_ints_at l (Class k) es t = tt
std_ints_at l (Func n) es t = tt
std_ints_at l (Method k j) es t = tt
std_ints_at l (BuiltinBound b) es t = λ n h. ints_passed l es n t h

before_good : (b : Bound) (given : LoweredArguments) → Good given.before → Good (given_before b given)
before_good (BuiltinBound SetTerminate) given h = tt
before_good (BuiltinBound SetUnexpected) given h = tt
before_good b given h = h

int_given : (c : Bool) (t : ℕ) (a : Lowered) (rest : ℕ → LoweredArguments) → Held a → ((u : ℕ) → Good (rest u).before) → Good (int_passed c t a rest).before
int_given false t a rest h g = h.0
int_given true t a rest h g = then_good a.before _ h.0 (stores (slot_place t) a.value h.1, g (t + 1))

module _ (l : Lowering) where
  first_given : (c : Bool) (e : Expression) (es : Expressions) (types : List Ty) (t : ℕ) → Held (lower l e t) → ((u : ℕ) → Good (lower_arguments l es (drop 1 types) u).before) →
      Good (if c then address_passed (place_of l (names_of (lvalue_of e))) (lower_arguments l es (drop 1 types) t)
      else int_passed (some_call es) t (lower l e t) (λ u. lower_arguments l es (drop 1 types) u)).before
  first_given true e es types t h g = g t
  first_given false e es types t h g = int_given (some_call es) t (lower l e t) (λ u. lower_arguments l es (drop 1 types) u) h g

  mutual
    pub held : (e : Expression) (t : ℕ) → IsValued e → Held (lower l e t)
    held (number v place) t f = (tt, tt)
    held (path names) t f = (tt, tt)
    held (paren e place) t f = held e t f
    held (unary o e place) t f = ((held e t f.0).0, tt)
    held (binary o a b) t f = both_held o (has_call b) t (lower l a t) (λ u. lower l b u) (held a t f.0.0) (λ u. held b u f.0.1)
    held (call names es) t f =
        let b = callee_bound names in
        let given = lower_arguments l es (parameter_types l.program b) t in (
          then_good (given_before b given) _ (before_good b given (arguments_given es (parameter_types l.program b) t f.0.1))
              (keeps l b (receiver names) es given (ints_at l b es t) f.0.0 f.1, tt),
          tt,
        )
    held (std_call x es place) t f =
        let given = lower_arguments l es [] t in
        (then_good (given_before x.bound given) _ (before_good x.bound given (arguments_given es [] t f.0.1)) (keeps l x.bound [] es given (std_ints_at l x.bound es t) f.0.0 f.1, tt), tt)

    arguments_given : (es : Expressions) (types : List Ty) (t : ℕ) → AllFit es → Good (lower_arguments l es types t).before
    arguments_given no_expressions types t f = tt
    arguments_given (expression_then e es) types t f = first_given (refers types) e es types t (held e t f.0) (λ u. arguments_given es (drop 1 types) u f.1)

  -- a value is stored
  pub valued : (e : Expression) (t : ℕ) (p : Place) → IsValued e → Good ((lower l e t).before ++ op (store p (lower l e t).value) ∷ [])
  valued e t p f = let x = held e t f in then_good (lower l e t).before _ x.0 (stores p (lower l e t).value x.1, tt)

  evaluated : (e : Expression) (t : ℕ) → IsValued e → Good ((lower l e t).before ++ op (evaluate (lower l e t).value) ∷ [])
  evaluated e t f = let x = held e t f in then_good (lower l e t).before _ x.0 (evaluates (lower l e t).value x.1, tt)

  pub dropped_good : (e : Expression) (t : ℕ) → Fits e → Good (dropped l e t)
  dropped_good (call names es) t f =
      let b = callee_bound names in
      let given = lower_arguments l es (parameter_types l.program b) t in
      then_good (given_before b given) _ (before_good b given (arguments_given es (parameter_types l.program b) t f.1)) (drops l b (receiver names) es given (ints_at l b es t) f.0, tt)
  dropped_good (std_call x es place) t f =
      let given = lower_arguments l es [] t in
      then_good (given_before x.bound given) _ (before_good x.bound given (arguments_given es [] t f.1)) (drops l x.bound [] es given (std_ints_at l x.bound es t) f.0, tt)
  dropped_good (paren e place) t f = dropped_good e t f
  dropped_good (number v place) t f = evaluated (number v place) t (f, tt)
  dropped_good (path names) t f = evaluated (path names) t (f, tt)
  dropped_good (unary o e place) t f = evaluated (unary o e place) t (f, tt)
  dropped_good (binary o a b) t f = evaluated (binary o a b) t (f, tt)

  pub store_good : (e : Expression) (p : Place) (t : ℕ) → IsValued e → Good (lower_store l e p t)
  store_good (call names es) p t f =
      let b = callee_bound names in
      let given = lower_arguments l es (parameter_types l.program b) t in
      then_good (given_before b given) _ (before_good b given (arguments_given es (parameter_types l.program b) t f.0.1)) (keeps l b (receiver names) es given (ints_at l b es t) f.0.0 f.1, tt)
  store_good (std_call x es place) p t f =
      let given = lower_arguments l es [] t in
      then_good (given_before x.bound given) _ (before_good x.bound given (arguments_given es [] t f.0.1)) (keeps l x.bound [] es given (std_ints_at l x.bound es t) f.0.0 f.1, tt)
  store_good (paren e place) p t f = store_good e p t f
  store_good (number v place) p t f = valued (number v place) t p f
  store_good (path names) p t f = valued (path names) t p f
  store_good (unary o e place) p t f = valued (unary o e place) t p f
  store_good (binary o a b) p t f = valued (binary o a b) t p f

  pub built_good : (k : ℕ) (es : Expressions) (p : Place) (t : ℕ) → AllFit es → Good (lower_construct l k es p t)
  built_good k es p t f =
      let types = constructor_types l.program k (constructor_chosen l k es) in then_good (lower_arguments l es types t).before _ (arguments_given es types t f) (tt, tt)
