-- What expressions become opens no handler and leaves none.
use Rattle.std.proofs.Common.{◌≡◌, ℕ, ◌+◌, pos, Bool, true, false, List, [], ◌∷◌, ◌++◌, drop, refl, if◌then◌else◌}
use Rattle.std.specs.Prelude.{◌&&◌, not}
use Rattle.cxx_ast.specs.declared.expression.BinaryOp.{BinaryOp}
use Rattle.cxx_ast.specs.declared.expression.BinaryOp.TheVariants.{And, Or}
use Rattle.cxx_ast.specs.declared.name.Bound.{Bound}
use Rattle.cxx_ast.specs.declared.name.Bound.TheVariants.{Builtin as BuiltinBound}
use Rattle.cxx_ast.specs.declared.name.Builtin.TheVariants.{SetTerminate, SetUnexpected}
use Rattle.cxx_ast.specs.declared.types.Ty.{Ty}
use Rattle.cxx_ast.specs.Plain.{Expression, number, path, paren, unary, binary, call, std_call, Expressions, no_expressions, expression_then}
use Rattle.meaning_forms.specs.Expression.{lvalue_of, names_of, callee_bound, parameter_types, constructor_types}
use Rattle.region_forms.specs.Form.{Place, Value, number as number_value, store, evaluate, Region, op, branch, RegionList, region_then, regions_from, in_order}
use Rattle.region_forms.specs.LowerExpression.{Lowering, place_of, has_call, some_call, Lowered, LoweredArguments, stored_in, truth_of, both, given_before, int_passed, address_passed, refers, lower, lower_arguments, dropped, lower_store, constructor_chosen, lower_construct}
use Rattle.kept_handlers.specs.Left.{opens_one, leaves_one, is_even, region_in_step, regions_in_step}
use Rattle.kept_handlers.proofs.Scanning.{Even}

pub both_true : (x y : Bool) → x ≡ true → y ≡ true → (x && y) ≡ true
both_true true y e f = f
both_true false y e f = absurd (cc e)

even_bits : (x y z : Bool) → x ≡ false → y ≡ false → z ≡ true → ((not x && not y) && z) ≡ true
even_bits true y z e f g = absurd (cc e)
even_bits false true z e f g = absurd (cc f)
even_bits false false z e f g = g

pub even_test : (a : Region) → Even a → (is_even a && region_in_step a) ≡ true
even_test a h = even_bits (opens_one a) (leaves_one a) (region_in_step a) h.opens h.leaves h.steps

-- regions, each of them even
abbrev pub Good : List Region → Type 0
Good [] = Unit {0}
Good (r ∷ rs) = Even r × Good rs

pub then_good : (rs others : List Region) → Good rs → Good others → Good (rs ++ others)
then_good [] others h g = g
then_good (r ∷ rs) others h g = (h.0, then_good rs others h.1 g)

first_bits : (rs : RegionList) (x y z : Bool) → x ≡ false → y ≡ false → z ≡ true → regions_in_step false rs ≡ true → (not y && (z && regions_in_step x rs)) ≡ true
first_bits rs true y z a b c k = absurd (cc a)
first_bits rs false true z a b c k = absurd (cc b)
first_bits rs false false true a b c k = k
first_bits rs false false false a b c k = absurd (cc c)

-- an even region in front
first_in_step : (r : Region) (rs : RegionList) → Even r → regions_in_step false rs ≡ true → regions_in_step false (region_then r rs) ≡ true
first_in_step r rs h e = first_bits rs (opens_one r) (leaves_one r) (region_in_step r) h.opens h.leaves h.steps e

-- what comes behind even regions is in step with them
pub then_in_step : (rs others : List Region) → Good rs → regions_in_step false (regions_from others) ≡ true → regions_in_step false (regions_from (rs ++ others)) ≡ true
then_in_step [] others h e = e
then_in_step (r ∷ rs) others h e = first_in_step r (regions_from (rs ++ others)) h.0 (then_in_step rs others h.1 e)

pub good_in_step : (rs : List Region) → Good rs → regions_in_step false (regions_from rs) ≡ true
good_in_step [] h = refl
good_in_step (r ∷ rs) h = first_in_step r (regions_from rs) h.0 (good_in_step rs h.1)

pub simply : (a : Region) → opens_one a ≡ false → leaves_one a ≡ false → region_in_step a ≡ true → Even a
simply a opens leaves steps = record { opens = opens; leaves = leaves; steps = steps }

pub even_order : (rs : List Region) → Good rs → Even (in_order rs)
even_order rs h = record { opens = refl; leaves = refl; steps = good_in_step rs h }

pub even_branch : (v : Value) (a b : Region) → Even a → Even b → Even (branch v a b)
even_branch v a b h k = record { opens = refl; leaves = refl; steps = both_true (is_even a && region_in_step a) (is_even b && region_in_step b) (even_test a h) (even_test b k) }

-- what comes before a value
abbrev pub Held : Lowered → Type 0
Held x = Good x.before

stored : (t : ℕ) (v : Value) → Even (stored_in t v)
stored t v = simply (stored_in t v) refl refl refl

both_held : (o : BinaryOp) (c : Bool) (t : ℕ) (a : Lowered) (b : ℕ → Lowered) → Held a → ((u : ℕ) → Held (b u)) → Held (both o c t a b)
both_held o false t a b h g = h
both_held And true t a b h g =
    let decided = stored_in t (truth_of (b t).value) ∷ [] in
    let right = (b t).before ++ decided in
    let left = stored_in t (number_value (pos 0)) ∷ [] in
    then_good a.before (branch a.value (in_order right) (in_order left) ∷ []) h
    (even_branch a.value (in_order right) (in_order left) (even_order right (then_good (b t).before decided (g t) (stored t (truth_of (b t).value), tt))) (even_order left (stored t (number_value (pos 0)), tt)), tt)
both_held Or true t a b h g =
    let decided = stored_in t (truth_of (b t).value) ∷ [] in
    let right = (b t).before ++ decided in
    let left = stored_in t (number_value (pos 1)) ∷ [] in
    then_good a.before (branch a.value (in_order left) (in_order right) ∷ []) h
    (even_branch a.value (in_order left) (in_order right) (even_order left (stored t (number_value (pos 1)), tt)) (even_order right (then_good (b t).before decided (g t) (stored t (truth_of (b t).value), tt))), tt)
both_held o true t a b h g = then_good a.before _ h (stored t a.value, g (t + 1))

before_good : (b : Bound) (given : LoweredArguments) → Good given.before → Good (given_before b given)
before_good (BuiltinBound SetTerminate) given h = tt
before_good (BuiltinBound SetUnexpected) given h = tt
before_good b given h = h

int_given : (c : Bool) (t : ℕ) (a : Lowered) (rest : ℕ → LoweredArguments) → Held a → ((u : ℕ) → Good (rest u).before) → Good (int_passed c t a rest).before
int_given false t a rest h g = h
int_given true t a rest h g = then_good a.before _ h (stored t a.value, g (t + 1))

module _ (l : Lowering) where
  first_given : (c : Bool) (e : Expression) (es : Expressions) (types : List Ty) (t : ℕ) → Held (lower l e t) → ((u : ℕ) → Good (lower_arguments l es (drop 1 types) u).before) →
      Good (if c then address_passed (place_of l (names_of (lvalue_of e))) (lower_arguments l es (drop 1 types) t)
      else int_passed (some_call es) t (lower l e t) (λ u. lower_arguments l es (drop 1 types) u)).before
  first_given true e es types t h g = g t
  first_given false e es types t h g = int_given (some_call es) t (lower l e t) (λ u. lower_arguments l es (drop 1 types) u) h g

  mutual
    pub held : (e : Expression) (t : ℕ) → Held (lower l e t)
    held (number v place) t = tt
    held (path names) t = tt
    held (paren e place) t = held e t
    held (unary o e place) t = held e t
    held (binary o a b) t = both_held o (has_call b) t (lower l a t) (λ u. lower l b u) (held a t) (λ u. held b u)
    held (call names es) t =
        let b = callee_bound names in
        let given = lower_arguments l es (parameter_types l.program b) t in
        then_good (given_before b given) _ (before_good b given (arguments_given es (parameter_types l.program b) t)) (simply _ refl refl refl, tt)
    held (std_call x es place) t =
        let given = lower_arguments l es [] t in
        then_good (given_before x.bound given) _ (before_good x.bound given (arguments_given es [] t)) (simply _ refl refl refl, tt)

    arguments_given : (es : Expressions) (types : List Ty) (t : ℕ) → Good (lower_arguments l es types t).before
    arguments_given no_expressions types t = tt
    arguments_given (expression_then e es) types t = first_given (refers types) e es types t (held e t) (λ u. arguments_given es (drop 1 types) u)

  -- a value's operation
  pub valued : (e : Expression) (t : ℕ) (p : Place) → Good ((lower l e t).before ++ op (store p (lower l e t).value) ∷ [])
  valued e t p = then_good (lower l e t).before _ (held e t) (simply _ refl refl refl, tt)

  evaluated : (e : Expression) (t : ℕ) → Good ((lower l e t).before ++ op (evaluate (lower l e t).value) ∷ [])
  evaluated e t = then_good (lower l e t).before _ (held e t) (simply _ refl refl refl, tt)

  pub dropped_good : (e : Expression) (t : ℕ) → Good (dropped l e t)
  dropped_good (call names es) t =
      let b = callee_bound names in
      let given = lower_arguments l es (parameter_types l.program b) t in
      then_good (given_before b given) _ (before_good b given (arguments_given es (parameter_types l.program b) t)) (simply _ refl refl refl, tt)
  dropped_good (std_call x es place) t =
      let given = lower_arguments l es [] t in then_good (given_before x.bound given) _ (before_good x.bound given (arguments_given es [] t)) (simply _ refl refl refl, tt)
  dropped_good (paren e place) t = dropped_good e t
  dropped_good (number v place) t = evaluated (number v place) t
  dropped_good (path names) t = evaluated (path names) t
  dropped_good (unary o e place) t = evaluated (unary o e place) t
  dropped_good (binary o a b) t = evaluated (binary o a b) t

  pub store_good : (e : Expression) (p : Place) (t : ℕ) → Good (lower_store l e p t)
  store_good (call names es) p t =
      let b = callee_bound names in
      let given = lower_arguments l es (parameter_types l.program b) t in
      then_good (given_before b given) _ (before_good b given (arguments_given es (parameter_types l.program b) t)) (simply _ refl refl refl, tt)
  store_good (std_call x es place) p t =
      let given = lower_arguments l es [] t in then_good (given_before x.bound given) _ (before_good x.bound given (arguments_given es [] t)) (simply _ refl refl refl, tt)
  store_good (paren e place) p t = store_good e p t
  store_good (number v place) p t = valued (number v place) t p
  store_good (path names) p t = valued (path names) t p
  store_good (unary o e place) p t = valued (unary o e place) t p
  store_good (binary o a b) p t = valued (binary o a b) t p

  pub built_good : (k : ℕ) (es : Expressions) (p : Place) (t : ℕ) → Good (lower_construct l k es p t)
  built_good k es p t =
      let types = constructor_types l.program k (constructor_chosen l k es) in then_good (lower_arguments l es types t).before _ (arguments_given es types t) (simply _ refl refl refl, tt)
