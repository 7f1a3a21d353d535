-- What comes before a value has no exit.
use Rattle.std.proofs.Common.{◌≡◌, ◌+◌, ℕ, Bool, true, false, List, [], ◌∷◌, ◌++◌, drop, if◌then◌else◌, refl}
use Rattle.std.proofs.lemmas.Bool.{and_parts}
use Rattle.std.specs.Cmp.Derive.{both_true}
use Rattle.cxx_ast.specs.declared.name.Bound.{Bound}
use Rattle.cxx_ast.specs.declared.name.Bound.TheVariants.{Builtin as BuiltinBound}
use Rattle.cxx_ast.specs.declared.name.Builtin.TheVariants.{SetTerminate, SetUnexpected}
use Rattle.cxx_ast.specs.declared.types.Ty.{Ty}
use Rattle.cxx_ast.specs.declared.expression.BinaryOp.{BinaryOp}
use Rattle.cxx_ast.specs.declared.expression.BinaryOp.TheVariants.{And, Or}
use Rattle.cxx_ast.specs.Plain.{Expression, number, path, paren, unary, binary, call, std_call, Expressions, no_expressions, expression_then}
use Rattle.meaning_forms.specs.Expression.{lvalue_of, names_of, callee_bound, parameter_types, constructor_types}
use Rattle.region_forms.specs.Form.{Place, Region, op, evaluate, store, regions_from}
use Rattle.region_forms.specs.LowerExpression.{Lowering, Lowered, LoweredArguments, has_call, some_call, both, given_before, int_passed, address_passed, refers, place_of, lower, lower_arguments, dropped, constructor_chosen, lower_store, lower_construct}
use Rattle.region_ir.specs.Exits.{exits_inside, all_exits_inside}

-- regions at a depth whose exits lead inside
abbrev pub Inside : ℕ → List Region → Type 0
Inside d rs = all_exits_inside d (regions_from rs) ≡ true

-- regions behind others
pub behind : (d : ℕ) (rs others : List Region) → Inside d rs → Inside d others → Inside d (rs ++ others)
behind d [] others h k = k
behind d (r ∷ rs) others h k =
    let parts = and_parts (exits_inside d r) (all_exits_inside d (regions_from rs)) h in both_true parts.0 (behind d rs others parts.1 k)

-- a region behind others
pub with_last : (d : ℕ) (rs : List Region) (r : Region) → Inside d rs → exits_inside d r ≡ true → Inside d (rs ++ r ∷ [])
with_last d rs r h k = behind d rs (r ∷ []) h (both_true k refl)

-- regions without exits stand at every depth
abbrev pub Anywhere : List Region → Type 0
Anywhere rs = (d : ℕ) → Inside d rs

-- two operands
both_anywhere : (o : BinaryOp) (calls : Bool) (t : ℕ) (a : Lowered) (b : ℕ → Lowered) → Anywhere a.before → ((u : ℕ) → Anywhere (b u).before) →
    Anywhere (both o calls t a b).before
both_anywhere o false t a b h k d = h d
both_anywhere And true t a b h k d = with_last d a.before _ (h d) (both_true (with_last (d + 1 + 1) (b t).before _ (k t (d + 1 + 1)) refl) refl)
both_anywhere Or true t a b h k d = with_last d a.before _ (h d) (both_true refl (with_last (d + 1 + 1) (b t).before _ (k t (d + 1 + 1)) refl))
both_anywhere o true t a b h k d = behind d a.before _ (h d) (k (t + 1) d)

-- what comes before a call
given_anywhere : (b : Bound) (given : LoweredArguments) → Anywhere given.before → Anywhere (given_before b given)
given_anywhere (BuiltinBound SetTerminate) given h d = refl
given_anywhere (BuiltinBound SetUnexpected) given h d = refl
given_anywhere b given h d = h d

-- an argument with those behind it
passed : (calls : Bool) (t : ℕ) (a : Lowered) (rest : ℕ → LoweredArguments) → Anywhere a.before → ((u : ℕ) → Anywhere (rest u).before) →
    Anywhere (int_passed calls t a rest).before
passed false t a rest h k d = h d
passed true t a rest h k d = behind d a.before _ (h d) (k (t + 1) d)

either : (by_address : Bool) (x y : LoweredArguments) → Anywhere x.before → Anywhere y.before → Anywhere (if by_address then x else y).before
either true x y h k = h
either false x y h k = k

mutual
  pub lowered : (l : Lowering) (e : Expression) (t : ℕ) → Anywhere (lower l e t).before
  lowered l (number v place) t d = refl
  lowered l (path names) t d = refl
  lowered l (paren e place) t d = lowered l e t d
  lowered l (unary o e place) t d = lowered l e t d
  lowered l (binary o a b) t d = both_anywhere o (has_call b) t (lower l a t) (λ u. lower l b u) (lowered l a t) (λ u. lowered l b u) d
  lowered l (call names es) t d =
      let given = lower_arguments l es (parameter_types l.program (callee_bound names)) t in
      with_last d (given_before (callee_bound names) given) _
      (given_anywhere (callee_bound names) given (lowered_arguments l es (parameter_types l.program (callee_bound names)) t) d) refl
  lowered l (std_call n es place) t d =
      with_last d (given_before n.bound (lower_arguments l es [] t)) _
      (given_anywhere n.bound (lower_arguments l es [] t) (lowered_arguments l es [] t) d) refl

  pub lowered_arguments : (l : Lowering) (es : Expressions) (types : List Ty) (t : ℕ) → Anywhere (lower_arguments l es types t).before
  lowered_arguments l no_expressions types t d = refl
  lowered_arguments l (expression_then e es) types t d =
      either (refers types) (address_passed (place_of l (names_of (lvalue_of e))) (lower_arguments l es (drop 1 types) t))
      (int_passed (some_call es) t (lower l e t) (λ u. lower_arguments l es (drop 1 types) u))
      (lowered_arguments l es (drop 1 types) t)
      (passed (some_call es) t (lower l e t) (λ u. lower_arguments l es (drop 1 types) u) (lowered l e t) (λ u. lowered_arguments l es (drop 1 types) u)) d

-- an expression that is evaluated for its effects alone
evaluated : (x : Lowered) → Anywhere x.before → Anywhere (x.before ++ op (evaluate x.value) ∷ [])
evaluated x h d = with_last d x.before (op (evaluate x.value)) (h d) refl

pub dropped_anywhere : (l : Lowering) (e : Expression) (t : ℕ) → Anywhere (dropped l e t)
dropped_anywhere l (call names es) t d =
    let given = lower_arguments l es (parameter_types l.program (callee_bound names)) t in
    with_last d (given_before (callee_bound names) given) _
    (given_anywhere (callee_bound names) given (lowered_arguments l es (parameter_types l.program (callee_bound names)) t) d) refl
dropped_anywhere l (std_call n es place) t d =
    with_last d (given_before n.bound (lower_arguments l es [] t)) _
    (given_anywhere n.bound (lower_arguments l es [] t) (lowered_arguments l es [] t) d) refl
dropped_anywhere l (paren e place) t d = dropped_anywhere l e t d
dropped_anywhere l e t d = evaluated (lower l e t) (lowered l e t) d

-- an expression's value is stored in a place
pub valued : (x : Lowered) (p : Place) → Anywhere x.before → Anywhere (x.before ++ op (store p x.value) ∷ [])
valued x p h d = with_last d x.before _ (h d) refl

pub store_anywhere : (l : Lowering) (e : Expression) (p : Place) (t : ℕ) → Anywhere (lower_store l e p t)
store_anywhere l (call names es) p t d =
    let given = lower_arguments l es (parameter_types l.program (callee_bound names)) t in
    with_last d (given_before (callee_bound names) given) _
    (given_anywhere (callee_bound names) given (lowered_arguments l es (parameter_types l.program (callee_bound names)) t) d) refl
store_anywhere l (std_call n es place) p t d =
    with_last d (given_before n.bound (lower_arguments l es [] t)) _
    (given_anywhere n.bound (lower_arguments l es [] t) (lowered_arguments l es [] t) d) refl
store_anywhere l (paren e place) p t d = store_anywhere l e p t d
store_anywhere l e p t d = valued (lower l e t) p (lowered l e t) d

-- an object is built in a place
pub constructed_anywhere : (l : Lowering) (k : ℕ) (es : Expressions) (p : Place) (t : ℕ) → Anywhere (lower_construct l k es p t)
constructed_anywhere l k es p t d =
    let types = constructor_types l.program k (constructor_chosen l k es) in
    with_last d (lower_arguments l es types t).before _ (lowered_arguments l es types t d) refl
