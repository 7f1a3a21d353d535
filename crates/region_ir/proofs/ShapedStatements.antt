-- What statements become has the shape, where the rest of the block does at every depth that the innermost loop holds.
use Rattle.std.proofs.Common.{◌≡◌, ◌+◌, ◌-◌, ◌<◌, ℕ, Bool, true, false, nat_le, List, [], length, Option, Some, None, refl, arith}
use Rattle.std.proofs.lemmas.Bool.Decides.{nat_tests}
use Rattle.std.specs.Cmp.Derive.{both_true}
use Rattle.cxx_ast.specs.declared.name.Bound.{Bound}
use Rattle.cxx_ast.specs.declared.name.Bound.TheVariants.{Class, Builtin as BuiltinBound}
use Rattle.cxx_ast.specs.declared.name.Builtin.TheVariants.{BadException}
use Rattle.cxx_ast.specs.declared.name.Name.{Name}
use Rattle.cxx_ast.specs.declared.types.Ty.{Ty}
use Rattle.cxx_ast.specs.declared.types.Ty.TheVariants.{Int, Object}
use Rattle.cxx_ast.specs.Plain.{Expression, call, std_call, Expressions, Statement, block, empty, if_else, while, return, break, continue, throw, try, assign, evaluate, local_int, local_ref, local_object, Else, no_else, else_do, Statements, no_statements, statement_then, Handlers, no_handlers, handler_then}
use Rattle.meaning_forms.specs.Class.{ObjectType, int_type, class_type, class_named}
use Rattle.meaning_forms.specs.Frame.{local_number}
use Rattle.meaning_forms.specs.Expression.{lvalue_of, callee_bound}
use Rattle.region_forms.specs.Form.{Place, Region, branch, leave_region, in_order}
use Rattle.region_forms.specs.Numbering.{declared_in, all_declared_in}
use Rattle.region_forms.specs.LowerExpression.{Lowering, result_slot, first_temporary, slot_place, place_of, lvalue_type, has_call, Lowered, lower, dropped, lower_store, lower_construct}
use Rattle.region_forms.specs.LowerStatement.{variable_slot, thrown_place, int_thrown, object_thrown, call_thrown, part_thrown, lvalue_thrown, operand_thrown, throwing, with_value, returning, initialised, bound_to, looping, scoped, caught_parameter, with_caught, handler, nothing_more, statement, otherwise, statements, clauses}
use Rattle.region_ir.specs.Shape.{has_shape, is_row, clauses_have_shape}
use Rattle.region_ir.proofs.ShapedRows.{Row, behind, with_last}
use Rattle.region_ir.proofs.ShapedExpressions.{Shaped, lowered, valued, dropped_shaped, store_shaped, constructed_shaped}

-- what stands at a depth has the shape at every depth that the region number i, counted from outside, holds
abbrev pub Rest : ℕ → (ℕ → List Region) → Type 0
Rest i rest = (d : ℕ) → i < d → Row (rest d)

-- a region number of 1 at least
abbrev pub Leaves : ℕ → Type 0
Leaves n = nat_le 1 n ≡ true

out_of_all : (i d : ℕ) → i < d → Leaves d
out_of_all i d h = grind (arith, nat_tests)

out_of_loop : (i d : ℕ) → Leaves (d - i + 1)
out_of_loop i d = grind (arith, nat_tests)

to_next_turn : (i d : ℕ) → i < d → Leaves (d - i)
to_next_turn i d h = grind (arith, nat_tests)

pub deeper : (n i d : ℕ) → i < d → i < d + n
deeper n i d h = omega (arith, h)

-- what is thrown
int_shaped : (l : Lowering) (e : Expression) → Row (int_thrown l e)
int_shaped l e = both_true (valued (lower l e (first_temporary l)) (thrown_place l) (lowered l e (first_temporary l))) refl

object_shaped : (l : Lowering) (k : ℕ) (es : Expressions) → Row (object_thrown l k es)
object_shaped l k es = both_true (constructed_shaped l k es (thrown_place l) (first_temporary l)) refl

call_shaped : (l : Lowering) (b : Bound) (e : Expression) (es : Expressions) → Row (call_thrown l b e es)
call_shaped l (Class k) e es = object_shaped l k es
call_shaped l (BuiltinBound BadException) e es = object_shaped l 0 es
call_shaped l b e es = int_shaped l e

part_shaped : (l : Lowering) (e : Expression) (names : List Name) (t : ObjectType) → Row (part_thrown l e names t)
part_shaped l e names int_type = int_shaped l e
part_shaped l e names (class_type k) = refl

lvalue_shaped : (l : Lowering) (e : Expression) (names : Option (List Name)) → Row (lvalue_thrown l e names)
lvalue_shaped l e None = int_shaped l e
lvalue_shaped l e (Some names) = part_shaped l e names (lvalue_type l names)

operand_shaped : (l : Lowering) (e : Expression) → Row (operand_thrown l e)
operand_shaped l (call names es) = call_shaped l (callee_bound names) (call names es) es
operand_shaped l (std_call n es place) = call_shaped l n.bound (std_call n es place) es
operand_shaped l e = lvalue_shaped l e (lvalue_of e)

throwing_shaped : (l : Lowering) (e : Option Expression) → Row (throwing l e)
throwing_shaped l None = refl
throwing_shaped l (Some e) = operand_shaped l e

-- statements without statements in them
returning_shaped : (l : Lowering) (e : Option Expression) (d : ℕ) → Leaves d → Row (returning l e d)
returning_shaped l None d h = both_true h refl
returning_shaped l (Some e) d h =
    with_last (lower_store l e (slot_place (result_slot l)) (first_temporary l)) (leave_region d) (store_shaped l e (slot_place (result_slot l)) (first_temporary l)) h

initialised_shaped : (l : Lowering) (n : Name) (e : Option Expression) → Row (initialised l n e)
initialised_shaped l n None = refl
initialised_shaped l n (Some e) = store_shaped l e (slot_place (variable_slot l (local_number n.bound))) (first_temporary l)

bound_shaped : (l : Lowering) (n : Option Name) (p : Place) → Row (bound_to l n p)
bound_shaped l None p = refl
bound_shaped l (Some n) p = refl

-- a scope, at a depth that the innermost loop holds
scoped_shaped : (l : Lowering) (t : ObjectType) (p : Place) (rest : ℕ → List Region) (i d : ℕ) → Rest i rest → i < d → Row (scoped l t p rest d)
scoped_shaped l int_type p rest i d h k = h d k
scoped_shaped l (class_type c) p rest i d h k = both_true (h (d + 2) (deeper 2 i d k)) refl

-- a loop, whose body stands two or four regions deeper
looping_shaped : (calls : Bool) (x : Lowered) (body : ℕ → List Region) (d : ℕ) → Shaped x → Rest (d + 1) body →
    has_shape (looping calls x (λ b. in_order (body b)) d) ≡ true
looping_shaped false x body d h k = both_true h.value (k (d + 2) (omega arith))
looping_shaped true x body d h k = with_last x.before _ h.before (both_true h.value (both_true (k (d + 4) (omega arith)) refl))

-- a handler
parameter_shaped : (l : Lowering) (t : Ty) (s : ℕ) → Row (caught_parameter l t s)
parameter_shaped l Int s = refl
parameter_shaped l (Object k) s = refl
parameter_shaped l t s = refl

caught_shaped : (l : Lowering) (t : Ty) (s : ℕ) (body : ℕ → List Region) (i : ℕ) → Rest i body → Rest i (with_caught l t s body)
caught_shaped l (Object k) s body i h d below = scoped_shaped l (class_type (class_named k)) (slot_place s) body i d h below
caught_shaped l t s body i h d below = h d below

handler_shaped : (l : Lowering) (parameter : List Region) (body : ℕ → List Region) (i d : ℕ) → Row parameter → Rest i body → i < d →
    is_row (handler l parameter body d) ≡ true
handler_shaped l parameter body i d h k below = behind parameter _ h (both_true (k (d + 2) (deeper 2 i d below)) refl)

pub nothing_shaped : (i : ℕ) → Rest i nothing_more
nothing_shaped i d below = refl

mutual
  pub statement_shaped : (l : Lowering) (s : Statement) (rest : ℕ → List Region) (i n d : ℕ) → Rest i rest → i < d → Row (statement l s rest i n d)
  statement_shaped l (block ss) rest i n d h k = both_true (statements_shaped l ss i n (d + 1) (deeper 1 i d k)) (h d k)
  statement_shaped l empty rest i n d h k = h d k
  statement_shaped l (if_else e s t) rest i n d h k =
      let x = lowered l e (first_temporary l) in
      let first = statement_shaped l s nothing_more i n (d + 2) (nothing_shaped i) (deeper 2 i d k) in
      let second = otherwise_shaped l t i (n + length (declared_in s)) (d + 2) (deeper 2 i d k) in
      behind (with_value (lower l e (first_temporary l)) (λ v. branch v (in_order (statement l s nothing_more i n (d + 2)))
      (in_order (otherwise l t i (n + length (declared_in s)) (d + 2))))) (rest d)
      (with_last (lower l e (first_temporary l)).before _ x.before (both_true x.value (both_true first second))) (h d k)
  statement_shaped l (while e s) rest i n d h k =
      both_true (looping_shaped (has_call e) (lower l e (first_temporary l)) (λ b. statement l s nothing_more (d + 1) n b) d
      (lowered l e (first_temporary l)) (λ b below. statement_shaped l s nothing_more (d + 1) n b (nothing_shaped (d + 1)) below)) (h d k)
  statement_shaped l (return place e) rest i n d h k = returning_shaped l e d (out_of_all i d k)
  statement_shaped l (break place) rest i n d h k = both_true (out_of_loop i d) refl
  statement_shaped l (continue place) rest i n d h k = both_true (to_next_turn i d k) refl
  statement_shaped l (throw place e) rest i n d h k = throwing_shaped l e
  statement_shaped l (try ss hs) rest i n d h k =
      both_true (both_true (statements_shaped l ss i n (d + 2) (deeper 2 i d k))
      (clauses_shaped l hs i (n + length (all_declared_in ss)) (d + 2) (deeper 2 i d k))) (h d k)
  statement_shaped l (assign names e) rest i n d h k =
      behind (lower_store l e (place_of l names) (first_temporary l)) (rest d) (store_shaped l e (place_of l names) (first_temporary l)) (h d k)
  statement_shaped l (evaluate e) rest i n d h k = behind (dropped l e (first_temporary l)) (rest d) (dropped_shaped l e (first_temporary l)) (h d k)
  statement_shaped l (local_int x e) rest i n d h k = behind (initialised l x e) (rest d) (initialised_shaped l x e) (h d k)
  statement_shaped l (local_ref x names) rest i n d h k =
      behind (bound_to l x.name (place_of l names)) (rest d) (bound_shaped l x.name (place_of l names)) (h d k)
  statement_shaped l (local_object c x es) rest i n d h k =
      let p = slot_place (variable_slot l (local_number x.bound)) in
      behind (lower_construct l (class_named c) es p (first_temporary l)) _ (constructed_shaped l (class_named c) es p (first_temporary l))
      (scoped_shaped l (class_type (class_named c)) p rest i d h k)

  otherwise_shaped : (l : Lowering) (t : Else) (i n d : ℕ) → i < d → Row (otherwise l t i n d)
  otherwise_shaped l no_else i n d k = refl
  otherwise_shaped l (else_do s) i n d k = statement_shaped l s nothing_more i n d (nothing_shaped i) k

  pub statements_shaped : (l : Lowering) (ss : Statements) (i n d : ℕ) → i < d → Row (statements l ss i n d)
  statements_shaped l no_statements i n d k = refl
  statements_shaped l (statement_then s ss) i n d k =
      statement_shaped l s (λ b. statements l ss i (n + length (declared_in s)) b) i n d
      (λ b below. statements_shaped l ss i (n + length (declared_in s)) b below) k

  clauses_shaped : (l : Lowering) (hs : Handlers) (i n d : ℕ) → i < d → clauses_have_shape (clauses l hs i n d) ≡ true
  clauses_shaped l no_handlers i n d k = refl
  clauses_shaped l (handler_then None x ss place hs) i n d k =
      both_true (handler_shaped l [] (λ b. statements l ss i n b) i d refl (λ b below. statements_shaped l ss i n b below) k)
      (clauses_shaped l hs i (n + length (all_declared_in ss)) d k)
  clauses_shaped l (handler_then (Some t) x ss place hs) i n d k =
      let s = variable_slot l n in
      both_true (handler_shaped l (caught_parameter l t s) (λ b. with_caught l t s (λ c. statements l ss i (n + 1) c) b) i d (parameter_shaped l t s)
      (caught_shaped l t s (λ c. statements l ss i (n + 1) c) i (λ c below. statements_shaped l ss i (n + 1) c below)) k)
      (clauses_shaped l hs i (n + 1 + length (all_declared_in ss)) d k)
