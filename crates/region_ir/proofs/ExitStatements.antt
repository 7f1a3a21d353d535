-- The exits of what statements become lead inside, where jumps stand in loops and the exits of the rest of the block lead inside.
use Rattle.std.proofs.Common.{◌≡◌, ◌+◌, ◌-◌, ◌<◌, ◌≤◌, ◌&&◌, ℕ, Bool, true, false, nat_le, List, [], length, Option, Some, None, refl, subst, arith}
use Rattle.std.proofs.lemmas.Bool.{and_parts}
use Rattle.std.proofs.lemmas.Bool.Decides.{nat_tests}
use Rattle.std.specs.Cmp.Derive.{both_true}
use Rattle.cxx_ast.specs.declared.name.Bound.{Bound}
use Rattle.cxx_ast.specs.declared.name.Bound.TheVariants.{Class, Builtin as BuiltinBound}
use Rattle.cxx_ast.specs.declared.name.Builtin.TheVariants.{BadException}
use Rattle.cxx_ast.specs.declared.name.Name.{Name}
use Rattle.cxx_ast.specs.declared.types.Ty.{Ty}
use Rattle.cxx_ast.specs.declared.types.Ty.TheVariants.{Int, Object}
use Rattle.cxx_ast.specs.Plain.{Expression, call, std_call, Expressions, Statement, block, empty, if_else, while, return, break, continue, throw, try, assign, evaluate, local_int, local_ref, local_object, Else, no_else, else_do, Statements, no_statements, statement_then, Handlers, no_handlers, handler_then}
use Rattle.meaning_forms.specs.Class.{ObjectType, int_type, class_type, class_named}
use Rattle.meaning_forms.specs.Frame.{local_number}
use Rattle.meaning_forms.specs.Expression.{lvalue_of, callee_bound}
use Rattle.region_forms.specs.Form.{Place, Region, branch, leave_region, in_order}
use Rattle.region_forms.specs.Numbering.{declared_in, all_declared_in}
use Rattle.region_forms.specs.LowerExpression.{Lowering, result_slot, first_temporary, slot_place, place_of, lvalue_type, has_call, Lowered, lower, dropped, lower_store, lower_construct}
use Rattle.region_forms.specs.LowerStatement.{variable_slot, thrown_place, int_thrown, object_thrown, call_thrown, part_thrown, lvalue_thrown, operand_thrown, throwing, with_value, returning, initialised, bound_to, looping, scoped, caught_parameter, with_caught, handler, nothing_more, statement, otherwise, statements, clauses}
use Rattle.region_ir.specs.Exits.{exits_inside, clause_exits_inside, jumps_stand, else_jumps_stand, all_jumps_stand, handler_jumps_stand}
use Rattle.region_ir.proofs.ExitExpressions.{Inside, behind, with_last, Anywhere, lowered, valued, dropped_anywhere, store_anywhere, constructed_anywhere}

-- the exits of what stands at a depth lead inside, at every depth that the region number i, counted from outside, holds
abbrev pub Rest : ℕ → (ℕ → List Region) → Type 0
Rest i rest = (d : ℕ) → i < d → Inside d (rest d)

-- where a loop is round a statement, its region has a number of 1 at least
abbrev pub Loop : Bool → ℕ → Type 0
Loop true i = 1 ≤ i
Loop false i = Unit {0}

-- an exit
abbrev Exits : ℕ → ℕ → Type 0
Exits d n = (nat_le 1 n && nat_le n d) ≡ true

out_of_all : (i d : ℕ) → i < d → Exits d d
out_of_all i d h =
    let some : nat_le 1 d ≡ true = grind (arith, nat_tests) in
    let there : nat_le d d ≡ true = grind (arith, nat_tests) in both_true some there

out_of_loop : (b : Bool) (i d : ℕ) → Loop b i → b ≡ true → i < d → Exits d (d - i + 1)
out_of_loop true i d h e k =
    let some : nat_le 1 (d - i + 1) ≡ true = grind (arith, nat_tests) in
    let there : nat_le (d - i + 1) d ≡ true = grind (arith, nat_tests, h, k) in both_true some there
out_of_loop false i d h e k = absurd (cc e)

to_next_turn : (i d : ℕ) → i < d → Exits d (d - i)
to_next_turn i d h =
    let some : nat_le 1 (d - i) ≡ true = grind (arith, nat_tests) in
    let there : nat_le (d - i) d ≡ true = grind (arith, nat_tests) in both_true some there

pub deeper : (n i d : ℕ) → i < d → i < d + n
deeper n i d h = omega (arith, h)

-- regions in order in a region that holds them stand two deeper
pub two_deeper : (d : ℕ) (rs : List Region) → Inside (d + 2) rs → Inside (d + 1 + 1) rs
two_deeper d rs h = let e : d + 2 ≡ d + 1 + 1 = omega arith in subst (λ n. Inside n rs) e h

four_deeper : (d : ℕ) (rs : List Region) → Inside (d + 4) rs → Inside (d + 1 + 1 + 1 + 1) rs
four_deeper d rs h = let e : d + 4 ≡ d + 1 + 1 + 1 + 1 = omega arith in subst (λ n. Inside n rs) e h

-- what is thrown
int_anywhere : (l : Lowering) (e : Expression) → Anywhere (int_thrown l e)
int_anywhere l e d = both_true (valued (lower l e (first_temporary l)) (thrown_place l) (lowered l e (first_temporary l)) (d + 1 + 1)) refl

object_anywhere : (l : Lowering) (k : ℕ) (es : Expressions) → Anywhere (object_thrown l k es)
object_anywhere l k es d = both_true (constructed_anywhere l k es (thrown_place l) (first_temporary l) (d + 1 + 1)) refl

call_anywhere : (l : Lowering) (b : Bound) (e : Expression) (es : Expressions) → Anywhere (call_thrown l b e es)
call_anywhere l (Class k) e es d = object_anywhere l k es d
call_anywhere l (BuiltinBound BadException) e es d = object_anywhere l 0 es d
call_anywhere l b e es d = int_anywhere l e d

part_anywhere : (l : Lowering) (e : Expression) (names : List Name) (t : ObjectType) → Anywhere (part_thrown l e names t)
part_anywhere l e names int_type d = int_anywhere l e d
part_anywhere l e names (class_type k) d = refl

lvalue_anywhere : (l : Lowering) (e : Expression) (names : Option (List Name)) → Anywhere (lvalue_thrown l e names)
lvalue_anywhere l e None d = int_anywhere l e d
lvalue_anywhere l e (Some names) d = part_anywhere l e names (lvalue_type l names) d

operand_anywhere : (l : Lowering) (e : Expression) → Anywhere (operand_thrown l e)
operand_anywhere l (call names es) d = call_anywhere l (callee_bound names) (call names es) es d
operand_anywhere l (std_call n es place) d = call_anywhere l n.bound (std_call n es place) es d
operand_anywhere l e d = lvalue_anywhere l e (lvalue_of e) d

throwing_anywhere : (l : Lowering) (e : Option Expression) → Anywhere (throwing l e)
throwing_anywhere l None d = refl
throwing_anywhere l (Some e) d = operand_anywhere l e d

-- statements without statements in them
returning_inside : (l : Lowering) (e : Option Expression) (d : ℕ) → Exits d d → Inside d (returning l e d)
returning_inside l None d h = both_true h refl
returning_inside l (Some e) d h =
    with_last d (lower_store l e (slot_place (result_slot l)) (first_temporary l)) (leave_region d)
    (store_anywhere l e (slot_place (result_slot l)) (first_temporary l) d) h

initialised_anywhere : (l : Lowering) (n : Name) (e : Option Expression) → Anywhere (initialised l n e)
initialised_anywhere l n None d = refl
initialised_anywhere l n (Some e) d = store_anywhere l e (slot_place (variable_slot l (local_number n.bound))) (first_temporary l) d

bound_anywhere : (l : Lowering) (n : Option Name) (p : Place) → Anywhere (bound_to l n p)
bound_anywhere l None p d = refl
bound_anywhere l (Some n) p d = refl

-- a scope, at a depth that the innermost loop holds
scoped_inside : (l : Lowering) (t : ObjectType) (p : Place) (rest : ℕ → List Region) (i d : ℕ) → Rest i rest → i < d → Inside d (scoped l t p rest d)
scoped_inside l int_type p rest i d h k = h d k
scoped_inside l (class_type c) p rest i d h k = both_true (two_deeper d (rest (d + 2)) (h (d + 2) (deeper 2 i d k))) refl

-- a loop, whose body stands two or four regions deeper
looping_inside : (calls : Bool) (x : Lowered) (body : ℕ → List Region) (d : ℕ) → Anywhere x.before → Rest (d + 1) body →
    exits_inside d (looping calls x (λ b. in_order (body b)) d) ≡ true
looping_inside false x body d h k = two_deeper d (body (d + 2)) (k (d + 2) (omega arith))
looping_inside true x body d h k =
    with_last (d + 1 + 1) x.before _ (h (d + 1 + 1)) (both_true (four_deeper d (body (d + 4)) (k (d + 4) (omega arith))) (grind (arith, nat_tests)))

-- a handler
parameter_anywhere : (l : Lowering) (t : Ty) (s : ℕ) → Anywhere (caught_parameter l t s)
parameter_anywhere l Int s d = refl
parameter_anywhere l (Object k) s d = refl
parameter_anywhere l t s d = refl

caught_inside : (l : Lowering) (t : Ty) (s : ℕ) (body : ℕ → List Region) (i : ℕ) → Rest i body → Rest i (with_caught l t s body)
caught_inside l (Object k) s body i h d below = scoped_inside l (class_type (class_named k)) (slot_place s) body i d h below
caught_inside l t s body i h d below = h d below

handler_inside : (l : Lowering) (parameter : List Region) (body : ℕ → List Region) (i d : ℕ) → Anywhere parameter → Rest i body → i < d + 2 →
    exits_inside (d + 1) (handler l parameter body (d + 2)) ≡ true
handler_inside l parameter body i d h k below =
    behind (d + 1 + 1) parameter _ (h (d + 1 + 1))
    (both_true (handled d (body (d + 2 + 2)) (k (d + 2 + 2) (deeper 2 i (d + 2) below))) refl)
  where
    handled : (d : ℕ) (rs : List Region) → Inside (d + 2 + 2) rs → Inside (d + 1 + 1 + 1 + 1) rs
    handled d rs h = let e : d + 2 + 2 ≡ d + 1 + 1 + 1 + 1 = omega arith in subst (λ n. Inside n rs) e h

pub nothing_inside : (i : ℕ) → Rest i nothing_more
nothing_inside i d below = refl

mutual
  pub statement_inside : (l : Lowering) (s : Statement) (rest : ℕ → List Region) (b : Bool) (i n d : ℕ) → Loop b i → jumps_stand b s ≡ true →
      Rest i rest → i < d → Inside d (statement l s rest i n d)
  statement_inside l (block ss) rest b i n d o j h k = both_true (statements_inside l ss b i n (d + 1) o j (deeper 1 i d k)) (h d k)
  statement_inside l empty rest b i n d o j h k = h d k
  statement_inside l (if_else e s t) rest b i n d o j h k =
      let parts = and_parts (jumps_stand b s) (else_jumps_stand b t) j in
      let first = statement_inside l s nothing_more b i n (d + 2) o parts.0 (nothing_inside i) (deeper 2 i d k) in
      let second = otherwise_inside l t b i (n + length (declared_in s)) (d + 2) o parts.1 (deeper 2 i d k) in
      behind d (with_value (lower l e (first_temporary l)) (λ v. branch v (in_order (statement l s nothing_more i n (d + 2)))
      (in_order (otherwise l t i (n + length (declared_in s)) (d + 2))))) (rest d)
      (with_last d (lower l e (first_temporary l)).before _ (lowered l e (first_temporary l) d)
      (both_true (two_deeper d (statement l s nothing_more i n (d + 2)) first) (two_deeper d (otherwise l t i (n + length (declared_in s)) (d + 2)) second)))
      (h d k)
  statement_inside l (while e s) rest b i n d o j h k =
      both_true (looping_inside (has_call e) (lower l e (first_temporary l)) (λ c. statement l s nothing_more (d + 1) n c) d
      (lowered l e (first_temporary l))
      (λ c below. statement_inside l s nothing_more true (d + 1) n c (omega arith) j (nothing_inside (d + 1)) below)) (h d k)
  statement_inside l (return place e) rest b i n d o j h k = returning_inside l e d (out_of_all i d k)
  statement_inside l (break place) rest b i n d o j h k = both_true (out_of_loop b i d o j k) refl
  statement_inside l (continue place) rest b i n d o j h k = both_true (to_next_turn i d k) refl
  statement_inside l (throw place e) rest b i n d o j h k = throwing_anywhere l e d
  statement_inside l (try ss hs) rest b i n d o j h k =
      let parts = and_parts (all_jumps_stand b ss) (handler_jumps_stand b hs) j in
      both_true (both_true (two_deeper d (statements l ss i n (d + 2)) (statements_inside l ss b i n (d + 2) o parts.0 (deeper 2 i d k)))
      (clauses_inside l hs b i (n + length (all_declared_in ss)) d o parts.1 (deeper 2 i d k))) (h d k)
  statement_inside l (assign names e) rest b i n d o j h k =
      behind d (lower_store l e (place_of l names) (first_temporary l)) (rest d) (store_anywhere l e (place_of l names) (first_temporary l) d) (h d k)
  statement_inside l (evaluate e) rest b i n d o j h k =
      behind d (dropped l e (first_temporary l)) (rest d) (dropped_anywhere l e (first_temporary l) d) (h d k)
  statement_inside l (local_int x e) rest b i n d o j h k = behind d (initialised l x e) (rest d) (initialised_anywhere l x e d) (h d k)
  statement_inside l (local_ref x names) rest b i n d o j h k =
      behind d (bound_to l x.name (place_of l names)) (rest d) (bound_anywhere l x.name (place_of l names) d) (h d k)
  statement_inside l (local_object c x es) rest b i n d o j h k =
      let p = slot_place (variable_slot l (local_number x.bound)) in
      behind d (lower_construct l (class_named c) es p (first_temporary l)) _ (constructed_anywhere l (class_named c) es p (first_temporary l) d)
      (scoped_inside l (class_type (class_named c)) p rest i d h k)

  otherwise_inside : (l : Lowering) (t : Else) (b : Bool) (i n d : ℕ) → Loop b i → else_jumps_stand b t ≡ true → i < d →
      Inside d (otherwise l t i n d)
  otherwise_inside l no_else b i n d o j k = refl
  otherwise_inside l (else_do s) b i n d o j k = statement_inside l s nothing_more b i n d o j (nothing_inside i) k

  pub statements_inside : (l : Lowering) (ss : Statements) (b : Bool) (i n d : ℕ) → Loop b i → all_jumps_stand b ss ≡ true → i < d →
      Inside d (statements l ss i n d)
  statements_inside l no_statements b i n d o j k = refl
  statements_inside l (statement_then s ss) b i n d o j k =
      let parts = and_parts (jumps_stand b s) (all_jumps_stand b ss) j in
      statement_inside l s (λ c. statements l ss i (n + length (declared_in s)) c) b i n d o parts.0
      (λ c below. statements_inside l ss b i (n + length (declared_in s)) c o parts.1 below) k

  clauses_inside : (l : Lowering) (hs : Handlers) (b : Bool) (i n d : ℕ) → Loop b i → handler_jumps_stand b hs ≡ true → i < d + 2 →
      clause_exits_inside (d + 1) (clauses l hs i n (d + 2)) ≡ true
  clauses_inside l no_handlers b i n d o j k = refl
  clauses_inside l (handler_then None x ss place hs) b i n d o j k =
      let parts = and_parts (all_jumps_stand b ss) (handler_jumps_stand b hs) j in
      both_true (handler_inside l [] (λ c. statements l ss i n c) i d (λ c. refl) (λ c below. statements_inside l ss b i n c o parts.0 below) k)
      (clauses_inside l hs b i (n + length (all_declared_in ss)) d o parts.1 k)
  clauses_inside l (handler_then (Some t) x ss place hs) b i n d o j k =
      let s = variable_slot l n in
      let parts = and_parts (all_jumps_stand b ss) (handler_jumps_stand b hs) j in
      both_true (handler_inside l (caught_parameter l t s) (λ c. with_caught l t s (λ e. statements l ss i (n + 1) e) c) i d (parameter_anywhere l t s)
      (caught_inside l t s (λ c. statements l ss i (n + 1) c) i (λ c below. statements_inside l ss b i (n + 1) c o parts.0 below)) k)
      (clauses_inside l hs b i (n + 1 + length (all_declared_in ss)) d o parts.1 k)
