-- What statements become catches only where a clause is, if each try block has a handler and what the rest of the block becomes is so.
use Rattle.std.proofs.Common.{◌≡◌, ◌+◌, ℕ, Bool, true, false, List, [], ◌∷◌, ◌++◌, length, Option, Some, None, refl}
use Rattle.std.proofs.lemmas.Bool.{and_parts}
use Rattle.std.specs.Cmp.Derive.{both_true}
use Rattle.std.specs.Prelude.{◌&&◌}
use Rattle.cxx_ast.specs.declared.name.Bound.{Bound}
use Rattle.cxx_ast.specs.declared.name.Bound.TheVariants.{Class, Builtin as BuiltinBound}
use Rattle.cxx_ast.specs.declared.name.Builtin.TheVariants.{BadException}
use Rattle.cxx_ast.specs.declared.name.Name.{Name}
use Rattle.cxx_ast.specs.declared.types.Ty.{Ty}
use Rattle.cxx_ast.specs.declared.types.Ty.TheVariants.{Int, Object}
use Rattle.cxx_ast.specs.Plain.{Expression, call, std_call, Expressions, Statement, block, empty, if_else, while, return, break, continue, throw, try, assign, evaluate, local_int, local_ref, local_object, Else, no_else, else_do, Statements, no_statements, statement_then, Handlers, no_handlers, handler_then}
use Rattle.meaning_forms.specs.Class.{ObjectType, int_type, class_type, class_named}
use Rattle.meaning_forms.specs.Frame.{local_number}
use Rattle.meaning_forms.specs.Expression.{lvalue_of, callee_bound}
use Rattle.region_forms.specs.Form.{Place, store, Region, op, branch, in_order}
use Rattle.region_forms.specs.Numbering.{declared_in, all_declared_in}
use Rattle.region_forms.specs.LowerExpression.{Lowering, result_slot, first_temporary, slot_place, place_of, lvalue_type, has_call, lower, dropped, lower_store, lower_construct}
use Rattle.region_forms.specs.LowerStatement.{variable_slot, thrown_place, int_thrown, object_thrown, call_thrown, part_thrown, lvalue_thrown, operand_thrown, throwing, with_value, returning, initialised, bound_to, looping, scoped, caught_parameter, with_caught, handler, nothing_more, statement, otherwise, statements, clauses}
use Rattle.linear_simulation.specs.Simulates.{has_one, has_clauses, clauses_have_clauses}
use Rattle.linear_meaning.proofs.Rows.{Row, behind, with_last}
use Rattle.linear_meaning.proofs.Expressions.{lowered, dropped_row, stored_row, store_row, constructed_row}

-- a handler is there
abbrev pub some_handler : Handlers → Bool
some_handler no_handlers = false
some_handler (handler_then t x ss place hs) = true

-- each try block has a handler
abbrev mutual
  pub handled : Statement → Bool
  handled (block ss) = all_handled ss
  handled (if_else e s t) = handled s && else_handled t
  handled (while e s) = handled s
  handled (try ss hs) = some_handler hs && (all_handled ss && handlers_handled hs)
  handled _ = true

  pub else_handled : Else → Bool
  else_handled no_else = true
  else_handled (else_do s) = handled s

  pub all_handled : Statements → Bool
  all_handled no_statements = true
  all_handled (statement_then s ss) = handled s && all_handled ss

  pub handlers_handled : Handlers → Bool
  handlers_handled no_handlers = true
  handlers_handled (handler_then t x ss place hs) = all_handled ss && handlers_handled hs

-- so it is at every depth
abbrev pub Rest : (ℕ → List Region) → Type 0
Rest rest = (d : ℕ) → Row (rest d)

-- a value's operation
pub valued : (l : Lowering) (e : Expression) (p : Place) → Row ((lower l e (first_temporary l)).before ++ op (store p (lower l e (first_temporary l)).value) ∷ [])
valued l e p = stored_row (lower l e (first_temporary l)) p (lowered l e (first_temporary l))

-- what is thrown
int_row : (l : Lowering) (e : Expression) → Row (int_thrown l e)
int_row l e = both_true (valued l e (thrown_place l)) refl

object_row : (l : Lowering) (k : ℕ) (es : Expressions) → Row (object_thrown l k es)
object_row l k es = both_true (constructed_row l k es (thrown_place l) (first_temporary l)) refl

call_row : (l : Lowering) (b : Bound) (e : Expression) (es : Expressions) → Row (call_thrown l b e es)
call_row l (Class k) e es = object_row l k es
call_row l (BuiltinBound BadException) e es = object_row l 0 es
call_row l b e es = int_row l e

part_row : (l : Lowering) (e : Expression) (names : List Name) (t : ObjectType) → Row (part_thrown l e names t)
part_row l e names int_type = int_row l e
part_row l e names (class_type k) = refl

lvalue_row : (l : Lowering) (e : Expression) (names : Option (List Name)) → Row (lvalue_thrown l e names)
lvalue_row l e None = int_row l e
lvalue_row l e (Some names) = part_row l e names (lvalue_type l names)

operand_row : (l : Lowering) (e : Expression) → Row (operand_thrown l e)
operand_row l (call names es) = call_row l (callee_bound names) (call names es) es
operand_row l (std_call n es place) = call_row l n.bound (std_call n es place) es
operand_row l e = lvalue_row l e (lvalue_of e)

throwing_row : (l : Lowering) (e : Option Expression) → Row (throwing l e)
throwing_row l None = refl
throwing_row l (Some e) = operand_row l e

-- statements without statements in them
returning_row : (l : Lowering) (e : Option Expression) (d : ℕ) → Row (returning l e d)
returning_row l None d = refl
returning_row l (Some e) d =
    with_last (lower_store l e (slot_place (result_slot l)) (first_temporary l)) _ (store_row l e (slot_place (result_slot l)) (first_temporary l)) refl

initialised_row : (l : Lowering) (n : Name) (e : Option Expression) → Row (initialised l n e)
initialised_row l n None = refl
initialised_row l n (Some e) = store_row l e (slot_place (variable_slot l (local_number n.bound))) (first_temporary l)

bound_row : (l : Lowering) (n : Option Name) (p : Place) → Row (bound_to l n p)
bound_row l None p = refl
bound_row l (Some n) p = refl

-- a scope
scoped_row : (l : Lowering) (t : ObjectType) (p : Place) (rest : ℕ → List Region) → Rest rest → Rest (scoped l t p rest)
scoped_row l int_type p rest h d = h d
scoped_row l (class_type c) p rest h d = both_true (h (d + 2)) refl

-- a loop
looping_row : (l : Lowering) (calls : Bool) (e : Expression) (body : ℕ → List Region) (d : ℕ) → Rest body →
    has_clauses (looping calls (lower l e (first_temporary l)) (λ b. in_order (body b)) d) ≡ true
looping_row l false e body d h = h (d + 2)
looping_row l true e body d h = with_last (lower l e (first_temporary l)).before _ (lowered l e (first_temporary l)) (both_true (h (d + 4)) refl)

-- a handler
parameter_row : (l : Lowering) (t : Ty) (s : ℕ) → Row (caught_parameter l t s)
parameter_row l Int s = refl
parameter_row l (Object k) s = refl
parameter_row l t s = refl

caught_row : (l : Lowering) (t : Ty) (s : ℕ) (body : ℕ → List Region) → Rest body → Rest (with_caught l t s body)
caught_row l (Object k) s body h d = scoped_row l (class_type (class_named k)) (slot_place s) body h d
caught_row l t s body h d = h d

handler_row : (l : Lowering) (parameter : List Region) (body : ℕ → List Region) (d : ℕ) → Row parameter → Rest body → has_clauses (handler l parameter body d) ≡ true
handler_row l parameter body d h k = behind parameter _ h (both_true (k (d + 2)) refl)

-- a clause for each handler
some_clause : (l : Lowering) (hs : Handlers) (i n d : ℕ) → some_handler hs ≡ true → has_one (clauses l hs i n d) ≡ true
some_clause l no_handlers i n d h = absurd (cc h)
some_clause l (handler_then None x ss place hs) i n d h = refl
some_clause l (handler_then (Some t) x ss place hs) i n d h = refl

pub nothing_row : Rest nothing_more
nothing_row d = refl

mutual
  statement_row : (l : Lowering) (s : Statement) (rest : ℕ → List Region) (i n d : ℕ) → handled s ≡ true → Rest rest → Row (statement l s rest i n d)
  statement_row l (block ss) rest i n d h k = both_true (statements_row l ss i n (d + 1) h) (k d)
  statement_row l empty rest i n d h k = k d
  statement_row l (if_else e s t) rest i n d h k =
      let parts = and_parts (handled s) (else_handled t) h in
      let first = in_order (statement l s nothing_more i n (d + 2)) in
      let second = in_order (otherwise l t i (n + length (declared_in s)) (d + 2)) in
      behind (with_value (lower l e (first_temporary l)) (λ v. branch v first second)) (rest d)
      (with_last (lower l e (first_temporary l)).before _ (lowered l e (first_temporary l))
      (both_true (statement_row l s nothing_more i n (d + 2) parts.0 nothing_row) (otherwise_row l t i (n + length (declared_in s)) (d + 2) parts.1))) (k d)
  statement_row l (while e s) rest i n d h k =
      both_true (looping_row l (has_call e) e (λ b. statement l s nothing_more (d + 1) n b) d
      (λ b. statement_row l s nothing_more (d + 1) n b h nothing_row)) (k d)
  statement_row l (return place e) rest i n d h k = returning_row l e d
  statement_row l (break place) rest i n d h k = refl
  statement_row l (continue place) rest i n d h k = refl
  statement_row l (throw place e) rest i n d h k = throwing_row l e
  statement_row l (try ss hs) rest i n d h k =
      let parts = and_parts (some_handler hs) (all_handled ss && handlers_handled hs) h in
      let inner = and_parts (all_handled ss) (handlers_handled hs) parts.1 in
      let m = n + length (all_declared_in ss) in
      both_true (both_true (some_clause l hs i m (d + 2) parts.0)
      (both_true (statements_row l ss i n (d + 2) inner.0) (clauses_row l hs i m (d + 2) inner.1))) (k d)
  statement_row l (assign names e) rest i n d h k =
      behind (lower_store l e (place_of l names) (first_temporary l)) (rest d) (store_row l e (place_of l names) (first_temporary l)) (k d)
  statement_row l (evaluate e) rest i n d h k = behind (dropped l e (first_temporary l)) (rest d) (dropped_row l e (first_temporary l)) (k d)
  statement_row l (local_int x e) rest i n d h k = behind (initialised l x e) (rest d) (initialised_row l x e) (k d)
  statement_row l (local_ref x names) rest i n d h k =
      behind (bound_to l x.name (place_of l names)) (rest d) (bound_row l x.name (place_of l names)) (k d)
  statement_row l (local_object c x es) rest i n d h k =
      let p = slot_place (variable_slot l (local_number x.bound)) in
      behind (lower_construct l (class_named c) es p (first_temporary l)) _ (constructed_row l (class_named c) es p (first_temporary l))
      (scoped_row l (class_type (class_named c)) p rest k d)

  otherwise_row : (l : Lowering) (t : Else) (i n d : ℕ) → else_handled t ≡ true → Row (otherwise l t i n d)
  otherwise_row l no_else i n d h = refl
  otherwise_row l (else_do s) i n d h = statement_row l s nothing_more i n d h nothing_row

  pub statements_row : (l : Lowering) (ss : Statements) (i n d : ℕ) → all_handled ss ≡ true → Row (statements l ss i n d)
  statements_row l no_statements i n d h = refl
  statements_row l (statement_then s ss) i n d h =
      let parts = and_parts (handled s) (all_handled ss) h in
      statement_row l s (λ b. statements l ss i (n + length (declared_in s)) b) i n d parts.0
      (λ b. statements_row l ss i (n + length (declared_in s)) b parts.1)

  clauses_row : (l : Lowering) (hs : Handlers) (i n d : ℕ) → handlers_handled hs ≡ true → clauses_have_clauses (clauses l hs i n d) ≡ true
  clauses_row l no_handlers i n d h = refl
  clauses_row l (handler_then None x ss place hs) i n d h =
      let parts = and_parts (all_handled ss) (handlers_handled hs) h in
      both_true (handler_row l [] (λ b. statements l ss i n b) d refl (λ b. statements_row l ss i n b parts.0))
      (clauses_row l hs i (n + length (all_declared_in ss)) d parts.1)
  clauses_row l (handler_then (Some t) x ss place hs) i n d h =
      let parts = and_parts (all_handled ss) (handlers_handled hs) h in
      let s = variable_slot l n in
      both_true (handler_row l (caught_parameter l t s) (with_caught l t s (λ c. statements l ss i (n + 1) c)) d (parameter_row l t s)
      (caught_row l t s (λ c. statements l ss i (n + 1) c) (λ c. statements_row l ss i (n + 1) c parts.0)))
      (clauses_row l hs i (n + 1 + length (all_declared_in ss)) d parts.1)
