-- How statements are lowered. The scope of a local object is the rest of its block, so a statement is given what the rest becomes at a
-- depth. A depth is the number of regions that hold a statement; the loop is the number of the region of the innermost loop, counted
-- from outside. `n` is the number of the next variable. Clauses of ISO/IEC 14882:2003 are 6.6 for the ways out of a scope, 15.1 for `throw`
-- and 15.3 for handlers.
use Rattle.std.specs.Prelude.{ℕ, ◌+◌, ◌-◌, pos, Bool, true, false, List, [], ◌∷◌, ◌++◌, length, Option, Some, None}
use Rattle.cxx_ast.specs.declared.name.Bound.{Bound}
use Rattle.cxx_ast.specs.declared.name.Bound.TheVariants.{Class, Builtin as BuiltinBound}
use Rattle.cxx_ast.specs.declared.name.Builtin.TheVariants.{BadException}
use Rattle.cxx_ast.specs.declared.name.Name.{Name}
use Rattle.cxx_ast.specs.declared.types.Ty.{Ty}
use Rattle.cxx_ast.specs.declared.types.Ty.TheVariants.{Int, Object}
use Rattle.cxx_ast.specs.Plain.{Expression, call, std_call, Expressions, Statement, block, empty, if_else, while, return, break, continue, throw, try, assign, evaluate, local_int, local_ref, local_object, Else, no_else, else_do, Statements, no_statements, statement_then, Handlers, no_handlers, handler_then}
use Rattle.meaning_forms.specs.Class.{ObjectType, int_type, class_type, class_named, object_type}
use Rattle.meaning_forms.specs.Running.{constructor, destructor}
use Rattle.meaning_forms.specs.Construct.{copy_constructor}
use Rattle.meaning_forms.specs.Frame.{local_number}
use Rattle.meaning_forms.specs.Expression.{lvalue_of, callee_bound}
use Rattle.region_forms.specs.Form.{Place, Value, number, load, address_argument, arguments_from, store, bind, construct, make, throw as throw_op, rethrow, enter, destroy_scope, free_object, leave_handler, Region, op, branch, loop, protect, catch, barrier, leave_region, Clauses, no_clauses, clause_then, in_order}
use Rattle.region_forms.specs.Numbering.{number_of, type_number, destructor_of, declared_in, all_declared_in}
use Rattle.region_forms.specs.LowerExpression.{Lowering, result_slot, exception_slot, first_temporary, slot_place, through_place, place_of, lvalue_type, has_call, Lowered, lower, dropped, lower_store, lower_construct}

-- the slot of a variable
abbrev pub variable_slot : Lowering → ℕ → ℕ
variable_slot l n = l.first_variable + n

-- a slot's object is copied from a place; the copy stands behind a barrier
abbrev pub copied : Lowering → ℕ → Place → Place → Region
copied l k target source =
    barrier (op (construct target (number_of l.program (constructor k (copy_constructor l.program k))) (arguments_from (address_argument source ∷ []))))

-- the thrown object stands in the exception's object
abbrev pub thrown_place : Lowering → Place
thrown_place l = through_place (exception_slot l) 0

-- an exception object is made, built, and thrown; where building exits by an exception or a forced unwind, it is freed
abbrev pub thrown_as : Lowering → ObjectType → List Region → List Region
thrown_as l t build =
    op (make (exception_slot l)) ∷ protect (in_order build) (free_object (exception_slot l)) ∷
    op (throw_op (exception_slot l) (type_number t) (destructor_of l.program t)) ∷ []

-- an int is thrown
abbrev pub int_thrown : Lowering → Expression → List Region
int_thrown l e = thrown_as l int_type
    ((lower l e (first_temporary l)).before ++ op (store (thrown_place l) (lower l e (first_temporary l)).value) ∷ [])

-- an object of class k is built from arguments and thrown
abbrev pub object_thrown : Lowering → ℕ → Expressions → List Region
object_thrown l k es = thrown_as l (class_type k) (lower_construct l k es (thrown_place l) (first_temporary l))

-- the operand is a call: that of a class's name builds an object
abbrev pub call_thrown : Lowering → Bound → Expression → Expressions → List Region
call_thrown l (Class k) e es = object_thrown l k es
call_thrown l (BuiltinBound BadException) e es = object_thrown l 0 es
call_thrown l _ e es = int_thrown l e

-- the operand names an int or an object
abbrev pub part_thrown : Lowering → Expression → List Name → ObjectType → List Region
part_thrown l e names int_type = int_thrown l e
part_thrown l e names (class_type k) = thrown_as l (class_type k) (copied l k (thrown_place l) (place_of l names) ∷ [])

-- the operand is a value, or names something
abbrev pub lvalue_thrown : Lowering → Expression → Option (List Name) → List Region
lvalue_thrown l e None = int_thrown l e
lvalue_thrown l e (Some names) = part_thrown l e names (lvalue_type l names)

-- the operand of a throw
abbrev pub operand_thrown : Lowering → Expression → List Region
operand_thrown l (call names es) = call_thrown l (callee_bound names) (call names es) es
operand_thrown l (std_call n es place) = call_thrown l n.bound (std_call n es place) es
operand_thrown l e = lvalue_thrown l e (lvalue_of e)

-- `throw expression;` and `throw;`
abbrev pub throwing : Lowering → Option Expression → List Region
throwing l None = op rethrow ∷ []
throwing l (Some e) = operand_thrown l e

-- what comes before an expression, then an operation on its value
abbrev pub with_value : Lowered → (Value → Region) → List Region
with_value x next = x.before ++ next x.value ∷ []

-- `return` leaves every region
abbrev pub returning : Lowering → Option Expression → ℕ → List Region
returning l None d = leave_region d ∷ []
returning l (Some e) d = lower_store l e (slot_place (result_slot l)) (first_temporary l) ++ leave_region d ∷ []

-- the initial value of a local int
abbrev pub initialised : Lowering → Name → Option Expression → List Region
initialised l n None = []
initialised l n (Some e) = lower_store l e (slot_place (variable_slot l (local_number n.bound))) (first_temporary l)

-- the slot of a named reference
abbrev pub bound_to : Lowering → Option Name → Place → List Region
bound_to l None p = []
bound_to l (Some n) p = op (bind (variable_slot l (local_number n.bound)) p) ∷ []

-- a loop whose test makes calls tests inside its body
abbrev pub looping : Bool → Lowered → (ℕ → Region) → ℕ → Region
looping false x body d = loop x.value (body (d + 2))
looping true x body d = loop (number (pos 1)) (in_order (x.before ++ branch x.value (body (d + 4)) (leave_region 3) ∷ []))

-- what is done in an object's scope, then its destruction
abbrev pub scoped : Lowering → ObjectType → Place → (ℕ → List Region) → ℕ → List Region
scoped l int_type p rest d = rest d
scoped l (class_type k) p rest d = protect (in_order (rest (d + 2))) (destroy_scope p (number_of l.program (destructor k))) ∷ []

-- a handler's parameter in the slot of a variable: by value it is a copy, by reference it names the exception object
abbrev pub caught_parameter : Lowering → Ty → ℕ → List Region
caught_parameter l Int s = op (store (slot_place s) (load (thrown_place l))) ∷ []
caught_parameter l (Object k) s = copied l (class_named k) (slot_place s) (thrown_place l) ∷ []
caught_parameter l _ s = op (bind s (thrown_place l)) ∷ []

-- a handler's parameter of a class by value is destroyed after the body
abbrev pub with_caught : Lowering → Ty → ℕ → (ℕ → List Region) → ℕ → List Region
with_caught l (Object k) s body d = scoped l (class_type (class_named k)) (slot_place s) body d
with_caught l _ s body d = body d

-- a handler: its parameter, the entry, the body, the leaving; the depth is that inside the clause's region
abbrev pub handler : Lowering → List Region → (ℕ → List Region) → ℕ → Region
handler l parameter body d =
    in_order (parameter ++ op (enter (exception_slot l)) ∷ protect (in_order (body (d + 2))) leave_handler ∷ [])

-- the number of the type that a handler catches
abbrev pub clause_type : Ty → ℕ
clause_type t = type_number (object_type t)

-- nothing follows
abbrev pub nothing_more : ℕ → List Region
nothing_more d = []

abbrev mutual
  -- a statement, then the rest of its block
  pub statement : Lowering → Statement → (ℕ → List Region) → (loop n d : ℕ) → List Region
  statement l (block ss) rest i n d = in_order (statements l ss i n (d + 1)) ∷ rest d
  statement l empty rest i n d = rest d
  statement l (if_else e s t) rest i n d =
      with_value (lower l e (first_temporary l)) (λ v. branch v
      (in_order (statement l s nothing_more i n (d + 2)))
      (in_order (otherwise l t i (n + length (declared_in s)) (d + 2)))) ++ rest d
  statement l (while e s) rest i n d =
      looping (has_call e) (lower l e (first_temporary l)) (λ b. in_order (statement l s nothing_more (d + 1) n b)) d ∷ rest d
  statement l (return place e) rest i n d = returning l e d
  statement l (break place) rest i n d = leave_region (d - i + 1) ∷ []
  statement l (continue place) rest i n d = leave_region (d - i) ∷ []
  statement l (throw place e) rest i n d = throwing l e
  statement l (try ss hs) rest i n d =
      catch (in_order (statements l ss i n (d + 2))) (clauses l hs i (n + length (all_declared_in ss)) (d + 2)) ∷ rest d
  statement l (assign names e) rest i n d = lower_store l e (place_of l names) (first_temporary l) ++ rest d
  statement l (evaluate e) rest i n d = dropped l e (first_temporary l) ++ rest d
  statement l (local_int x e) rest i n d = initialised l x e ++ rest d
  statement l (local_ref x names) rest i n d = bound_to l x.name (place_of l names) ++ rest d
  statement l (local_object k x es) rest i n d =
      lower_construct l (class_named k) es (slot_place (variable_slot l (local_number x.bound))) (first_temporary l) ++
      scoped l (class_type (class_named k)) (slot_place (variable_slot l (local_number x.bound))) rest d

  -- the side of an `else`
  pub otherwise : Lowering → Else → (loop n d : ℕ) → List Region
  otherwise l no_else i n d = []
  otherwise l (else_do s) i n d = statement l s nothing_more i n d

  -- the statements of a block
  pub statements : Lowering → Statements → (loop n d : ℕ) → List Region
  statements l no_statements i n d = []
  statements l (statement_then s ss) i n d = statement l s (λ b. statements l ss i (n + length (declared_in s)) b) i n d

  -- the handlers of a try block; the depth is that inside a clause's region
  pub clauses : Lowering → Handlers → (loop n d : ℕ) → Clauses
  clauses l no_handlers i n d = no_clauses
  clauses l (handler_then None x ss place hs) i n d =
      clause_then None (exception_slot l) (handler l [] (λ b. statements l ss i n b) d) (clauses l hs i (n + length (all_declared_in ss)) d)
  clauses l (handler_then (Some t) x ss place hs) i n d =
      clause_then (Some (clause_type t)) (exception_slot l)
      (handler l (caught_parameter l t (variable_slot l n)) (λ b. with_caught l t (variable_slot l n) (λ c. statements l ss i (n + 1) c) b) d)
      (clauses l hs i (n + 1 + length (all_declared_in ss)) d)
