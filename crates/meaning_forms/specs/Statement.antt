-- What a statement does. The scope of a local variable is the rest of its block, so a statement is given what the rest does.
use Rattle.std.specs.Prelude.{ℕ, zero, suc, ℤ, List, Option, Some, None, if◌then◌else◌}
use Rattle.cxx_ast.specs.declared.name.Bound.{Bound}
use Rattle.cxx_ast.specs.declared.name.Bound.TheVariants.{Class, Builtin as BuiltinBound}
use Rattle.cxx_ast.specs.declared.name.Builtin.TheVariants.{BadException}
use Rattle.cxx_ast.specs.declared.name.Name.{Name}
use Rattle.cxx_ast.specs.Plain.{Expression, call, std_call, Expressions, Statement, block, empty, if_else, while, return, break, continue, throw, try, assign, evaluate, local_int, local_ref, local_object, Else, no_else, else_do, Statements, no_statements, statement_then, Handlers, no_handlers, handler_then}
use Rattle.meaning_forms.specs.Class.{ObjectType, int_type, class_type, class_named}
use Rattle.meaning_forms.specs.Part.{cell, unset, part_type}
use Rattle.meaning_forms.specs.World.{Reference, whole, part_of, type_at}
use Rattle.meaning_forms.specs.Context.{Context, try_block, guarded_by}
use Rattle.meaning_forms.specs.Outcome.{Action, Result, stopped, thrown, out_of_turns, Flow, normal, breaks, continues, returns, pure, stop, world, change, new_object, write, ◌>>=◌, ◌>>◌}
use Rattle.meaning_forms.specs.Guard.{matches}
use Rattle.meaning_forms.specs.Running.{Running}
use Rattle.meaning_forms.specs.Throw.{throw_new, rethrow}
use Rattle.meaning_forms.specs.Scope.{scope}
use Rattle.meaning_forms.specs.Construct.{destroy}
use Rattle.meaning_forms.specs.Frame.{Frame, with_variable, with_parameter, lvalue, bound_as}
use Rattle.meaning_forms.specs.Handler.{clause_of, clauses_of, new_copy, handle}
use Rattle.meaning_forms.specs.Arithmetic.{is_zero}
use Rattle.meaning_forms.specs.Expression.{lvalue_of, callee_bound, value_of, construct}

-- a turn is spent, if one is left
abbrev pub spend : ℕ → Action (Unit {0})
spend zero = stop out_of_turns
spend (suc n) = change (λ w. record w { turns = n })

-- one turn is spent
abbrev pub spend_turn : Action (Unit {0})
spend_turn = do
  w ← world
  spend w.turns

-- what follows is done, unless the flow breaks, continues or returns
abbrev pub followed : Action Flow → Flow → Action Flow
followed next normal = next
followed next flow = pure flow

infixl 1 ◌then◌
-- one statement, then the next
abbrev pub ◌then◌ : Action Flow → Action Flow → Action Flow
first then next = first >>= followed next

-- a loop goes on after its body, unless that breaks or returns
abbrev pub looped : Action Flow → Flow → Action Flow
looped again normal = again
looped again continues = again
looped again breaks = pure normal
looped again (returns v) = pure (returns v)

-- a loop with at most n tests; each spends a turn, so more tests than there are turns are never made
abbrev pub loop : ℕ → Action ℤ → Action Flow → Action Flow
loop zero test body = stop out_of_turns
loop (suc n) test body = do
  spend_turn
  v ← test
  if is_zero v then pure normal else (body >>= looped (loop n test body))

-- the object of a thrown int
abbrev pub int_thrown : Running → Frame → Expression → Context → Action ℕ
int_thrown r f e c = do
  v ← value_of r f e c
  new_object (cell (Some v))

-- the object of `throw T(arguments);`
abbrev pub object_thrown : Running → Frame → ℕ → Expressions → Context → Action ℕ
object_thrown r f k es c = do
  o ← new_object (unset r.program (class_type k))
  construct r f k es (whole o) c
  pure o

-- the operand is a call: that of a class's name builds an object
abbrev pub call_thrown : Running → Frame → Bound → Expression → Expressions → Context → Action ℕ
call_thrown r f (Class k) e es c = object_thrown r f k es c
call_thrown r f (BuiltinBound BadException) e es c = object_thrown r f 0 es c
call_thrown r f _ e es c = int_thrown r f e c

-- the operand names an int or an object: an object is copied behind a barrier
abbrev pub part_thrown : Running → Frame → Expression → Reference → ObjectType → Context → Action ℕ
part_thrown r f e source int_type c = int_thrown r f e c
part_thrown r f e source (class_type k) c = new_copy r k source c

-- the operand may be an lvalue
abbrev pub lvalue_thrown : Running → Frame → Expression → Option (List Name) → Context → Action ℕ
lvalue_thrown r f e None c = int_thrown r f e c
lvalue_thrown r f e (Some names) c = do
  w ← world
  let source = lvalue r.program w f names in part_thrown r f e source (part_type (part_of w source)) c

-- the exception object of `throw expression;`
abbrev pub operand_thrown : Running → Frame → Expression → Context → Action ℕ
operand_thrown r f (call names es) c = call_thrown r f (callee_bound names) (call names es) es c
operand_thrown r f (std_call n es place) c = call_thrown r f n.bound (std_call n es place) es c
operand_thrown r f e c = lvalue_thrown r f e (lvalue_of e) c

-- `throw expression;` and `throw;`
abbrev pub throwing : Running → Frame → Option Expression → Context → Action Flow
throwing r f None c = rethrow r c
throwing r f (Some e) c = throw_new r c (operand_thrown r f e c)

-- `return;` and `return expression;`
abbrev pub returning : Running → Frame → Option Expression → Context → Action Flow
returning r f None c = pure (returns None)
returning r f (Some e) c = do
  v ← value_of r f e c
  pure (returns (Some v))

-- the object of a local int, unset without an initial value
abbrev pub local_cell : Running → Frame → Option Expression → Context → Action ℕ
local_cell r f None c = new_object (cell None)
local_cell r f (Some e) c = do
  v ← value_of r f e c
  new_object (cell (Some v))

-- an exception that comes out of a try block is caught
abbrev pub after_try : {A : Type 0} → (ℕ → Action A) → Result A → Result A
after_try caught (stopped (thrown e) w) = caught e w
after_try caught result = result

abbrev mutual
  -- a statement, then the rest of its block
  pub statement : Running → Statement → (Frame → Action Flow) → Frame → Context → Action Flow
  statement r (block ss) rest f c = statements r ss f c then rest f
  statement r empty rest f c = rest f
  statement r (if_else e s t) rest f c =
      (value_of r f e c >>= (λ v. if is_zero v then otherwise r t f c else statement r s (λ g. pure normal) f c)) then rest f
  statement r (while e s) rest f c =
      (world >>= (λ w. loop (suc w.turns) (value_of r f e c) (statement r s (λ g. pure normal) f c))) then rest f
  statement r (return place e) rest f c = returning r f e c
  statement r (break place) rest f c = pure breaks
  statement r (continue place) rest f c = pure continues
  statement r (throw place e) rest f c = throwing r f e c
  statement r (try ss hs) rest f c =
      (λ w. after_try (caught r hs f c) (statements r ss f (guarded_by (try_block (clauses_of hs)) c) w)) then rest f
  statement r (assign names e) rest f c = do
    v ← value_of r f e c
    w ← world
    write (lvalue r.program w f names) v
    rest f
  statement r (evaluate e) rest f c = value_of r f e c >> rest f
  statement r (local_int n e) rest f c = do
    o ← local_cell r f e c
    rest (with_variable n (whole o) f)
  statement r (local_ref x names) rest f c = do
    w ← world
    rest (with_parameter x.name (bound_as w x.ty (lvalue r.program w f names)) f)
  statement r (local_object k n es) rest f c = do
    o ← new_object (unset r.program (class_type (class_named k)))
    construct r f (class_named k) es (whole o) c
    scope r c (destroy r (class_type (class_named k)) (whole o)) (rest (with_variable n (whole o) f))

  -- the side of an `else`
  pub otherwise : Running → Else → Frame → Context → Action Flow
  otherwise r no_else f c = pure normal
  otherwise r (else_do s) f c = statement r s (λ g. pure normal) f c

  -- the statements of a block
  pub statements : Running → Statements → Frame → Context → Action Flow
  statements r no_statements f c = pure normal
  statements r (statement_then s ss) f c = statement r s (λ g. statements r ss g c) f c

  -- the handlers of an exception e: the first whose clause matches
  pub caught : Running → Handlers → Frame → Context → ℕ → Action Flow
  caught r no_handlers f c e = stop (thrown e)
  caught r (handler_then t n ss place hs) f c e = do
    w ← world
    if matches r.program (type_at w e) (clause_of t) then handle r e t n (λ g d. statements r ss g d) f c else caught r hs f c e
