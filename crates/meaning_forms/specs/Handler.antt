-- Handlers: entering an exception, a handler's parameter, and leaving the exception.
use Rattle.std.specs.Prelude.{ℕ, Bool, true, false, not, ◌&&◌, ◌||◌, ◌==◌, List, [], ◌∷◌, Option, Some, None, if◌then◌else◌}
use Rattle.cxx_ast.specs.declared.name.Name.{Name}
use Rattle.cxx_ast.specs.declared.types.Ty.{Ty}
use Rattle.cxx_ast.specs.declared.types.Ty.TheVariants.{Int, Object}
use Rattle.cxx_ast.specs.Plain.{Handlers, no_handlers, handler_then}
use Rattle.run_items.specs.declared.item.Item.TheVariants.{Enter, Leave, Destroy, Clean}
use Rattle.meaning_forms.specs.Class.{class_named, class_type, some_of, contains, object_type}
use Rattle.meaning_forms.specs.Part.{cell, unset}
use Rattle.meaning_forms.specs.World.{Exception, building, native, foreign, Reference, whole, nowhere, as_class, exception_at, without_exception}
use Rattle.meaning_forms.specs.Context.{Context, Clause, catch_all, catch_type, handling, with_travelling}
use Rattle.meaning_forms.specs.Outcome.{Action, Result, done, stopped, thrown, cancelled, pure, stop, world, change, emit, new_object, read, ◌>>=◌, ◌>>◌}
use Rattle.meaning_forms.specs.Running.{Running}
use Rattle.meaning_forms.specs.Terminate.{terminate, behind_barrier}
use Rattle.meaning_forms.specs.Throw.{free}
use Rattle.meaning_forms.specs.Scope.{after_scope, scope}
use Rattle.meaning_forms.specs.Construct.{copy_object, destroy}
use Rattle.meaning_forms.specs.Frame.{Frame, with_parameter, bound_as}

-- the clause of a handler
abbrev pub clause_of : Option Ty → Clause
clause_of None = catch_all
clause_of (Some t) = catch_type (object_type t)

-- the clauses of handlers in order of appearance
abbrev pub clauses_of : Handlers → List Clause
clauses_of no_handlers = []
clauses_of (handler_then t n body place rest) = clause_of t ∷ clauses_of rest

-- an exception is foreign
abbrev pub is_foreign : Exception → Bool
is_foreign (foreign k t) = true
is_foreign _ = false

-- an exception is entered, but entering a foreign one while another is handled calls terminate
abbrev pub enter : Running → ℕ → Context → Action (Unit {0})
enter r e c = do
  w ← world
  if is_foreign (exception_at w e) && some_of (λ f. not (f == e)) c.handled
      then terminate r (with_travelling e c)
      else emit (Enter e)

-- an exception object is freed after its destructor, also where that gave an exception or a forced unwind
abbrev pub after_destructor : ℕ → Result (Unit {0}) → Result (Unit {0})
after_destructor e (done a w) = free e w
after_destructor e (stopped (thrown f) w) = (free e >> stop (thrown f)) w
after_destructor e (stopped (cancelled n) w) = (free e >> stop (cancelled n)) w
after_destructor e (stopped s w) = stopped s w

-- an exception is destroyed and freed; for a foreign one its module's cleanup is called in place of that
abbrev pub give_back : Running → ℕ → Exception → Context → Action (Unit {0})
give_back r e building c = pure tt
give_back r e (native t o kept) c = do
  emit (Destroy e)
  λ w. after_destructor e (destroy r t (whole o) c w)
give_back r e (foreign k t) c = do
  emit (Clean k t)
  change (λ w. without_exception w e)

-- an exception that is left goes on: another entered handler of it is still active, or it travels again
abbrev pub goes_on : {A : Type 0} → ℕ → Context → Result A → Bool
goes_on e c (stopped (thrown f) w) = f == e || contains c.handled e
goes_on e c _ = contains c.handled e

-- an exception is left, and given back unless it goes on
abbrev pub let_go : Running → ℕ → Bool → Context → Action (Unit {0})
let_go r e kept c = do
  emit (Leave e)
  w ← world
  if kept then pure tt else give_back r e (exception_at w e) c

-- leaving an exception is like leaving a scope in which it was built; the context is the one outside
abbrev pub after_handler : {A : Type 0} → Running → ℕ → Context → Result A → Result A
after_handler r e c result = after_scope r c (let_go r e (goes_on e c result)) result

-- what is done while an exception is handled, then the leaving
abbrev pub while_handled : {A : Type 0} → Running → ℕ → Context → (Context → Action A) → Action A
while_handled r e c act w = after_handler r e c (act (handling e c) w)

-- a new object of class k, copied behind a barrier
abbrev pub new_copy : Running → ℕ → Reference → Context → Action ℕ
new_copy r k source c = do
  o ← new_object (unset r.program (class_type k))
  behind_barrier r c (copy_object r k (whole o) source)
  pure o

-- a parameter by value is a copy, made also where it has no name; one by reference names the exception object or its base
abbrev pub catch_parameter : Running → Option Ty → Reference → Context → Action Reference
catch_parameter r None source c = pure nowhere
catch_parameter r (Some Int) source c = do
  v ← read source
  o ← new_object (cell (Some v))
  pure (whole o)
catch_parameter r (Some (Object n)) source c = do
  w ← world
  o ← new_copy r (class_named n) (as_class w (class_named n) source) c
  pure (whole o)
catch_parameter r (Some t) source c = do
  w ← world
  pure (bound_as w t source)

-- a parameter of a class by value is destroyed
abbrev pub destroy_parameter : Running → Option Ty → Reference → Context → Action (Unit {0})
destroy_parameter r (Some (Object n)) target c = destroy r (class_type (class_named n)) target c
destroy_parameter r _ target c = pure tt

-- the object of a native exception
abbrev pub exception_object : Exception → Reference
exception_object (native t o kept) = whole o
exception_object _ = nowhere

-- a handler of e: its parameter while e travels, the entry, the body under the guards outside, the parameter's destruction, the leaving
abbrev pub handle : {A : Type 0} → Running → ℕ → Option Ty → Option Name → (Frame → Context → Action A) → Frame → Context → Action A
handle r e t n body f c = do
  w ← world
  parameter ← catch_parameter r t (exception_object (exception_at w e)) (with_travelling e c)
  enter r e c
  while_handled r e c (λ d. scope r d (destroy_parameter r t parameter) (body (with_parameter n parameter f) d))
