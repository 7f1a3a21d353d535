-- Calls: what is done in a call, and what it spends.
use Rattle.std.specs.Prelude.{ℕ, zero, suc, ◌+◌, ◌-◌, max, ℤ, pos, Bool, false, nat_le, ◌==◌, List, [], ◌∷◌, Option, Some, None, if◌then◌else◌}
use Rattle.cxx_ast.specs.declared.name.Bound.{Bound}
use Rattle.cxx_ast.specs.declared.name.Bound.TheVariants.{Field}
use Rattle.cxx_ast.specs.declared.types.Ty.{Ty}
use Rattle.cxx_ast.specs.declared.types.Ty.TheVariants.{Int}
use Rattle.cxx_ast.specs.Plain.{Checked, Function, Initialiser, Expressions, no_expressions, expression_then, Statements, no_statements}
use Rattle.meaning_forms.specs.Class.{ObjectType, int_type, class_type, function_at, method_at, parts_of, member_place}
use Rattle.meaning_forms.specs.World.{World, Reference, nowhere, part}
use Rattle.meaning_forms.specs.Context.{Context}
use Rattle.meaning_forms.specs.Outcome.{Action, Result, done, stopped, Flow, normal, returns, pure, stop, undefined, out_of_turns, deep, world, change, read, write, ◌>>=◌, ◌>>◌}
use Rattle.meaning_forms.specs.Running.{Running, Argument, by_reference, Constructor, declared, implicit_default, implicit_copy, Callee, function, method, constructor, destructor}
use Rattle.meaning_forms.specs.Scope.{scope, until_complete}
use Rattle.meaning_forms.specs.Construct.{destroy, destructor_place, copy_object, default_object}
use Rattle.meaning_forms.specs.Frame.{Frame, with_arguments}
use Rattle.meaning_forms.specs.Specification.{under_specification}
use Rattle.meaning_forms.specs.Expression.{value_of, construct}
use Rattle.meaning_forms.specs.Statement.{spend_turn, statements}

-- the statements of a body
abbrev pub statements_in : Option Statements → Statements
statements_in None = no_statements
statements_in (Some ss) = ss

-- a function's body
abbrev pub body_of : Running → Function → Frame → Context → Action Flow
body_of r f frame c = statements r (statements_in f.body) frame c

-- the variables of a call at its beginning: its parameters
abbrev pub new_frame : Function → Reference → List Argument → Action Frame
new_frame f this given = with_arguments f.parameters given (record { this = this; variables = [] })

-- flowing off the end of an int function is undefined, but main gives 0
abbrev pub value_at_end : Bool → Ty → Action ℤ
value_at_end false Int = stop undefined
value_at_end _ _ = pure (pos 0)

-- the value of a call of a function whose body is done
abbrev pub value_returned : Bool → Ty → Flow → Action ℤ
value_returned is_main t (returns (Some v)) = pure v
value_returned is_main t (returns None) = pure (pos 0)
value_returned is_main t _ = value_at_end is_main t

-- a function, main or not: its specification guards its outermost block
abbrev pub run_function : Running → Bool → Function → Reference → List Argument → Context → Action ℤ
run_function r is_main f this given c = do
  frame ← new_frame f this given
  flow ← under_specification r f.specification (body_of r f frame) c
  value_returned is_main f.result flow

-- the parts of an object from the i-th on are built in order, then what is left of its construction is done; where that is exited by
-- an exception or a forced unwind, the parts that are complete are destroyed in reverse order
abbrev pub build_parts : Running → (ℕ → ObjectType → Action (Unit {0})) → Reference → ℕ → List ObjectType → Context → Action Flow → Action Flow
build_parts r build this i [] c left = left
build_parts r build this i (t ∷ types) c left = do
  build i t
  until_complete r c (destroy r t (part i this)) (build_parts r build this (i + 1) types c left)

-- an implicit default constructor sets an int to 0
abbrev pub default_part : Running → Reference → Context → ℕ → ObjectType → Action (Unit {0})
default_part r this c i int_type = write (part i this) (pos 0)
default_part r this c i (class_type k) = default_object r k (part i this) c

-- an implicit copy constructor copies each part
abbrev pub copy_part : Running → Reference → Reference → Context → ℕ → ObjectType → Action (Unit {0})
copy_part r this source c i int_type = do
  v ← read (part i source)
  write (part i this) v
copy_part r this source c i (class_type k) = copy_object r k (part i this) (part i source) c

-- the place of the part that an initialiser names: a member's, or that of the base, the first
abbrev pub place_named : Checked → Bound → ℕ
place_named p (Field k i) = member_place p k i
place_named p _ = 0

-- the arguments of the initialiser for the i-th part
abbrev pub initialiser_for : Checked → List Initialiser → ℕ → Option Expressions
initialiser_for p [] i = None
initialiser_for p (x ∷ xs) i = if place_named p x.name.bound == i then Some x.arguments else initialiser_for p xs i

-- the value of an int's initialiser
abbrev pub initial_value : Running → Frame → Expressions → Context → Action ℤ
initial_value r f no_expressions c = pure (pos 0)
initial_value r f (expression_then e es) c = value_of r f e c

-- a declared constructor builds a part by its initialiser; without one an object is default-constructed, and an int stays unset
abbrev pub initial_part : Running → Frame → Context → ℕ → Option Expressions → ObjectType → Action (Unit {0})
initial_part r f c i None int_type = pure tt
initial_part r f c i None (class_type k) = default_object r k (part i f.this) c
initial_part r f c i (Some es) int_type = do
  v ← initial_value r f es c
  write (part i f.this) v
initial_part r f c i (Some es) (class_type k) = construct r f k es (part i f.this) c

-- the object that an implicit copy constructor copies
abbrev pub source_of : List Argument → Reference
source_of (by_reference x ∷ given) = x
source_of _ = nowhere

-- a declared constructor: the parts, whatever the order of its initialisers, then its body
abbrev pub construction : Running → ℕ → Function → Frame → Context → Action Flow
construction r k f frame c =
    build_parts r (λ i. initial_part r frame c i (initialiser_for r.program f.initialisers i)) frame.this 0 (parts_of r.program k) c
    (body_of r f frame c)

-- a constructor of class k; its specification guards its initialisers too
abbrev pub run_constructor : Running → ℕ → Constructor → Reference → List Argument → Context → Action Flow
run_constructor r k implicit_default this given c = build_parts r (default_part r this c) this 0 (parts_of r.program k) c (pure normal)
run_constructor r k implicit_copy this given c =
    build_parts r (copy_part r this (source_of given) c) this 0 (parts_of r.program k) c (pure normal)
run_constructor r k (declared i) this given c = do
  frame ← new_frame (method_at r.program k i) this given
  under_specification r (method_at r.program k i).specification (construction r k (method_at r.program k i) frame) c

-- a destructor's body is done in the scope of the parts from the i-th on, so they are destroyed after it in reverse order
abbrev pub destroy_parts : Running → Reference → ℕ → List ObjectType → Context → Action Flow → Action Flow
destroy_parts r this i [] c body = body
destroy_parts r this i (t ∷ types) c body = scope r c (destroy r t (part i this)) (destroy_parts r this (i + 1) types c body)

-- a declared destructor: its body, then the parts
abbrev pub destruction : Running → ℕ → Function → Reference → Context → Action Flow
destruction r k f this c = destroy_parts r this 0 (parts_of r.program k) c (body_of r f (record { this = this; variables = [] }) c)

-- the destructor of class k; its specification guards the destruction of its parts too
abbrev pub run_destructor : Running → ℕ → Option ℕ → Reference → Context → Action Flow
run_destructor r k None this c = destroy_parts r this 0 (parts_of r.program k) c (pure normal)
run_destructor r k (Some i) this c =
    under_specification r (method_at r.program k i).specification (destruction r k (method_at r.program k i) this) c

-- what is done in a call
abbrev pub run_callee : Running → Callee → Reference → List Argument → Context → Action ℤ
run_callee r (function n) this given c = run_function r (n == r.program.main) (function_at r.program n) this given c
run_callee r (method k i) this given c = run_function r false (method_at r.program k i) this given c
run_callee r (constructor k which) this given c = run_constructor r k which this given c >> pure (pos 0)
run_callee r (destructor k) this given c = run_destructor r k (destructor_place r.program k) this c >> pure (pos 0)

-- one more call is open
abbrev pub opened : World → World
opened w = record w { open_calls = w.open_calls + 1; deepest = max w.deepest (w.open_calls + 1) }

-- one call fewer is open
abbrev pub closed : World → World
closed w = record w { open_calls = w.open_calls - 1 }

-- a call is closed however it comes out
abbrev pub after_call : Result ℤ → Result ℤ
after_call (done v w) = done v (closed w)
after_call (stopped s w) = stopped s (closed w)

-- a call beyond the limit of open calls is deep and spends no turn; any other spends one
abbrev pub open_call : ℕ → Action ℤ → Action ℤ
open_call limit act = do
  w ← world
  if nat_le limit w.open_calls then stop deep else do
    spend_turn
    change opened
    λ v. after_call (act v)

-- A call with fuel. Each call inside it has one unit less, and comes after the turn that this call spends. So where the fuel is above
-- the turns left, it is above them in every call inside, and never runs out: one unit more than the turns is always enough.
abbrev pub call_with : Checked → ℕ → ℕ → Callee → Reference → List Argument → Context → Action ℤ
call_with p limit zero callee this given c = stop out_of_turns
call_with p limit (suc fuel) callee this given c =
    open_call limit (run_callee (record { program = p; call = call_with p limit fuel }) callee this given c)

-- a program whose calls have this fuel
abbrev pub running : Checked → ℕ → ℕ → Running
running p limit fuel = record { program = p; call = call_with p limit fuel }
