-- The value of an expression, and the calls that it makes.
use Rattle.std.specs.Prelude.{ℕ, zero, suc, ◌+◌, ℤ, pos, negsuc, Bool, true, false, List, [], ◌∷◌, map, drop, Option, Some, None, if◌then◌else◌}
use Rattle.cxx_ast.specs.declared.name.Bound.{Bound}
use Rattle.cxx_ast.specs.declared.name.Bound.TheVariants.{Free, Class, Func, Method, Builtin as BuiltinBound}
use Rattle.cxx_ast.specs.declared.name.Builtin.{Builtin}
use Rattle.cxx_ast.specs.declared.name.Builtin.TheVariants.{WriteInt, ReadByte, Exit, Module, Cancel, Terminate, SetTerminate, SetUnexpected, Uncaught, BadException}
use Rattle.cxx_ast.specs.declared.name.Name.{Name}
use Rattle.cxx_ast.specs.declared.types.Ty.{Ty}
use Rattle.cxx_ast.specs.declared.types.Ty.TheVariants.{IntRef, ObjectRef}
use Rattle.cxx_ast.specs.declared.types.Param.{Param}
use Rattle.cxx_ast.specs.declared.expression.BinaryOp.{BinaryOp}
use Rattle.cxx_ast.specs.Plain.{Checked, Expression, number, path, paren, unary, binary, call, std_call, Expressions, no_expressions, expression_then}
use Rattle.run_items.specs.declared.item.Item.TheVariants.{Line}
use Rattle.meaning_forms.specs.Class.{class_type, function_at, method_at, derives}
use Rattle.meaning_forms.specs.Part.{part_type}
use Rattle.meaning_forms.specs.World.{World, Reference, nowhere, part_of, as_class}
use Rattle.meaning_forms.specs.Context.{Context}
use Rattle.meaning_forms.specs.Outcome.{Action, cancelled, ended, exit, pure, stop, world, change, emit, read, ◌>>=◌, ◌>>◌}
use Rattle.meaning_forms.specs.Running.{Running, Argument, by_value, by_reference, Constructor, declared, implicit_default, implicit_copy, function, method, constructor}
use Rattle.meaning_forms.specs.Terminate.{terminate}
use Rattle.meaning_forms.specs.Throw.{call_module}
use Rattle.meaning_forms.specs.Construct.{constructor_for, copy_constructor}
use Rattle.meaning_forms.specs.Frame.{Frame, lvalue, bound_as}
use Rattle.meaning_forms.specs.Arithmetic.{truth, unary_value, binary_value, decided}

-- the lvalue that an expression is, in parentheses or not
abbrev pub lvalue_of : Expression → Option (List Name)
lvalue_of (path names) = Some names
lvalue_of (paren e place) = lvalue_of e
lvalue_of _ = None

-- the names of an lvalue
abbrev pub names_of : Option (List Name) → List Name
names_of None = []
names_of (Some names) = names

-- how many expressions
abbrev pub count_of : Expressions → ℕ
count_of no_expressions = 0
count_of (expression_then e es) = count_of es + 1

-- what the last name of `a.b.f` is bound to
abbrev pub callee_bound : List Name → Bound
callee_bound [] = Free
callee_bound (n ∷ []) = n.bound
callee_bound (n ∷ m ∷ names) = callee_bound (m ∷ names)

-- the names before the last of `a.b.f`
abbrev pub receiver : List Name → List Name
receiver [] = []
receiver (n ∷ []) = []
receiver (n ∷ m ∷ names) = n ∷ receiver (m ∷ names)

-- the types of parameters
abbrev pub types_of : List Param → List Ty
types_of = map (λ x. x.ty)

-- the types of the parameters of what a name is bound to; those of built-in functions are int
abbrev pub parameter_types : Checked → Bound → List Ty
parameter_types p (Func n) = types_of (function_at p n).parameters
parameter_types p (Method k i) = types_of (method_at p k i).parameters
parameter_types p _ = []

-- the types of the parameters of a constructor of class k
abbrev pub constructor_types : Checked → ℕ → Constructor → List Ty
constructor_types p k (declared i) = types_of (method_at p k i).parameters
constructor_types p k implicit_default = []
constructor_types p k implicit_copy = ObjectRef true (record { text = []; place = 0; bound = Class k }) ∷ []

-- an lvalue is of class k or of a class derived from it
abbrev pub is_of_class : Checked → World → Frame → ℕ → Option (List Name) → Bool
is_of_class p w f k None = false
is_of_class p w f k (Some names) = derives p (part_type (part_of w (lvalue p w f names))) (class_type k)

-- a single argument of the class, or of one derived from it, selects the copy constructor, and else their number selects
abbrev pub constructor_chosen : Checked → World → Frame → ℕ → Expressions → Constructor
constructor_chosen p w f k (expression_then e no_expressions) =
    if is_of_class p w f k (lvalue_of e) then copy_constructor p k else constructor_for p k 1
constructor_chosen p w f k es = constructor_for p k (count_of es)

-- a type is that of a reference
abbrev pub is_reference : Ty → Bool
is_reference (IntRef const) = true
is_reference (ObjectRef const n) = true
is_reference _ = false

-- the argument for the first of the parameters: a reference binds to an lvalue, and else a value is computed
abbrev pub passed : Running → Frame → List Ty → Expression → Action ℤ → Action Argument
passed r f [] e computed = do
  v ← computed
  pure (by_value v)
passed r f (t ∷ types) e computed = do
  w ← world
  if is_reference t then pure (by_reference (bound_as w t (lvalue r.program w f (names_of (lvalue_of e))))) else do
    v ← computed
    pure (by_value v)

-- the i-th argument of a built-in function
abbrev pub value_at : List Argument → ℕ → ℤ
value_at (by_value v ∷ given) zero = v
value_at (a ∷ given) (suc i) = value_at given i
value_at _ _ = pos 0

-- the next byte of the input, or -1 at its end
abbrev pub next_byte : List ℕ → Action ℤ
next_byte [] = pure (negsuc 0)
next_byte (b ∷ bytes) = do
  change (λ w. record w { input = bytes })
  pure (pos b)

-- the number of a function
abbrev pub function_number : Bound → Option ℕ
function_number (Func n) = Some n
function_number _ = None

-- the function that is the argument of set_terminate or set_unexpected, whose name is not evaluated
abbrev pub function_named : Expressions → Option ℕ
function_named no_expressions = None
function_named (expression_then e es) = function_number (callee_bound (names_of (lvalue_of e)))

-- some exception travels
abbrev pub is_travelling : List ℕ → Bool
is_travelling [] = false
is_travelling (e ∷ es) = true

-- a built-in function, with its arguments as trees and as they are computed
abbrev pub builtin : Running → Builtin → Expressions → Action (List Argument) → Context → Action ℤ
builtin r WriteInt es given c = do
  vs ← given
  emit (Line (value_at vs 0))
  pure (pos 0)
builtin r ReadByte es given c = do
  w ← world
  next_byte w.input
builtin r Exit es given c = do
  vs ← given
  stop (ended (exit (value_at vs 0)))
builtin r Module es given c = do
  vs ← given
  call_module r (value_at vs 0) c
builtin r Cancel es given c = do
  vs ← given
  stop (cancelled (value_at vs 0))
builtin r Terminate es given c = terminate r c
builtin r SetTerminate es given c = do
  change (λ w. record w { installed = record (w.installed) { terminate_handler = function_named es } })
  pure (pos 0)
builtin r SetUnexpected es given c = do
  change (λ w. record w { installed = record (w.installed) { unexpected_handler = function_named es } })
  pure (pos 0)
builtin r Uncaught es given c = pure (truth (is_travelling c.travelling))
builtin r BadException es given c = pure (pos 0)

-- the call of what a name is bound to, on the object that an lvalue names
abbrev pub called : Running → Frame → Bound → List Name → Expressions → Action (List Argument) → Context → Action ℤ
called r f (Func n) object es given c = do
  vs ← given
  r.call (function n) nowhere vs c
called r f (Method k i) object es given c = do
  vs ← given
  w ← world
  r.call (method k i) (as_class w k (lvalue r.program w f object)) vs c
called r f (BuiltinBound b) object es given c = builtin r b es given c
called r f _ object es given c = pure (pos 0)

-- `&&` and `||` evaluate their right side only where it decides
abbrev pub with_right_side : BinaryOp → ℤ → Option ℤ → Action ℤ → Action ℤ
with_right_side op x (Some v) right = pure v
with_right_side op x None right = do
  y ← right
  binary_value op x y

abbrev mutual
  -- operands are evaluated left to right
  pub value_of : Running → Frame → Expression → Context → Action ℤ
  value_of r f (number v place) c = pure v
  value_of r f (path names) c = do
    w ← world
    read (lvalue r.program w f names)
  value_of r f (paren e place) c = value_of r f e c
  value_of r f (unary op e place) c = do
    x ← value_of r f e c
    unary_value op x
  value_of r f (binary op a b) c = do
    x ← value_of r f a c
    with_right_side op x (decided op x) (value_of r f b c)
  value_of r f (call names es) c =
      called r f (callee_bound names) (receiver names) es (arguments r f es (parameter_types r.program (callee_bound names)) c) c
  value_of r f (std_call n es place) c = called r f n.bound [] es (arguments r f es [] c) c

  -- arguments are evaluated left to right
  pub arguments : Running → Frame → Expressions → List Ty → Context → Action (List Argument)
  arguments r f no_expressions types c = pure []
  arguments r f (expression_then e es) types c = do
    a ← passed r f types e (value_of r f e c)
    given ← arguments r f es (drop 1 types) c
    pure (a ∷ given)

-- an object of class k is built from arguments
abbrev pub construct : Running → Frame → ℕ → Expressions → Reference → Context → Action (Unit {0})
construct r f k es target c = do
  w ← world
  let which = constructor_chosen r.program w f k es in do
    given ← arguments r f es (constructor_types r.program k which) c
    r.call (constructor k which) target given c
    pure tt
