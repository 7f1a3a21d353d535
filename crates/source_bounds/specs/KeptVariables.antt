-- Which variables of a source's function are kept: the first ten of type int, in order of declaration, to which no reference is bound. What stands
-- behind a jump in its block is never done, and counts for nothing.
use Rattle.std.specs.Prelude.{◌≡◌, ℕ, ◌+◌, ◌==◌, ◌&&◌, ◌||◌, not, Bool, true, false, List, [], ◌∷◌, drop, take, length, Option, Some, None, if◌then◌else◌}
use Rattle.cxx_ast.specs.declared.declaration.FuncKind.{FuncKind}
use Rattle.cxx_ast.specs.declared.declaration.FuncKind.TheVariants.{Constructor}
use Rattle.cxx_ast.specs.declared.name.Bound.{Bound}
use Rattle.cxx_ast.specs.declared.name.Bound.TheVariants.{Local, Class, Method, Builtin as BuiltinBound}
use Rattle.cxx_ast.specs.declared.name.Builtin.TheVariants.{SetTerminate, SetUnexpected, BadException}
use Rattle.cxx_ast.specs.declared.name.Name.{Name}
use Rattle.cxx_ast.specs.declared.types.Ty.{Ty}
use Rattle.cxx_ast.specs.declared.types.Ty.TheVariants.{Int, Object}
use Rattle.cxx_ast.specs.Plain.{Checked, Expression, paren, unary, binary, call, std_call, Expressions, no_expressions, expression_then, Statement, block, empty, if_else, while, return, break, continue, throw, try, assign, evaluate, local_int, local_ref, local_object, Else, no_else, else_do, Statements, no_statements, statement_then, Handlers, no_handlers, handler_then, Initialiser, Function}
use Rattle.meaning_forms.specs.Call.{initialiser_for, statements_in}
use Rattle.meaning_forms.specs.Class.{ObjectType, int_type, class_type, class_named, parts_of}
use Rattle.meaning_forms.specs.Expression.{lvalue_of, names_of, callee_bound, receiver, parameter_types, constructor_types}
use Rattle.meaning_forms.specs.Frame.{local_number}
use Rattle.region_forms.specs.Layout.{Layout}
use Rattle.region_forms.specs.LowerExpression.{Lowering, constructor_chosen, lvalue_type, refers}
use Rattle.region_forms.specs.LowerProgram.{lowering, declared_function}
use Rattle.region_forms.specs.Numbering.{declared_in, all_declared_in, variables_of}
use Rattle.linear_forms.specs.Unit.{function_code}
use Rattle.machine_forms.specs.Kept.{kept_slots}

-- a name is that of variable v
abbrev pub is_local : ℕ → Bound → Bool
is_local v (Local m) = m == v
is_local v b = false

-- `a.b.c` begins at variable v
abbrev pub begins_at : ℕ → List Name → Bool
begins_at v [] = false
begins_at v (x ∷ names) = is_local v x.bound

-- the object of a member function's call
abbrev pub receiver_binds : ℕ → Bound → List Name → Bool
receiver_binds v (Method k i) object = begins_at v object
receiver_binds v b object = false

-- the function given to set_terminate or set_unexpected is not evaluated
abbrev pub unless_given : Bound → Bool → Bool
unless_given (BuiltinBound SetTerminate) b = false
unless_given (BuiltinBound SetUnexpected) b = false
unless_given _ b = b

-- a reference is bound to variable v: that of a parameter
abbrev mutual
  pub expression_binds : Checked → ℕ → Expression → Bool
  expression_binds p v (paren e place) = expression_binds p v e
  expression_binds p v (unary o e place) = expression_binds p v e
  expression_binds p v (binary o a b) = expression_binds p v a || expression_binds p v b
  expression_binds p v (call names es) =
      receiver_binds v (callee_bound names) (receiver names) || unless_given (callee_bound names) (arguments_bind p v es (parameter_types p (callee_bound names)))
  expression_binds p v (std_call n es place) = unless_given n.bound (arguments_bind p v es [])
  expression_binds p v e = false

  pub arguments_bind : Checked → ℕ → Expressions → List Ty → Bool
  arguments_bind p v no_expressions types = false
  arguments_bind p v (expression_then e es) types =
      (if refers types then begins_at v (names_of (lvalue_of e)) else expression_binds p v e) || arguments_bind p v es (drop 1 types)

abbrev pub value_binds : Checked → ℕ → Option Expression → Bool
value_binds p v None = false
value_binds p v (Some e) = expression_binds p v e

-- the arguments of a constructor
abbrev pub construction_binds : Lowering → ℕ → ℕ → Expressions → Bool
construction_binds l v k es = arguments_bind l.program v es (constructor_types l.program k (constructor_chosen l k es))

-- the operand of a throw: an object that is named is copied
abbrev pub call_thrown_binds : Lowering → ℕ → Bound → Expression → Expressions → Bool
call_thrown_binds l v (Class k) e es = construction_binds l v k es
call_thrown_binds l v (BuiltinBound BadException) e es = construction_binds l v 0 es
call_thrown_binds l v _ e es = expression_binds l.program v e

abbrev pub part_thrown_binds : Lowering → ℕ → Expression → List Name → ObjectType → Bool
part_thrown_binds l v e names int_type = expression_binds l.program v e
part_thrown_binds l v e names (class_type k) = begins_at v names

abbrev pub lvalue_thrown_binds : Lowering → ℕ → Expression → Option (List Name) → Bool
lvalue_thrown_binds l v e None = expression_binds l.program v e
lvalue_thrown_binds l v e (Some names) = part_thrown_binds l v e names (lvalue_type l names)

abbrev pub operand_binds : Lowering → ℕ → Expression → Bool
operand_binds l v (call names es) = call_thrown_binds l v (callee_bound names) (call names es) es
operand_binds l v (std_call n es place) = call_thrown_binds l v n.bound (std_call n es place) es
operand_binds l v e = lvalue_thrown_binds l v e (lvalue_of e)

abbrev pub thrown_binds : Lowering → ℕ → Option Expression → Bool
thrown_binds l v None = false
thrown_binds l v (Some e) = operand_binds l v e

-- a reference with a name is bound
abbrev pub named_binds : Option Name → Bool → Bool
named_binds None b = false
named_binds (Some n) b = b

-- an object that a handler catches by value is variable v
abbrev pub is_caught : ℕ → Ty → ℕ → Bool
is_caught v (Object k) n = n == v
is_caught v t n = false

-- In a statement, with what the rest of its block does, a reference is bound to variable v, or v is an object that is declared there. Here n is the
-- number of the next variable.
abbrev mutual
  pub statement_binds : Lowering → (v n : ℕ) → Statement → (rest : Bool) → Bool
  statement_binds l v n (block ss) rest = statements_bind l v n ss || rest
  statement_binds l v n empty rest = rest
  statement_binds l v n (if_else e s t) rest =
      (expression_binds l.program v e || (statement_binds l v n s false || else_binds l v (n + length (declared_in s)) t)) || rest
  statement_binds l v n (while e s) rest = (expression_binds l.program v e || statement_binds l v n s false) || rest
  statement_binds l v n (return place e) rest = value_binds l.program v e
  statement_binds l v n (break place) rest = false
  statement_binds l v n (continue place) rest = false
  statement_binds l v n (throw place e) rest = thrown_binds l v e
  statement_binds l v n (try ss hs) rest = (handlers_bind l v (n + length (all_declared_in ss)) hs || statements_bind l v n ss) || rest
  statement_binds l v n (assign names e) rest = expression_binds l.program v e || rest
  statement_binds l v n (evaluate e) rest = expression_binds l.program v e || rest
  statement_binds l v n (local_int x e) rest = value_binds l.program v e || rest
  statement_binds l v n (local_ref x names) rest = named_binds x.name (begins_at v names) || rest
  statement_binds l v n (local_object k x es) rest = ((local_number x.bound == v) || construction_binds l v (class_named k) es) || rest

  pub else_binds : Lowering → (v n : ℕ) → Else → Bool
  else_binds l v n no_else = false
  else_binds l v n (else_do s) = statement_binds l v n s false

  pub statements_bind : Lowering → (v n : ℕ) → Statements → Bool
  statements_bind l v n no_statements = false
  statements_bind l v n (statement_then s ss) = statement_binds l v n s (statements_bind l v (n + length (declared_in s)) ss)

  pub handlers_bind : Lowering → (v n : ℕ) → Handlers → Bool
  handlers_bind l v n no_handlers = false
  handlers_bind l v n (handler_then None x ss place hs) = statements_bind l v n ss || handlers_bind l v (n + length (all_declared_in ss)) hs
  handlers_bind l v n (handler_then (Some t) x ss place hs) =
      (is_caught v t n || statements_bind l v (n + 1) ss) || handlers_bind l v (n + 1 + length (all_declared_in ss)) hs

-- the initialisers of a constructor, for the parts from the i-th on
abbrev pub initialiser_binds : Lowering → ℕ → Option Expressions → ObjectType → Bool
initialiser_binds l v None t = false
initialiser_binds l v (Some no_expressions) int_type = false
initialiser_binds l v (Some (expression_then e es)) int_type = expression_binds l.program v e
initialiser_binds l v (Some es) (class_type c) = construction_binds l v c es

abbrev pub parts_bind : Lowering → ℕ → List Initialiser → ℕ → List ObjectType → Bool
parts_bind l v initialisers i [] = false
parts_bind l v initialisers i (t ∷ types) = initialiser_binds l v (initialiser_for l.program initialisers i) t || parts_bind l v initialisers (i + 1) types

abbrev pub initialisers_bind : Lowering → ℕ → FuncKind → ℕ → Function → Bool
initialisers_bind l v Constructor k f = parts_bind l v f.initialisers 0 (parts_of l.program k)
initialisers_bind l v kind k f = false

-- in a function, of class k if it is of a class
abbrev pub function_binds : Lowering → ℕ → ℕ → Function → Bool
function_binds l v k f = initialisers_bind l v f.kind k f || statements_bind l v (length f.parameters) (statements_in f.body)

abbrev pub is_int_type : Ty → Bool
is_int_type Int = true
is_int_type t = false

-- the slots of int variables, the first of which is variable v, to which a function binds no reference
abbrev pub unbound_ints : Lowering → ℕ → Function → ℕ → List Ty → List ℕ
unbound_ints l k f v [] = []
unbound_ints l k f v (t ∷ types) =
    if is_int_type t && not (function_binds l v k f) then (l.first_variable + v) ∷ unbound_ints l k f (v + 1) types else unbound_ints l k f (v + 1) types

-- these are the kept variables of its code
abbrev pub KeptVariablesAreUnbound : Type 0
KeptVariablesAreUnbound = (p : Checked) (layout : Layout) (is_member is_main : Bool) (k : ℕ) (f : Function) →
    kept_slots (function_code (declared_function p layout is_member is_main k f)) ≡ take 10 (unbound_ints (lowering p layout is_member (variables_of f)) k f 0 (variables_of f))
