-- How expressions are lowered. A call stands alone in an operation that stores its value in a slot of its own, or in the place that an
-- expression that is nothing but a call is stored in; what was computed before a call is stored before it, so operands and arguments are
-- evaluated left to right (profile). What is left is a value without calls.
use Rattle.std.specs.Prelude.{ℕ, ◌+◌, pos, Bool, true, false, ◌||◌, List, [], ◌∷◌, ◌++◌, drop, length, Option, Some, None, slice_get, unwrap_or, if◌then◌else◌}
use Rattle.cxx_ast.specs.declared.name.Bound.{Bound}
use Rattle.cxx_ast.specs.declared.name.Bound.TheVariants.{Global, Local, Field, Func, Method, Builtin as BuiltinBound}
use Rattle.cxx_ast.specs.declared.name.Builtin.TheVariants.{SetTerminate, SetUnexpected}
use Rattle.cxx_ast.specs.declared.name.Name.{Name}
use Rattle.cxx_ast.specs.declared.types.Ty.{Ty}
use Rattle.cxx_ast.specs.declared.types.Ty.TheVariants.{Int, IntRef, ObjectRef}
use Rattle.cxx_ast.specs.declared.expression.BinaryOp.{BinaryOp}
use Rattle.cxx_ast.specs.declared.expression.BinaryOp.TheVariants.{And, Or, NotEqual}
use Rattle.cxx_ast.specs.Plain.{Checked, Expression, number, path, paren, unary, binary, call, std_call, Expressions, no_expressions, expression_then}
use Rattle.meaning_forms.specs.Class.{ObjectType, int_type, class_type, class_at, object_type, derives}
use Rattle.meaning_forms.specs.Running.{Constructor, method, constructor}
use Rattle.meaning_forms.specs.Construct.{constructor_for, copy_constructor}
use Rattle.meaning_forms.specs.Expression.{lvalue_of, names_of, count_of, callee_bound, receiver, parameter_types, constructor_types, is_reference, function_named}
use Rattle.region_forms.specs.Form.{Root, in_slot, through, in_global, Place, Callee, defined, builtin, Value, number as number_value, load, unary as unary_value, binary as binary_value, call_value, Argument, int_argument, address_argument, handler_argument, arguments_from, store, evaluate, construct, call as call_only, Region, op, branch, in_order}
use Rattle.region_forms.specs.Layout.{Layout, laid_member}
use Rattle.region_forms.specs.Numbering.{number_of}

-- What a function's lowering is given: the program and its layout, the types of the function's variables, and the slot of its first
-- variable, which is 1 behind the address of a member function's own object and else 0.
pub record Lowering : Type 0 where
  pub program : Checked
  pub layout : Layout
  pub variables : List Ty
  pub first_variable : ℕ

-- the slots behind the variables: the result, an exception object's address, and the first of those for values between calls
abbrev pub result_slot : Lowering → ℕ
result_slot l = l.first_variable + length l.variables

-- the slot of an exception object's address
abbrev pub exception_slot : Lowering → ℕ
exception_slot l = result_slot l + 1

-- the first of the slots for values between calls
abbrev pub first_temporary : Lowering → ℕ
first_temporary l = result_slot l + 2

-- a place at the beginning of a slot, or of what a slot's address names
abbrev pub slot_place : ℕ → Place
slot_place s = record { root = in_slot s; offset = 0 }

-- a place so many bytes behind the address that a slot holds
abbrev pub through_place : ℕ → ℕ → Place
through_place s n = record { root = through s; offset = n }

-- the type of the n-th variable
abbrev pub variable_type : Lowering → ℕ → Ty
variable_type l n = unwrap_or (slice_get l.variables n) Int

-- a reference's slot holds an address
abbrev pub variable_root : Ty → ℕ → Root
variable_root (IntRef const) s = through s
variable_root (ObjectRef const k) s = through s
variable_root _ s = in_slot s

-- the type of the i-th member of class k
abbrev pub member_type : Checked → ℕ → ℕ → ObjectType
member_type p k i = elim (slice_get (class_at p k).members i) [ None ↦ int_type | Some x ↦ object_type x.ty ]

-- the place of what a name names by itself: a member is one of the own object
abbrev pub named_place : Lowering → Bound → Place
named_place l (Global g) = record { root = in_global g; offset = 0 }
named_place l (Local n) = record { root = variable_root (variable_type l n) (l.first_variable + n); offset = 0 }
named_place l (Field k i) = through_place 0 (laid_member l.layout k i)
named_place l _ = through_place 0 0

-- a member lies so far behind its object; a base lies at its beginning
abbrev pub members_offset : Lowering → List Name → ℕ
members_offset l [] = 0
members_offset l (n ∷ ns) = elim n.bound [ Field k i ↦ laid_member l.layout k i + members_offset l ns | _ ↦ members_offset l ns ]

-- the place of `a.b.c`; with no name at all, the own object
abbrev pub place_of : Lowering → List Name → Place
place_of l [] = through_place 0 0
place_of l (n ∷ ns) = record { root = (named_place l n.bound).root; offset = (named_place l n.bound).offset + members_offset l ns }

-- the type of what a name names
abbrev pub named_type : Lowering → Bound → ObjectType
named_type l (Local n) = object_type (variable_type l n)
named_type l (Field k i) = member_type l.program k i
named_type l _ = int_type

-- the type of `a.b.c` is that of its last name
abbrev pub lvalue_type : Lowering → List Name → ObjectType
lvalue_type l names = named_type l (callee_bound names)

-- the constructor of class k for arguments
abbrev pub copies : Lowering → ℕ → Option (List Name) → Bool
copies l k None = false
copies l k (Some names) = derives l.program (lvalue_type l names) (class_type k)

-- a single argument of the class, or of one derived from it, selects the copy constructor, and else their number selects
abbrev pub constructor_chosen : Lowering → ℕ → Expressions → Constructor
constructor_chosen l k (expression_then e no_expressions) =
    if copies l k (lvalue_of e) then copy_constructor l.program k else constructor_for l.program k 1
constructor_chosen l k es = constructor_for l.program k (count_of es)

-- an expression makes a call
abbrev mutual
  pub has_call : Expression → Bool
  has_call (number v place) = false
  has_call (path names) = false
  has_call (paren e place) = has_call e
  has_call (unary o e place) = has_call e
  has_call (binary o a b) = has_call a || has_call b
  has_call (call names es) = true
  has_call (std_call n es place) = true

  pub some_call : Expressions → Bool
  some_call no_expressions = false
  some_call (expression_then e es) = has_call e || some_call es

-- what comes before, the value, and the first slot that is free behind it
pub record Lowered : Type 0 where
  pub before : List Region
  pub value : Value
  pub next : ℕ

-- what comes before arguments, the arguments, and the first slot that is free behind them
pub record LoweredArguments : Type 0 where
  pub before : List Region
  pub arguments : List Argument
  pub next : ℕ

-- a call with what comes before it
pub record LoweredCall : Type 0 where
  pub before : List Region
  pub callee : Callee
  pub arguments : List Argument

-- a value is stored in a slot
abbrev pub stored_in : ℕ → Value → Region
stored_in t v = op (store (slot_place t) v)

-- the value in a slot
abbrev pub in_temporary : List Region → ℕ → Lowered
in_temporary before t = record { before = before; value = load (slot_place t); next = t + 1 }

-- 1 where a value is not 0
abbrev pub truth_of : Value → Value
truth_of v = binary_value NotEqual v (number_value (pos 0))

-- `&&` and `||` whose right side makes calls evaluate it only where it decides
abbrev pub if_true : ℕ → Lowered → Lowered → Lowered
if_true t a b = in_temporary (a.before ++ branch a.value
    (in_order (b.before ++ stored_in t (truth_of b.value) ∷ []))
    (in_order (stored_in t (number_value (pos 0)) ∷ [])) ∷ []) t

-- the right side of `||` is evaluated where the left is false
abbrev pub if_false : ℕ → Lowered → Lowered → Lowered
if_false t a b = in_temporary (a.before ++ branch a.value
    (in_order (stored_in t (number_value (pos 1)) ∷ []))
    (in_order (b.before ++ stored_in t (truth_of b.value) ∷ [])) ∷ []) t

-- the left side is stored before the calls of the right side
abbrev pub left_stored : BinaryOp → ℕ → Lowered → Lowered → Lowered
left_stored o t a b = record {
  before = a.before ++ stored_in t a.value ∷ b.before;
  value = binary_value o (load (slot_place t)) b.value;
  next = b.next;
}

-- two operands: where the right side makes no calls, nothing has to be stored between them
abbrev pub both : BinaryOp → Bool → ℕ → Lowered → (ℕ → Lowered) → Lowered
both o false t a b = record { before = a.before; value = binary_value o a.value (b a.next).value; next = a.next }
both And true t a b = if_true t a (b t)
both Or true t a b = if_false t a (b t)
both o true t a b = left_stored o t a (b (t + 1))

-- the function of a call; a member function gets its object's address first
abbrev pub receiver_argument : Lowering → Bound → List Name → List Argument
receiver_argument l (Method k i) object = address_argument (place_of l object) ∷ []
receiver_argument l _ object = []

-- what is called by a name's binding
abbrev pub callee_of : Lowering → Bound → Callee
callee_of l (Func n) = defined n
callee_of l (Method k i) = defined (number_of l.program (method k i))
callee_of l (BuiltinBound b) = builtin b
callee_of l _ = defined 0

-- the function that is given, if one is named
abbrev pub handler_arguments : Option ℕ → List Argument
handler_arguments None = []
handler_arguments (Some n) = handler_argument n ∷ []

-- the function given to set_terminate or set_unexpected is not evaluated
abbrev pub given_arguments : Bound → Expressions → LoweredArguments → List Argument
given_arguments (BuiltinBound SetTerminate) es given = handler_arguments (function_named es)
given_arguments (BuiltinBound SetUnexpected) es given = handler_arguments (function_named es)
given_arguments _ es given = given.arguments

-- what comes before the arguments of a call
abbrev pub given_before : Bound → LoweredArguments → List Region
given_before (BuiltinBound SetTerminate) given = []
given_before (BuiltinBound SetUnexpected) given = []
given_before _ given = given.before

-- a call by its binding, the names of its object, and its arguments
abbrev pub call_of : Lowering → Bound → List Name → Expressions → LoweredArguments → LoweredCall
call_of l b object es given = record {
  before = given_before b given;
  callee = callee_of l b;
  arguments = receiver_argument l b object ++ given_arguments b es given;
}

-- a call's value is stored in a slot
abbrev pub call_stored : ℕ → LoweredCall → Lowered
call_stored t c = in_temporary (c.before ++ stored_in t (call_value c.callee (arguments_from c.arguments)) ∷ []) t

-- a call's value is stored in a place by the operation that makes the call
abbrev pub call_placed : Place → LoweredCall → List Region
call_placed p c = c.before ++ op (store p (call_value c.callee (arguments_from c.arguments))) ∷ []

-- a call's value is dropped
abbrev pub call_dropped : LoweredCall → List Region
call_dropped c = c.before ++ op (call_only c.callee (arguments_from c.arguments)) ∷ []

-- an argument with those behind it: an int is stored where they make calls
abbrev pub int_passed : Bool → ℕ → Lowered → (ℕ → LoweredArguments) → LoweredArguments
int_passed false t a rest = record { before = a.before; arguments = int_argument a.value ∷ (rest a.next).arguments; next = (rest a.next).next }
int_passed true t a rest = record {
  before = a.before ++ stored_in t a.value ∷ (rest (t + 1)).before;
  arguments = int_argument (load (slot_place t)) ∷ (rest (t + 1)).arguments;
  next = (rest (t + 1)).next;
}

-- an argument for a reference is the address of a place
abbrev pub address_passed : Place → LoweredArguments → LoweredArguments
address_passed p rest = record { before = rest.before; arguments = address_argument p ∷ rest.arguments; next = rest.next }

-- the first parameter is a reference
abbrev pub refers : List Ty → Bool
refers [] = false
refers (t ∷ types) = is_reference t

abbrev mutual
  -- the slots from t on are free
  pub lower : Lowering → Expression → ℕ → Lowered
  lower l (number v place) t = record { before = []; value = number_value v; next = t }
  lower l (path names) t = record { before = []; value = load (place_of l names); next = t }
  lower l (paren e place) t = lower l e t
  lower l (unary o e place) t =
      record { before = (lower l e t).before; value = unary_value o (lower l e t).value; next = (lower l e t).next }
  lower l (binary o a b) t = both o (has_call b) t (lower l a t) (λ u. lower l b u)
  lower l (call names es) t =
      call_stored t (call_of l (callee_bound names) (receiver names) es (lower_arguments l es (parameter_types l.program (callee_bound names)) t))
  lower l (std_call n es place) t = call_stored t (call_of l n.bound [] es (lower_arguments l es [] t))

  pub lower_arguments : Lowering → Expressions → List Ty → ℕ → LoweredArguments
  lower_arguments l no_expressions types t = record { before = []; arguments = []; next = t }
  lower_arguments l (expression_then e es) types t =
      if refers types
      then address_passed (place_of l (names_of (lvalue_of e))) (lower_arguments l es (drop 1 types) t)
      else int_passed (some_call es) t (lower l e t) (λ u. lower_arguments l es (drop 1 types) u)

-- an expression that is evaluated for its effects alone: it computes a value, or it makes a call whose value is dropped
abbrev pub dropped : Lowering → Expression → ℕ → List Region
dropped l (call names es) t =
    call_dropped (call_of l (callee_bound names) (receiver names) es (lower_arguments l es (parameter_types l.program (callee_bound names)) t))
dropped l (std_call n es place) t = call_dropped (call_of l n.bound [] es (lower_arguments l es [] t))
dropped l (paren e place) t = dropped l e t
dropped l e t = (lower l e t).before ++ op (evaluate (lower l e t).value) ∷ []

-- an expression's value is stored in a place; where the expression is a call, its value goes there at once
abbrev pub lower_store : Lowering → Expression → Place → ℕ → List Region
lower_store l (call names es) p t =
    call_placed p (call_of l (callee_bound names) (receiver names) es (lower_arguments l es (parameter_types l.program (callee_bound names)) t))
lower_store l (std_call n es place) p t = call_placed p (call_of l n.bound [] es (lower_arguments l es [] t))
lower_store l (paren e place) p t = lower_store l e p t
lower_store l e p t = (lower l e t).before ++ op (store p (lower l e t).value) ∷ []

-- an object of class k is built in a place
abbrev pub constructed : ℕ → Place → LoweredArguments → List Region
constructed n p given = given.before ++ op (construct p n (arguments_from given.arguments)) ∷ []

-- an object of class k is built in a place by the constructor that its arguments select
abbrev pub lower_construct : Lowering → ℕ → Expressions → Place → ℕ → List Region
lower_construct l k es p t =
    constructed (number_of l.program (constructor k (constructor_chosen l k es))) p
    (lower_arguments l es (constructor_types l.program k (constructor_chosen l k es)) t)
