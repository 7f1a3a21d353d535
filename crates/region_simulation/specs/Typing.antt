-- Expressions whose names stand for what they are used as.
use Rattle.std.specs.Prelude.{◌≡◌, ℕ, true, List, [], ◌∷◌, drop, length, Option, Some, None}
use Rattle.cxx_ast.specs.declared.name.Bound.{Bound}
use Rattle.cxx_ast.specs.declared.name.Bound.TheVariants.{Func, Method, Builtin as BuiltinBound}
use Rattle.cxx_ast.specs.declared.name.Builtin.{Builtin}
use Rattle.cxx_ast.specs.declared.name.Builtin.TheVariants.{WriteInt, ReadByte, Exit, Module, Cancel, Terminate, SetTerminate, SetUnexpected, Uncaught, BadException}
use Rattle.cxx_ast.specs.declared.name.Name.{Name}
use Rattle.cxx_ast.specs.declared.types.Ty.{Ty}
use Rattle.cxx_ast.specs.declared.types.Ty.TheVariants.{Int, Void, Object, IntRef, ObjectRef}
use Rattle.cxx_ast.specs.Plain.{Checked, Expression, number, path, paren, unary, binary, call, std_call, Expressions, no_expressions, expression_then}
use Rattle.meaning_forms.specs.Class.{ObjectType, int_type, class_type, class_named, derives}
use Rattle.meaning_forms.specs.Frame.{Variable}
use Rattle.meaning_forms.specs.Expression.{lvalue_of, names_of, count_of, function_named, callee_bound, receiver, parameter_types}
use Rattle.region_forms.specs.LowerExpression.{Lowering}
use Rattle.meaning_forms.specs.Running.{function, method}
use Rattle.region_simulation.specs.Calls.{IsCallable}
use Rattle.region_simulation.specs.Names.{AreNamed}
use Rattle.region_simulation.specs.Stands.{IsHandler}

-- names stand for an object of class k, or of one derived from it
abbrev pub AreOfClass : Lowering → (own : Option ℕ) → List Variable → ℕ → List Name → Type 0
AreOfClass l own xs k names = (s : ObjectType) × AreNamed l own xs names s × (derives l.program s (class_type k) ≡ true)

-- an expression can be passed for a parameter: for a reference it names what that can be bound to, and for an int its value is typed
abbrev pub CanPass : Lowering → (own : Option ℕ) → List Variable → List Ty → Expression → Type 0 → Type 0
CanPass l own xs (IntRef const ∷ types) e typed = AreNamed l own xs (names_of (lvalue_of e)) int_type
CanPass l own xs (ObjectRef const n ∷ types) e typed = AreOfClass l own xs (class_named n) (names_of (lvalue_of e))
CanPass l own xs (Void ∷ types) e typed = ⊥
CanPass l own xs (Object n ∷ types) e typed = ⊥
CanPass l own xs _ e typed = typed

-- how many arguments a function of the language takes; `std::bad_exception` gives no value
abbrev pub standard_count : Builtin → Option ℕ
standard_count WriteInt = Some 1
standard_count ReadByte = Some 0
standard_count Exit = Some 1
standard_count Module = Some 2
standard_count Cancel = Some 1
standard_count Terminate = Some 0
standard_count SetTerminate = Some 1
standard_count SetUnexpected = Some 1
standard_count Uncaught = Some 0
standard_count BadException = None

-- what is given to be set as a handler is one
abbrev pub GivesHandler : Checked → Builtin → Expressions → Type 0
GivesHandler p SetTerminate es = IsHandler p (function_named es)
GivesHandler p SetUnexpected es = IsHandler p (function_named es)
GivesHandler p _ es = Unit {0}

-- a function of the language with its arguments
abbrev pub IsStandard : Checked → Bound → Expressions → Type 0
IsStandard p (BuiltinBound f) es = (standard_count f ≡ Some (count_of es)) × GivesHandler p f es
IsStandard p _ es = ⊥

-- said of the arguments of a call, but of those that set a handler: the name of the function is not evaluated
abbrev pub UnlessHandler : Bound → Type 0 → Type 0
UnlessHandler (BuiltinBound SetTerminate) said = Unit {0}
UnlessHandler (BuiltinBound SetUnexpected) said = Unit {0}
UnlessHandler _ said = said

-- what a name is bound to can be called on the object that names stand for, with so many arguments
abbrev pub CanCall : Lowering → (own : Option ℕ) → List Variable → Bound → List Name → Expressions → Type 0
CanCall l own xs (Func n) object es = IsCallable l.program (function n) × (count_of es ≡ length (parameter_types l.program (Func n)))
CanCall l own xs (Method k i) object es =
    IsCallable l.program (method k i) × (count_of es ≡ length (parameter_types l.program (Method k i))) × AreOfClass l own xs k object
CanCall l own xs (BuiltinBound f) object es = IsStandard l.program (BuiltinBound f) es
CanCall l own xs _ object es = ⊥

-- each name that an expression reads names an int, and each call can be made
abbrev mutual
  pub IsTyped : Lowering → (own : Option ℕ) → List Variable → Expression → Type 0
  IsTyped l own xs (number v place) = Unit {0}
  IsTyped l own xs (path names) = AreNamed l own xs names int_type
  IsTyped l own xs (paren e place) = IsTyped l own xs e
  IsTyped l own xs (unary op e place) = IsTyped l own xs e
  IsTyped l own xs (binary op a b) = IsTyped l own xs a × IsTyped l own xs b
  IsTyped l own xs (call names es) =
      CanCall l own xs (callee_bound names) (receiver names) es ×
      UnlessHandler (callee_bound names) (AreTyped l own xs es (parameter_types l.program (callee_bound names)))
  IsTyped l own xs (std_call n es place) = IsStandard l.program n.bound es × UnlessHandler n.bound (AreTyped l own xs es [])

  -- arguments can be passed for parameters of these types
  pub AreTyped : Lowering → (own : Option ℕ) → List Variable → Expressions → List Ty → Type 0
  AreTyped l own xs no_expressions types = Unit {0}
  AreTyped l own xs (expression_then e es) types = CanPass l own xs types e (IsTyped l own xs e) × AreTyped l own xs es (drop 1 types)

-- the types that arguments are passed for: a built-in function takes ints
abbrev pub types_for : List Ty → Expressions → List Ty
types_for types no_expressions = []
types_for [] (expression_then e es) = Int ∷ types_for [] es
types_for (t ∷ types) (expression_then e es) = t ∷ types_for types es
