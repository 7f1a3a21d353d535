-- Statements whose names stand for what they are used as, and whose variables are numbered in order of declaration.
use Rattle.std.specs.Prelude.{◌≡◌, ℕ, ◌+◌, ◌<◌, ◌≤◌, Bool, true, false, List, ◌∷◌, length, Option, Some, None}
use Rattle.cxx_ast.specs.declared.name.Bound.{Bound}
use Rattle.cxx_ast.specs.declared.name.Bound.TheVariants.{Class, Builtin as BuiltinBound}
use Rattle.cxx_ast.specs.declared.name.Builtin.TheVariants.{BadException}
use Rattle.cxx_ast.specs.declared.name.Name.{Name}
use Rattle.cxx_ast.specs.declared.types.Ty.{Ty}
use Rattle.cxx_ast.specs.declared.types.Ty.TheVariants.{Int, Void, Object, IntRef, ObjectRef}
use Rattle.cxx_ast.specs.Plain.{Checked, Expression, call, std_call, Expressions, expression_then, no_expressions, Statement, block, empty, if_else, while, return, break, continue, throw, try, assign, evaluate, local_int, local_ref, local_object, Else, no_else, else_do, Statements, no_statements, statement_then, Handlers, no_handlers, handler_then}
use Rattle.meaning_forms.specs.Class.{ObjectType, int_type, class_type, class_named}
use Rattle.meaning_forms.specs.World.{Reference}
use Rattle.meaning_forms.specs.Construct.{copy_constructor}
use Rattle.meaning_forms.specs.Frame.{Variable, local_number}
use Rattle.meaning_forms.specs.Running.{constructor}
use Rattle.meaning_forms.specs.Expression.{lvalue_of, count_of, callee_bound, constructor_types}
use Rattle.region_forms.specs.Numbering.{declared_in, all_declared_in}
use Rattle.region_forms.specs.LowerExpression.{Lowering, variable_type, lvalue_type, constructor_chosen}
use Rattle.region_simulation.specs.Calls.{IsCallable}
use Rattle.region_simulation.specs.Names.{AreNamed}
use Rattle.region_simulation.specs.Typing.{AreOfClass, IsTyped, AreTyped}

-- the number of a name, if there is one
abbrev pub HasNumber : Option Name → ℕ → Type 0
HasNumber None n = Unit {0}
HasNumber (Some x) n = local_number x.bound ≡ n

-- the n-th variable of a function is declared, with a type
pub record DeclaresNext (l : Lowering) (n : ℕ) (x : Option Name) (t : Ty) : Type 0 where
  pub numbered : HasNumber x n
  pub there : n < length l.variables
  pub typed : variable_type l n ≡ t

-- the variables in reach behind a declaration
abbrev pub declared_to : Option Name → Reference → List Variable → List Variable
declared_to None r xs = xs
declared_to (Some x) r xs = record { number = local_number x.bound; reference = r } ∷ xs

-- names stand for what a reference of a type can be bound to
abbrev pub CanBind : Lowering → (own : Option ℕ) → List Variable → Ty → List Name → Type 0
CanBind l own xs (IntRef const) names = AreNamed l own xs names int_type
CanBind l own xs (ObjectRef const k) names = AreOfClass l own xs (class_named k) names
CanBind l own xs _ names = ⊥

-- objects of class k can be copied
abbrev pub CanCopy : Checked → ℕ → Type 0
CanCopy p k = IsCallable p (constructor k (copy_constructor p k))

-- a single argument that names something decides by its type which constructor is called
abbrev pub DecidesByType : Lowering → (own : Option ℕ) → List Variable → Option (List Name) → Type 0
DecidesByType l own xs None = Unit {0}
DecidesByType l own xs (Some names) = AreNamed l own xs names (lvalue_type l names)

abbrev pub DecidesAlone : Lowering → (own : Option ℕ) → List Variable → Expressions → Type 0
DecidesAlone l own xs (expression_then e no_expressions) = DecidesByType l own xs (lvalue_of e)
DecidesAlone l own xs es = Unit {0}

-- an object of class k can be built from arguments
pub record CanConstruct (l : Lowering) (own : Option ℕ) (xs : List Variable) (k : ℕ) (es : Expressions) : Type 0 where
  pub there : k < length l.program.classes
  pub callable : IsCallable l.program (constructor k (constructor_chosen l k es))
  pub counted : count_of es ≡ length (constructor_types l.program k (constructor_chosen l k es))
  pub typed : AreTyped l own xs es (constructor_types l.program k (constructor_chosen l k es))
  pub decided : DecidesAlone l own xs es

-- the operand of a throw names what can be copied, or its value is typed
abbrev pub PartCanBeThrown : Lowering → (own : Option ℕ) → List Variable → Expression → List Name → ObjectType → Type 0
PartCanBeThrown l own xs e names int_type = IsTyped l own xs e
PartCanBeThrown l own xs e names (class_type k) = AreNamed l own xs names (class_type k) × CanCopy l.program k

abbrev pub LvalueCanBeThrown : Lowering → (own : Option ℕ) → List Variable → Expression → Option (List Name) → Type 0
LvalueCanBeThrown l own xs e None = IsTyped l own xs e
LvalueCanBeThrown l own xs e (Some names) = AreNamed l own xs names (lvalue_type l names) × PartCanBeThrown l own xs e names (lvalue_type l names)

-- the operand is a call: that of a class's name builds an object
abbrev pub CallCanBeThrown : Lowering → (own : Option ℕ) → List Variable → Bound → Expression → Expressions → Type 0
CallCanBeThrown l own xs (Class k) e es = CanConstruct l own xs k es
CallCanBeThrown l own xs (BuiltinBound BadException) e es = CanConstruct l own xs 0 es
CallCanBeThrown l own xs _ e es = IsTyped l own xs e

-- the operand of a throw, and a throw with one or none
abbrev pub CanBeThrown : Lowering → (own : Option ℕ) → List Variable → Expression → Type 0
CanBeThrown l own xs (call names es) = CallCanBeThrown l own xs (callee_bound names) (call names es) es
CanBeThrown l own xs (std_call n es place) = CallCanBeThrown l own xs n.bound (std_call n es place) es
CanBeThrown l own xs e = LvalueCanBeThrown l own xs e (lvalue_of e)

abbrev pub CanThrow : Lowering → (own : Option ℕ) → List Variable → Option Expression → Type 0
CanThrow l own xs None = Unit {0}
CanThrow l own xs (Some e) = CanBeThrown l own xs e

-- a handler's parameter of a type
abbrev pub CanCatch : Checked → Ty → Type 0
CanCatch p Int = Unit {0}
CanCatch p Void = ⊥
CanCatch p (Object k) = (class_named k < length p.classes) × CanCopy p (class_named k)
CanCatch p (IntRef const) = Unit {0}
CanCatch p (ObjectRef const k) = class_named k < length p.classes

-- a value is returned where the function gives one, and only there
abbrev pub CanReturn : Lowering → (own : Option ℕ) → (gives : Bool) → List Variable → Option Expression → Type 0
CanReturn l own gives xs None = gives ≡ false
CanReturn l own gives xs (Some e) = (gives ≡ true) × IsTyped l own xs e

-- a value, if there is one
abbrev pub IsTypedIfThere : Lowering → (own : Option ℕ) → List Variable → Option Expression → Type 0
IsTypedIfThere l own xs None = Unit {0}
IsTypedIfThere l own xs (Some e) = IsTyped l own xs e

-- Statements are typed where variables are in reach and the n-th is the next to be declared. Of the rest of a block it is said with each
-- variable that the statement declares, whatever that stands for.
abbrev mutual
  pub IsTypedStatement : Lowering → (own : Option ℕ) → (gives : Bool) → Statement → (List Variable → Type 0) → List Variable → ℕ → Type 0
  IsTypedStatement l own gives (block ss) rest xs n = AreTypedStatements l own gives ss xs n × rest xs
  IsTypedStatement l own gives empty rest xs n = rest xs
  IsTypedStatement l own gives (if_else e s t) rest xs n =
      IsTyped l own xs e × IsTypedStatement l own gives s (λ ys. Unit {0}) xs n × IsTypedElse l own gives t xs (n + length (declared_in s)) × rest xs
  IsTypedStatement l own gives (while e s) rest xs n = IsTyped l own xs e × IsTypedStatement l own gives s (λ ys. Unit {0}) xs n × rest xs
  IsTypedStatement l own gives (return place e) rest xs n = CanReturn l own gives xs e
  IsTypedStatement l own gives (break place) rest xs n = Unit {0}
  IsTypedStatement l own gives (continue place) rest xs n = Unit {0}
  IsTypedStatement l own gives (throw place e) rest xs n = CanThrow l own xs e
  IsTypedStatement l own gives (try ss hs) rest xs n =
      AreTypedStatements l own gives ss xs n × AreTypedHandlers l own gives hs xs (n + length (all_declared_in ss)) × rest xs
  IsTypedStatement l own gives (assign names e) rest xs n = AreNamed l own xs names int_type × IsTyped l own xs e × rest xs
  IsTypedStatement l own gives (evaluate e) rest xs n = IsTyped l own xs e × rest xs
  IsTypedStatement l own gives (local_int x e) rest xs n =
      DeclaresNext l n (Some x) Int × IsTypedIfThere l own xs e × ((r : Reference) → rest (declared_to (Some x) r xs))
  IsTypedStatement l own gives (local_ref x names) rest xs n =
      DeclaresNext l n x.name x.ty × CanBind l own xs x.ty names × ((r : Reference) → rest (declared_to x.name r xs))
  IsTypedStatement l own gives (local_object k x es) rest xs n =
      DeclaresNext l n (Some x) (Object k) × CanConstruct l own xs (class_named k) es × ((r : Reference) → rest (declared_to (Some x) r xs))

  pub IsTypedElse : Lowering → (own : Option ℕ) → (gives : Bool) → Else → List Variable → ℕ → Type 0
  IsTypedElse l own gives no_else xs n = Unit {0}
  IsTypedElse l own gives (else_do s) xs n = (n ≤ length l.variables) × IsTypedStatement l own gives s (λ ys. Unit {0}) xs n

  pub AreTypedStatements : Lowering → (own : Option ℕ) → (gives : Bool) → Statements → List Variable → ℕ → Type 0
  AreTypedStatements l own gives no_statements xs n = n ≤ length l.variables
  AreTypedStatements l own gives (statement_then s ss) xs n =
      (n ≤ length l.variables) × IsTypedStatement l own gives s (λ ys. AreTypedStatements l own gives ss ys (n + length (declared_in s))) xs n

  -- a handler for all exceptions has no parameter; the parameter of any other is its first variable, named or not
  pub AreTypedHandlers : Lowering → (own : Option ℕ) → (gives : Bool) → Handlers → List Variable → ℕ → Type 0
  AreTypedHandlers l own gives no_handlers xs n = Unit {0}
  AreTypedHandlers l own gives (handler_then None x ss place hs) xs n =
      (x ≡ None) × AreTypedStatements l own gives ss xs n × AreTypedHandlers l own gives hs xs (n + length (all_declared_in ss))
  AreTypedHandlers l own gives (handler_then (Some t) x ss place hs) xs n =
      DeclaresNext l n x t × CanCatch l.program t × ((r : Reference) → AreTypedStatements l own gives ss (declared_to x r xs) (n + 1)) ×
      AreTypedHandlers l own gives hs xs (n + 1 + length (all_declared_in ss))
