-- How functions, types and variables of a source are numbered in regions.
use Rattle.std.specs.Prelude.{ℕ, zero, suc, ◌+◌, List, [], ◌∷◌, ◌++◌, map, take, length, Option, Some, None}
use Rattle.cxx_ast.specs.declared.name.Name.{Name}
use Rattle.cxx_ast.specs.declared.types.Ty.{Ty}
use Rattle.cxx_ast.specs.declared.types.Ty.TheVariants.{Int, Object}
use Rattle.cxx_ast.specs.Plain.{Checked, Class as ClassTree, Function, Statement, block, if_else, while, try, local_int, local_ref, local_object, Else, no_else, else_do, Statements, no_statements, statement_then, Handlers, no_handlers, handler_then}
use Rattle.meaning_forms.specs.Class.{ObjectType, int_type, class_type, class_at, class_named}
use Rattle.meaning_forms.specs.Running.{declared, implicit_default, implicit_copy, Callee, function, method, constructor, destructor}
use Rattle.meaning_forms.specs.Construct.{destructor_place}
use Rattle.region_forms.specs.Form.{TypeRow}

-- the sum of numbers
abbrev pub sum_of : List ℕ → ℕ
sum_of [] = 0
sum_of (n ∷ ns) = n + sum_of ns

-- Each class has its declared functions in order, then an implicit default constructor, an implicit copy constructor and an implicit
-- destructor. Those that the class declares itself are never called.
abbrev pub class_functions : ClassTree → ℕ
class_functions c = length c.functions + 3

-- the first function of class k: the program's own functions stand before those of the classes
abbrev pub first_function : Checked → ℕ → ℕ
first_function p k = length p.functions + sum_of (map class_functions (take k p.classes))

-- the first implicit function of class k
abbrev pub first_implicit : Checked → ℕ → ℕ
first_implicit p k = first_function p k + length (class_at p k).functions

-- the destructor of class k is declared at a place, or implicit
abbrev pub destructor_number : Checked → ℕ → Option ℕ → ℕ
destructor_number p k None = first_implicit p k + 2
destructor_number p k (Some i) = first_function p k + i

-- the number of what is called
abbrev pub number_of : Checked → Callee → ℕ
number_of p (function n) = n
number_of p (method k i) = first_function p k + i
number_of p (constructor k (declared i)) = first_function p k + i
number_of p (constructor k implicit_default) = first_implicit p k
number_of p (constructor k implicit_copy) = first_implicit p k + 1
number_of p (destructor k) = destructor_number p k (destructor_place p k)

-- the number of a type: int, then the classes in order
abbrev pub type_number : ObjectType → ℕ
type_number int_type = 0
type_number (class_type k) = k + 1

-- the destructor of an exception object; an int has none, and none is called for a bad_exception
abbrev pub destructor_of : Checked → ObjectType → Option ℕ
destructor_of p int_type = None
destructor_of p (class_type zero) = None
destructor_of p (class_type (suc k)) = Some (number_of p (destructor (suc k)))

-- the number of a base's type
abbrev pub base_number : Option Name → Option ℕ
base_number None = None
base_number (Some b) = Some (class_named b + 1)

-- the row of a class
abbrev pub class_row : ℕ → ClassTree → TypeRow
class_row kind c = record { kind = kind; name = c.name.text; base = base_number c.base }

-- class 0 is `std::bad_exception`
abbrev pub class_rows : List ClassTree → List TypeRow
class_rows [] = []
class_rows (c ∷ cs) = class_row 3 c ∷ map (class_row 2) cs

-- the row of int
abbrev pub int_row : TypeRow
int_row = record { kind = 1; name = 105 ∷ 110 ∷ 116 ∷ []; base = None }

-- the rows of a program's types, by number
abbrev pub type_rows : Checked → List TypeRow
type_rows p = int_row ∷ class_rows p.classes

-- the types of the variables that statements declare, in order; a handler's parameter counts, named or not
abbrev mutual
  pub declared_in : Statement → List Ty
  declared_in (block ss) = all_declared_in ss
  declared_in (if_else e s t) = declared_in s ++ declared_in_else t
  declared_in (while e s) = declared_in s
  declared_in (try ss hs) = all_declared_in ss ++ declared_in_handlers hs
  declared_in (local_int n e) = Int ∷ []
  declared_in (local_ref x names) = x.ty ∷ []
  declared_in (local_object k n es) = Object k ∷ []
  declared_in _ = []

  pub declared_in_else : Else → List Ty
  declared_in_else no_else = []
  declared_in_else (else_do s) = declared_in s

  pub all_declared_in : Statements → List Ty
  all_declared_in no_statements = []
  all_declared_in (statement_then s ss) = declared_in s ++ all_declared_in ss

  pub declared_in_handlers : Handlers → List Ty
  declared_in_handlers no_handlers = []
  declared_in_handlers (handler_then None n ss place hs) = all_declared_in ss ++ declared_in_handlers hs
  declared_in_handlers (handler_then (Some t) n ss place hs) = t ∷ (all_declared_in ss ++ declared_in_handlers hs)

-- the types of the variables that a body declares
abbrev pub declared_in_body : Option Statements → List Ty
declared_in_body None = []
declared_in_body (Some ss) = all_declared_in ss

-- the types of a function's variables in order of declaration, its parameters first
abbrev pub variables_of : Function → List Ty
variables_of f = map (λ x. x.ty) f.parameters ++ declared_in_body f.body
