-- Classes: their parts and their bases.
use Rattle.std.specs.Prelude.{ℕ, zero, suc, ◌+◌, Bool, true, false, ◌||◌, ◌==◌, List, [], ◌∷◌, ◌++◌, map, length, Option, Some, None, slice_get, unwrap_or}
use Rattle.cxx_ast.specs.declared.name.Bound.{Bound}
use Rattle.cxx_ast.specs.declared.name.Bound.TheVariants.{Free, Class}
use Rattle.cxx_ast.specs.declared.name.Name.{Name}
use Rattle.cxx_ast.specs.declared.types.Ty.{Ty}
use Rattle.cxx_ast.specs.declared.types.Ty.TheVariants.{Void, Object, ObjectRef}
use Rattle.cxx_ast.specs.declared.declaration.FuncKind.TheVariants.{Plain}
use Rattle.cxx_ast.specs.declared.types.Param.{Param}
use Rattle.cxx_ast.specs.Plain.{Class as ClassTree, Function, Checked}

-- the type of an object: int, or a class by its number
pub data ObjectType : Type 0 where
  int_type : ObjectType
  class_type : ℕ → ObjectType

-- some item of a list passes a test
abbrev pub some_of : {A : Type 0} → (A → Bool) → List A → Bool
some_of test [] = false
some_of test (x ∷ xs) = test x || some_of test xs

-- a list of numbers holds a number
abbrev pub contains : List ℕ → ℕ → Bool
contains ns n = some_of (λ m. m == n) ns

-- the class that a name is bound to; `std::bad_exception` is class 0
abbrev pub class_bound : Bound → ℕ
class_bound (Class k) = k
class_bound _ = 0

-- the class that a name stands for
abbrev pub class_named : Name → ℕ
class_named n = class_bound n.bound

-- the type of the object that a variable of this type holds or refers to
abbrev pub object_type : Ty → ObjectType
object_type (Object n) = class_type (class_named n)
object_type (ObjectRef const n) = class_type (class_named n)
object_type _ = int_type

-- what stands for a class that is not there; a checked program names none
abbrev pub no_class : ClassTree
no_class = record { name = record { text = []; place = 0; bound = Free }; base = None; members = []; functions = [] }

-- what stands for a function that is not there; a checked program names none
abbrev pub no_function : Function
no_function = record {
  name = record { text = []; place = 0; bound = Free };
  kind = Plain;
  result = Void;
  parameters = [];
  specification = None;
  initialisers = [];
  body = None;
  tokens = 0;
}

-- the class with a number
abbrev pub class_at : Checked → ℕ → ClassTree
class_at p k = unwrap_or (slice_get p.classes k) no_class

-- the function with a number
abbrev pub function_at : Checked → ℕ → Function
function_at p n = unwrap_or (slice_get p.functions n) no_function

-- the i-th function that class k declares
abbrev pub method_at : Checked → ℕ → ℕ → Function
method_at p k i = unwrap_or (slice_get (class_at p k).functions i) no_function

-- a class and its chain of bases, at most n of them
abbrev pub chain_of_bases : ℕ → Checked → ℕ → List ℕ
chain_of_bases zero p k = []
chain_of_bases (suc n) p k = k ∷ elim (class_at p k).base [ None ↦ [] | Some b ↦ chain_of_bases n p (class_named b) ]

-- `derives p t u`: u is t, or stands in t's chain of bases; int derives from int alone
abbrev pub derives : Checked → ObjectType → ObjectType → Bool
derives p int_type int_type = true
derives p (class_type k) (class_type b) = contains (chain_of_bases (length p.classes) p k) b
derives p _ _ = false

-- the base of a class as a part of it
abbrev pub base_part : Option Name → List ObjectType
base_part None = []
base_part (Some b) = class_type (class_named b) ∷ []

-- a member of a class as a part of it
abbrev pub member_part : Param → ObjectType
member_part m = object_type m.ty

-- the parts of a class in the order of construction: the base, then the members in order of declaration
abbrev pub parts_of : Checked → ℕ → List ObjectType
parts_of p k = base_part (class_at p k).base ++ map member_part (class_at p k).members

-- the place of the i-th member among the parts of class k
abbrev pub member_place : Checked → ℕ → ℕ → ℕ
member_place p k i = length (base_part (class_at p k).base) + i
