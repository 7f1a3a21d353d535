-- The specifications that count, where a program runs: `noexcept(false)` is none, and by ISO/IEC 14882:2011 a destructor that is declared without
-- one has one by those of the destructors of its class's base and members (12.4/3, 15.4/14). A class has only parts of classes before it.
use Rattle.std.specs.Prelude.{ℕ, ◌-◌, Bool, true, false, ◌||◌, ◌==◌, nat_lt, List, [], ◌∷◌, ◌++◌, map, length, Option, Some, None, slice_get, if◌then◌else◌}
use Rattle.cxx_ast.specs.declared.name.Bound.{Bound}
use Rattle.cxx_ast.specs.declared.name.Bound.TheVariants.{Class as ClassBound}
use Rattle.cxx_ast.specs.declared.name.Name.{Name}
use Rattle.cxx_ast.specs.declared.types.Ty.{Ty}
use Rattle.cxx_ast.specs.declared.types.Ty.TheVariants.{Int, Object}
use Rattle.cxx_ast.specs.declared.types.Param.{Param}
use Rattle.cxx_ast.specs.declared.declaration.FuncKind.{FuncKind}
use Rattle.cxx_ast.specs.declared.declaration.FuncKind.TheVariants.{Destructor}
use Rattle.cxx_ast.specs.declared.standard.Std.{Std}
use Rattle.cxx_ast.specs.declared.standard.Std.TheVariants.{Cxx03, Cxx11}
use Rattle.cxx_ast.specs.Plain.{Specification, listed, noexcept, Function, Class}
use Rattle.cxx_ast.specs.Limits.{most_taken}

-- what a destructor allows: the types listed, or all
abbrev pub Allowed : Type 0
Allowed = Option (List Ty)

-- what a specification allows
abbrev pub allowed_by : Option Specification → Allowed
allowed_by None = None
allowed_by (Some (listed types)) = Some types
allowed_by (Some (noexcept place true)) = Some []
allowed_by (Some (noexcept place false)) = None

-- two types that are listed are the same: int, or classes by their numbers
abbrev pub same_bound : Bound → Bound → Bool
same_bound (ClassBound j) (ClassBound k) = j == k
same_bound _ _ = false

abbrev pub same_listed : Ty → Ty → Bool
same_listed Int Int = true
same_listed (Object m) (Object n) = same_bound m.bound n.bound
same_listed _ _ = false

-- a list has a type
abbrev pub lists : List Ty → Ty → Bool
lists [] t = false
lists (u ∷ types) t = same_listed u t || lists types t

-- types behind others, each once
abbrev pub with_types : List Ty → List Ty → List Ty
with_types before [] = before
with_types before (t ∷ types) = with_types (if lists before t then before else before ++ t ∷ []) types

-- what all of some destructors allow, each type once in order; all where one allows all
abbrev pub allowed_together : List Ty → List Allowed → Allowed
allowed_together before [] = Some before
allowed_together before (None ∷ rest) = None
allowed_together before (Some types ∷ rest) = allowed_together (with_types before types) rest

-- the specification that a destructor takes over from what those of its class's parts allow together: none where that is all, or too many
-- types (profile), and else their list, or `noexcept` where that is empty
abbrev pub taken : Allowed → Option Specification
taken None = None
taken (Some []) = Some (noexcept 0 true)
taken (Some types) = if nat_lt most_taken (length types) then None else Some (listed types)

-- what the destructor of a class allows that a name is bound to, given those of the classes so far
abbrev pub allowed_of : List Allowed → Bound → List Allowed
allowed_of before (ClassBound k) = elim (slice_get before k) [ None ↦ [] | Some a ↦ a ∷ [] ]
allowed_of before _ = []

-- those of a class's base and of its members, in order
abbrev pub allowed_of_base : List Allowed → Option Name → List Allowed
allowed_of_base before None = []
allowed_of_base before (Some n) = allowed_of before n.bound

abbrev pub allowed_of_members : List Allowed → List Param → List Allowed
allowed_of_members before [] = []
allowed_of_members before (p ∷ ps) = elim p.ty [ Object n ↦ allowed_of before n.bound | _ ↦ [] ] ++ allowed_of_members before ps

-- the specification of a class's destructor that is implicit, or declared without one
abbrev pub given : Std → List Allowed → Class → Option Specification
given Cxx03 before c = None
given Cxx11 before c = taken (allowed_together [] (allowed_of_base before c.base ++ allowed_of_members before c.members))

-- the specification that counts, of a function whose class's destructor is given one so
abbrev pub settled : Option Specification → FuncKind → Option Specification → Option Specification
settled own kind None = elim kind [ Destructor ↦ own | _ ↦ None ]
settled own kind (Some (listed types)) = Some (listed types)
settled own kind (Some (noexcept place true)) = Some (noexcept place true)
settled own kind (Some (noexcept place false)) = None

-- a function
abbrev pub settle_function : Option Specification → Function → Function
settle_function own f = record f { specification = settled own f.kind f.specification }

-- a class
abbrev pub settle_class : Option Specification → Class → Class
settle_class own c = record c { functions = map (settle_function own) c.functions }

-- what the destructor of a class allows, declared or not
abbrev pub destructor_of : Option Specification → List Function → Option Specification
destructor_of own [] = own
destructor_of own (f ∷ fs) = elim f.kind [ Destructor ↦ settled own Destructor f.specification | _ ↦ destructor_of own fs ]

-- classes behind those whose destructors allow this
abbrev pub settle_classes : Std → List Allowed → List Class → List Class
settle_classes std before [] = []
settle_classes std before (c ∷ cs) =
    settle_class (given std before c) c ∷ settle_classes std (before ++ allowed_by (destructor_of (given std before c) c.functions) ∷ []) cs

-- how many types a specification lists, beyond those that a destructor may take over
abbrev pub excess : Option Specification → ℕ
excess None = 0
excess (Some (listed types)) = length types - most_taken
excess (Some (noexcept place b)) = 0
