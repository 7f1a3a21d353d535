-- The types that a program names: int, void and classes (ISO/IEC 14882:2003, 3.4.1, 7.1.5). A class's name has to be in reach, and to be that of a
-- class.
use Rattle.std.specs.Prelude.{ℕ, Bool, true, false, List, [], ◌∷◌, ◌++◌, map, flat_map, Option, Some, None, if◌then◌else◌}
use Rattle.cxx_ast.specs.declared.name.Name.{Name}
use Rattle.cxx_ast.specs.declared.types.Ty.{Ty}
use Rattle.cxx_ast.specs.declared.types.Ty.TheVariants.{Int, Void, Object, IntRef, ObjectRef}
use Rattle.cxx_ast.specs.declared.types.Param.{Param}
use Rattle.cxx_ast.specs.Plain.{Specification, listed, noexcept, Function, Statements}
use Rattle.cxx_ast.specs.Spelling.{is_bad_exception}
use Rattle.cxx_ast.specs.Environment.{Kind, int_kind, void_kind, class_kind, no_kind, Passing, Signature, Environment, Scope, Meaning, unknown, a_class}
use Rattle.cxx_ast.specs.Lookup.{look}
use Rattle.cxx_ast.specs.Rule.{unknown_name, type_mismatch}
use Rattle.cxx_ast.specs.Finding.{Finding, breaks}

-- the class that a meaning is
abbrev pub class_meant : Meaning → Kind
class_meant (a_class k) = class_kind k
class_meant _ = no_kind

-- what is broken where a class is needed
abbrev pub class_wanted : ℕ → Meaning → List Finding
class_wanted place unknown = breaks unknown_name place ∷ []
class_wanted place (a_class k) = []
class_wanted place _ = breaks type_mismatch place ∷ []

-- the class that a type's name stands for
abbrev pub class_of_name : Environment → Scope → Name → Kind
class_of_name env sc n = if is_bad_exception n then class_kind 0 else class_meant (look env sc n)

-- what a type's name breaks
abbrev pub class_found : Environment → Scope → Name → List Finding
class_found env sc n = if is_bad_exception n then [] else class_wanted n.place (look env sc n)

-- the type of what is declared so: of the object that a reference refers to
abbrev pub type_kind : Environment → Scope → Ty → Kind
type_kind env sc Int = int_kind
type_kind env sc Void = void_kind
type_kind env sc (Object n) = class_of_name env sc n
type_kind env sc (IntRef const) = int_kind
type_kind env sc (ObjectRef const n) = class_of_name env sc n

-- what a type breaks
abbrev pub type_found : Environment → Scope → Ty → List Finding
type_found env sc (Object n) = class_found env sc n
type_found env sc (ObjectRef const n) = class_found env sc n
type_found env sc _ = []

-- a type is that of a reference
abbrev pub is_reference : Ty → Bool
is_reference (IntRef const) = true
is_reference (ObjectRef const n) = true
is_reference _ = false

-- a type is that of a reference to const
abbrev pub is_const : Ty → Bool
is_const (IntRef const) = const
is_const (ObjectRef const n) = const
is_const _ = false

-- how a parameter takes its argument
abbrev pub passing : Environment → Scope → Param → Passing
passing env sc p = record { kind = type_kind env sc p.ty; is_reference = is_reference p.ty; is_const = is_const p.ty }

-- a body is there
abbrev pub has_body : Option Statements → Bool
has_body None = false
has_body (Some ss) = true

-- The types of what a function may throw, or none where it may throw all: so it may without a specification, and with `noexcept(false)`.
-- `noexcept` allows nothing, as `throw()` does (ISO/IEC 14882:2011, 15.4).
abbrev pub allowed_kinds : Environment → Scope → Option Specification → Option (List Kind)
allowed_kinds env sc None = None
allowed_kinds env sc (Some (listed types)) = Some (map (type_kind env sc) types)
allowed_kinds env sc (Some (noexcept place true)) = Some []
allowed_kinds env sc (Some (noexcept place false)) = None

-- a function as its callers see it
abbrev pub signature : Environment → Scope → Function → Signature
signature env sc f = record {
  name = f.name;
  form = f.kind;
  result = type_kind env sc f.result;
  parameters = map (passing env sc) f.parameters;
  allowed = allowed_kinds env sc f.specification;
  is_defined = has_body f.body;
}

-- what the types of a specification break
abbrev pub specification_found : Environment → Scope → Option Specification → List Finding
specification_found env sc None = []
specification_found env sc (Some (listed types)) = flat_map (type_found env sc) types
specification_found env sc (Some (noexcept place b)) = []

-- what the types of a function's head break
abbrev pub head_types_found : Environment → Scope → Function → List Finding
head_types_found env sc f = flat_map (λ p. type_found env sc p.ty) f.parameters ++ specification_found env sc f.specification
