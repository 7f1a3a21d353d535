-- What is broken in functions: in their parameters (ISO/IEC 14882:2003, 3.3.2, 8.3.5), in the initialisers of a constructor, with the parts that it
-- leaves to their default constructors (12.6.2), in their bodies, and by their sizes (profile).
use Rattle.std.specs.Prelude.{ℕ, Bool, false, not, ◌&&◌, ◌||◌, nat_lt, List, [], ◌∷◌, ◌++◌, bytes_eq, Option, Some, None, slice_get, if◌then◌else◌}
use Rattle.cxx_ast.specs.declared.name.Bound.TheVariants.{Free}
use Rattle.cxx_ast.specs.declared.types.Param.{Param}
use Rattle.cxx_ast.specs.declared.declaration.FuncKind.{FuncKind}
use Rattle.cxx_ast.specs.declared.declaration.FuncKind.TheVariants.{Constructor}
use Rattle.cxx_ast.specs.Plain.{Statements, Initialiser, Function}
use Rattle.cxx_ast.specs.Environment.{Kind, int_kind, class_kind, Field, ClassEntry, Environment, Scope}
use Rattle.cxx_ast.specs.Rule.{redeclared, arity, frame_too_large, function_too_long, no_default, initialiser_list}
use Rattle.cxx_ast.specs.Limits.{most_function_tokens, most_variable_bytes}
use Rattle.cxx_ast.specs.Finding.{Finding, breaks, breaks_if}
use Rattle.cxx_ast.specs.TypeNames.{head_types_found}
use Rattle.cxx_ast.specs.Reference.{Judgement, int_found, all_found}
use Rattle.cxx_ast.specs.Construct.{has_default, construction_found}
use Rattle.cxx_ast.specs.ExpressionRules.{all_judged}
use Rattle.cxx_ast.specs.Locals.{declare_params}
use Rattle.cxx_ast.specs.StatementRules.{statements_found}
use Rattle.cxx_ast.specs.Resolve.{resolve_function}
use Rattle.cxx_ast.specs.Sizes.{variables_bytes}
use Rattle.cxx_ast.specs.Declare.{function_scope}

-- a list of names has one
abbrev pub has_text : List ℕ → List (List ℕ) → Bool
has_text text [] = false
has_text text (t ∷ ts) = bytes_eq t text || has_text text ts

-- parameters behind those of some names
abbrev pub params_twice : List (List ℕ) → List Param → List Finding
params_twice seen [] = []
params_twice seen (p ∷ ps) = elim p.name [
  | None ↦ params_twice seen ps
  | Some n ↦ breaks_if (has_text n.text seen) redeclared n.place ++ params_twice (n.text ∷ seen) ps
]

-- the type of the data member with a name
abbrev pub part_kind : List ℕ → List Field → Option Kind
part_kind text [] = None
part_kind text (f ∷ fs) = if bytes_eq f.name.text text then Some f.kind else part_kind text fs

-- class b has a name
abbrev pub is_called : Environment → List ℕ → ℕ → Bool
is_called env text b = elim (slice_get env.classes b) [ None ↦ false | Some c ↦ bytes_eq c.name text ]

-- the base, where it has the name
abbrev pub base_part : Environment → List ℕ → Option ℕ → Option Kind
base_part env text None = None
base_part env text (Some b) = if is_called env text b then Some (class_kind b) else None

-- the type of the own member or of the direct base with a name
abbrev pub named_part : Environment → ClassEntry → List ℕ → Option Kind
named_part env c text = elim (part_kind text c.fields) [ Some kind ↦ Some kind | None ↦ base_part env text c.base ]

-- an int has one initialiser
abbrev pub int_part_found : ℕ → List Judgement → List Finding
int_part_found place (a ∷ []) = int_found a
int_part_found place given = breaks arity place ∷ all_found given

-- the arguments of a part
abbrev pub part_found : Environment → ℕ → List Judgement → Kind → List Finding
part_found env place given int_kind = int_part_found place given
part_found env place given (class_kind k) = construction_found env k given place place
part_found env place given _ = all_found given

-- an initialiser behind those of some names
abbrev pub initialiser_found : Environment → Scope → ClassEntry → List (List ℕ) → Initialiser → List Finding
initialiser_found env sc c seen i = elim (named_part env c i.name.text) [
  | None ↦ breaks initialiser_list i.name.place ∷ all_found (all_judged env sc i.arguments)
  | Some kind ↦ breaks_if (has_text i.name.text seen) initialiser_list i.name.place ++ part_found env i.name.place (all_judged env sc i.arguments) kind
]

-- initialisers behind those of some names
abbrev pub initialisers_found : Environment → Scope → ClassEntry → List (List ℕ) → List Initialiser → List Finding
initialisers_found env sc c seen [] = []
initialisers_found env sc c seen (i ∷ more) = initialiser_found env sc c seen i ++ initialisers_found env sc c (i.name.text ∷ seen) more

-- the names of initialisers
abbrev pub initialised : List Initialiser → List (List ℕ)
initialised [] = []
initialised (i ∷ more) = i.name.text ∷ initialised more

-- a part of class type that is not initialised and needs arguments
abbrev pub left_part : Environment → ℕ → Bool → Kind → List Finding
left_part env place is_initialised (class_kind k) = breaks_if (not is_initialised && not (has_default env k)) no_default place
left_part env place is_initialised _ = []

-- the data members that a constructor does not initialise
abbrev pub left_fields : Environment → ℕ → List (List ℕ) → List Field → List Finding
left_fields env place names [] = []
left_fields env place names (f ∷ fs) = left_part env place (has_text f.name.text names) f.kind ++ left_fields env place names fs

-- the name of class b
abbrev pub class_text : Environment → ℕ → List ℕ
class_text env b = elim (slice_get env.classes b) [ None ↦ [] | Some c ↦ c.name ]

-- the base that a constructor does not initialise
abbrev pub left_base : Environment → ℕ → List (List ℕ) → Option ℕ → List Finding
left_base env place names None = []
left_base env place names (Some b) = left_part env place (has_text (class_text env b) names) (class_kind b)

-- what a constructor of class k does before its body
abbrev pub building_found : Environment → Scope → Option ℕ → Function → List Finding
building_found env sc None f = []
building_found env sc (Some k) f = elim (slice_get env.classes k) [
  | None ↦ []
  | Some c ↦ initialisers_found env sc c [] f.initialisers ++ left_fields env f.name.place (initialised f.initialisers) c.fields
      ++ left_base env f.name.place (initialised f.initialisers) c.base
]

-- a constructor's initialisers, which no other function has
abbrev pub building_of : Environment → Scope → Option ℕ → Function → FuncKind → List Finding
building_of env sc own f Constructor = building_found env sc own f
building_of env sc own f _ = []

-- a definition has too many tokens, or its variables too many bytes
abbrev pub limits_found : Environment → Function → List Finding
limits_found env f = breaks_if (nat_lt most_function_tokens f.tokens) function_too_long f.name.place ++ breaks_if (nat_lt most_variable_bytes (variables_bytes env f)) frame_too_large f.name.place

-- a body, in the scope of the parameters
abbrev pub body_found : Environment → Scope → Option ℕ → Function → Option Statements → List Finding
body_found env sc own f None = []
body_found env sc own f (Some ss) = building_of env sc own f f.kind ++ statements_found env sc ss

-- the limits hold for definitions
abbrev pub definition_found : Environment → Function → Option Statements → List Finding
definition_found env f None = []
definition_found env f (Some ss) = limits_found env f

-- a function of a class or of none: its head, whose names are sought by themselves, and its body
abbrev pub function_found : Environment → Scope → Environment → Option ℕ → Function → List Finding
function_found head head_scope env own f =
    head_types_found head head_scope f ++ params_twice [] f.parameters
    ++ body_found env (declare_params env f.parameters (function_scope env own f.result)) own f f.body
    ++ definition_found env (resolve_function head head_scope env (function_scope env own f.result) Free f) f.body
