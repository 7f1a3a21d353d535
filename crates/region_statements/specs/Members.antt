-- Constructors and destructors, declared or not, and what is asked of them.
use Rattle.std.specs.Prelude.{◌≡◌, ℕ, suc, ◌<◌, Bool, true, false, List, [], ◌∷◌, length, Option, Some, None, slice_get}
use Rattle.class_layout.specs.StandApart.{StandApart}
use Rattle.cxx_ast.specs.declared.declaration.FuncKind.TheVariants.{Constructor as ConstructorKind, Destructor as DestructorKind}
use Rattle.cxx_ast.specs.declared.types.Ty.{Ty}
use Rattle.cxx_ast.specs.declared.types.Ty.TheVariants.{Void}
use Rattle.cxx_ast.specs.Plain.{Checked, Function, Expressions, no_expressions, expression_then, Specification}
use Rattle.meaning_forms.specs.Call.{initialiser_for, construction, destruction}
use Rattle.meaning_forms.specs.Class.{ObjectType, int_type, class_type, class_at, class_named, method_at, object_type, parts_of}
use Rattle.meaning_forms.specs.Construct.{constructor_for, copy_constructor, destructor_place}
use Rattle.meaning_forms.specs.Context.{Context as SourceContext}
use Rattle.meaning_forms.specs.Expression.{constructor_types, is_reference}
use Rattle.meaning_forms.specs.Frame.{Frame as SourceFrame, Variable}
use Rattle.meaning_forms.specs.Running.{constructor, declared, implicit_default, implicit_copy, destructor}
use Rattle.meaning_forms.specs.Specification.{under_specification}
use Rattle.meaning_forms.specs.World.{Reference}
use Rattle.region_forms.specs.Form.{Kinds, help_slot, Regions}
use Rattle.region_forms.specs.Layout.{Layout}
use Rattle.region_forms.specs.Ending.{Running}
use Rattle.region_forms.specs.Numbering.{number_of, variables_of}
use Rattle.region_forms.specs.LowerExpression.{Lowering}
use Rattle.region_forms.specs.LowerProgram.{lowering, limited, body_of, declared_function, copied_type, some_constructor, implicit_default_function, implicit_copy_function, implicit_destructor_function}
use Rattle.region_simulation.specs.Reach.{KindsFit}
use Rattle.region_simulation.specs.Calls.{IsCallable, SameCalls}
use Rattle.region_simulation.specs.Expressions.{source_running}
use Rattle.region_simulation.specs.Flows.{DoesAlike}
use Rattle.region_simulation.specs.Typing.{IsTyped}
use Rattle.region_simulation.specs.Statements.{CanConstruct}
use Rattle.region_statements.specs.Fueled.{fueled, fueled_call}
use Rattle.region_statements.specs.Statements.{SourceCalls, SameExceptions}
use Rattle.region_statements.specs.Functions.{gives_int, all_declared_to, IsTypedBody}
use Rattle.region_statements.specs.Calls.{regions_running, SameCall}
use Rattle.region_statements.specs.Parts.{SameParts}

-- class k has a constructor for no arguments
pub record CanDefault (p : Checked) (k : ℕ) : Type 0 where
  pub there : IsCallable p (constructor k (constructor_for p k 0))
  pub none : constructor_types p k (constructor_for p k 0) ≡ []

-- class k has a constructor for one object of the class
pub record CanCopyFrom (p : Checked) (k : ℕ) : Type 0 where
  pub there : IsCallable p (constructor k (copy_constructor p k))
  pub type : Ty
  pub one : constructor_types p k (copy_constructor p k) ≡ type ∷ []
  pub reference : is_reference type ≡ true
  pub named : object_type type ≡ class_type k

-- the first value of an int
abbrev pub IsFirstValue : Lowering → (own : Option ℕ) → List Variable → Expressions → Type 0
IsFirstValue l own xs no_expressions = Unit {0}
IsFirstValue l own xs (expression_then e es) = IsTyped l own xs e

-- a part of a type can be built by its initialiser
abbrev pub CanInitialise : Lowering → (own : Option ℕ) → List Variable → Option Expressions → ObjectType → Type 0
CanInitialise l own xs None int_type = Unit {0}
CanInitialise l own xs None (class_type j) = CanDefault l.program j
CanInitialise l own xs (Some es) int_type = IsFirstValue l own xs es
CanInitialise l own xs (Some es) (class_type j) = CanConstruct l own xs j es

-- a part that no initialiser builds, and a part that is copied
abbrev pub CanDefaultPart : Checked → ObjectType → Type 0
CanDefaultPart p int_type = Unit {0}
CanDefaultPart p (class_type j) = CanDefault p j

abbrev pub CanCopyPart : Checked → ObjectType → Type 0
CanCopyPart p int_type = Unit {0}
CanCopyPart p (class_type j) = CanCopyFrom p j

-- each part of class k can be built in a declared constructor
abbrev pub CanInitialiseParts : Lowering → ℕ → Function → Type 0
CanInitialiseParts l k f =
    (rs : List Reference) → length rs ≡ length f.parameters → (i : ℕ) (t : ObjectType) → slice_get (parts_of l.program k) i ≡ Some t
    → CanInitialise l (Some k) (all_declared_to f.parameters rs []) (initialiser_for l.program f.initialisers i) t

-- the extents of the specifications of constructors and destructors are the same, where what is in them does the same
pub record SameMemberExtents (l : Lowering) (k : ℕ) (gives : Bool) (call : SourceCalls) (b : Running) : Type 0 where
  pub constructions : (v : SourceFrame) (c : SourceContext) (f : Function) (s : Specification)
      → ((d : SourceContext) (e : ℕ) → 0 < e
      → DoesAlike l (Some k) gives b v d (length f.parameters) 0 e (construction (source_running l call) k f v d) (body_of l f.kind k f e))
      → DoesAlike l (Some k) gives b v c (length f.parameters) 0 1 (under_specification (source_running l call) (Some s) (construction (source_running l call) k f v) c)
      (limited l (Some s) (body_of l f.kind k f) 1 ∷ [])
  pub destructions : (v : SourceFrame) (c : SourceContext) (f : Function) (s : Specification)
      → ((d : SourceContext) (e : ℕ) → 0 < e
      → DoesAlike l (Some k) gives b v d (length f.parameters) 0 e (destruction (source_running l call) k f v.this d) (body_of l f.kind k f e))
      → DoesAlike l (Some k) gives b v c (length f.parameters) 0 1 (under_specification (source_running l call) (Some s) (destruction (source_running l call) k f v.this) c)
      (limited l (Some s) (body_of l f.kind k f) 1 ∷ [])

-- whatever is asked where a constructor or a destructor of class k runs, whose variables are of these types
abbrev pub MemberRunsAlike : Checked → Layout → Regions → (limit fuel k : ℕ) → (gives : Bool) → List Ty → Type 0
MemberRunsAlike p layout q limit fuel k gives types =
    let l = lowering p layout true types in
    (kinds : Kinds) → KindsFit l kinds → SameExceptions l (Some k) gives (fueled_call p limit fuel) (regions_running q limit fuel kinds) ×
    SameParts l k gives (fueled_call p limit fuel) (regions_running q limit fuel kinds) ×
    SameMemberExtents l k gives (fueled_call p limit fuel) (regions_running q limit fuel kinds)

-- a declared constructor: its parameters, the parts of the object, then its body
abbrev pub ConstructorsRunAlike : Type 0
ConstructorsRunAlike =
    (p : Checked) (layout : Layout) (q : Regions) (limit fuel k i : ℕ) → StandApart layout.classes p.classes
    → SameCalls layout (fueled p limit fuel) (regions_running q limit fuel (λ s. help_slot))
    → (method_at p k i).kind ≡ ConstructorKind → (method_at p k i).result ≡ Void
    → slice_get q.functions (number_of p (constructor k (declared i))) ≡ Some (declared_function p layout true false k (method_at p k i))
    → IsTypedBody (lowering p layout true (variables_of (method_at p k i))) (Some k) (method_at p k i)
    → CanInitialiseParts (lowering p layout true (variables_of (method_at p k i))) k (method_at p k i)
    → MemberRunsAlike p layout q limit fuel k (gives_int (method_at p k i).result) (variables_of (method_at p k i))
    → SameCall layout (fueled p limit (suc fuel)) (regions_running q limit (suc fuel) (λ s. help_slot)) (constructor k (declared i))

-- an implicit default constructor
abbrev pub DefaultConstructorsRunAlike : Type 0
DefaultConstructorsRunAlike =
    (p : Checked) (layout : Layout) (q : Regions) (limit fuel k : ℕ) → StandApart layout.classes p.classes
    → SameCalls layout (fueled p limit fuel) (regions_running q limit fuel (λ s. help_slot))
    → some_constructor (class_at p k).functions ≡ false → slice_get q.functions (number_of p (constructor k implicit_default)) ≡ Some (implicit_default_function p layout k)
    → ((i : ℕ) (t : ObjectType) → slice_get (parts_of p k) i ≡ Some t → CanDefaultPart p t) → MemberRunsAlike p layout q limit fuel k false []
    → SameCall layout (fueled p limit (suc fuel)) (regions_running q limit (suc fuel) (λ s. help_slot)) (constructor k implicit_default)

-- an implicit copy constructor
abbrev pub CopyConstructorsRunAlike : Type 0
CopyConstructorsRunAlike =
    (p : Checked) (layout : Layout) (q : Regions) (limit fuel k : ℕ) → StandApart layout.classes p.classes
    → SameCalls layout (fueled p limit fuel) (regions_running q limit fuel (λ s. help_slot))
    → class_named (class_at p k).name ≡ k → slice_get q.functions (number_of p (constructor k implicit_copy)) ≡ Some (implicit_copy_function p layout k)
    → ((i : ℕ) (t : ObjectType) → slice_get (parts_of p k) i ≡ Some t → CanCopyPart p t) → MemberRunsAlike p layout q limit fuel k false (copied_type (class_at p k))
    → SameCall layout (fueled p limit (suc fuel)) (regions_running q limit (suc fuel) (λ s. help_slot)) (constructor k implicit_copy)

-- a declared destructor: its body in the scope of the parts
abbrev pub DestructorsRunAlike : Type 0
DestructorsRunAlike =
    (p : Checked) (layout : Layout) (q : Regions) (limit fuel k i : ℕ) → StandApart layout.classes p.classes
    → SameCalls layout (fueled p limit fuel) (regions_running q limit fuel (λ s. help_slot))
    → destructor_place p k ≡ Some i → (method_at p k i).kind ≡ DestructorKind → (method_at p k i).result ≡ Void → (method_at p k i).parameters ≡ []
    → slice_get q.functions (number_of p (destructor k)) ≡ Some (declared_function p layout true false k (method_at p k i))
    → IsTypedBody (lowering p layout true (variables_of (method_at p k i))) (Some k) (method_at p k i)
    → MemberRunsAlike p layout q limit fuel k (gives_int (method_at p k i).result) (variables_of (method_at p k i))
    → SameCall layout (fueled p limit (suc fuel)) (regions_running q limit (suc fuel) (λ s. help_slot)) (destructor k)

-- an implicit destructor
abbrev pub ImplicitDestructorsRunAlike : Type 0
ImplicitDestructorsRunAlike =
    (p : Checked) (layout : Layout) (q : Regions) (limit fuel k : ℕ) → StandApart layout.classes p.classes
    → SameCalls layout (fueled p limit fuel) (regions_running q limit fuel (λ s. help_slot))
    → destructor_place p k ≡ None → slice_get q.functions (number_of p (destructor k)) ≡ Some (implicit_destructor_function p layout k)
    → MemberRunsAlike p layout q limit fuel k false []
    → SameCall layout (fueled p limit (suc fuel)) (regions_running q limit (suc fuel) (λ s. help_slot)) (destructor k)
