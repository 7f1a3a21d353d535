-- Local objects of classes: built in their slots, and destroyed where their scope is left (ISO/IEC 14882:2003, 6.7, 15.2).
use Rattle.std.specs.Prelude.{ℕ, ◌+◌, ◌<◌, Bool, List, length, Option, Some}
use Rattle.cxx_ast.specs.declared.name.Builtin.TheVariants.{Module, Terminate}
use Rattle.cxx_ast.specs.declared.name.Name.{Name}
use Rattle.cxx_ast.specs.declared.types.Ty.TheVariants.{Object}
use Rattle.cxx_ast.specs.Plain.{Expressions, local_object}
use Rattle.meaning_forms.specs.Class.{class_type, class_named}
use Rattle.meaning_forms.specs.Construct.{destroy}
use Rattle.meaning_forms.specs.Context.{Context as SourceContext}
use Rattle.meaning_forms.specs.Frame.{Frame as SourceFrame, with_variable, local_number}
use Rattle.meaning_forms.specs.Outcome.{Action as SourceAction, Flow as SourceFlow}
use Rattle.meaning_forms.specs.Part.{unset}
use Rattle.meaning_forms.specs.Scope.{scope}
use Rattle.meaning_forms.specs.Statement.{statement as source_statement}
use Rattle.meaning_forms.specs.World.{whole}
use Rattle.region_forms.specs.Form.{Region}
use Rattle.region_forms.specs.Ending.{Running}
use Rattle.region_forms.specs.LowerExpression.{Lowering, slot_place}
use Rattle.region_forms.specs.LowerStatement.{variable_slot, scoped, statement}
use Rattle.region_simulation.specs.Typed.{Shaped}
use Rattle.region_simulation.specs.Reach.{KindsFit}
use Rattle.region_simulation.specs.Calls.{SameCalls}
use Rattle.region_simulation.specs.Expressions.{source_running, SameBuiltin}
use Rattle.region_simulation.specs.Flows.{DoesAlike}
use Rattle.region_simulation.specs.Statements.{DeclaresNext, CanConstruct}
use Rattle.region_statements.specs.Statements.{SourceCalls}

-- what is done in the scope of a local object of class k does the same in a region that its destruction protects
abbrev pub ObjectScopesDo : Lowering → (own : Option ℕ) → (gives : Bool) → SourceCalls → Running → Type 0
ObjectScopesDo l own gives call b =
    (v : SourceFrame) (c : SourceContext) (n i d : ℕ) (k x : Name) (o : ℕ) (act : SourceAction SourceFlow) (ys : ℕ → List Region)
    → i < d → DeclaresNext l n (Some x) (Object k) → class_named k < length l.program.classes
    → DoesAlike l own gives b (with_variable x (whole o) v) c (n + 1) i (d + 2) act (ys (d + 2))
    → DoesAlike l own gives b (with_variable x (whole o) v) c (n + 1) i d
    (scope (source_running l call) c (destroy (source_running l call) (class_type (class_named k)) (whole o)) act)
    (scoped l (class_type (class_named k)) (slot_place (variable_slot l (local_number x.bound))) ys d)

-- so a local object does, with what follows it
abbrev pub ObjectsDoAlike : Type 0
ObjectsDoAlike =
    (l : Lowering) (own : Option ℕ) (gives : Bool) (call : SourceCalls) (b : Running) → KindsFit l b.kinds → SameCalls l.layout (source_running l call) b
    → ((v : SourceFrame) (c : SourceContext) → SameBuiltin l own call b v c Terminate) → ((v : SourceFrame) (c : SourceContext) → SameBuiltin l own call b v c Module)
    → ((k : ℕ) → k < length l.program.classes → Shaped l.program (class_type k) (unset l.program (class_type k))) → ObjectScopesDo l own gives call b
    → (v : SourceFrame) (c : SourceContext) (n i d : ℕ) (k x : Name) (es : Expressions) (rest : SourceFrame → SourceAction SourceFlow) (ys : ℕ → List Region)
    → i < d → DeclaresNext l n (Some x) (Object k) → CanConstruct l own v.variables (class_named k) es
    → ((o e : ℕ) → i < e → DoesAlike l own gives b (with_variable x (whole o) v) c (n + 1) i e (rest (with_variable x (whole o) v)) (ys e))
    → DoesAlike l own gives b v c n i d (source_statement (source_running l call) (local_object k x es) rest v c) (statement l (local_object k x es) ys i n d)
