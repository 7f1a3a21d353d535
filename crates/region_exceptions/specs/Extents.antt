-- That what a specification does with an exception that it stops comes out alike (ISO/IEC 14882:2003, 15.5.2).
use Rattle.std.specs.Prelude.{ℕ, ◌+◌, ◌<◌, ℤ, Bool, List, [], ◌∷◌, map, Option, Some}
use Rattle.cxx_ast.specs.declared.types.Ty.{Ty}
use Rattle.cxx_ast.specs.Plain.{Function, Statements, Specification, listed}
use Rattle.meaning_forms.specs.Class.{object_type}
use Rattle.meaning_forms.specs.World.{World as SourceWorld, Reference}
use Rattle.meaning_forms.specs.Context.{Context as SourceContext, specification, guarded_by}
use Rattle.meaning_forms.specs.Outcome.{Action as SourceAction, Flow as SourceFlow}
use Rattle.meaning_forms.specs.Frame.{Frame as SourceFrame}
use Rattle.meaning_forms.specs.Running.{Running as SourceRunning, Argument as SourceArgument, Callee, constructor}
use Rattle.meaning_forms.specs.Statement.{statements as source_statements}
use Rattle.meaning_forms.specs.Call.{construction, destruction}
use Rattle.meaning_forms.specs.Construct.{constructor_for}
use Rattle.meaning_forms.specs.Throw.{throw_new}
use Rattle.meaning_forms.specs.Specification.{new_bad_exception, under_specification, guard_of}
use Rattle.region_forms.specs.Form.{Region, limit, in_order}
use Rattle.region_forms.specs.Numbering.{type_number}
use Rattle.region_forms.specs.LowerExpression.{Lowering}
use Rattle.linear_simulation.specs.Watched.{watched}
use Rattle.region_forms.specs.Layout.{Layout}
use Rattle.region_forms.specs.Outcome.{State}
use Rattle.region_forms.specs.Ending.{Running, empty_call}
use Rattle.region_forms.specs.Unexpected.{throw_bad}
use Rattle.region_simulation.specs.Places.{Places}
use Rattle.region_simulation.specs.Stands.{Stands, context_of}
use Rattle.region_simulation.specs.Alike.{Alike}
use Rattle.region_simulation.specs.Flows.{FlowAgrees, DoesAlike}
use Rattle.region_simulation.specs.Expressions.{source_running}
use Rattle.region_exceptions.specs.Same.{RunAlike}
use Rattle.region_exceptions.specs.Raises.{Never}
use Rattle.region_exceptions.specs.Scopes.{Any}
use Rattle.region_exceptions.specs.Handlers.{EmptyDestructor}
use Rattle.region_exceptions.specs.Throws.{InEachContext}
use Rattle.region_exceptions.specs.Fares.{FaresIn, CallsFare}
use Rattle.region_forms.specs.LowerProgram.{specified}

-- the default constructor of `std::bad_exception` does nothing but make a call, which regions make without a function
abbrev pub EmptyConstructor : Layout → SourceRunning → Running → Type 0
EmptyConstructor l a b =
    (this : Reference) (at : Places) (k : ℕ) (c : SourceContext) (w : SourceWorld) (s : State) → Stands l a.program at c w s
    → Alike l a.program at k c w s Any (a.call (constructor 0 (constructor_for a.program 0 0)) this [] c w) (empty_call b (context_of w.open_calls c) s)

-- a bad_exception is thrown in place of an exception that a specification does not allow
abbrev pub BadExceptionsAlike : Type 0
BadExceptionsAlike =
    (l : Layout) (a : SourceRunning) (b : Running) → RunAlike l a b → EmptyConstructor l a b → CallsFare a → (at : Places) (k : ℕ) (c : SourceContext) (w : SourceWorld) (s : State)
    → Stands l a.program at c w s
    → Alike l a.program at k c w s Never (throw_new {A = ℤ} a c (new_bad_exception a c) w) (throw_bad {A = ℤ} b (context_of w.open_calls c) s)

-- What is done under a specification that lists types: an exception that it does not allow is entered, the unexpected handler kept with it is called, and what
-- comes out of that is thrown on, or a bad_exception in its place, or terminate is called.
abbrev pub ExtentsAlike : Type 0
ExtentsAlike =
    (l : Lowering) (gives : Bool) (i d : ℕ) → i < d → (a : SourceRunning) (b : Running) → RunAlike l.layout a b → CallsFare a
    → EmptyDestructor l.layout a b → EmptyConstructor l.layout a b
    → (at : Places) (k : ℕ) (c : SourceContext) (w : SourceWorld) (s : State) → Stands l.layout a.program at c w s
    → (types : List Ty) (act : SourceContext → SourceAction SourceFlow) (body : Region)
    → FaresIn a.program (guarded_by (specification (map object_type types)) c) (act (guarded_by (specification (map object_type types)) c))
    → Alike l.layout a.program at k (guarded_by (specification (map object_type types)) c) w s (FlowAgrees l gives i (d + 1))
    (act (guarded_by (specification (map object_type types)) c) w) (watched b body (context_of w.open_calls (guarded_by (specification (map object_type types)) c)) s)
    → Alike l.layout a.program at k c w s (FlowAgrees l gives i d) (under_specification a (Some (listed types)) act c w)
    (watched b (limit body (map type_number (map object_type types))) (context_of w.open_calls c) s)

-- so the extent of each specification in a function does the same; what comes out of one that is `noexcept` is entered, and terminate is called
abbrev pub ExtentsDoAlike : Type 0
ExtentsDoAlike = InEachContext (λ l own gives call b v c.
    CallsFare (source_running l call) → EmptyDestructor l.layout (source_running l call) b
    → EmptyConstructor l.layout (source_running l call) b
    → (n i d : ℕ) (s : Specification) (act : SourceContext → SourceAction SourceFlow) (rs : List Region) → i < d
    → FaresIn l.program (guarded_by (guard_of s) c) (act (guarded_by (guard_of s) c))
    → DoesAlike l own gives b v (guarded_by (guard_of s) c) n i (d + 2) (act (guarded_by (guard_of s) c)) rs
    → DoesAlike l own gives b v c n i d (under_specification (source_running l call) (Some s) act c) (specified l s (in_order rs) ∷ []))

-- an action does the same under each specification where it does inside
abbrev pub UnderSpecifications : Lowering → (own : Option ℕ) → (gives : Bool) → (Callee → Reference → List SourceArgument → SourceContext → SourceAction ℤ) → Running → SourceFrame → SourceContext
    → (SourceContext → SourceAction SourceFlow) → Type 0
UnderSpecifications l own gives call b v c act =
    (n i d : ℕ) (s : Specification) (rs : List Region) → i < d
    → DoesAlike l own gives b v (guarded_by (guard_of s) c) n i (d + 2) (act (guarded_by (guard_of s) c)) rs
    → DoesAlike l own gives b v c n i d (under_specification (source_running l call) (Some s) act c) (specified l s (in_order rs) ∷ [])

-- so do the statements of a function, and those of a constructor or a destructor with the parts of their object
pub record SpecificationsDo (l : Lowering) (own : Option ℕ) (gives : Bool) (call : Callee → Reference → List SourceArgument → SourceContext → SourceAction ℤ) (b : Running) (v : SourceFrame) (c : SourceContext) : Type 0 where
  pub statements : (ss : Statements) → UnderSpecifications l own gives call b v c (source_statements (source_running l call) ss v)
  pub constructions : (k : ℕ) (f : Function) → UnderSpecifications l own gives call b v c (construction (source_running l call) k f v)
  pub destructions : (k : ℕ) (f : Function) (this : Reference) → UnderSpecifications l own gives call b v c (destruction (source_running l call) k f this)

-- every extent does the same, where calls of the source keep what is known of exceptions
abbrev pub AllExtentsDoAlike : Type 0
AllExtentsDoAlike = InEachContext (λ l own gives call b v c.
    CallsFare (source_running l call) → EmptyDestructor l.layout (source_running l call) b
    → EmptyConstructor l.layout (source_running l call) b → SpecificationsDo l own gives call b v c)
