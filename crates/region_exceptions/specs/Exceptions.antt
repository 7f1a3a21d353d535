-- That throws, try blocks and scopes do the same, where calls of the source keep what is known of exceptions.
use Rattle.std.specs.Prelude.{◌≡◌, List, ℕ, ◌+◌, ◌<◌, true, [], ◌∷◌, length, Option, Some, slice_get}
use Rattle.cxx_ast.specs.Plain.{Expression, Statements, Handlers}
use Rattle.cxx_ast.specs.declared.name.Name.{Name}
use Rattle.cxx_ast.specs.declared.types.Ty.TheVariants.{Object}
use Rattle.meaning_forms.specs.Class.{class_type, class_named, parts_of}
use Rattle.meaning_forms.specs.World.{World as SourceWorld, Reference, part}
use Rattle.meaning_forms.specs.Outcome.{Action as SourceAction, Flow as SourceFlow}
use Rattle.meaning_forms.specs.Running.{destructor}
use Rattle.meaning_forms.specs.Construct.{destroy as source_destroy}
use Rattle.meaning_forms.specs.Scope.{scope, until_complete}
use Rattle.meaning_forms.specs.Context.{Context as SourceContext, try_block, guarded_by}
use Rattle.meaning_forms.specs.Frame.{Frame as SourceFrame, variable_in}
use Rattle.meaning_forms.specs.Handler.{clauses_of}
use Rattle.meaning_forms.specs.Statement.{throwing as source_throwing, after_try, statements as source_statements, caught}
use Rattle.region_forms.specs.Form.{Place, destroy_scope, destroy_part, Region, protect, catch, in_order}
use Rattle.region_forms.specs.Outcome.{State}
use Rattle.region_forms.specs.Ending.{Running}
use Rattle.region_forms.specs.LowerExpression.{Lowering, variable_type, slot_place}
use Rattle.region_forms.specs.LowerProgram.{part_place}
use Rattle.region_forms.specs.LowerStatement.{variable_slot, throwing, statements, clauses}
use Rattle.region_forms.specs.Numbering.{number_of, all_declared_in}
use Rattle.region_simulation.specs.Reach.{KindsFit, is_in_reach}
use Rattle.region_simulation.specs.Flows.{InScope, DoesAlike}
use Rattle.region_simulation.specs.Places.{Places}
use Rattle.region_simulation.specs.Stands.{Stands}
use Rattle.region_simulation.specs.Expressions.{source_running}
use Rattle.region_simulation.specs.Statements.{CanThrow, AreTypedStatements, AreTypedHandlers}
use Rattle.region_exceptions.specs.Throws.{InEachContext}
use Rattle.region_exceptions.specs.Scopes.{LeadsTo}
use Rattle.region_exceptions.specs.Fares.{CallsFare}
use Rattle.region_exceptions.specs.Handlers.{EmptyDestructor}
use Rattle.region_exceptions.specs.Catches.{BlockDoes, BlocksDo}

-- every throw does the same
abbrev pub AllThrowsDoAlike : Type 0
AllThrowsDoAlike = InEachContext (λ l own gives call b v c.
    KindsFit l b.kinds → CallsFare (source_running l call) → (n i d : ℕ) (e : Option Expression) → CanThrow l own v.variables e
    → DoesAlike l own gives b v c n i d (source_throwing (source_running l call) v e c) (throwing l e))

-- every try block does, where its statements and those of its handlers do
abbrev pub AllTriesDoAlike : Type 0
AllTriesDoAlike = InEachContext (λ l own gives call b v c.
    KindsFit l b.kinds → CallsFare (source_running l call) → EmptyDestructor l.layout (source_running l call) b
    → (n i d : ℕ) (ss : Statements) (hs : Handlers) → i < d → BlockDoes l own gives call b ss → BlocksDo l own gives call b hs
    → AreTypedStatements l own gives ss v.variables n → AreTypedHandlers l own gives hs v.variables (n + length (all_declared_in ss))
    → DoesAlike l own gives b v c n i d
    (λ w. after_try (caught (source_running l call) hs v c) (source_statements (source_running l call) ss v (guarded_by (try_block (clauses_of hs)) c) w))
    (catch (in_order (statements l ss i n (d + 2))) (clauses l hs i (n + length (all_declared_in ss)) (d + 2)) ∷ []))

-- where a place leads to an object of class j, in any call and in any world and state that stand for one another
abbrev pub PlaceLeads : Lowering → (own : Option ℕ) → Running → SourceFrame → SourceContext → (n : ℕ) → Place → Reference → (j : ℕ) → Type 0
PlaceLeads l own b v c n place target j =
    (at : Places) (w : SourceWorld) (s : State) → Stands l.layout l.program at c w s → InScope l own n at v s
    → LeadsTo l.layout l.program at (variable_slot l n) b.kinds s.frame place target j

-- what is done in the scope of the object, or until it is part of a complete one, does the same in a region that its destruction protects
abbrev pub ScopesDoAlike : Type 0
ScopesDoAlike = InEachContext (λ l own gives call b v c.
    CallsFare (source_running l call) → (n i d : ℕ) (place : Place) (target : Reference) (j : ℕ) → i < d → PlaceLeads l own b v c n place target j
    → (act : SourceAction SourceFlow) (rs : List Region) → DoesAlike l own gives b v c n i (d + 2) act rs
    → DoesAlike l own gives b v c n i d (scope (source_running l call) c (source_destroy (source_running l call) (class_type j) target) act)
    (protect (in_order rs) (destroy_scope place (number_of l.program (destructor j))) ∷ []) ×
    DoesAlike l own gives b v c n i d (until_complete (source_running l call) c (source_destroy (source_running l call) (class_type j) target) act)
    (protect (in_order rs) (destroy_part place (number_of l.program (destructor j))) ∷ []))

-- the slot of a variable in reach leads to its object, and a part's place to the part of the own object
pub record PlacesLead (l : Lowering) (own : Option ℕ) (b : Running) (v : SourceFrame) (c : SourceContext) : Type 0 where
  pub variables : (n m : ℕ) (q : Name) → is_in_reach v.variables m ≡ true → variable_type l m ≡ Object q → class_named q < length l.program.classes
      → PlaceLeads l own b v c n (slot_place (variable_slot l m)) (variable_in v.variables m) (class_named q)
  pub parts : (n k i j : ℕ) → own ≡ Some k → slice_get (parts_of l.program k) i ≡ Some (class_type j) → j < length l.program.classes
      → PlaceLeads l own b v c n (part_place l.layout l.program k 0 i) (part i v.this) j

-- so it is in any call
abbrev pub AllPlacesLead : Type 0
AllPlacesLead = (l : Lowering) (own : Option ℕ) (b : Running) (v : SourceFrame) (c : SourceContext) → KindsFit l b.kinds → PlacesLead l own b v c
