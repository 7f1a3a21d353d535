-- That barriers, scopes and parts of objects end alike (ISO/IEC 14882:2003, 15.2, 15.5.1).
use Rattle.std.specs.Prelude.{◌≡◌, ℕ, ◌+◌, ◌<◌, Bool, Some, length}
use Rattle.cxx_ast.specs.Plain.{Checked}
use Rattle.meaning_forms.specs.Class.{class_type}
use Rattle.meaning_forms.specs.World.{World as SourceWorld, Reference}
use Rattle.meaning_forms.specs.Context.{Context as SourceContext, barrier as source_barrier, guarded_by}
use Rattle.meaning_forms.specs.Outcome.{Action as SourceAction, Flow as SourceFlow, Result as SourceResult}
use Rattle.meaning_forms.specs.Running.{Running as SourceRunning, destructor}
use Rattle.meaning_forms.specs.Terminate.{after_barrier as source_after_barrier}
use Rattle.meaning_forms.specs.Scope.{after_scope as source_after_scope, after_part as source_after_part, scope, until_complete}
use Rattle.meaning_forms.specs.Construct.{destroy as source_destroy}
use Rattle.region_forms.specs.Form.{Kinds, Place, destroy, destroy_scope, destroy_part, Region, protect}
use Rattle.region_forms.specs.Layout.{Layout}
use Rattle.region_forms.specs.World.{Address, Frame}
use Rattle.region_forms.specs.Numbering.{number_of}
use Rattle.region_forms.specs.Evaluation.{address_of}
use Rattle.region_forms.specs.Outcome.{State, Context, Flow, Result, Action}
use Rattle.region_forms.specs.Ending.{Running, after_barrier, after_scope, after_part}
use Rattle.region_forms.specs.Meaning.{operation}
use Rattle.linear_simulation.specs.Watched.{watched}
use Rattle.region_forms.specs.LowerExpression.{Lowering}
use Rattle.region_simulation.specs.Places.{Places, Refers}
use Rattle.region_simulation.specs.Stands.{Stands, context_of}
use Rattle.region_simulation.specs.Alike.{Keeps, Follows, Alike}
use Rattle.region_simulation.specs.Flows.{FlowAgrees}
use Rattle.region_exceptions.specs.Same.{RunAlike}
use Rattle.region_exceptions.specs.Barred.{NotThrown, StaysInside, IsBarred}
use Rattle.region_exceptions.specs.Fares.{CallsFare}

-- any answers do
abbrev pub Any : {A B : Type 0} → A → B → SourceWorld → Places → State → Type 0
Any a b w at s = Unit {0}

-- what is done behind a barrier comes out alike, and neither an exception nor a forced unwind does
abbrev pub BarriersAlike : Type 0
BarriersAlike =
    (l : Layout) (a : SourceRunning) (b : Running) → RunAlike l a b
    → (at : Places) (k : ℕ) (c : SourceContext) (w : SourceWorld) (s : State) (x : SourceResult (Unit {0})) (y : Result (Unit {0}))
    → NotThrown x → Alike l a.program at k (guarded_by source_barrier c) w s Any x y
    → StaysInside (source_after_barrier a c x) × Alike l a.program at k c w s Any (source_after_barrier a c x) (after_barrier b (context_of w.open_calls c) y)

-- a cleanup does what a destruction does, in whatever context, from whatever follows, and keeps every slot of the frame
abbrev pub CleansAlike : Layout → Checked → Places → ℕ → SourceWorld → State → (SourceContext → SourceAction (Unit {0})) → (Context → Action (Unit {0})) → Type 0
CleansAlike l p at k w s destruction cleanup =
    (d : SourceContext) (w2 : SourceWorld) (s2 : State) (h : Follows l p at k w s d w2 s2) (m : ℕ)
    → Alike l p h.places m d w2 s2 Any (destruction d w2) (cleanup (context_of w2.open_calls d) s2)

-- so a scope ends alike, however it is left, and so does what is built between a part and its object
abbrev pub ScopesEndAlike : Type 0
ScopesEndAlike =
    (l : Lowering) (gives : Bool) (i d : ℕ) (a : SourceRunning) (b : Running) → RunAlike l.layout a b
    → (at : Places) (k : ℕ) (c : SourceContext) (w : SourceWorld) (s : State) (destruction : SourceContext → SourceAction (Unit {0})) (cleanup : Context → Action (Unit {0}))
    → IsBarred destruction → CleansAlike l.layout a.program at k w s destruction cleanup
    → (x : SourceResult SourceFlow) (y : Result Flow) → Alike l.layout a.program at k c w s (FlowAgrees l gives i d) x y
    → Alike l.layout a.program at k c w s (FlowAgrees l gives i d) (source_after_scope a c destruction x) (after_scope b (context_of w.open_calls c) cleanup y) ×
    Alike l.layout a.program at k c w s (FlowAgrees l gives i d) (source_after_part a c destruction x) (after_part b (context_of w.open_calls c) cleanup y)

-- an object of class j stands where a place leads, as long as the frame's slots below the k-th are kept
pub record LeadsTo (l : Layout) (p : Checked) (at : Places) (k : ℕ) (kinds : Kinds) (f : Frame) (place : Place) (target : Reference) (j : ℕ) : Type 0 where
  pub there : j < length p.classes
  pub address : Address
  pub refers : Refers l p at target (class_type j) address
  pub stays : (g : Frame) → Keeps k f g → address_of kinds g place ≡ Some address

-- it is destroyed alike
abbrev pub DestroysAlike : Type 0
DestroysAlike =
    (l : Layout) (a : SourceRunning) (b : Running) → RunAlike l a b → (at : Places) (k m : ℕ) (c : SourceContext) (w : SourceWorld) (s : State) (place : Place) (target : Reference) (j : ℕ)
    → Stands l a.program at c w s → LeadsTo l a.program at k b.kinds s.frame place target j
    → Alike l a.program at m c w s Any (source_destroy a (class_type j) target c w)
    (operation b (destroy place (number_of a.program (destructor j))) (context_of w.open_calls c) s)

-- what is done in its scope, or until it is part of a complete object, comes out alike in a region that is protected by its destruction
abbrev pub ProtectsAlike : Type 0
ProtectsAlike =
    (l : Lowering) (gives : Bool) (i d : ℕ) → i < d → (a : SourceRunning) (b : Running) → RunAlike l.layout a b → CallsFare a
    → (at : Places) (k : ℕ) (c : SourceContext) (w : SourceWorld) (s : State) (place : Place) (target : Reference) (j : ℕ)
    → Stands l.layout a.program at c w s → LeadsTo l.layout a.program at k b.kinds s.frame place target j → (act : SourceAction SourceFlow) (body : Region)
    → Alike l.layout a.program at k c w s (FlowAgrees l gives i (d + 1)) (act w) (watched b body (context_of w.open_calls c) s)
    → Alike l.layout a.program at k c w s (FlowAgrees l gives i d) (scope a c (source_destroy a (class_type j) target) act w)
    (watched b (protect body (destroy_scope place (number_of a.program (destructor j)))) (context_of w.open_calls c) s) ×
    Alike l.layout a.program at k c w s (FlowAgrees l gives i d) (until_complete a c (source_destroy a (class_type j) target) act w)
    (watched b (protect body (destroy_part place (number_of a.program (destructor j)))) (context_of w.open_calls c) s)
