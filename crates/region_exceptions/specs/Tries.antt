-- That try blocks do the same (ISO/IEC 14882:2003, 15.3).
use Rattle.std.specs.Prelude.{◌≡◌, ℕ, ◌+◌, ◌<◌, ◌⊎◌, Bool, true, List, [], ◌∷◌, map, Option}
use Rattle.meaning_forms.specs.Class.{contains}
use Rattle.meaning_forms.specs.World.{World as SourceWorld}
use Rattle.meaning_forms.specs.Context.{Context as SourceContext, Clause, try_block, guarded_by, with_travelling}
use Rattle.meaning_forms.specs.Frame.{Frame as SourceFrame}
use Rattle.meaning_forms.specs.Outcome.{Action as SourceAction, Flow as SourceFlow, stopped, thrown}
use Rattle.meaning_forms.specs.Statement.{after_try}
use Rattle.region_forms.specs.Form.{Region, Clauses, catch, in_order}
use Rattle.region_forms.specs.Guard.{types_of}
use Rattle.region_forms.specs.Outcome.{State}
use Rattle.region_forms.specs.Ending.{Running}
use Rattle.linear_simulation.specs.Watched.{watched_caught}
use Rattle.region_forms.specs.LowerExpression.{Lowering}
use Rattle.region_forms.specs.LowerStatement.{variable_slot}
use Rattle.region_simulation.specs.Places.{Places}
use Rattle.region_simulation.specs.Stands.{clause_of, context_of, IsSound, Stands}
use Rattle.region_simulation.specs.Alike.{Alike}
use Rattle.region_simulation.specs.Flows.{FlowAgrees, InScope, DoesAlike}
use Rattle.region_exceptions.specs.Handlers.{CanBeEntered}
use Rattle.region_exceptions.specs.Left.{CanBeLeft}

-- an exception that comes out of an action can be entered, and is handled outside or was made since, wherever what is live, handled or travelling was made
abbrev pub CanBeCaught : {A : Type 0} → SourceContext → SourceAction A → Type 0
CanBeCaught c act = (w w2 : SourceWorld) (e : ℕ) → IsSound c w.last_number w.live → act w ≡ stopped (thrown e) w2
    → CanBeEntered c e × ((contains c.handled e ≡ true) ⊎ (w.last_number < e))

-- clauses do with an exception that comes out, and travels, what an action does; what follows upon an earlier world still does
abbrev pub CatchesAlike : Lowering → (own : Option ℕ) → (gives : Bool) → Running → SourceFrame → SourceContext → (n i d : ℕ) → (ℕ → SourceAction SourceFlow) → Clauses → Type 0
CatchesAlike l own gives b v c n i d handled cs =
    (e : ℕ) (at : Places) (earlier w : SourceWorld) (s : State) → Stands l.layout l.program at (with_travelling e c) w s → InScope l own n at v s → CanBeEntered c e
    → CanBeLeft (contains c.handled e) e at earlier w
    → Alike l.layout l.program at (variable_slot l n) c earlier s (FlowAgrees l gives i d) (handled e w) (watched_caught b cs (context_of w.open_calls c) e s)

-- so a try block does the same, over whatever is done in it and whatever is done with what comes out
abbrev pub TriesAlike : Type 0
TriesAlike =
    (l : Lowering) (own : Option ℕ) (gives : Bool) (b : Running) (v : SourceFrame) (c : SourceContext) (n i d : ℕ) → i < d
    → (clauses : List Clause) (cs : Clauses) → types_of cs ≡ map clause_of clauses → (act : SourceAction SourceFlow) (rs : List Region) (handled : ℕ → SourceAction SourceFlow)
    → CanBeCaught (guarded_by (try_block clauses) c) act → DoesAlike l own gives b v (guarded_by (try_block clauses) c) n i (d + 2) act rs
    → CatchesAlike l own gives b v c n i (d + 1) handled cs
    → DoesAlike l own gives b v c n i d (λ w. after_try handled (act w)) (catch (in_order rs) cs ∷ [])
