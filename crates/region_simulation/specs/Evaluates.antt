-- That what an expression is lowered to evaluates to what a computation of the source gives.
use Rattle.std.specs.Prelude.{◌≡◌, ℕ, ℤ, Option, Some}
use Rattle.meaning_forms.specs.World.{World as SourceWorld}
use Rattle.meaning_forms.specs.Context.{Context as SourceContext}
use Rattle.meaning_forms.specs.Outcome.{Action as SourceAction}
use Rattle.meaning_forms.specs.Frame.{Frame as SourceFrame}
use Rattle.region_forms.specs.Form.{Kinds, Value, regions_from}
use Rattle.region_forms.specs.Evaluation.{value_in}
use Rattle.region_forms.specs.Outcome.{State, Flow, normal}
use Rattle.region_forms.specs.Ending.{Running}
use Rattle.linear_simulation.specs.Watched.{watched_all}
use Rattle.region_forms.specs.LowerExpression.{Lowering, Lowered}
use Rattle.region_simulation.specs.Places.{Places}
use Rattle.region_simulation.specs.Reach.{Reaches}
use Rattle.region_simulation.specs.Stands.{Stands, context_of}
use Rattle.region_simulation.specs.Value.{IsValue}
use Rattle.region_simulation.specs.Alike.{Alike}

-- what comes before a value is done, and the value is the one that the source computed
abbrev pub IsComputed : Kinds → Value → ℤ → Flow → SourceWorld → Places → State → Type 0
IsComputed kinds y x flow w at s = (flow ≡ normal) × (value_in kinds s.frame s.world y ≡ Some x)

-- in any world and state that stand for one another, where the same is in reach
abbrev pub Everywhere : Lowering → (own : Option ℕ) → SourceFrame → SourceContext → (Places → SourceWorld → State → Type 0) → Type 0
Everywhere l own v c said =
    (at : Places) (w : SourceWorld) (s : State) → Stands l.layout l.program at c w s → Reaches l own at v s.frame → said at w s

-- what comes before a value comes out as the computation does, and then the value is its answer; slots below the k-th are kept
abbrev pub Evaluates : Lowering → (own : Option ℕ) → Running → SourceFrame → SourceContext → ℕ → SourceAction ℤ → Lowered → Type 0
Evaluates l own b v c k act x = Everywhere l own v c (λ at w s.
    Alike l.layout l.program at k c w s (IsComputed b.kinds x.value) (act w) (watched_all b (regions_from x.before) (context_of w.open_calls c) s))

-- a value has the value of a computation that changes nothing
abbrev pub IsMeant : Lowering → (own : Option ℕ) → Running → SourceFrame → SourceContext → SourceAction ℤ → Value → Type 0
IsMeant l own b v c act y = Everywhere l own v c (λ at w s. IsValue w (act w) (value_in b.kinds s.frame s.world y))
