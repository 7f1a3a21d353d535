-- That a value of regions is that of an expression, where neither makes a call.
use Rattle.std.specs.Prelude.{◌≡◌, ℕ, ℤ, false, [], Option, Some}
use Rattle.cxx_ast.specs.Plain.{Expression}
use Rattle.meaning_forms.specs.World.{World as SourceWorld}
use Rattle.meaning_forms.specs.Context.{Context as SourceContext}
use Rattle.meaning_forms.specs.Outcome.{Result as SourceResult, done, stopped, undefined}
use Rattle.meaning_forms.specs.Frame.{Frame as SourceFrame}
use Rattle.meaning_forms.specs.Running.{Running as SourceRunning}
use Rattle.meaning_forms.specs.Expression.{value_of}
use Rattle.region_forms.specs.Form.{Kinds}
use Rattle.region_forms.specs.Evaluation.{value_in}
use Rattle.region_forms.specs.Outcome.{State}
use Rattle.region_forms.specs.LowerExpression.{Lowering, lower, has_call}
use Rattle.region_simulation.specs.Places.{Places}
use Rattle.region_simulation.specs.Reach.{Reaches, KindsFit}
use Rattle.region_simulation.specs.Typing.{IsTyped}
use Rattle.region_simulation.specs.Stands.{Stands}

-- a value that is computed changes no world; where the source is undefined nothing is said, and no other stop is there
abbrev pub IsValue : SourceWorld → SourceResult ℤ → Option ℤ → Type 0
IsValue w (done v w2) x = (w2 ≡ w) × (x ≡ Some v)
IsValue w (stopped undefined w2) x = Unit {0}
IsValue w (stopped s w2) x = ⊥

-- an expression without calls is lowered to a value with nothing before it, which is what the expression means
abbrev pub ValuesAreMeant : Type 0
ValuesAreMeant =
    (l : Lowering) (own : Option ℕ) (kinds : Kinds) (r : SourceRunning) (v : SourceFrame) (at : Places) (e : Expression) (t : ℕ)
    (c d : SourceContext) (w : SourceWorld) (s : State) → r.program ≡ l.program → has_call e ≡ false → IsTyped l own v.variables e
    → KindsFit l kinds → Reaches l own at v s.frame → Stands l.layout l.program at d w s
    → ((lower l e t).before ≡ []) × IsValue w (value_of r v e c w) (value_in kinds s.frame s.world (lower l e t).value)
