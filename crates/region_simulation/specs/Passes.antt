-- That arguments of regions are what the arguments of a call of the source are.
use Rattle.std.specs.Prelude.{◌≡◌, ℕ, List, Option, Some}
use Rattle.cxx_ast.specs.declared.types.Ty.{Ty}
use Rattle.cxx_ast.specs.Plain.{Checked}
use Rattle.meaning_forms.specs.World.{World as SourceWorld}
use Rattle.meaning_forms.specs.Context.{Context as SourceContext}
use Rattle.meaning_forms.specs.Outcome.{Action as SourceAction, Result as SourceResult, done, stopped, undefined}
use Rattle.meaning_forms.specs.Frame.{Frame as SourceFrame}
use Rattle.meaning_forms.specs.Running.{Argument as SourceArgument}
use Rattle.region_forms.specs.Form.{Kinds, Argument, arguments_from, regions_from}
use Rattle.region_forms.specs.Layout.{Layout}
use Rattle.region_forms.specs.World.{Word}
use Rattle.region_forms.specs.Evaluation.{words_in}
use Rattle.region_forms.specs.Outcome.{State, Flow, normal}
use Rattle.region_forms.specs.Ending.{Running}
use Rattle.linear_simulation.specs.Watched.{watched_all}
use Rattle.region_forms.specs.LowerExpression.{Lowering, LoweredArguments}
use Rattle.region_simulation.specs.Places.{Places}
use Rattle.region_simulation.specs.Stands.{context_of}
use Rattle.region_simulation.specs.Alike.{Alike}
use Rattle.region_simulation.specs.Calls.{SameArguments}
use Rattle.region_simulation.specs.Evaluates.{Everywhere}

-- words are passed for arguments that are computed without a change of the world; where the source is undefined nothing is said
abbrev pub ArePassed : Layout → Checked → Places → List Ty → SourceWorld → SourceResult (List SourceArgument) → Option (List Word) → Type 0
ArePassed l p at types w (done given w2) x = (w2 ≡ w) × ((words : List Word) × (x ≡ Some words) × SameArguments l p at types given words)
ArePassed l p at types w (stopped undefined w2) x = Unit {0}
ArePassed l p at types w (stopped s w2) x = ⊥

-- what comes before arguments is done, and the words that are passed for them are those of the source's
abbrev pub IsGiven : Layout → Checked → Kinds → List Ty → List Argument → List SourceArgument → Flow → SourceWorld → Places → State → Type 0
IsGiven l p kinds types args given flow w at s =
    (flow ≡ normal) × ((words : List Word) × (words_in kinds s.frame s.world (arguments_from args) ≡ Some words) × SameArguments l p at types given words)

-- what comes before arguments comes out as their computation does; slots below the k-th are kept
abbrev pub Passes : Lowering → (own : Option ℕ) → Running → SourceFrame → SourceContext → ℕ → List Ty → SourceAction (List SourceArgument) → LoweredArguments → Type 0
Passes l own b v c k types act x = Everywhere l own v c (λ at w s.
    Alike l.layout l.program at k c w s (IsGiven l.layout l.program b.kinds types x.arguments) (act w) (watched_all b (regions_from x.before) (context_of w.open_calls c) s))

-- arguments that are computed without a change
abbrev pub GivesMeant : Lowering → (own : Option ℕ) → Running → SourceFrame → SourceContext → List Ty → SourceAction (List SourceArgument) → List Argument → Type 0
GivesMeant l own b v c types act args = Everywhere l own v c (λ at w s.
    ArePassed l.layout l.program at types w (act w) (words_in b.kinds s.frame s.world (arguments_from args)))
