-- That terminate ends alike (ISO/IEC 14882:2003, 15.5.1).
use Rattle.std.specs.Prelude.{◌≡◌, ℤ}
use Rattle.meaning_forms.specs.World.{World as SourceWorld}
use Rattle.meaning_forms.specs.Context.{Context as SourceContext}
use Rattle.meaning_forms.specs.Outcome.{Result as SourceResult, stopped as source_stopped, ended, undefined, out_of_turns, deep}
use Rattle.meaning_forms.specs.Running.{Running as SourceRunning}
use Rattle.meaning_forms.specs.Terminate.{terminate as source_terminate}
use Rattle.region_forms.specs.Layout.{Layout}
use Rattle.region_forms.specs.Outcome.{State, Result, stopped}
use Rattle.region_forms.specs.Ending.{Running, terminate}
use Rattle.region_simulation.specs.Places.{Places}
use Rattle.region_simulation.specs.Stands.{Stands, context_of}
use Rattle.region_simulation.specs.Alike.{SameSeen}
use Rattle.region_exceptions.specs.Same.{RunAlike}

-- Both stop for good, in the same way, and the same can be seen; of what is undefined nothing is said.
abbrev pub EndsAlike : {A B : Type 0} → SourceResult A → Result B → Type 0
EndsAlike (source_stopped (ended x) w) y = (s : State) × (y ≡ stopped (ended x) s) × SameSeen w s
EndsAlike (source_stopped undefined w) y = Unit {0}
EndsAlike (source_stopped out_of_turns w) y = (s : State) × (y ≡ stopped out_of_turns s) × SameSeen w s
EndsAlike (source_stopped deep w) y = (s : State) × (y ≡ stopped deep s) × SameSeen w s
EndsAlike _ y = ⊥

-- terminate does
abbrev pub TerminatesAlike : Type 0
TerminatesAlike =
    (l : Layout) (a : SourceRunning) (b : Running) → RunAlike l a b → (at : Places) (c : SourceContext) (w : SourceWorld) (s : State) → Stands l a.program at c w s
    → EndsAlike {A = ℤ} {B = ℤ} (source_terminate a c w) (terminate b (context_of w.open_calls c) s)
