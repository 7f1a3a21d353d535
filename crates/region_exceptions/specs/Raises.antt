-- That exceptions are raised alike (ISO/IEC 14882:2003, 15.1, 15.5.1): one that is doomed terminates before any cleanup, and any other travels.
use Rattle.std.specs.Prelude.{◌≡◌, ℕ, ◌≤◌, ℤ, true, false, List, Option}
use Rattle.cxx_ast.specs.declared.name.Builtin.TheVariants.{Module, Terminate}
use Rattle.cxx_ast.specs.Plain.{Expression}
use Rattle.meaning_forms.specs.Class.{contains}
use Rattle.meaning_forms.specs.World.{World as SourceWorld, Live, Reference}
use Rattle.meaning_forms.specs.Context.{Context as SourceContext, handling}
use Rattle.meaning_forms.specs.Outcome.{Action as SourceAction}
use Rattle.meaning_forms.specs.Frame.{Frame as SourceFrame}
use Rattle.meaning_forms.specs.Running.{Running as SourceRunning, Argument as SourceArgument, Callee}
use Rattle.meaning_forms.specs.Expression.{value_of}
use Rattle.meaning_forms.specs.Throw.{raise_exception}
use Rattle.region_forms.specs.Caught.{only_front}
use Rattle.region_forms.specs.Layout.{Layout}
use Rattle.region_forms.specs.Outcome.{State}
use Rattle.region_forms.specs.Ending.{Running, raise}
use Rattle.region_forms.specs.LowerExpression.{Lowering, first_temporary, lower}
use Rattle.region_simulation.specs.Lives.{CanBeThrown}
use Rattle.region_simulation.specs.Places.{Places}
use Rattle.region_simulation.specs.Reach.{KindsFit}
use Rattle.region_simulation.specs.Stands.{IsSound, Stands, context_of}
use Rattle.region_simulation.specs.Alike.{Alike}
use Rattle.region_simulation.specs.Typing.{IsTyped}
use Rattle.region_simulation.specs.Evaluates.{Evaluates}
use Rattle.region_simulation.specs.Expressions.{source_running, SameBuiltin}
use Rattle.region_exceptions.specs.Same.{RunAlike}

-- where an exception is entered that was made and can be thrown, and has no handler beneath those of others, what is handled and what travels stays sound
abbrev pub EntriesStaySound : Type 0
EntriesStaySound =
    (c : SourceContext) (e last : ℕ) (lives : List Live) → e ≤ last → CanBeThrown lives e → only_front e c.handled ≡ true → IsSound c last lives → IsSound (handling e c) last lives

-- an exception can be raised: it was made, it does not travel, and if it is handled, its handlers are the newest
pub record CanBeRaised (c : SourceContext) (w : SourceWorld) (e : ℕ) : Type 0 where
  pub made : e ≤ w.last_number
  pub rests : contains c.travelling e ≡ false
  pub front : only_front e c.handled ≡ true

-- nothing is answered
abbrev pub Never : {A B : Type 0} → A → B → SourceWorld → Places → State → Type 0
Never a b w at s = ⊥

-- one that is built is raised alike
abbrev pub RaisesAlike : Type 0
RaisesAlike =
    (l : Layout) (a : SourceRunning) (b : Running) → RunAlike l a b → (at : Places) (k : ℕ) (c : SourceContext) (w : SourceWorld) (s : State) (e : ℕ)
    → Stands l a.program at c w s → CanBeRaised c w e → CanBeThrown w.live e
    → Alike l a.program at k c w s Never (raise_exception {A = ℤ} a e c w) (raise {A = ℤ} b e (context_of w.open_calls c) s)

-- the two built-in functions that may raise or terminate do the same
abbrev pub ModulesAnswerAlike : Type 0
ModulesAnswerAlike =
    (l : Lowering) (own : Option ℕ) (call : Callee → Reference → List SourceArgument → SourceContext → SourceAction ℤ) (b : Running) (v : SourceFrame) (c : SourceContext)
    → KindsFit l b.kinds → RunAlike l.layout (source_running l call) b
    → SameBuiltin l own call b v c Terminate × SameBuiltin l own call b v c Module

-- so every typed expression evaluates to what it means, with nothing asked of built-in functions
abbrev pub AllExpressionsEvaluate : Type 0
AllExpressionsEvaluate =
    (l : Lowering) (own : Option ℕ) (call : Callee → Reference → List SourceArgument → SourceContext → SourceAction ℤ) (b : Running) (v : SourceFrame) (c : SourceContext)
    → KindsFit l b.kinds → RunAlike l.layout (source_running l call) b → (e : Expression) (t : ℕ) → first_temporary l ≤ t → IsTyped l own v.variables e
    → Evaluates l own b v c t (value_of (source_running l call) v e c) (lower l e t)
