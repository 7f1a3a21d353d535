-- That objects are copied alike (ISO/IEC 14882:2003, 12.8, 15.1, 15.3).
use Rattle.std.specs.Prelude.{◌≡◌, ℕ, [], ◌∷◌}
use Rattle.meaning_forms.specs.World.{World as SourceWorld, Reference}
use Rattle.meaning_forms.specs.Context.{Context as SourceContext}
use Rattle.meaning_forms.specs.Running.{Running as SourceRunning, constructor}
use Rattle.meaning_forms.specs.Construct.{copy_constructor, copy_object}
use Rattle.meaning_forms.specs.Terminate.{behind_barrier}
use Rattle.region_forms.specs.Form.{Place, address_argument, arguments_from, construct, op, barrier}
use Rattle.region_forms.specs.Layout.{Layout}
use Rattle.region_forms.specs.Numbering.{number_of}
use Rattle.region_forms.specs.Outcome.{State, normal}
use Rattle.region_forms.specs.Ending.{Running}
use Rattle.linear_simulation.specs.Watched.{watched}
use Rattle.region_simulation.specs.Places.{Places}
use Rattle.region_simulation.specs.Stands.{Stands, context_of}
use Rattle.region_simulation.specs.Alike.{Alike}
use Rattle.region_simulation.specs.Calls.{IsCallable}
use Rattle.region_exceptions.specs.Same.{RunAlike}
use Rattle.region_exceptions.specs.Barred.{CallsAreBarred}
use Rattle.region_exceptions.specs.Scopes.{LeadsTo}

-- an object of class k is copied behind a barrier, from where one place leads to where another does
abbrev pub CopiesAlike : Type 0
CopiesAlike =
    (l : Layout) (a : SourceRunning) (b : Running) → RunAlike l a b → CallsAreBarred a
    → (at : Places) (n m : ℕ) (c : SourceContext) (w : SourceWorld) (s : State) (place from : Place) (target source : Reference) (k : ℕ)
    → IsCallable a.program (constructor k (copy_constructor a.program k)) → Stands l a.program at c w s
    → LeadsTo l a.program at n b.kinds s.frame place target k → LeadsTo l a.program at n b.kinds s.frame from source k
    → Alike l a.program at m c w s (λ u flow w2 at2 s2. flow ≡ normal) (behind_barrier a c (copy_object a k target source) w)
    (watched b (barrier (op (construct place (number_of a.program (constructor k (copy_constructor a.program k))) (arguments_from (address_argument from ∷ []))))) (context_of w.open_calls c) s)
