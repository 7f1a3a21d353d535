-- That an action of a source and one of regions come out alike.
use Rattle.std.specs.Prelude.{◌≡◌, ℕ, ◌<◌, ◌≤◌, length}
use Rattle.cxx_ast.specs.Plain.{Checked}
use Rattle.meaning_forms.specs.World.{World as SourceWorld}
use Rattle.meaning_forms.specs.Context.{Context as SourceContext, with_travelling}
use Rattle.meaning_forms.specs.Outcome.{Result as SourceResult, done as source_done, stopped as source_stopped, thrown, cancelled, undefined}
use Rattle.region_forms.specs.Layout.{Layout}
use Rattle.region_forms.specs.World.{Frame}
use Rattle.region_forms.specs.Outcome.{State, Result, done, stopped}
use Rattle.region_simulation.specs.Places.{Places}
use Rattle.region_simulation.specs.Stands.{Stands}

-- a frame is that of the same call, and its slots below the k-th are as they were
pub record Keeps (k : ℕ) (f g : Frame) : Type 0 where
  pub call : g.call ≡ f.call
  pub slots : (s : ℕ) → s < k → g.slots s ≡ f.slots s

-- A world and a state that follow upon others, where objects stood at these places: what was made still stands where it did, what was made
-- since stands at places of its own, as many calls are open, and the frame's slots below the k-th are kept.
pub record Follows (l : Layout) (p : Checked) (at : Places) (k : ℕ) (w : SourceWorld) (s : State) (c : SourceContext) (w2 : SourceWorld) (s2 : State) : Type 0 where
  pub places : Places
  pub stay : (o : ℕ) → o < length w.objects → places o ≡ at o
  pub objects : length w.objects ≤ length w2.objects
  pub calls : s.world.calls ≤ s2.world.calls
  pub open_calls : w2.open_calls ≡ w.open_calls
  pub keeps : Keeps k s.frame s2.frame
  pub stands : Stands l p places c w2 s2

-- what can be seen at an end
pub record SameSeen (w : SourceWorld) (s : State) : Type 0 where
  pub items : s.world.items ≡ w.items
  pub replies : s.world.replies ≡ w.replies
  pub deepest : s.world.deepest ≡ w.deepest

-- By how the source comes out: answers agree in a world and a state that follow; an exception travels, or a forced unwind is on its way,
-- out of both; of what is undefined nothing is said; at any other stop the same can be seen.
abbrev pub Alike : {A B : Type 0} → Layout → Checked → Places → ℕ → SourceContext → SourceWorld → State → (A → B → SourceWorld → Places → State → Type 0)
    → SourceResult A → Result B → Type 0
Alike {A} {B} l p at k c w s agree (source_done a w2) y =
    (b : B) × (s2 : State) × (y ≡ done b s2) × ((h : Follows l p at k w s c w2 s2) × agree a b w2 h.places s2)
Alike l p at k c w s agree (source_stopped (thrown e) w2) y = (s2 : State) × (y ≡ stopped (thrown e) s2) × Follows l p at k w s (with_travelling e c) w2 s2
Alike l p at k c w s agree (source_stopped (cancelled n) w2) y = (s2 : State) × (y ≡ stopped (cancelled n) s2) × Follows l p at k w s c w2 s2
Alike l p at k c w s agree (source_stopped undefined w2) y = Unit {0}
Alike l p at k c w s agree (source_stopped x w2) y = (s2 : State) × (y ≡ stopped x s2) × SameSeen w2 s2
