-- What a front of a run shows, against a meaning with so many turns.
use Rattle.std.specs.Prelude.{◌≡◌, ℕ, ◌<◌, List}
use Rattle.eh_outer.specs.declared.module.Reply.{Reply}
use Rattle.meaning_forms.specs.Outcome.{deep}
use Rattle.meaning_forms.specs.Meaning.{Meaning, stopped_by}
use Rattle.region_forms.specs.Form.{Regions}
use Rattle.region_forms.specs.World.{World}
use Rattle.linear_forms.specs.Activation.{Final}
use Rattle.linear_forms.specs.Machine.{over}
use Rattle.linear_forms.specs.Unit.{unit_of}
use Rattle.linear_forms.specs.UnitRun.{code_of, first_state, unit_run, seen_of, seen_run}
use Rattle.linear_forms.specs.Pace.{paying}
use Rattle.linear_simulation.specs.ProgramRuns.{items_of, BeginsWith, RunShows}

-- Where a run shows a meaning, a front of it in which fewer steps pay than the meaning has turns has shown nothing beyond the meaning. So it
-- is whether the meaning has an end or ran out of its turns.
abbrev pub FrontsAreMeant : Type 0
FrontsAreMeant =
    (p : Regions) (m : Meaning) (turns most : ℕ) (input : List ℕ) (replies : List (List Reply)) → (m.main ≡ stopped_by deep → ⊥) → RunShows p m turns most input replies
    → (n : ℕ) → paying (code_of (unit_of p)) n (first_state (unit_of p) input replies) < turns → BeginsWith (items_of (unit_run (unit_of p) input replies n)) m.items

-- And where the run is over by then, so is the meaning, and just that is seen of both.
abbrev pub EndsAreMeant : Type 0
EndsAreMeant =
    (p : Regions) (m : Meaning) (turns most : ℕ) (input : List ℕ) (replies : List (List Reply)) → (m.main ≡ stopped_by deep → ⊥) → RunShows p m turns most input replies
    → (n : ℕ) (e : Final) (w : World) → unit_run (unit_of p) input replies n ≡ over e w → paying (code_of (unit_of p)) n (first_state (unit_of p) input replies) < turns
    → seen_run (over e w) ≡ seen_of m
