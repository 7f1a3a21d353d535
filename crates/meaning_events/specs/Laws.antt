-- What the calls of laws state of every program's events.
use Rattle.std.specs.Prelude.{◌≡◌, ℕ, Bool, true, false, List}
use Rattle.cxx_ast.specs.Plain.{Checked}
use Rattle.eh_outer.specs.declared.module.Reply.{Reply}
use Rattle.meaning_forms.specs.Outcome.{cancelled}
use Rattle.meaning_forms.specs.Meaning.{MainOutcome, returned, stopped_by, Meaning, program_meaning}
use Rattle.meaning_forms.specs.Call.{running}
use Rattle.meaning_events.specs.Events.{AreAllowed, AreSettled}
use Rattle.meaning_events.specs.Settles.{CallsSettle}

-- main came to its end by itself or by a forced unwind
abbrev pub came_out : MainOutcome → Bool
came_out (returned v) = true
came_out (stopped_by (cancelled n)) = true
came_out (stopped_by x) = false

-- the events of every meaning
pub record EventsAreRight (m : Meaning) : Type 0 where
  pub allowed : AreAllowed m.items
  pub settled : came_out m.main ≡ true → AreSettled m.items

abbrev pub EventLaws : Type 0
EventLaws = (p : Checked) (input : List ℕ) (replies : List (List Reply)) (turns limit : ℕ) → EventsAreRight (program_meaning p input replies turns limit)

-- each call inside a run settles what it makes, whatever its fuel and the limit of open calls
abbrev pub AllCallsSettle : Type 0
AllCallsSettle = (p : Checked) (limit fuel : ℕ) → CallsSettle (running p limit fuel)
