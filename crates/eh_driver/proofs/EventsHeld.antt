-- The events of meanings, and of runs that show them.
use Rattle.std.proofs.Common.{ℕ, List, sym, subst}
use Rattle.std.specs.Prelude.{⊤}
use Rattle.eh_outer.specs.declared.module.Reply.{Reply}
use Rattle.cxx_ast.specs.Plain.{Checked}
use Rattle.meaning_forms.specs.Meaning.{Meaning, program_meaning}
use Rattle.meaning_events.specs.Events.{AreAllowed, AreSettled}
use Rattle.meaning_events.specs.Counted.{AllowedAreCounted, FrontsAreAllowed}
use Rattle.meaning_events.specs.Laws.{EventsAreRight, EventLaws}
use Rattle.cxa_runtime.specs.Run.{Ran}
use Rattle.compiled_runs.specs.Compiled.{IsCut, RunMeans}
use Rattle.eh_driver.specs.Events.{EventsHold}

-- the laws of events
pub record LawsOfEvents : Type 0 where
  pub right : EventLaws
  pub counted : AllowedAreCounted
  pub fronts : FrontsAreAllowed

module _ (laws : LawsOfEvents) where
  pub meaning_holds : (p : Checked) (input : List ℕ) (replies : List (List Reply)) (turns limit : ℕ) → let m = program_meaning p input replies turns limit in EventsHold m m.items ⊤
  meaning_holds p input replies turns limit =
      let right = laws.right p input replies turns limit in
      let items = (program_meaning p input replies turns limit).items in
      record { ordered = right.allowed; counted = laws.counted items right.allowed; settled = λ all out. right.settled out }

  -- a run shows a front, and all where it is not cut short
  pub run_holds : (m : Meaning) (r : Ran) → EventsAreRight m → RunMeans m r → EventsHold m r.items (IsCut r.end → ⊥)
  run_holds m r right means =
      let allowed = laws.fronts r.items means.front.0 (subst AreAllowed means.front.1 right.allowed) in
      record { ordered = allowed; counted = laws.counted r.items allowed; settled = λ all out. subst AreSettled (sym (means.whole all).0) (right.settled out) }
