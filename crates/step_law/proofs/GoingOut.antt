-- An exception goes on outwards from an open call, compiled or one of the runtime's own, and comes to a landing pad.
use Rattle.std.proofs.Common.{◌≡◌, ◌∙◌, sym, ap, subst, ℕ, ◌≤◌, List, ◌∷◌, Some}
use Rattle.region_forms.specs.Effect.{newest_of}
use Rattle.region_forms.specs.World.{flying, type_at}
use Rattle.linear_forms.specs.Linear.{plain, resume}
use Rattle.linear_forms.specs.Stub.{terminating, linear}
use Rattle.linear_forms.specs.Defined.{RunsAt}
use Rattle.linear_forms.specs.Activation.{Activation, State, Code, goes_to}
use Rattle.linear_forms.specs.Machine.{act_on, step}
use Rattle.linear_forms.specs.Operation.{resumed}
use Rattle.exceptions_in_flight.specs.Aims.{ComesToPad}
use Rattle.exceptions_in_flight.proofs.Targets.{flights_come_to_pads}
use Rattle.flight_homes.specs.Lives.{known_in}
use Rattle.linear_invariant.specs.Asked.{ResumeAsked}
use Rattle.linear_invariant.specs.Calls.{unmarked}
use Rattle.linear_invariant.specs.Stands.{StandsIn}
use Rattle.linear_invariant.proofs.Asked.{resumes_are_asked}
use Rattle.source_bounds.specs.Compiled.{unit_for}
use Rattle.machine_simulation.specs.Plan.{Plan}
use Rattle.address_invariant.specs.Extents.{extents_of}
use Rattle.address_invariant.specs.Reaching.{Reaches}
use Rattle.stub_landings.specs.Landings.{resting}
use Rattle.step_law.specs.Facts.{regions_for, needs_for, code_for, Facts}
use Rattle.step_law.specs.Rows.{Run}
use Rattle.step_law.proofs.Keeping.{CalmAt}
use Rattle.step_law.proofs.Landed.{reach_landed}
use Rattle.step_law.proofs.Landing.{LandsIn, lands_in, lands_outside}

module _ (x : Run) (facts : Facts x.program x.image x.carrying x.tables) (steps s e d : ℕ) (st : State) (inv : StandsIn (unmarked (known_in (regions_for x.program))) (code_for x.program) x.carrying steps st)
    (runs : RunsAt (code_for x.program) st (linear (resume s))) (is : st.top.frame.slots s ≡ flying e d) where
  abbrev code : Code
  code = code_for x.program

  abbrev here : List Activation
  here = st.top ∷ st.frames

  pub goes_asked : ResumeAsked (known_in (regions_for x.program)) code x.carrying st e d
  goes_asked = (resumes_are_asked (regions_for x.program) x.carrying steps s st facts.fits inv runs).asked e d is

  pub comes_to_pad : ComesToPad code (type_at st.world e) d e here st.world (step code st)
  comes_to_pad =
      subst (ComesToPad code (type_at st.world e) d e here st.world)
      (sym (ap (λ o. act_on code o st.top st.frames st.world) runs ∙ ap (λ y. resumed code y st.top st.frames st.world) is))
      ((flights_come_to_pads code e st.top st.frames st.world).goes_on d goes_asked.aims)

  pub calm_out : CalmAt code st
  calm_out other runs_other = let same : Some (linear (resume s)) ≡ Some (linear (plain other)) = sym runs ∙ runs_other in absurd (cc same)

  module _ (next : State) (h : step code st ≡ goes_to next) where
    comes_there : ComesToPad code (type_at st.world e) d e here st.world (goes_to next)
    comes_there = subst (ComesToPad code (type_at st.world e) d e here st.world) h comes_to_pad

    pub lands_out : LandsIn here st.world next
    lands_out = lands_in code (type_at st.world e) d e here st.world next comes_there

    pub goes_on_out : next.top.function ≡ terminating → ⊥
    goes_on_out ends = lands_outside code (type_at st.world e) d e here st.world next comes_there ends

    -- what lies behind addresses there
    module _ (q : Plan) (reaches : Reaches (extents_of q) (unit_for x.program) (needs_for x.program) st) (made : newest_of st.world.caught ≤ st.world.last_number) where
      pub reach_out : Reaches (extents_of (resting q next)) (unit_for x.program) (needs_for x.program) next
      reach_out = reach_landed x facts q st next h lands_out reaches made
