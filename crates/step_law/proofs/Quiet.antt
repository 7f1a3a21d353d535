-- Operations that do nothing outside their call, in a whole run.
use Rattle.std.proofs.Common.{◌≡◌, ◌∙◌, refl, sym, ap, subst, ℕ, ℤ, true, [], inl, length, is_some, Some}
use Rattle.cxa_runtime.specs.World as abi
use Rattle.eh_run.specs.Program.{program_of}
use Rattle.region_forms.specs.Form.{Root, in_slot, through, in_global, Place, evaluate, store, bind}
use Rattle.region_forms.specs.Lives.{is_live}
use Rattle.region_forms.specs.World.{of_exception, Address, behind, Frame, World}
use Rattle.region_forms.specs.Evaluation.{Location, in_memory, location_behind, locate}
use Rattle.region_forms.specs.Effect.{goes, stored_at}
use Rattle.linear_forms.specs.Linear.{LinearOp, plain, label, jump, jump_zero}
use Rattle.linear_forms.specs.Activation.{State}
use Rattle.machine_simulation.specs.Plan.{Plan, shape, slot_kinds}
use Rattle.machine_forms.specs.LinearCode.{linear_code}
use Rattle.machine_simulation.specs.Exceptions.{PlanHas}
use Rattle.machine_simulation.specs.Asked.{LiveAsked}
use Rattle.machine_simulation.specs.Matches.{Matches}
use Rattle.machine_simulation.specs.Operations.{IsQuiet}
use Rattle.machine_simulation.specs.Laws.{OperationsRun}
use Rattle.machine_simulation.specs.Steps.{StepAt, StepMade}
use Rattle.machine_simulation.proofs.Items.{step_items}
use Rattle.machine_simulation.proofs.LiveThere.{live_there}
use Rattle.machine_simulation.proofs.Quiet.{store_step, test_step}
use Rattle.machine_simulation.proofs.Stored.{stored_there}
use Rattle.operation_premises.specs.Asked.{OperationLive}
use Rattle.operation_premises.proofs.Asked.{all_is_asked}
use Rattle.step_law.specs.Facts.{needs_for}
use Rattle.step_law.specs.Rows.{QuietStepsFollow}
use Rattle.step_law.proofs.At.{is_inside, is_static, reaches_there, stays_follow}
use Rattle.step_law.proofs.Settling.{quiet_stays}

-- what is there is live, where it is an exception
there_live : (p : Plan) (w : World) (e : ℕ) → PlanHas p w.live → is_live w e ≡ true → p.live (of_exception e) ≡ true
there_live p w e has live = has.live e ∙ ap is_some (live_there w.live e live)

-- an exception through whose address an int was stored is live
pub stored_live : (p : Plan) (n : ℕ) (frame y : Frame) (w v : World) (q : Place) (l : Location) (z : ℤ) → PlanHas p w.live → locate (slot_kinds p n) frame q ≡ Some l → stored_at l z frame w ≡ goes y v → LiveAsked p frame q.root
stored_live p n frame y w v q l z has located stored = by q.root refl
  where
    by : (r : Root) → q.root ≡ r → LiveAsked p frame r
    by (in_slot s) is = tt
    by (in_global g) is = tt
    by (through s) is = λ e k holds.
        let a : Address = record { base = of_exception e; offset = k } in
        let place : locate (slot_kinds p n) frame q ≡ Some (in_memory (behind a q.offset)) =
        ap (λ r. locate (slot_kinds p n) frame (record { root = r; offset = q.offset })) is ∙ ap (location_behind q.offset) holds in
        let same : Some l ≡ Some (in_memory (behind a q.offset)) = sym located ∙ place in
        let one : l ≡ in_memory (behind a q.offset) = cc same in
        let went = stored_there (behind a q.offset) z frame y w v (subst (λ m. stored_at m z frame w ≡ goes y v) one stored) in
        there_live p w e has went.0

module _ (p : Plan) (n : ℕ) (st next : State) (w : abi.World) (m : Matches p st w) where
  quiet_live : (o : LinearOp) → StepAt p st next n o → IsQuiet o → OperationLive p n st.top.frame st.world o
  quiet_live (plain (store q v)) at quiet =
      let s = store_step p n st next v q at.runs at.there quiet at.step in (
        all_is_asked.loads p n st.top.frame st.world v s.value m.runtime.plan s.value_is,
        stored_live p n st.top.frame s.frame st.world s.world q s.location s.value m.runtime.plan s.located s.stored,
      )
  quiet_live (jump_zero v l) at quiet =
      let s = test_step p n st next v l at.runs at.there at.step in
      all_is_asked.loads p n st.top.frame st.world v s.value m.runtime.plan s.value_is
  quiet_live (plain (evaluate v)) at quiet = tt
  quiet_live (plain (bind s q)) at quiet = tt
  quiet_live (label l) at quiet = tt
  quiet_live (jump l) at quiet = tt
  quiet_live o at quiet = absurd quiet

pub quiet_steps_follow : OperationsRun → QuietStepsFollow
quiet_steps_follow run x q before n o st w a quiet =
    stays_follow x q before n o st w a (quiet_stays _ st o quiet)
    (λ next at stays.
    let live = quiet_live q n st next w a.matches o at quiet in
    let asked = all_is_asked.operations q (needs_for x.program) n st o (is_inside x q before n o st w a) (is_static x q before n o st w a) (reaches_there x q before n o st w a) live in
    let made : StepMade q st next q (length (linear_code (shape q n) o)) [] =
    inl (record { number = n; operation = o; at = at; quiet = quiet; asked = asked; plan = refl; turns = refl; nothing_shown = refl }) in
    ([], (λ e. refl), step_items q q st next (length (linear_code (shape q n) o)) [] made, run (program_of x.image).image q n st next w o a.matches at.runs at.there quiet asked at.step))
