-- What must be shown of a state at a landing pad of one of the open calls, in a world that is as it was.
use Rattle.std.proofs.Common.{◌≡◌, ◌∙◌, refl, sym, ap, subst, arith, ℕ, ◌<◌, ◌≤◌, ℤ, [], ◌∷◌, Some, None}
use Rattle.cxa_runtime.specs.World as abi
use Rattle.region_forms.specs.Effect.{newest_of}
use Rattle.region_forms.specs.World.{World}
use Rattle.linear_forms.specs.Stub.{Function, compiled, end_catch, terminating, call_unexpected}
use Rattle.linear_forms.specs.Activation.{State, goes_to}
use Rattle.linear_forms.specs.Machine.{step}
use Rattle.flight_homes.specs.Lives.{known_in}
use Rattle.linear_invariant.specs.Calls.{unmarked}
use Rattle.linear_invariant.specs.Forced.{newest_forced}
use Rattle.linear_invariant.specs.Handled.{open_handlers}
use Rattle.linear_invariant.proofs.Calls.{all_spared}
use Rattle.source_bounds.specs.Compiled.{unit_for}
use Rattle.machine_simulation.specs.Plan.{Plan}
use Rattle.address_invariant.specs.Extents.{extents_of}
use Rattle.address_invariant.specs.Laws.{GoesOn}
use Rattle.address_invariant.specs.Reaching.{IsBegunCall, VariablesLie, CallsReach, ObjectsReach, Reaches}
use Rattle.address_invariant.proofs.Steps.{steps_reach}
use Rattle.stub_landings.specs.Landings.{resting}
use Rattle.stub_landings.specs.Rests.{Rests}
use Rattle.step_law.specs.Facts.{regions_for, needs_for, code_for, Facts}
use Rattle.step_law.specs.Rows.{Run}
use Rattle.step_law.specs.Standing.{StandsBy}
use Rattle.step_law.proofs.Facing.{newest_made}
use Rattle.step_law.proofs.Keeping.{NotEntered, unmarked_stands, ShownBehind}
use Rattle.step_law.proofs.Landing.{begun_in, LandsIn, lands_aligned, lands_once}

-- what lies behind addresses there
module _ (x : Run) (facts : Facts x.program x.image x.carrying x.tables) (q : Plan) (st next : State) (h : step (code_for x.program) st ≡ goes_to next) (lands : LandsIn (st.top ∷ st.frames) st.world next)
    (reaches : Reaches (extents_of q) (unit_for x.program) (needs_for x.program) st) where
  plan_goes : GoesOn (extents_of q) (extents_of (resting q next)) (unit_for x.program) st.world next
  plan_goes = record { same = λ b begun. (refl, refl); objects = subst (ObjectsReach (extents_of q)) (sym lands.world) reaches.objects; opened = λ new. by next.top.function lands.function new }
    where
      begun : IsBegunCall st.world lands.call.function lands.call.frame.call
      begun = begun_in (extents_of q) (unit_for x.program) (needs_for x.program) st.world lands.inner lands.call lands.outer
          (subst (λ fs. CallsReach (extents_of q) (unit_for x.program) (needs_for x.program) st.world fs) lands.split reaches.calls)

      by : (f : Function) → f ≡ lands.call.function → next.top.frame.call ≡ st.world.calls → VariablesLie (extents_of (resting q next)) (unit_for x.program) f next.top.frame.call
      by (compiled m) same new =
          let older : lands.call.frame.call < st.world.calls = subst (λ g. IsBegunCall st.world g lands.call.frame.call) (sym same) begun in
          absurd (omega (arith, older, new, lands.number))
      by end_catch same new = tt
      by terminating same new = tt
      by call_unexpected same new = tt

  pub reach_landed : newest_of st.world.caught ≤ st.world.last_number → Reaches (extents_of (resting q next)) (unit_for x.program) (needs_for x.program) next
  reach_landed made = steps_reach (extents_of q) (extents_of (resting q next)) (unit_for x.program) (needs_for x.program) st next facts.reach reaches made h plan_goes

pub landed : (x : Run) (q : Plan) (before : ℕ) (st : State) (w : abi.World) → Facts x.program x.image x.carrying x.tables → StandsBy x.program x.image x.carrying x.tables q before st w → (next : State) → step (code_for x.program) st ≡ goes_to next →
    LandsIn (st.top ∷ st.frames) st.world next → (turns : ℕ) (u : abi.World) → Rests (resting q next) next u → ((z : ℤ) → newest_forced x.carrying None (next.top ∷ next.frames) ≡ Some z → u.unwinding ≡ Some z) →
    ShownBehind x.program x.carrying q (resting q next) turns st next w u []
landed x q before st w facts stands next h lands turns u rests forced = record {
  plan = record { frames = record { unit = refl; hidden = refl }; base = refl; tables = refl };
  aligned = lands_aligned q (resting q next) (record { unit = refl; hidden = refl }) (st.top ∷ st.frames) st.world next lands;
  spared = all_spared x.carrying (NotEntered []) (λ y. refl) None (next.top ∷ next.frames);
  rests = rests;
  few = let handlers = ap (λ (v : World). open_handlers v.caught) lands.world in omega (arith, handlers);
  reaches = reach_landed x facts q st next h lands stands.reaches
      (newest_made (unmarked (known_in (regions_for x.program))) (code_for x.program) x.carrying stands.steps st (unmarked_stands x.program x.image x.carrying x.tables q before st w stands));
  ending = λ none. sym (ap (λ (v : World). v.ending) lands.world) ∙ none;
  once = let fewer = lands_once (st.top ∷ st.frames) st.world next lands in let few = stands.once in omega (arith, fewer, few);
  forced = forced;
}
