-- An exception goes on behind a cleanup of a compiled function, in a whole run.
use Rattle.std.proofs.Common.{◌≡◌, ◌∙◌, refl, sym, ap, subst, arith, ℕ, zero, suc, ◌<◌, inl, inr, false, List, [], ◌∷◌, None}
use Rattle.cxa_runtime.specs.World as abi
use Rattle.eh_run.specs.Program.{program_of}
use Rattle.region_forms.specs.World.{flying, World, type_at}
use Rattle.linear_forms.specs.Linear.{resume}
use Rattle.linear_forms.specs.Stub.{Function, compiled, end_catch, terminating, call_unexpected}
use Rattle.linear_forms.specs.Activation.{Activation, State, Code, Next, goes_to, finishes, by_program, fault, fetch, look}
use Rattle.linear_forms.specs.Machine.{step}
use Rattle.linear_forms.specs.Operation.{resumed}
use Rattle.linear_forms.specs.Pace.{pays_at, one_if, Leads}
use Rattle.linear_forms.proofs.Paces
use Rattle.exceptions_in_flight.specs.Aims.{ComesToPad}
use Rattle.exceptions_in_flight.proofs.Targets.{flights_come_to_pads}
use Rattle.linear_invariant.specs.Handled.{open_handlers}
use Rattle.linear_invariant.proofs.Asked.{resumes_are_asked}
use Rattle.linear_invariant.proofs.Calls.{all_spared}
use Rattle.source_bounds.specs.Compiled.{unit_for}
use Rattle.machine_pieces.specs.Turning.{Turns}
use Rattle.machine_simulation.specs.Plan.{Plan}
use Rattle.address_invariant.specs.Extents.{extents_of}
use Rattle.address_invariant.specs.Reaching.{IsBegunCall, VariablesLie, CallsReach, ObjectsReach}
use Rattle.address_invariant.specs.Laws.{GoesOn}
use Rattle.address_invariant.proofs.Newest.{newest_was_made}
use Rattle.address_invariant.proofs.Steps.{steps_reach}
use Rattle.stub_landings.specs.Landings.{resting, ResumesLand}
use Rattle.stub_landings.specs.Rests.{Rests}
use Rattle.whole_runs.proofs.Rounds.{pays_known}
use Rattle.whole_runs.proofs.Single.{goes_on_one, made_by_turns, breaks_one}
use Rattle.linear_forms.specs.Unwinding.{unwind}
use Rattle.whole_runs.proofs.Landing.{AtPad, Lands, unwind_lands, at_pad}
use Rattle.step_law.specs.Facts.{regions_for, needs_for, code_for}
use Rattle.step_law.specs.Standing.{Standing}
use Rattle.step_law.specs.Rows.{Run, IsAt, FollowsIn}
use Rattle.step_law.specs.Raises.{ResumesFollow}
use Rattle.step_law.proofs.At.{fetches, same_code, step_acts, step_at, pad_paid}
use Rattle.step_law.proofs.Exceptions.{calm_other}
use Rattle.step_law.proofs.Keeping.{NotEntered, CalmAt, kept_by_turns, unmarked_stands, calm_forced, ShownBehind, stands_behind}
use Rattle.step_law.proofs.Several.{no_pad_faults}
use Rattle.step_law.proofs.Landing.{begun_in, LandsIn, lands_in, lands_outside, lands_aligned, lands_once}
use Rattle.step_law.proofs.Raises.{is_running, resume_asked}

module _ (x : Run) (q : Plan) (before n s e d : ℕ) (st : State) (w : abi.World) (at : IsAt x q before n (resume s) st w) (is : st.top.frame.slots s ≡ flying e d) where
  abbrev code : Code
  code = code_for x.program

  abbrev here : List Activation
  here = st.top ∷ st.frames

  comes : ComesToPad code (type_at st.world e) d e here st.world (step code st)
  comes =
      let goes = resumes_are_asked (regions_for x.program) x.carrying at.stands.steps s st at.facts.fits (unmarked_stands x.program x.image x.carrying x.tables q before st w at.stands) (fetches x q before n (resume s) st w at) in
      let asked = goes.asked e d is in
      subst (ComesToPad code (type_at st.world e) d e here st.world) (sym (step_acts x q before n (resume s) st w at ∙ ap (λ y. resumed code y st.top st.frames st.world) is))
      ((flights_come_to_pads code e st.top st.frames st.world).goes_on d asked.aims)

  resume_calm : CalmAt code st
  resume_calm = calm_other x q before n (resume s) st w at (λ op same. cc same)

  resumes_it : step code st ≡ unwind code (look code st.top.function st.top.place) d e st.top.function st.top.frame st.frames st.world
  resumes_it = step_acts x q before n (resume s) st w at ∙ ap (λ y. resumed code y st.top st.frames st.world) is

  module _ (next : State) (h : step code st ≡ goes_to next) where
    comes_there : ComesToPad code (type_at st.world e) d e here st.world (goes_to next)
    comes_there = subst (ComesToPad code (type_at st.world e) d e here st.world) h comes

    lands : LandsIn here st.world next
    lands = lands_in code (type_at st.world e) d e here st.world next comes_there

    abbrev r : Plan
    r = resting q next

    plan_goes : GoesOn (extents_of q) (extents_of r) (unit_for x.program) st.world next
    plan_goes = record { same = λ b begun. (refl, refl); objects = subst (ObjectsReach (extents_of q)) (sym lands.world) at.stands.reaches.objects; opened = λ new. by next.top.function lands.function new }
      where
        begun : IsBegunCall st.world lands.call.function lands.call.frame.call
        begun = begun_in (extents_of q) (unit_for x.program) (needs_for x.program) st.world lands.inner lands.call lands.outer
            (subst (λ fs. CallsReach (extents_of q) (unit_for x.program) (needs_for x.program) st.world fs) lands.split at.stands.reaches.calls)

        by : (f : Function) → f ≡ lands.call.function → next.top.frame.call ≡ st.world.calls → VariablesLie (extents_of r) (unit_for x.program) f next.top.frame.call
        by (compiled m) same new =
            let older : lands.call.frame.call < st.world.calls = subst (λ g. IsBegunCall st.world g lands.call.frame.call) (sym same) begun in
            absurd (omega (arith, older, new, lands.number))
        by end_catch same new = tt
        by terminating same new = tt
        by call_unexpected same new = tt

    goes_on : next.top.function ≡ terminating → ⊥
    goes_on ends = lands_outside code (type_at st.world e) d e here st.world next comes_there ends

    shown : (turns : ℕ) (u : abi.World) → Turns (program_of x.image).image turns w u [] → Rests r next u → ShownBehind x.program x.carrying q r turns st next w u []
    shown turns u turned rests = record {
      plan = record { frames = record { unit = refl; hidden = refl }; base = refl; tables = refl };
      aligned = lands_aligned q r (record { unit = refl; hidden = refl }) here st.world next lands;
      spared = all_spared x.carrying (NotEntered []) (λ y. refl) None (next.top ∷ next.frames);
      rests = rests;
      few = let handlers = ap (λ (v : World). open_handlers v.caught) lands.world in omega (arith, handlers);
      reaches = steps_reach (extents_of q) (extents_of r) (unit_for x.program) (needs_for x.program) st next at.facts.reach at.stands.reaches (newest_was_made q st w at.matches) h plan_goes;
      ending = λ none. sym (ap (λ (v : World). v.ending) lands.world) ∙ none;
      once = let fewer = lands_once here st.world next lands in let few = at.stands.once in omega (arith, fewer, few);
      forced = calm_forced x.program x.image x.carrying x.tables q before st next w u at.facts at.stands h resume_calm turned.unwinding;
    }

    -- the landing pad is in front of its place
    lands_at : AtPad code next
    lands_at = at_pad code (step code st) next (subst (Lands code) (sym resumes_it) (unwind_lands code (look code st.top.function st.top.place) d e st.top.function st.top.frame st.frames st.world)) h goes_on

    follows : ResumesLand → FollowsIn x before st w
    follows run =
        let ran = run x.image q n s e d st next w at.matches (is_running x q before n (resume s) st w at) (step_at x q before n (resume s) st w at next h) (resume_asked x q before n s st w at e d is)
        (at.facts.pads q at.stands.unit) (at.facts.filters q at.stands.unit) goes_on in
        let paid : pays_at code st ≡ false = subst (λ c. pays_at c st ≡ false) (same_code x q before n (resume s) st w at) (pays_known (program_of x.image).image x.pick q st w n (resume s) at.runs at.there) in
        let none = ap one_if paid in
        inl (goes_on_one (program_of x.image).image x.pick code st w (Standing x.program x.image x.carrying x.tables) before next [] ran.1.turns ran.1.after h ran.0 (omega (arith, none)) (pad_paid x q before n (resume s) st w at next ran.1.turns h refl lands_at ran.1.few)
        (made_by_turns (program_of x.image).image x.pick ran.1.turns w ran.1.after [] ran.1.runs) (
          r,
          stands_behind x.program x.image x.carrying x.tables at.facts q r before ran.1.turns 1 st next w ran.1.after [] at.stands (Paces.one_step code st (goes_to next) h) first_calm
              (kept_by_turns (program_of x.image).image ran.1.turns w ran.1.after [] ran.1.runs) (shown ran.1.turns ran.1.after ran.1.runs ran.1.holds.0),
        ))
      where
        first_calm : (j : ℕ) (middle : State) → j < 1 → Leads code j st (goes_to middle) → CalmAt code middle
        first_calm zero middle less leads = let one : st ≡ middle = cc leads in subst (λ m. CalmAt code m) one resume_calm
        first_calm (suc j) middle less leads = absurd (omega (arith, less))

  pub resumed_follows : ResumesLand → FollowsIn x before st w
  resumed_follows run = by (step code st) refl comes
    where
      by : (y : Next) → step code st ≡ y → ComesToPad code (type_at st.world e) d e here st.world y → FollowsIn x before st w
      by (goes_to next) h c = follows next h run
      by (finishes f v) h c =
          let faulty = no_pad_faults (fetch code c.call.function c.pad) (flying e d) c.number c.call.function c.pad c.call.frame c.outer st.world v f (sym c.comes) in
          inr (inr (inr (breaks_one (program_of x.image).image x.pick code st w f v h (λ why ends. let no : fault ≡ by_program why = sym faulty ∙ ends in absurd (cc no)))))

pub resumes_follow : ResumesLand → ResumesFollow
resumes_follow run x q before n s e d st w at is = resumed_follows x q before n s e d st w at is run
