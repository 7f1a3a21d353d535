-- Forced unwinds that go on from one of the runtime's own functions and come to a landing pad, in a whole run.
use Rattle.std.proofs.Common.{◌≡◌, ◌∙◌, refl, sym, ap, subst, arith, ℕ, zero, suc, ◌+◌, ◌≤◌, ◌<◌, inl, ℤ, [], ◌∷◌, length, length-append, Some, None}
use Rattle.run_items.specs.declared.item.Item.TheVariants.{Free}
use Rattle.cxa_runtime.specs.Raising.{Image}
use Rattle.cxa_runtime.specs.World as abi
use Rattle.eh_run.specs.Program.{program_of}
use Rattle.region_forms.specs.World.{unwinding, World}
use Rattle.linear_forms.specs.Defined.{RunsAt}
use Rattle.linear_forms.specs.Linear.{plain, free, resume}
use Rattle.linear_forms.specs.Stub.{end_catch, call_unexpected, linear, stub_op}
use Rattle.linear_forms.specs.Activation.{State, Code, goes_to, fetch, look}
use Rattle.linear_forms.specs.Machine.{act_on, step}
use Rattle.linear_forms.specs.Operation.{resumed}
use Rattle.linear_forms.specs.Pace.{pays, pays_at, one_if, paying, Leads}
use Rattle.linear_forms.specs.Forced.{force}
use Rattle.linear_forms.specs.UnitRun.{code_of}
use Rattle.linear_forms.proofs.Paces
use Rattle.flight_homes.specs.Lives.{known_in}
use Rattle.linear_invariant.specs.Calls.{unmarked}
use Rattle.linear_invariant.specs.Handled.{open_handlers}
use Rattle.linear_invariant.specs.Stands.{StandsIn}
use Rattle.linear_invariant.proofs.Calls.{all_spared}
use Rattle.linear_invariant.proofs.ForcedRuns.{forced_are_newest}
use Rattle.linear_invariant.proofs.Steps.{steps_stand}
use Rattle.source_bounds.specs.Compiled.{unit_for}
use Rattle.machine_pieces.specs.Turning.{Turns}
use Rattle.machine_simulation.specs.Objects.{without_object}
use Rattle.machine_simulation.specs.Plan.{Plan}
use Rattle.address_invariant.specs.Extents.{extents_of}
use Rattle.address_invariant.specs.Reaching.{VariablesLie, Reaches}
use Rattle.address_invariant.proofs.Steps.{steps_reach}
use Rattle.stub_landings.specs.Landings.{GoesOn, resting}
use Rattle.stub_landings.specs.Rests.{FreesOnTheWay, LeavesOn, Rests}
use Rattle.own_ends.specs.Flights.{UnwindsOn}
use Rattle.own_ends.specs.Resumes.{held_back, freed_on_the_way, OwnFlightsGoOn, CatchFreesOnTheWay}
use Rattle.whole_runs.proofs.Rounds.{some_shown}
use Rattle.whole_runs.proofs.Single.{goes_on_one, made_by_turns}
use Rattle.whole_runs.proofs.Spending.{own_spends}
use Rattle.cost_turns.specs.Weights.{is_own}
use Rattle.step_law.proofs.At.{few_pad_words}
use Rattle.step_law.specs.Facts.{regions_for, needs_for, code_for}
use Rattle.step_law.specs.Own.{StandsAt}
use Rattle.step_law.specs.OwnUnwinds.{PassedUnwindsFollow, FreedUnwindsFollow}
use Rattle.step_law.specs.Rows.{Run, FollowsIn}
use Rattle.step_law.specs.Standing.{Standing}
use Rattle.step_law.proofs.Aligned.{align_same, align_then, itself}
use Rattle.step_law.proofs.Calm.{CalmSteps, calm_newest, steps_follow}
use Rattle.step_law.proofs.Facing.{runs_image, code_same, newest_made}
use Rattle.step_law.proofs.Forced.{forced_in}
use Rattle.step_law.proofs.Keeping.{NotEntered, CalmAt, kept_by_turns, unmarked_stands, calm_forced, ShownBehind, stands_behind}
use Rattle.step_law.proofs.Landed.{landed, reach_landed}
use Rattle.step_law.proofs.Landing.{LandsIn, lands_aligned, lands_once}
use Rattle.step_law.proofs.Several.{forced_behind}

-- what goes on with a forced unwind is force's
pub resumes_by : (code : Code) (s : ℕ) (z : ℤ) (st : State) → RunsAt code st (linear (resume s)) → st.top.frame.slots s ≡ unwinding z → step code st ≡ force code (look code st.top.function st.top.place) z st.top.function st.top.frame st.frames st.world
resumes_by code s z st runs is = ap (λ o. act_on code o st.top st.frames st.world) runs ∙ ap (λ y. resumed code y st.top st.frames st.world) is

-- it raises nothing
pub resumes_calmly : (code : Code) (s : ℕ) (st : State) → RunsAt code st (linear (resume s)) → CalmAt code st
resumes_calmly code s st runs other also = let same : Some (linear (resume s)) ≡ Some (linear (plain other)) = sym runs ∙ also in absurd (cc same)

-- ---- from call_unexpected

module _ (x : Run) (q : Plan) (before : ℕ) (z : ℤ) (st next : State) (w : abi.World) (at : StandsAt x q before st w) (rests : LeavesOn q 57 17 st w) (is : st.top.frame.slots 4 ≡ unwinding z) (h : step (code_for x.program) st ≡ goes_to next)
    (goes_on : GoesOn next) where
  abbrev code : Code
  code = code_for x.program

  abbrev image : Image
  image = (program_of x.image).image

  runs : RunsAt code st (linear (resume 4))
  runs = ap (λ f. fetch code f st.top.place) rests.rests.runs ∙ ap (stub_op call_unexpected) rests.there

  unwinds : UnwindsOn st w 4 z
  unwinds = record {
    is = is;
    on = at.stands.forced z (forced_are_newest (regions_for x.program) x.carrying at.stands.steps 4 z st at.facts.fits (unmarked_stands x.program x.image x.carrying x.tables q before st w at.stands) runs is);
  }

  lands : LandsIn (st.top ∷ st.frames) st.world next
  lands = forced_in code z st.world next goes_on st.top st.frames (sym (resumes_by code 4 z st runs is) ∙ h)

  passed : OwnFlightsGoOn → FollowsIn x before st w
  passed run =
      let ran = run.unwinds x.image q z st next w rests (runs_image x q before st w at.facts at.stands) unwinds (ap (λ c. step c st) (code_same x q before st w at.facts at.stands) ∙ h) (at.facts.pads q at.stands.unit)
      (at.facts.filters q at.stands.unit) goes_on in
      let none = ap one_if (ap pays runs) in
      let calm = resumes_calmly code 4 st runs in
      inl (goes_on_one image x.pick code st w (Standing x.program x.image x.carrying x.tables) before next [] ran.1.turns ran.1.after h ran.0 (omega (arith, none))
      (own_spends code st (linear (resume 4)) ran.1.turns (ap is_own rests.rests.runs) runs (omega (arith, ran.1.few, few_pad_words next.top.function))) (made_by_turns image x.pick ran.1.turns w ran.1.after [] ran.1.runs) (
        resting q next,
        stands_behind x.program x.image x.carrying x.tables at.facts q (resting q next) before ran.1.turns 1 st next w ran.1.after [] at.stands (Paces.one_step code st (goes_to next) h) (first_calm calm)
            (kept_by_turns image ran.1.turns w ran.1.after [] ran.1.runs)
            (landed x q before st w at.facts at.stands next h lands ran.1.turns ran.1.after ran.1.holds.0 (calm_forced x.program x.image x.carrying x.tables q before st next w ran.1.after at.facts at.stands h calm ran.1.runs.unwinding)),
      ))
    where
      first_calm : CalmAt code st → (j : ℕ) (middle : State) → j < 1 → Leads code j st (goes_to middle) → CalmAt code middle
      first_calm calm zero middle less leads = let one : st ≡ middle = cc leads in subst (λ m. CalmAt code m) one calm
      first_calm calm (suc j) middle less leads = absurd (omega (arith, less))

pub passed_unwinds_follow : OwnFlightsGoOn → PassedUnwindsFollow
passed_unwinds_follow run x q before z st next w at rests is h goes_on = passed x q before z st next w at rests is h goes_on run

-- ---- from end_catch

module _ (x : Run) (q : Plan) (before : ℕ) (z : ℤ) (st next : State) (w : abi.World) (at : StandsAt x q before st w) (rests : FreesOnTheWay q st w) (is : st.top.frame.slots 2 ≡ unwinding z)
    (h : step (code_for x.program) (freed_on_the_way st) ≡ goes_to next) (goes_on : GoesOn next) (run : CatchFreesOnTheWay) where
  abbrev its_code : Code
  its_code = code_for x.program

  abbrev its_image : Image
  its_image = (program_of x.image).image

  abbrev middle : State
  middle = freed_on_the_way st

  abbrev e : ℕ
  e = held_back st

  abbrev freed_plan : Plan
  freed_plan = without_object q e

  abbrev r : Plan
  r = resting freed_plan next

  same : code_of q.unit ≡ its_code
  same = code_same x q before st w at.facts at.stands

  frees : step its_code st ≡ goes_to middle
  frees = subst (λ c. step c st ≡ goes_to middle) same (run.frees x.image q st w rests)

  runs_first : RunsAt its_code st (linear (free 0))
  runs_first = ap (λ f. fetch its_code f st.top.place) rests.rests.runs ∙ ap (stub_op end_catch) rests.place

  runs_last : RunsAt its_code middle (linear (resume 2))
  runs_last = ap (λ f. fetch its_code f (st.top.place + 1)) rests.rests.runs ∙ ap (λ p. stub_op end_catch (p + 1)) rests.place

  first : StandsIn (unmarked (known_in (regions_for x.program))) its_code x.carrying at.stands.steps st
  first = unmarked_stands x.program x.image x.carrying x.tables q before st w at.stands

  last : StandsIn (unmarked (known_in (regions_for x.program))) its_code x.carrying (at.stands.steps + 1) middle
  last = steps_stand (regions_for x.program) x.carrying at.stands.steps st middle at.facts.fits first frees

  calm_first : CalmAt its_code st
  calm_first other also = let no : Some (linear (free 0)) ≡ Some (linear (plain other)) = sym runs_first ∙ also in absurd (cc no)

  calm : CalmSteps its_code 2 st next
  calm = (calm_first, middle, frees, (resumes_calmly its_code 2 middle runs_last, next, h, refl))

  unwinds_on : UnwindsOn st w 2 z
  unwinds_on = record {
    is = is;
    on = forced_behind x at.facts at.stands.steps st middle first frees calm_first w.unwinding at.stands.forced w.unwinding refl z
        (forced_are_newest (regions_for x.program) x.carrying (at.stands.steps + 1) 2 z middle at.facts.fits last runs_last is);
  }

  landed_there : LandsIn (middle.top ∷ middle.frames) middle.world next
  landed_there = forced_in its_code z middle.world next goes_on middle.top middle.frames (sym (resumes_by its_code 2 z middle runs_last is) ∙ h)

  middle_reaches : Reaches (extents_of freed_plan) (unit_for x.program) (needs_for x.program) middle
  middle_reaches = steps_reach (extents_of q) (extents_of freed_plan) (unit_for x.program) (needs_for x.program) st middle at.facts.reach at.stands.reaches
      (newest_made (unmarked (known_in (regions_for x.program))) its_code x.carrying at.stands.steps st first) frees (record {
        same = λ b begun. (refl, refl);
        objects = record { globals = at.stands.reaches.objects.globals; exceptions = at.stands.reaches.objects.exceptions };
        opened = λ new. subst (λ f. VariablesLie (extents_of freed_plan) (unit_for x.program) f st.top.frame.call) (sym rests.rests.runs) tt;
      })

  fewer : length (next.top ∷ next.frames) ≤ length (middle.top ∷ middle.frames)
  fewer =
      let rest = ap length landed_there.frames in
      let whole = ap length landed_there.split in
      let parts = length-append landed_there.inner (landed_there.call ∷ landed_there.outer) in omega (arith, rest, whole, parts)

  shown : (turns : ℕ) (u : abi.World) → Turns its_image turns w u (Free e ∷ []) → Rests r next u → ShownBehind x.program x.carrying q r turns st next w u (Free e ∷ [])
  shown turns u turned resting_there = record {
    plan = record { frames = record { unit = refl; hidden = refl }; base = refl; tables = refl };
    aligned = align_then q q r (st.top ∷ st.frames) (middle.top ∷ middle.frames) (next.top ∷ next.frames) fewer (align_same q q (itself q) st.top middle.top st.frames refl)
        (lands_aligned q r (record { unit = refl; hidden = refl }) (middle.top ∷ middle.frames) middle.world next landed_there);
    spared = all_spared x.carrying (NotEntered (Free e ∷ [])) (λ y. refl) None (next.top ∷ next.frames);
    rests = resting_there;
    few = let handlers = ap (λ (v : World). open_handlers v.caught) landed_there.world in omega (arith, handlers);
    reaches = reach_landed x at.facts freed_plan middle next h landed_there middle_reaches (newest_made (unmarked (known_in (regions_for x.program))) its_code x.carrying (at.stands.steps + 1) middle last);
    ending = λ none. sym (ap (λ (v : World). v.ending) landed_there.world) ∙ none;
    once = let less = lands_once (middle.top ∷ middle.frames) middle.world next landed_there in let few = at.stands.once in omega (arith, less, few);
    forced = calm_newest x.program x.image x.carrying x.tables at.facts q before 2 st next w u at.stands calm turned.unwinding;
  }

  freed : FollowsIn x before st w
  freed =
      let ran = run.unwinds x.image q z st next w rests (runs_image x q before st w at.facts at.stands) unwinds_on (ap (λ c. step c middle) same ∙ h) (at.facts.pads q at.stands.unit) (at.facts.filters q at.stands.unit) goes_on in
      let m = ran.2 in
      let two = Paces.tally_step its_code (pays_at its_code) 1 st middle frees in
      let one = Paces.tally_once its_code (pays_at its_code) middle in
      let a = ap one_if (ap pays runs_first) in
      let b = ap one_if (ap pays runs_last) in
      let unpaid : paying its_code 2 st ≤ 1 = omega (arith, two, one, a, b) in
      let many = some_shown its_image x.pick m.turns w m.after (Free e) [] (made_by_turns its_image x.pick m.turns w m.after (Free e ∷ []) m.runs) in
      steps_follow x q r before 2 m.turns st next w m.after (Free e ∷ []) at.facts at.stands (omega arith) calm unpaid (omega (arith, many))
      (own_spends its_code st (linear (free 0)) m.turns (ap is_own rests.rests.runs) runs_first (omega (arith, m.few, few_pad_words next.top.function))) ran.1 m.runs (shown m.turns m.after m.runs m.holds)

pub freed_unwinds_follow : CatchFreesOnTheWay → FreedUnwindsFollow
freed_unwinds_follow run x q before z st next w at rests is h goes_on = freed x q before z st next w at rests is h goes_on run
