-- end_catch frees its object, and lets an exception out, in a whole run.
use Rattle.std.proofs.Common.{◌≡◌, ◌∙◌, length, length-append, refl, sym, ap, subst, arith, ℕ, zero, suc, ◌+◌, ◌≤◌, ◌<◌, inl, inr, ℤ, List, [], ◌∷◌, Some, None}
use Rattle.run_items.specs.declared.item.Item.TheVariants.{Free}
use Rattle.cxa_runtime.specs.World as abi
use Rattle.eh_run.specs.Program.{program_of}
use Rattle.region_forms.specs.World.{flying, World, type_at}
use Rattle.linear_forms.specs.Linear.{plain, free, resume}
use Rattle.linear_forms.specs.Stub.{end_catch, linear, stub_op}
use Rattle.linear_forms.specs.Defined.{RunsAt}
use Rattle.linear_forms.specs.Activation.{Activation, State, Code, Next, goes_to, finishes, by_program, fault, fetch}
use Rattle.linear_forms.specs.Machine.{step}
use Rattle.linear_forms.specs.Pace.{pays, pays_at, one_if, paying, Leads}
use Rattle.linear_forms.proofs.Paces
use Rattle.exceptions_in_flight.specs.Aims.{ComesToPad}
use Rattle.linear_invariant.specs.Forced.{newest_forced}
use Rattle.linear_invariant.specs.Calls.{unmarked}
use Rattle.linear_invariant.specs.Handled.{open_handlers}
use Rattle.linear_invariant.specs.Stands.{StandsIn}
use Rattle.linear_invariant.proofs.Calls.{all_spared}
use Rattle.linear_invariant.proofs.Steps.{steps_stand}
use Rattle.flight_homes.specs.Keeps.{stub_carries}
use Rattle.flight_homes.specs.Lives.{known_in}
use Rattle.source_bounds.specs.Compiled.{unit_for}
use Rattle.machine_pieces.specs.Turning.{Turns}
use Rattle.machine_simulation.specs.Plan.{Plan}
use Rattle.machine_simulation.specs.Objects.{without_object}
use Rattle.address_invariant.specs.Extents.{extents_of}
use Rattle.address_invariant.specs.Reaching.{VariablesLie, Reaches}
use Rattle.address_invariant.proofs.Steps.{steps_reach}
use Rattle.stub_landings.specs.Landings.{resting}
use Rattle.stub_landings.specs.Rests.{FreesOnTheWay, Rests}
use Rattle.own_ends.specs.Flights.{FliesOn}
use Rattle.own_ends.specs.Resumes.{held_back, freed_on_the_way, CatchFreesOnTheWay}
use Rattle.whole_runs.proofs.Rounds.{steps_go_on_made}
use Rattle.whole_runs.proofs.Single.{made_by_turns}
use Rattle.whole_runs.specs.Steps.{GoesOn as RoundGoesOn}
use Rattle.whole_runs.proofs.Spending.{own_spends}
use Rattle.cost_turns.specs.Weights.{is_own}
use Rattle.cost_words.specs.Spends.{spends}
use Rattle.step_law.proofs.At.{few_pad_words}
use Rattle.step_law.specs.Facts.{regions_for, needs_for, code_for}
use Rattle.step_law.specs.Standing.{Standing}
use Rattle.step_law.specs.Rows.{Run, FollowsIn}
use Rattle.step_law.specs.Own.{StandsAt, FreedFlightsFollow}
use Rattle.step_law.proofs.Aligned.{align_same, align_then, itself}
use Rattle.step_law.proofs.Facing.{runs_image, code_same, newest_made}
use Rattle.step_law.proofs.Flying.{own_whole, flies_on}
use Rattle.step_law.proofs.GoingOut.{comes_to_pad, calm_out, lands_out, goes_on_out, reach_out}
use Rattle.step_law.proofs.Keeping.{NotEntered, CalmAt, kept_by_turns, unmarked_stands, ShownBehind, stands_behind}
use Rattle.step_law.proofs.Landing.{LandsIn, lands_aligned, lands_once}
use Rattle.step_law.proofs.Several.{no_pad_faults, led_to, forced_behind, breaks_behind}
use Rattle.linear_forms.specs.UnitRun.{code_of}

module _ (x : Run) (q : Plan) (before e d : ℕ) (st : State) (w : abi.World) (at : StandsAt x q before st w) (rests : FreesOnTheWay q st w) (is : st.top.frame.slots 2 ≡ flying e d) (run : CatchFreesOnTheWay) where
  abbrev code : Code
  code = code_for x.program

  abbrev here : List Activation
  here = st.top ∷ st.frames

  abbrev middle : State
  middle = freed_on_the_way st

  abbrev freed_plan : Plan
  freed_plan = without_object q (held_back st)

  same : code_of q.unit ≡ code
  same = code_same x q before st w at.facts at.stands

  frees : step code st ≡ goes_to middle
  frees = subst (λ c. step c st ≡ goes_to middle) same (run.frees x.image q st w rests)

  runs_first : RunsAt code st (linear (free 0))
  runs_first = ap (λ f. fetch code f st.top.place) rests.rests.runs ∙ ap (stub_op end_catch) rests.place

  runs : RunsAt code middle (linear (resume 2))
  runs = ap (λ f. fetch code f (st.top.place + 1)) rests.rests.runs ∙ ap (λ p. stub_op end_catch (p + 1)) rests.place

  first : StandsIn (unmarked (known_in (regions_for x.program))) code x.carrying at.stands.steps st
  first = unmarked_stands x.program x.image x.carrying x.tables q before st w at.stands

  inv : StandsIn (unmarked (known_in (regions_for x.program))) code x.carrying (at.stands.steps + 1) middle
  inv = steps_stand (regions_for x.program) x.carrying at.stands.steps st middle at.facts.fits first frees

  flies : FliesOn q st w 2 6 e d
  flies = flies_on x q before st w at.facts at.stands end_catch 2 3 rests.rests.runs (λ a. refl) (ap (stub_carries end_catch) rests.place) tt e d is
      (own_whole q end_catch st w rests.rests.back rests.rests.runs refl rests.rests.memory)

  calm_first : CalmAt code st
  calm_first other also = let no : Some (linear (free 0)) ≡ Some (linear (plain other)) = sym runs_first ∙ also in absurd (cc no)

  calm_last : CalmAt code middle
  calm_last = calm_out x at.facts (at.stands.steps + 1) 2 e d middle inv runs is

  reach_middle : Reaches (extents_of freed_plan) (unit_for x.program) (needs_for x.program) middle
  reach_middle = steps_reach (extents_of q) (extents_of freed_plan) (unit_for x.program) (needs_for x.program) st middle at.facts.reach at.stands.reaches
      (newest_made (unmarked (known_in (regions_for x.program))) code x.carrying at.stands.steps st first) frees
      (record { same = λ b begun. (refl, refl); objects = record { globals = at.stands.reaches.objects.globals; exceptions = at.stands.reaches.objects.exceptions }; opened = λ new. subst (λ f. VariablesLie (extents_of freed_plan) (unit_for x.program) f st.top.frame.call) (sym rests.rests.runs) tt })

  module _ (next : State) (h : step code middle ≡ goes_to next) where
    abbrev r : Plan
    r = resting freed_plan next

    lands : LandsIn (middle.top ∷ middle.frames) middle.world next
    lands = lands_out x at.facts (at.stands.steps + 1) 2 e d middle inv runs is next h

    forced : (u : abi.World) → u.unwinding ≡ w.unwinding → (z : ℤ) → newest_forced x.carrying None (next.top ∷ next.frames) ≡ Some z → u.unwinding ≡ Some z
    forced u unchanged z now =
        forced_behind x at.facts (at.stands.steps + 1) middle next inv h calm_last w.unwinding
        (forced_behind x at.facts at.stands.steps st middle first frees calm_first w.unwinding at.stands.forced w.unwinding refl) u.unwinding unchanged z now

    shown : (turns : ℕ) (u : abi.World) → Turns (program_of x.image).image turns w u (Free (held_back st) ∷ []) → Rests r next u → ShownBehind x.program x.carrying q r turns st next w u (Free (held_back st) ∷ [])
    shown turns u turned resting = record {
      plan = record { frames = record { unit = refl; hidden = refl }; base = refl; tables = refl };
      aligned = align_then q q r here (middle.top ∷ middle.frames) (next.top ∷ next.frames) lands_fewer (align_same q q (itself q) st.top middle.top st.frames refl)
          (lands_aligned q r (record { unit = refl; hidden = refl }) (middle.top ∷ middle.frames) middle.world next lands);
      spared = all_spared x.carrying (NotEntered (Free (held_back st) ∷ [])) (λ y. refl) None (next.top ∷ next.frames);
      rests = resting;
      few = let handlers = ap (λ (v : World). open_handlers v.caught) lands.world in omega (arith, handlers);
      reaches = reach_out x at.facts (at.stands.steps + 1) 2 e d middle inv runs is next h freed_plan reach_middle (newest_made (unmarked (known_in (regions_for x.program))) code x.carrying (at.stands.steps + 1) middle inv);
      ending = λ none. sym (ap (λ (v : World). v.ending) lands.world) ∙ none;
      once = let fewer = lands_once (middle.top ∷ middle.frames) middle.world next lands in let few = at.stands.once in omega (arith, fewer, few);
      forced = forced u turned.unwinding;
    }
      where
        lands_fewer : length (next.top ∷ next.frames) ≤ length (middle.top ∷ middle.frames)
        lands_fewer =
            let rest = ap length lands.frames in let whole = ap length lands.split ∙ length-append lands.inner (lands.call ∷ lands.outer) in omega (arith, rest, whole)

    follows : FollowsIn x before st w
    follows =
        let ran = run.resumes x.image q e d st next w rests (runs_image x q before st w at.facts at.stands) flies (ap (λ c. step c middle) same ∙ h) (at.facts.pads q at.stands.unit) (at.facts.filters q at.stands.unit)
        (goes_on_out x at.facts (at.stands.steps + 1) 2 e d middle inv runs is next h) in
        let leads : Leads code 2 st (goes_to next) = Paces.stepped code 1 st middle (goes_to next) frees (Paces.one_step code middle (goes_to next) h) in
        let unpaid : paying code 2 st ≡ 0 =
        let two = Paces.tally_step code (pays_at code) 1 st middle frees in let one = Paces.tally_once code (pays_at code) middle in let a = ap one_if (ap pays runs_first) in let b = ap one_if (ap pays runs) in
        omega (arith, two, one, a, b) in
        let made = made_by_turns (program_of x.image).image x.pick ran.2.turns w ran.2.after (Free (held_back st) ∷ []) ran.2.runs in
        inl (subst (λ c. RoundGoesOn (program_of x.image).image x.pick c (Standing x.program x.image x.carrying x.tables) before st w) same
        (steps_go_on_made (program_of x.image).image x.pick q st w (Standing x.program x.image x.carrying x.tables) before 2 next (Free (held_back st) ∷ []) ran.2.turns ran.2.after (omega arith) ran.0
        (subst (λ c. paying c 2 st ≤ 1) (sym same) (omega (arith, unpaid))) ran.1 (subst (λ c. paying c 2 st ≤ ran.2.turns) (sym same) (omega (arith, unpaid)))
        (subst (λ c. ran.2.turns ≤ spends c 1 st) (sym same) (own_spends code st (linear (free 0)) ran.2.turns (ap is_own rests.rests.runs) runs_first (omega (arith, ran.2.few, few_pad_words next.top.function)))) made (
          r,
          stands_behind x.program x.image x.carrying x.tables at.facts q r before ran.2.turns 2 st next w ran.2.after (Free (held_back st) ∷ []) at.stands leads calm
              (kept_by_turns (program_of x.image).image ran.2.turns w ran.2.after (Free (held_back st) ∷ []) ran.2.runs) (shown ran.2.turns ran.2.after ran.2.runs ran.2.holds),
        )))
      where
        calm : (j : ℕ) (between : State) → j < 2 → Leads code j st (goes_to between) → CalmAt code between
        calm zero between less leads = let one : st ≡ between = cc leads in subst (λ m. CalmAt code m) one calm_first
        calm (suc zero) between less leads = let one : middle ≡ between = led_to code st middle between frees leads in subst (λ m. CalmAt code m) one calm_last
        calm (suc (suc j)) between less leads = absurd (omega (arith, less))

  freed_follows : FollowsIn x before st w
  freed_follows = by (step code middle) refl (comes_to_pad x at.facts (at.stands.steps + 1) 2 e d middle inv runs is)
    where
      by : (y : Next) → step code middle ≡ y → ComesToPad code (type_at middle.world e) d e (middle.top ∷ middle.frames) middle.world y → FollowsIn x before st w
      by (goes_to next) h c = follows next h
      by (finishes f v) h c =
          let faulty = no_pad_faults (fetch code c.call.function c.pad) (flying e d) c.number c.call.function c.pad c.call.frame c.outer middle.world v f (sym c.comes) in
          inr (inr (inr (breaks_behind x st middle w f v frees h (ap one_if (ap pays runs_first)) (ap one_if (ap pays runs)) (λ why ends. let no : fault ≡ by_program why = sym faulty ∙ ends in absurd (cc no)))))

pub freed_flights_follow : CatchFreesOnTheWay → FreedFlightsFollow
freed_flights_follow run x q before e d st w at rests is = freed_follows x q before e d st w at rests is run
