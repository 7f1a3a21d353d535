-- call_unexpected lets an exception out, in a whole run.
use Rattle.std.proofs.Common.{◌≡◌, ◌∙◌, refl, sym, ap, subst, arith, ℕ, zero, suc, ◌<◌, inl, inr, false, List, [], ◌∷◌, None}
use Rattle.cxa_runtime.specs.World as abi
use Rattle.eh_run.specs.Program.{program_of}
use Rattle.region_forms.specs.World.{flying, World, type_at}
use Rattle.linear_forms.specs.Linear.{resume}
use Rattle.linear_forms.specs.Stub.{call_unexpected, linear, stub_op}
use Rattle.linear_forms.specs.Defined.{RunsAt}
use Rattle.linear_forms.specs.Activation.{Activation, State, Code, Next, goes_to, finishes, by_program, fault, fetch}
use Rattle.linear_forms.specs.Machine.{step}
use Rattle.linear_forms.specs.Pace.{pays, pays_at, one_if, Leads}
use Rattle.linear_forms.proofs.Paces
use Rattle.exceptions_in_flight.specs.Aims.{ComesToPad}
use Rattle.linear_invariant.specs.Calls.{unmarked}
use Rattle.linear_invariant.specs.Handled.{open_handlers}
use Rattle.linear_invariant.specs.Stands.{StandsIn}
use Rattle.linear_invariant.proofs.Calls.{all_spared}
use Rattle.flight_homes.specs.Keeps.{stub_carries}
use Rattle.flight_homes.specs.Lives.{known_in}
use Rattle.machine_pieces.specs.Turning.{Turns}
use Rattle.machine_simulation.specs.Plan.{Plan}
use Rattle.stub_landings.specs.Landings.{resting}
use Rattle.stub_landings.specs.Rests.{LeavesOn, Rests}
use Rattle.own_ends.specs.Flights.{FliesOn}
use Rattle.own_ends.specs.Resumes.{OwnFlightsGoOn}
use Rattle.whole_runs.proofs.Single.{goes_on_one, made_by_turns, breaks_one}
use Rattle.whole_runs.proofs.Spending.{own_spends}
use Rattle.cost_turns.specs.Weights.{is_own}
use Rattle.step_law.proofs.At.{few_pad_words}
use Rattle.step_law.specs.Facts.{regions_for, code_for}
use Rattle.step_law.specs.Standing.{Standing}
use Rattle.step_law.specs.Rows.{Run, FollowsIn}
use Rattle.step_law.specs.Own.{StandsAt, PassedFlightsFollow}
use Rattle.step_law.proofs.Facing.{runs_image, code_same, newest_made}
use Rattle.step_law.proofs.Flying.{own_whole, flies_on}
use Rattle.step_law.proofs.GoingOut.{comes_to_pad, calm_out, lands_out, goes_on_out, reach_out}
use Rattle.step_law.proofs.Keeping.{NotEntered, CalmAt, kept_by_turns, unmarked_stands, calm_forced, ShownBehind, stands_behind}
use Rattle.step_law.proofs.Landing.{LandsIn, lands_aligned, lands_once}
use Rattle.step_law.proofs.Several.{no_pad_faults}

module _ (x : Run) (q : Plan) (before e d : ℕ) (st : State) (w : abi.World) (at : StandsAt x q before st w) (rests : LeavesOn q 57 17 st w) (is : st.top.frame.slots 4 ≡ flying e d) where
  abbrev code : Code
  code = code_for x.program

  abbrev here : List Activation
  here = st.top ∷ st.frames

  runs : RunsAt code st (linear (resume 4))
  runs = ap (λ f. fetch code f st.top.place) rests.rests.runs ∙ ap (stub_op call_unexpected) rests.there

  inv : StandsIn (unmarked (known_in (regions_for x.program))) code x.carrying at.stands.steps st
  inv = unmarked_stands x.program x.image x.carrying x.tables q before st w at.stands

  flies : FliesOn q st w 4 17 e d
  flies = flies_on x q before st w at.facts at.stands call_unexpected 4 5 rests.rests.runs (λ a. refl) (ap (stub_carries call_unexpected) rests.there) tt e d is
      (own_whole q call_unexpected st w rests.rests.back rests.rests.runs refl rests.rests.memory)

  module _ (next : State) (h : step code st ≡ goes_to next) where
    abbrev r : Plan
    r = resting q next

    lands : LandsIn here st.world next
    lands = lands_out x at.facts at.stands.steps 4 e d st inv runs is next h

    shown : (turns : ℕ) (u : abi.World) → Turns (program_of x.image).image turns w u [] → Rests r next u → ShownBehind x.program x.carrying q r turns st next w u []
    shown turns u turned resting = record {
      plan = record { frames = record { unit = refl; hidden = refl }; base = refl; tables = refl };
      aligned = lands_aligned q r (record { unit = refl; hidden = refl }) here st.world next lands;
      spared = all_spared x.carrying (NotEntered []) (λ y. refl) None (next.top ∷ next.frames);
      rests = resting;
      few = let handlers = ap (λ (v : World). open_handlers v.caught) lands.world in omega (arith, handlers);
      reaches = reach_out x at.facts at.stands.steps 4 e d st inv runs is next h q at.stands.reaches (newest_made (unmarked (known_in (regions_for x.program))) code x.carrying at.stands.steps st inv);
      ending = λ none. sym (ap (λ (v : World). v.ending) lands.world) ∙ none;
      once = let fewer = lands_once here st.world next lands in let few = at.stands.once in omega (arith, fewer, few);
      forced = calm_forced x.program x.image x.carrying x.tables q before st next w u at.facts at.stands h (calm_out x at.facts at.stands.steps 4 e d st inv runs is) turned.unwinding;
    }

    follows : OwnFlightsGoOn → FollowsIn x before st w
    follows run =
        let ran = run.resumes x.image q e d st next w rests (runs_image x q before st w at.facts at.stands) flies (ap (λ c. step c st) (code_same x q before st w at.facts at.stands) ∙ h) (at.facts.pads q at.stands.unit)
        (at.facts.filters q at.stands.unit) (goes_on_out x at.facts at.stands.steps 4 e d st inv runs is next h) in
        let paid : pays_at code st ≡ false = ap pays runs in
        let none = ap one_if paid in
        inl (goes_on_one (program_of x.image).image x.pick code st w (Standing x.program x.image x.carrying x.tables) before next [] ran.1.turns ran.1.after h ran.0 (omega (arith, none))
        (own_spends code st (linear (resume 4)) ran.1.turns (ap is_own rests.rests.runs) runs (omega (arith, ran.1.few, few_pad_words next.top.function)))
        (made_by_turns (program_of x.image).image x.pick ran.1.turns w ran.1.after [] ran.1.runs) (
          r,
          stands_behind x.program x.image x.carrying x.tables at.facts q r before ran.1.turns 1 st next w ran.1.after [] at.stands (Paces.one_step code st (goes_to next) h) first_calm
              (kept_by_turns (program_of x.image).image ran.1.turns w ran.1.after [] ran.1.runs) (shown ran.1.turns ran.1.after ran.1.runs ran.1.holds.0),
        ))
      where
        first_calm : (j : ℕ) (middle : State) → j < 1 → Leads code j st (goes_to middle) → CalmAt code middle
        first_calm zero middle less leads = let one : st ≡ middle = cc leads in subst (λ m. CalmAt code m) one (calm_out x at.facts at.stands.steps 4 e d st inv runs is)
        first_calm (suc j) middle less leads = absurd (omega (arith, less))

  passed_follows : OwnFlightsGoOn → FollowsIn x before st w
  passed_follows run = by (step code st) refl (comes_to_pad x at.facts at.stands.steps 4 e d st inv runs is)
    where
      by : (y : Next) → step code st ≡ y → ComesToPad code (type_at st.world e) d e here st.world y → FollowsIn x before st w
      by (goes_to next) h c = follows next h run
      by (finishes f v) h c =
          let faulty = no_pad_faults (fetch code c.call.function c.pad) (flying e d) c.number c.call.function c.pad c.call.frame c.outer st.world v f (sym c.comes) in
          inr (inr (inr (breaks_one (program_of x.image).image x.pick code st w f v h (λ why ends. let no : fault ≡ by_program why = sym faulty ∙ ends in absurd (cc no)))))

pub passed_flights_follow : OwnFlightsGoOn → PassedFlightsFollow
passed_flights_follow run x q before e d st w at rests is = passed_follows x q before e d st w at rests is run
