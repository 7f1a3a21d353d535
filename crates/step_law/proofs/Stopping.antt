-- A specification stopped an exception with which no unexpected handler is kept, in a whole run.
use Rattle.std.proofs.Common.{◌≡◌, ◌∙◌, refl, sym, ap, subst, arith, ℕ, zero, suc, ◌+◌, ◌<◌, ◌≤◌, ◌^◌, ◌&&◌, ◌⊎◌, true, false, List, [], ◌∷◌, length, Option, Some, None}
use Rattle.std.specs.List.{AllByRecursion}
use Rattle.meaning_forms.specs.World.{Installed}
use Rattle.run_items.specs.declared.item.Item.{Item}
use Rattle.run_items.specs.declared.item.Item.TheVariants.{Enter}
use Rattle.cxa_runtime.specs.World as abi
use Rattle.eh_run.specs.Program.{program_of}
use Rattle.region_forms.specs.Effect.{entered}
use Rattle.region_forms.specs.Lives.{is_native, may_enter}
use Rattle.region_forms.specs.Unexpected.{kept_with}
use Rattle.region_forms.specs.World.{flying, native, World, address_in, exception_of, exception_in_slot, exception_at, with_slot}
use Rattle.linear_forms.specs.Linear.{unexpected}
use Rattle.linear_forms.specs.Stub.{Function, compiled, terminating}
use Rattle.linear_forms.specs.Activation.{Activation, State, Code, goes_to, next_if, on, function_word, terminated}
use Rattle.linear_forms.specs.Machine.{step}
use Rattle.linear_forms.specs.Pace.{pays, pays_at, Leads}
use Rattle.linear_forms.proofs.Paces
use Rattle.flight_homes.specs.Keeps.{destroyed_in}
use Rattle.flight_homes.specs.Lives.{ExceptionKnown, known_in}
use Rattle.linear_invariant.specs.Asked.{PassAsked, FlightAsked}
use Rattle.linear_invariant.specs.Calls.{unmarked}
use Rattle.linear_invariant.specs.Stands.{StandsIn}
use Rattle.linear_invariant.proofs.Asked.{passes_are_asked}
use Rattle.linear_invariant.proofs.Lists.{few_entered}
use Rattle.linear_invariant.proofs.Steps.{steps_stand}
use Rattle.source_bounds.specs.Compiled.{unit_for}
use Rattle.machine_forms.specs.LinearCode.{linear_code}
use Rattle.machine_stubs.specs.Stretches.{stub_word}
use Rattle.machine_simulation.specs.Plan.{Plan, shape, function}
use Rattle.machine_simulation.specs.Exceptions.{live_in}
use Rattle.machine_simulation.proofs.Matching.{stands_by}
use Rattle.machine_exceptions.specs.Unexpected.{in_unexpected}
use Rattle.stack_bounds.specs.Taken.{StacksHoldCalls}
use Rattle.address_invariant.specs.Extents.{extents_of}
use Rattle.address_invariant.specs.Reaching.{Reaches}
use Rattle.address_invariant.proofs.Steps.{steps_reach}
use Rattle.unexpected_calls.specs.Begins.{AtStopped, in_stopped}
use Rattle.unexpected_calls.specs.Terminates.{NamesTerminate, UnexpectedTerminates}
use Rattle.unexpected_calls.specs.TerminateOverflow.{TerminateHandlersOverflow}
use Rattle.whole_runs.specs.Turns.{Made}
use Rattle.whole_runs.specs.Steps.{StaysBehind}
use Rattle.whole_runs.proofs.Counts.{at_most, quiet_then}
use Rattle.whole_runs.proofs.Single.{made_by_turns}
use Rattle.step_law.specs.Facts.{regions_for, needs_for, code_for}
use Rattle.step_law.specs.Rows.{Run, IsAt, FollowsIn}
use Rattle.step_law.specs.Passing.{StoppedTerminates}
use Rattle.step_law.proofs.Aligned.{align_push, itself}
use Rattle.step_law.proofs.At.{fetches, end_paid}
use Rattle.step_law.proofs.CalledFirst.{SomeUnshown, called_unshown}
use Rattle.step_law.proofs.Exceptions.{spared_others, calm_other}
use Rattle.step_law.proofs.Facing.{newest_made}
use Rattle.step_law.proofs.Dooms.{newest_entered}
use Rattle.step_law.proofs.Keeping.{NotEntered, CalmAt, kept_by_turns, unmarked_stands}
use Rattle.step_law.proofs.LostBehind.{IsLostBehind, abort_behind, handler_begins, handler_overflows, fits_or_not, with_or_without}
use Rattle.step_law.proofs.Rooms.{few_to_enter, takes_nothing, handler_there, page_here}
use Rattle.step_law.proofs.Several.{led_to, led_twice}
use Rattle.step_law.proofs.StoppedHere.{inv_stopped, runs_stopped, asked_stopped, flight_stopped, lives_stopped, at_stopped, held_stopped}
use Rattle.step_law.proofs.Unexpecting.{calls_unexpected}
use Rattle.step_law.proofs.Unshown.{unshown_stays, shown_later}

module _ (x : Run) (q : Plan) (before n o s type : ℕ) (d : Option ℕ) (kept : Installed) (st : State) (w : abi.World) (here : IsAt x q before n (unexpected o s) st w) (few : before < 2 ^ 40)
    (e t : ℕ) (word : st.top.frame.slots o ≡ flying e t) (is : exception_at st.world e ≡ native type d kept) (may : may_enter st.world e ≡ true) where
  abbrev code : Code
  code = code_for x.program

  abbrev open_calls : List Activation
  open_calls = st.top ∷ st.frames

  abbrev inv : StandsIn (unmarked (known_in (regions_for x.program))) code x.carrying here.stands.steps st
  inv = inv_stopped x q before n o s type d kept st w here few e t word is may

  abbrev asked : PassAsked (known_in (regions_for x.program)) x.carrying st o s
  asked = asked_stopped x q before n o s type d kept st w here few e t word is may

  abbrev flight : FlightAsked (known_in (regions_for x.program)) x.carrying st e t
  flight = flight_stopped x q before n o s type d kept st w here few e t word is may

  abbrev live : live_in st.world.live e ≡ Some (native type d kept)
  live = lives_stopped x q before n o s type d kept st w here few e t word is may

  abbrev stopped : AtStopped q n o s e asked.selector type d kept st w
  stopped = at_stopped x q before n o s type d kept st w here few e t word is may

  abbrev held_here : exception_in_slot st.top.frame o ≡ e
  held_here = held_stopped x q before n o s type d kept st w here few e t word is may

  -- the first turns show nothing
  unshown : SomeUnshown (program_of x.image).image 4 w
  unshown = called_unshown (program_of x.image).image q n o s e asked.selector st w here.matches.back (stands_by q n st w here.matches here.runs) stopped.at

  nothing : Made (program_of x.image).image x.pick unshown.many w unshown.first.after []
  nothing = made_by_turns (program_of x.image).image x.pick unshown.many w unshown.first.after [] unshown.first.runs

  unpaid : pays_at code st ≡ false
  unpaid = ap pays (runs_stopped x q before n o s type d kept st w here few e t word is may)

  module _ (none : kept.unexpected_handler ≡ None) where
    abbrev first : State
    first = in_unexpected n o s st

    abbrev second : State
    second = in_stopped n o s e 1 None st

    abbrev last : State
    last = in_stopped n o s e 2 None st

    abbrev v : World
    v = entered e st.world

    abbrev items : List Item
    items = Enter e ∷ []

    kept_here : (kept_with (exception_at st.world e)).unexpected_handler ≡ None
    kept_here = ap (λ y. (kept_with y).unexpected_handler) is ∙ none

    one : step code st ≡ goes_to first
    one = calls_unexpected x q before n o s st w here

    two : step code first ≡ goes_to second
    two =
        let f = first.top.frame in
        ap (λ k. next_if (is_native (exception_at st.world k) && may_enter st.world k) st.world
        (on first.top (with_slot 3 (function_word (kept_with (exception_at st.world k)).unexpected_handler) f) open_calls (entered k st.world))) held_here
        ∙ ap (λ b. next_if b st.world (on first.top (with_slot 3 (function_word (kept_with (exception_at st.world e)).unexpected_handler) f) open_calls (entered e st.world)))
        (ap (λ y. is_native y && may_enter st.world e) is ∙ may)
        ∙ ap (λ h. on first.top (with_slot 3 (function_word h) f) open_calls (entered e st.world)) kept_here

    three : step code second ≡ goes_to last
    three = refl

    leads : Leads code 3 st (goes_to last)
    leads = Paces.stepped code 2 st first (goes_to last) one (Paces.stepped code 1 first second (goes_to last) two (Paces.one_step code second (goes_to last) three))

    -- no unexpected handler is called, and terminate is
    ends : step code last ≡ terminated kept.terminate_handler (last.top ∷ last.frames) v
    ends = ap (λ k. terminated (kept_with (exception_at v k)).terminate_handler (last.top ∷ last.frames) v) held_here ∙ ap (λ y. terminated (kept_with y).terminate_handler (last.top ∷ last.frames) v) is

    calm : (j : ℕ) (between : State) → j < 3 → Leads code j st (goes_to between) → CalmAt code between
    calm zero between few leads = let one : st ≡ between = cc leads in subst (λ m. CalmAt code m) one (calm_other x q before n (unexpected o s) st w here (λ op no. cc no))
    calm (suc zero) between few leads = subst (λ m. CalmAt code m) (led_to code st first between one leads) calm_first
      where
        calm_first : CalmAt code first
        calm_first op hit = absurd (cc hit)
    calm (suc (suc zero)) between few leads = subst (λ m. CalmAt code m) (led_twice code st first second between one two leads) calm_second
      where
        calm_second : CalmAt code second
        calm_second op hit = absurd (cc hit)
    calm (suc (suc (suc j))) between few leads = absurd (omega (arith, few))

    first_stands : StandsIn (unmarked (known_in (regions_for x.program))) code x.carrying (here.stands.steps + 1) first
    first_stands = steps_stand (regions_for x.program) x.carrying here.stands.steps st first here.facts.fits inv one

    second_stands : StandsIn (unmarked (known_in (regions_for x.program))) code x.carrying (here.stands.steps + 1 + 1) second
    second_stands = steps_stand (regions_for x.program) x.carrying (here.stands.steps + 1) first second here.facts.fits first_stands two

    -- behind addresses
    reach_first : Reaches (extents_of q) (unit_for x.program) (needs_for x.program) first
    reach_first = steps_reach (extents_of q) (extents_of q) (unit_for x.program) (needs_for x.program) st first here.facts.reach here.stands.reaches
        (newest_made (unmarked (known_in (regions_for x.program))) code x.carrying here.stands.steps st inv) one (record { same = λ b begun. (refl, refl); objects = here.stands.reaches.objects; opened = λ new. tt })

    reach_second : Reaches (extents_of q) (unit_for x.program) (needs_for x.program) second
    reach_second = steps_reach (extents_of q) (extents_of q) (unit_for x.program) (needs_for x.program) first second here.facts.reach reach_first
        (newest_made (unmarked (known_in (regions_for x.program))) code x.carrying (here.stands.steps + 1) first first_stands) two
        (record { same = λ b begun. (refl, refl); objects = record { globals = here.stands.reaches.objects.globals; exceptions = here.stands.reaches.objects.exceptions }; opened = λ new. tt })

    reach_last : Reaches (extents_of q) (unit_for x.program) (needs_for x.program) last
    reach_last = steps_reach (extents_of q) (extents_of q) (unit_for x.program) (needs_for x.program) second last here.facts.reach reach_second
        (newest_made (unmarked (known_in (regions_for x.program))) code x.carrying (here.stands.steps + 1 + 1) second second_stands) three
        (record { same = λ b begun. (refl, refl); objects = record { globals = here.stands.reaches.objects.globals; exceptions = here.stands.reaches.objects.exceptions }; opened = λ new. tt })

    none_destroyed : (f : Function) → f ≡ compiled n → AllByRecursion (NotEntered items) (destroyed_in f st.top.frame)
    none_destroyed f is = subst (λ g. AllByRecursion (NotEntered items) (destroyed_in g st.top.frame)) (sym is) tt

    known : (m : ℕ) → kept.terminate_handler ≡ Some m → m < length q.unit.functions
    known m some =
        let lives = subst (ExceptionKnown (known_in (regions_for x.program))) is flight.exception in
        handler_there x.program q kept.terminate_handler m here.stands.unit lives.2.terminate some

    takes : (m : ℕ) → kept.terminate_handler ≡ Some m → 0 ≡ (function q m).parameters
    takes m some =
        let lives = subst (ExceptionKnown (known_in (regions_for x.program))) is flight.exception in
        takes_nothing x.program q kept.terminate_handler m here.stands.unit lives.2.terminate some

    lost : IsLostBehind x q st 3 last v items 1 kept.terminate_handler
    lost = record {
      leads = leads;
      runs = refl;
      quiet = refl;
      still = refl;
      ends = λ quiet. ends;
      last_number = refl;
      newest = (let number = newest_entered e st.world.caught in let made = here.matches.runtime.exceptions.numbers e (native type d kept) live in omega (arith, number, made));
      calm = calm;
      none = λ op y u a hit begins found. absurd (cc hit);
      aligned = align_push q q (itself q) last.top open_calls;
      spared = (tt, tt, (tt, none_destroyed st.top.function here.runs, spared_others x.carrying e (Some st.top.function) st.frames flight.unheld));
      known = known;
      takes = takes;
      page = (let free = page_here x q before n (unexpected o s) st w here refl in omega (arith, free));
      frames = here.matches.memory.unit.frames;
      few = (let more = few_entered e st.world.caught in omega (arith, more));
    }

    named : NamesTerminate (program_of x.image).image q
    named = here.facts.named ∙ ap (λ b. stub_word b terminating 0) (sym here.stands.base)

    stays : (steps : ℕ) → steps ≤ 6 → StaysBehind (program_of x.image).image x.pick code steps st w
    stays zero few = unshown_stays (program_of x.image).image x.pick unshown.many w unshown.first.after nothing code 0 st (omega arith)
    stays (suc steps) few =
        let same = quiet_then code steps st first unpaid one in
        let most = at_most code steps first in
        unshown_stays (program_of x.image).image x.pick unshown.many w unshown.first.after nothing code (suc steps) st (omega (arith, same, most, few, unshown.enough))

    without : UnexpectedTerminates → (st.world.ending ≡ true) ⊎ (kept.terminate_handler ≡ None) → FollowsIn x before st w
    without run none_called =
        let most = length (linear_code (shape q n) (unexpected o s)) + 19 in
        abort_behind x q before st w here.facts here.stands 6 most items (omega arith) (stays 6 (omega arith))
        (λ k many. run.aborts_without (program_of x.image).image x.pick k q n o s e asked.selector type d kept st w here.matches stopped none named none_called many)

    with_one : UnexpectedTerminates → TerminateHandlersOverflow → StacksHoldCalls → (m : ℕ) → st.world.ending ≡ false → kept.terminate_handler ≡ Some m → FollowsIn x before st w
    with_one run over holds m quiet some =
        let hidden = here.stands.hides quiet in
        fits_or_not x q before st w here.facts here.stands 3 last v items 1 kept.terminate_handler lost m quiet some
        (λ room.
        let ran = run.calls_without (program_of x.image).image q n o s e asked.selector type d kept m st w here.matches stopped none named quiet some hidden room in
        let reaches = ran.2 in
        let made = made_by_turns (program_of x.image).image x.pick reaches.turns w reaches.after items reaches.runs in
        let later = shown_later (program_of x.image).image x.pick unshown.many w unshown.first.after nothing reaches.turns reaches.after (Enter e) [] made in
        let most = at_most code 5 st in
        handler_begins x q before st w here.facts here.stands 3 last v items 1 kept.terminate_handler lost m quiet some q
        (record { frames = itself q; base = refl; tables = refl }) reach_last reaches.turns reaches.after (kept_by_turns (program_of x.image).image reaches.turns w reaches.after items reaches.runs)
        made reaches.holds (omega (arith, later)) (omega (arith, later, most, unshown.enough)) (let entry = few_to_enter q m in end_paid x q before n (unexpected o s) st w here reaches.turns (omega (arith, reaches.few, entry))) (stays 5 (omega arith)) ran.1)
        (λ lacks.
        let most = length (linear_code (shape q n) (unexpected o s)) + 24 in
        let ran = λ (k : ℕ) (many : most ≤ k). over.without (program_of x.image).image x.pick k q n o s e asked.selector type d kept m st w here.matches stopped none
        (record { named = named; quiet = quiet; some = some; hidden = hidden; lacks = lacks }) many in
        handler_overflows x q before st w here.facts here.stands 3 last v items 1 kept.terminate_handler lost m quiet some lacks holds most (omega arith) (stays 5 (omega arith)) (ran most (omega arith)).shown (λ k many. (ran k many).run))

    follows : UnexpectedTerminates → TerminateHandlersOverflow → StacksHoldCalls → FollowsIn x before st w
    follows run over holds = with_or_without x q before st w here.facts here.stands 3 last v items 1 kept.terminate_handler lost (without run) (with_one run over holds)

pub stopped_terminates : UnexpectedTerminates → TerminateHandlersOverflow → StacksHoldCalls → StoppedTerminates
stopped_terminates run over holds x q before n o s type d kept st w here few is none =
    let asked = passes_are_asked (regions_for x.program) x.carrying here.stands.steps o s st here.facts.fits (unmarked_stands x.program x.image x.carrying x.tables q before st w here.stands)
    (fetches x q before n (unexpected o s) st w here) in
    let flies = asked.enters is.may in
    let held : exception_in_slot st.top.frame o ≡ flies.0 = ap (λ y. exception_of (address_in y)) flies.2 in
    follows x q before n o s type d kept st w here few flies.0 flies.1 flies.2 (ap (exception_at st.world) (sym held) ∙ is.native) (ap (may_enter st.world) (sym held) ∙ is.may) none run over holds
