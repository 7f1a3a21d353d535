-- The unexpected handler of an exception that a specification stopped begins, in a whole run.
use Rattle.std.proofs.Common.{◌≡◌, ◌∙◌, refl, sym, ap, subst, arith, ℕ, zero, suc, ◌+◌, ◌<◌, ◌≤◌, ◌^◌, ◌&&◌, inl, inr, ℤ, Bool, true, false, ◌⊎◌, List, [], ◌∷◌, length, Option, Some, None, if◌then◌else◌}
use Rattle.std.specs.List.{AllByRecursion}
use Rattle.meaning_forms.specs.World.{Installed}
use Rattle.run_items.specs.declared.item.Item.{Item}
use Rattle.run_items.specs.declared.item.Item.TheVariants.{Enter}
use Rattle.cxa_runtime.specs.World as abi
use Rattle.eh_run.specs.Program.{program_of}
use Rattle.region_forms.specs.Effect.{entered, world_passed}
use Rattle.region_forms.specs.Caught.{entered_on}
use Rattle.region_forms.specs.Lives.{is_native, may_enter}
use Rattle.region_forms.specs.Unexpected.{kept_with}
use Rattle.region_forms.specs.World.{flying, native, address_in, exception_of, exception_in_slot, exception_at, with_slot}
use Rattle.linear_forms.specs.Linear.{unexpected}
use Rattle.linear_forms.specs.Stub.{Function, compiled}
use Rattle.linear_forms.specs.Activation.{Activation, State, Code, goes_to, on, next_if, function_word}
use Rattle.linear_forms.specs.Machine.{step}
use Rattle.linear_forms.specs.Pace.{pays_at, paying, Leads}
use Rattle.linear_forms.specs.UnitRun.{code_of}
use Rattle.linear_forms.proofs.Paces
use Rattle.flight_homes.specs.Keeps.{Carried, flying_in, destroyed_in}
use Rattle.flight_homes.specs.Lives.{ExceptionKnown, known_in}
use Rattle.linear_invariant.specs.Asked.{PassAsked, FlightAsked}
use Rattle.linear_invariant.specs.Calls.{unmarked}
use Rattle.linear_invariant.specs.Stands.{StandsIn}
use Rattle.linear_invariant.proofs.Asked.{passes_are_asked}
use Rattle.linear_invariant.proofs.Steps.{steps_stand}
use Rattle.source_bounds.specs.Compiled.{unit_for}
use Rattle.machine_pieces.specs.Turning.{Turns, Reaches}
use Rattle.machine_forms.specs.LinearCode.{linear_code}
use Rattle.machine_simulation.specs.Calls.{open_bytes}
use Rattle.machine_simulation.specs.Plan.{Plan, shape, slot_kinds, function}
use Rattle.machine_simulation.specs.Entering.{opened, frame_for, begin_room, entry_turns}
use Rattle.machine_simulation.specs.Exceptions.{live_in}
use Rattle.machine_simulation.specs.Matches.{Matches}
use Rattle.machine_simulation.specs.Objects.{Shows}
use Rattle.machine_simulation.proofs.Calling.{same_next}
use Rattle.machine_exceptions.specs.Leaves.{StepsTo}
use Rattle.machine_exceptions.specs.Unexpected.{in_unexpected}
use Rattle.stack_bounds.specs.Taken.{StacksHoldCalls}
use Rattle.unexpected_calls.specs.Begins.{AtStopped, in_stopped, waiting_unexpected, in_unexpected_handler, UnexpectedHandlersBegin}
use Rattle.unexpected_calls.specs.Overflow.{HandlerLacksRoom, UnexpectedHandlersOverflow}
use Rattle.raise_ends.specs.Ends.{RunEnds}
use Rattle.cxa_runtime.specs.declared.effect.End.TheVariants.{Stack}
use Rattle.whole_runs.proofs.Staying.{deepest_grows}
use Rattle.whole_runs.specs.Steps.{GoesOn as RoundGoesOn, Overflows}
use Rattle.linear_invariant.specs.Forced.{newest_forced}
use Rattle.linear_invariant.specs.Handled.{open_handlers}
use Rattle.linear_invariant.proofs.Lists.{few_entered}
use Rattle.machine_simulation.proofs.Given.{SameBeside, same_beside}
use Rattle.address_invariant.specs.Extents.{extents_of}
use Rattle.address_invariant.specs.Reaching.{Reaches as ReachesInside}
use Rattle.address_invariant.specs.Laws.{GoesOn}
use Rattle.address_invariant.proofs.Plans.{plans_go_on}
use Rattle.address_invariant.proofs.Steps.{steps_reach}
use Rattle.whole_runs.proofs.Single.{made_by_turns}
use Rattle.whole_runs.proofs.Rounds.{leads_by, some_shown, reaches_goes_on_soon, steps_overflow}
use Rattle.whole_runs.proofs.Spending.{call_turns, last_turn_spends}
use Rattle.cost_words.specs.Spends.{spends}
use Rattle.step_law.specs.Facts.{regions_for, needs_for, code_for}
use Rattle.step_law.specs.Standing.{Standing}
use Rattle.step_law.specs.Rows.{Run, IsAt, FollowsIn}
use Rattle.step_law.specs.Unexpected.{UnexpectedFollows}
use Rattle.step_law.proofs.At.{fetches, same_code, own_end_paid, weight_paid}
use Rattle.step_law.proofs.Exceptions.{calm_other, spared_others}
use Rattle.step_law.proofs.Keeping.{NotEntered, CalmAt, kept_by_turns, unmarked_stands, stands_behind}
use Rattle.step_law.proofs.Aligned.{SameFrames, align_push_two}
use Rattle.step_law.proofs.Facing.{newest_made}
use Rattle.step_law.proofs.Rooms.{room_or_none, page_here, few_to_enter, takes_nothing, handler_there}
use Rattle.step_law.proofs.Several.{led_to, led_twice, forced_behind}
use Rattle.step_law.proofs.StoppedHere.{inv_stopped, asked_stopped, flight_stopped, lives_stopped, at_stopped, held_stopped}
use Rattle.step_law.proofs.Unexpecting.{calls_unexpected, unpaid_first}

module _ (x : Run) (q : Plan) (before n o s type m : ℕ) (d : Option ℕ) (kept : Installed) (st : State) (w : abi.World) (here : IsAt x q before n (unexpected o s) st w) (few : before < 2 ^ 40)
    (e t : ℕ) (word : st.top.frame.slots o ≡ flying e t) (is : exception_at st.world e ≡ native type d kept) (may : may_enter st.world e ≡ true) (handler : kept.unexpected_handler ≡ Some m) where
  abbrev code : Code
  code = code_for x.program

  abbrev open_calls : List Activation
  open_calls = st.top ∷ st.frames

  abbrev inv : StandsIn (unmarked (known_in (regions_for x.program))) code x.carrying here.stands.steps st
  inv = inv_stopped x q before n o s type d kept st w here few e t word is may

  abbrev asked : PassAsked (known_in (regions_for x.program)) x.carrying st o s
  asked = asked_stopped x q before n o s type d kept st w here few e t word is may

  abbrev flight : FlightAsked (known_in (regions_for x.program)) x.carrying st e t
  flight = flight_stopped x q before n o s type d kept st w here few e t word is may

  abbrev live : live_in st.world.live e ≡ Some (native type d kept)
  live = lives_stopped x q before n o s type d kept st w here few e t word is may

  abbrev stopped : AtStopped q n o s e asked.selector type d kept st w
  stopped = at_stopped x q before n o s type d kept st w here few e t word is may

  abbrev held_here : exception_in_slot st.top.frame o ≡ e
  held_here = held_stopped x q before n o s type d kept st w here few e t word is may

  abbrev active : List Activation
  active = waiting_unexpected n o s m st ∷ open_calls

  abbrev next : State
  next = in_unexpected_handler q n o s e m st

  abbrev first : State
  first = in_unexpected n o s st

  abbrev second : State
  second = in_stopped n o s e 1 (Some m) st

  abbrev entry : Item
  entry = Enter e

  kept_here : (kept_with (exception_at st.world e)).unexpected_handler ≡ Some m
  kept_here = ap (λ y. (kept_with y).unexpected_handler) is ∙ handler

  enters_step : step code first ≡ goes_to second
  enters_step =
      let f = first.top.frame in
      ap (λ k. next_if (is_native (exception_at st.world k) && may_enter st.world k) st.world
      (on first.top (with_slot 3 (function_word (kept_with (exception_at st.world k)).unexpected_handler) f) open_calls (entered k st.world))) held_here
      ∙ ap (λ b. next_if b st.world (on first.top (with_slot 3 (function_word (kept_with (exception_at st.world e)).unexpected_handler) f) open_calls (entered e st.world)))
      (ap (λ y. is_native y && may_enter st.world e) is ∙ may)
      ∙ ap (λ h. on first.top (with_slot 3 (function_word h) f) open_calls (entered e st.world)) kept_here

  known : m < length q.unit.functions
  known =
      let lives = subst (ExceptionKnown (known_in (regions_for x.program))) is flight.exception in
      handler_there x.program q kept.unexpected_handler m here.stands.unit lives.2.unexpected handler

  takes : 0 ≡ (function q m).parameters
  takes = let lives = subst (ExceptionKnown (known_in (regions_for x.program))) is flight.exception in takes_nothing x.program q kept.unexpected_handler m here.stands.unit lives.2.unexpected handler

  -- the three states at which steps begin
  first_stands : StandsIn (unmarked (known_in (regions_for x.program))) code x.carrying (here.stands.steps + 1) first
  first_stands = steps_stand (regions_for x.program) x.carrying here.stands.steps st first here.facts.fits inv (calls_unexpected x q before n o s st w here)

  second_stands : StandsIn (unmarked (known_in (regions_for x.program))) code x.carrying (here.stands.steps + 1 + 1) second
  second_stands = steps_stand (regions_for x.program) x.carrying (here.stands.steps + 1) first second here.facts.fits first_stands enters_step

  calm_at_pass : CalmAt code st
  calm_at_pass = calm_other x q before n (unexpected o s) st w here (λ op no. cc no)

  calm_at_first : CalmAt code first
  calm_at_first op hit = absurd (cc hit)

  calm_at_second : CalmAt code second
  calm_at_second op hit = absurd (cc hit)

  paid_once : (last : State) → step code second ≡ goes_to last → paying code 3 st ≡ 1
  paid_once last called =
      let one = Paces.tally_step code (pays_at code) 2 st first (calls_unexpected x q before n o s st w here) in
      let two = Paces.tally_step code (pays_at code) 1 first second enters_step in
      let three = Paces.tally_once code (pays_at code) second in
      let none = unpaid_first x q before n o s st w here in
      omega (arith, one, two, three, none)

  third_step : StepsTo code 3 st next → step code second ≡ goes_to next
  third_step made =
      let a : first ≡ made.0 = same_next first made.0 (sym (calls_unexpected x q before n o s st w here) ∙ made.1) in
      let b : second ≡ made.2.0 = same_next second made.2.0 (sym enters_step ∙ ap (step code) a ∙ made.2.1) in
      ap (step code) b ∙ (made.2.2.1 ∙ ap goes_to made.2.2.2)

  module _ (made : StepsTo (code_of q.unit) 3 st next) where
    steps_made : StepsTo code 3 st next
    steps_made = subst (λ c. StepsTo c 3 st next) (same_code x q before n (unexpected o s) st w here) made

    once : paying (code_of q.unit) 3 st ≡ 1
    once = ap (λ c. paying c 3 st) (same_code x q before n (unexpected o s) st w here) ∙ paid_once next (third_step steps_made)

    same : code_of q.unit ≡ code
    same = same_code x q before n (unexpected o s) st w here

    calm : (j : ℕ) (between : State) → j < 3 → Leads code j st (goes_to between) → CalmAt code between
    calm zero between few leads = let one : st ≡ between = cc leads in subst (λ m. CalmAt code m) one calm_at_pass
    calm (suc zero) between few leads = let one = led_to code st first between (calls_unexpected x q before n o s st w here) leads in subst (λ m. CalmAt code m) one calm_at_first
    calm (suc (suc zero)) between few leads = let one = led_twice code st first second between (calls_unexpected x q before n o s st w here) enters_step leads in subst (λ m. CalmAt code m) one calm_at_second
    calm (suc (suc (suc j))) between few leads = absurd (omega (arith, few))

    -- what is the same in the handler
    beside : SameBeside (entered e st.world) (world_passed (slot_kinds q m) st.world.calls 0 [] (entered e st.world))
    beside = same_beside (slot_kinds q m) st.world.calls 0 [] (entered e st.world)

    handlers : open_handlers next.world.caught ≡ open_handlers (entered_on e st.world.caught)
    handlers = refl

    more : open_handlers (entered_on e st.world.caught) ≡ open_handlers st.world.caught + 1
    more = few_entered e st.world.caught

    none_carried : (b : Bool) (c : Carried) → b ≡ false → AllByRecursion (NotEntered (Enter e ∷ [])) (flying_in (if b then Some c else None))
    none_carried true c is = absurd (cc is)
    none_carried false c is = tt

    none_destroyed : (f : Function) → f ≡ compiled n → AllByRecursion (NotEntered (Enter e ∷ [])) (destroyed_in f st.top.frame)
    none_destroyed f is = subst (λ g. AllByRecursion (NotEntered (Enter e ∷ [])) (destroyed_in g st.top.frame)) (sym is) tt

    forced_last : (u : abi.World) → u.unwinding ≡ w.unwinding → (z : ℤ) → newest_forced x.carrying None (next.top ∷ next.frames) ≡ Some z → u.unwinding ≡ Some z
    forced_last u unchanged =
        forced_behind x here.facts (here.stands.steps + 1 + 1) second next second_stands (third_step steps_made) calm_at_second w.unwinding
        (forced_behind x here.facts (here.stands.steps + 1) first second first_stands enters_step calm_at_first w.unwinding
        (forced_behind x here.facts here.stands.steps st first inv (calls_unexpected x q before n o s st w here) calm_at_pass w.unwinding here.stands.forced w.unwinding refl) w.unwinding refl) u.unwinding unchanged

    -- behind addresses
    reach_first : ReachesInside (extents_of q) (unit_for x.program) (needs_for x.program) first
    reach_first = steps_reach (extents_of q) (extents_of q) (unit_for x.program) (needs_for x.program) st first here.facts.reach here.stands.reaches
        (newest_made (unmarked (known_in (regions_for x.program))) code x.carrying here.stands.steps st inv) (calls_unexpected x q before n o s st w here)
        (record { same = λ b begun. (refl, refl); objects = here.stands.reaches.objects; opened = λ new. tt })

    reach_second : ReachesInside (extents_of q) (unit_for x.program) (needs_for x.program) second
    reach_second = steps_reach (extents_of q) (extents_of q) (unit_for x.program) (needs_for x.program) first second here.facts.reach reach_first
        (newest_made (unmarked (known_in (regions_for x.program))) code x.carrying (here.stands.steps + 1) first first_stands) enters_step
        (record { same = λ b begun. (refl, refl); objects = record { globals = here.stands.reaches.objects.globals; exceptions = here.stands.reaches.objects.exceptions }; opened = λ new. tt })

    reach_last : (r : Plan) → r ≡ opened q m st.world.calls (frame_for q m active) → ReachesInside (extents_of r) (unit_for x.program) (needs_for x.program) next
    reach_last r plan =
        let stack = frame_for q m active in
        let goes : GoesOn (extents_of q) (extents_of r) (unit_for x.program) second.world next =
        subst (λ y. GoesOn (extents_of q) (extents_of y) (unit_for x.program) second.world next) (sym plan) (subst (λ v. GoesOn (extents_of q) (extents_of (opened q m st.world.calls stack)) v second.world next) here.stands.unit
        (plans_go_on.called q m stack second.world next (here.matches.memory.unit.frames m known) reach_second.objects refl refl)) in
        steps_reach (extents_of q) (extents_of r) (unit_for x.program) (needs_for x.program) second next here.facts.reach reach_second
        (newest_made (unmarked (known_in (regions_for x.program))) code x.carrying (here.stands.steps + 1 + 1) second second_stands) (third_step steps_made) goes

    -- the last step calls the handler, and pays for its beginning
    last_paid : spends code 1 st + 64 ≤ spends code 3 st
    last_paid =
        last_turn_spends code 2 st second next (omega arith) (Paces.stepped code 1 st first (goes_to second) (calls_unexpected x q before n o s st w here) (Paces.one_step code first (goes_to second) enters_step))
        (third_step steps_made) (call_turns code second next m refl refl)

    all_paid : (most : ℕ) → most ≤ 96 → most ≤ spends (code_of q.unit) 3 st
    all_paid most least =
        let weight = weight_paid x q before n (unexpected o s) st w here 32 (omega arith) in
        subst (λ c. most ≤ spends c 3 st) (sym same) (omega (arith, least, weight, last_paid))

    soon_paid : (most : ℕ) → most ≤ 96 → most ≤ spends (code_of q.unit) 1 st + 64
    soon_paid most least =
        let weight = weight_paid x q before n (unexpected o s) st w here 32 (omega arith) in
        subst (λ c. most ≤ spends c 1 st + 64) (sym same) (omega (arith, least, weight))

    begins : (most : ℕ) → most ≤ 96 → Shows st next (Enter e ∷ []) → Reaches (program_of x.image).image most w (Enter e ∷ []) (λ u. Matches (opened q m st.world.calls (frame_for q m active)) next u) → FollowsIn x before st w
    begins most least shows ran =
        inl (subst (λ c. RoundGoesOn (program_of x.image).image x.pick c (Standing x.program x.image x.carrying x.tables) before st w) same
        (reaches_goes_on_soon (program_of x.image).image x.pick q st w (Standing x.program x.image x.carrying x.tables) before 3 next (Enter e ∷ []) most (λ u. Matches (opened q m st.world.calls (frame_for q m active)) next u) (omega arith) made
        (omega (arith, once)) (all_paid most least) (soon_paid most least) shows ran (λ turns u turned matches. stands (opened q m st.world.calls (frame_for q m active)) refl turns u turned matches)))
      where
        stands : (r : Plan) → r ≡ opened q m st.world.calls (frame_for q m active) → (turns : ℕ) (u : abi.World) → Turns (program_of x.image).image turns w u (Enter e ∷ []) → Matches r next u →
            (paying (code_of q.unit) 3 st ≤ turns) × Standing x.program x.image x.carrying x.tables (before + turns) next u
        stands r plan turns u turned matches = (
          omega (arith, once, some),
          (
            r,
            stands_behind x.program x.image x.carrying x.tables here.facts q r before turns 3 st next w u (Enter e ∷ []) here.stands (leads_by code 3 st next steps_made) calm
                (kept_by_turns (program_of x.image).image turns w u (Enter e ∷ []) turned) (record {
                  plan = record { frames = same_frames; base = ap (λ y. y.base) plan; tables = ap (λ y. y.tables) plan };
                  aligned = align_push_two q r same_frames next.top second.top open_calls;
                  spared = (none_carried (x.carrying.carries m 0) _ (here.facts.fits.carries.first m), tt, (tt, tt, (tt, none_destroyed st.top.function here.runs, spared_others x.carrying e (Some st.top.function) st.frames flight.unheld)));
                  rests = inl matches;
                  few = omega (arith, some, more, handlers);
                  reaches = reach_last r plan;
                  ending = λ not. sym beside.ending ∙ not;
                  once = let terminates = here.stands.once in omega (arith, terminates);
                  forced = forced_last u turned.unwinding;
                }),
          ),
        )
          where
            some : 0 < turns
            some = some_shown (program_of x.image).image x.pick turns w u (Enter e) [] (made_by_turns (program_of x.image).image x.pick turns w u (Enter e ∷ []) turned)

            same_frames : SameFrames q r
            same_frames = record { unit = ap (λ y. y.unit) plan; hidden = ap (λ y. y.hidden) plan }

    -- it finds no room
    runs_over : HandlerLacksRoom q m active → StacksHoldCalls → Shows st next (Enter e ∷ []) → (most : ℕ) → most ≤ 64 → ((k : ℕ) → most ≤ k → RunEnds (program_of x.image).image x.pick k w (Enter e ∷ []) Stack) → FollowsIn x before st w
    runs_over lacks holds shows most least ends =
        let terminates = here.stands.once in
        let deep = holds q active m second.world.deepest (here.facts.frames q here.stands.unit) second_stands.stand.nest (omega (arith, terminates)) here.stands.hidden second_stands.stand.deep lacks.lacks in
        let more = deepest_grows code 1 second next (Paces.one_step code second (goes_to next) (third_step steps_made)) in
        inr (inr (inl (subst (λ c. Overflows (program_of x.image).image x.pick c st w) same
        (steps_overflow (program_of x.image).image x.pick q st w 3 next most (Enter e ∷ []) made (omega (arith, once)) (own_end_paid x q before n (unexpected o s) st w here most (omega (arith, least))) (omega (arith, deep, more)) shows (λ k many. let ran = ends k many in (ran.0, ran.1))))))

  follows : UnexpectedHandlersBegin → UnexpectedHandlersOverflow → StacksHoldCalls → FollowsIn x before st w
  follows run over holds = by (room_or_none (shape q m).leaf (open_bytes q active) (shape q m).size (let page = page_here x q before n (unexpected o s) st w here refl in omega (arith, page)))
    where
      by : (open_bytes q active + begin_room (shape q m).leaf (shape q m).size ≤ 0x100_0000) ⊎ (((shape q m).leaf ≡ false) × (0x100_0000 < open_bytes q active + (shape q m).size + 0x1000)) → FollowsIn x before st w
      by (inl room) =
          let ran = run (program_of x.image).image q n o s e asked.selector type d kept m st w here.matches stopped handler (record { taken = takes; room = room }) in
          let entry = few_to_enter q m in
          begins ran.0 (length (linear_code (shape q n) (unexpected o s)) + 10 + entry_turns q m) (omega (arith, entry)) ran.1 ran.2
      by (inr none) =
          let lacks : HandlerLacksRoom q m active = record { looks = none.0; lacks = none.1 } in
          let most = length (linear_code (shape q n) (unexpected o s)) + 16 in
          let ran = λ (k : ℕ) (many : most ≤ k). over (program_of x.image).image x.pick k q n o s e asked.selector type d kept m st w here.matches stopped handler lacks many in
          let first_ran = ran most (omega arith) in
          runs_over first_ran.0 lacks holds first_ran.1 most (omega arith) (λ k many. (ran k many).2)

pub unexpected_follows : UnexpectedHandlersBegin → UnexpectedHandlersOverflow → StacksHoldCalls → UnexpectedFollows
unexpected_follows run over holds x q before n o s type m d kept st w here few is handler =
    let asked = passes_are_asked (regions_for x.program) x.carrying here.stands.steps o s st here.facts.fits (unmarked_stands x.program x.image x.carrying x.tables q before st w here.stands)
    (fetches x q before n (unexpected o s) st w here) in
    let flies = asked.enters is.may in
    let held : exception_in_slot st.top.frame o ≡ flies.0 = ap (λ y. exception_of (address_in y)) flies.2 in
    follows x q before n o s type m d kept st w here few flies.0 flies.1 flies.2 (ap (exception_at st.world) (sym held) ∙ is.native) (ap (may_enter st.world) (sym held) ∙ is.may) handler run over holds
