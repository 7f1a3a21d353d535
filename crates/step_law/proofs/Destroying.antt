-- A compiled function leaves the last handler of an exception with a destructor, in a whole run: the destructor begins, or the run is over for want of
-- stack, with 4,096 calls open.
use Rattle.std.proofs.Common.{◌≡◌, ◌≢◌, ◌∙◌, refl, sym, ap, subst, arith, ℕ, ◌+◌, ◌≤◌, ◌<◌, ◌⊎◌, inl, inr, Bool, true, false, List, [], ◌∷◌, Some, None, if◌then◌else◌}
use Rattle.meaning_forms.specs.World.{Installed}
use Rattle.run_items.specs.declared.item.Item.TheVariants.{Leave, Destroy}
use Rattle.cxa_runtime.specs.Raising.{Image}
use Rattle.cxa_runtime.specs.World as abi
use Rattle.eh_run.specs.Program.{program_of}
use Rattle.region_forms.specs.Caught.{Entry, is_last}
use Rattle.region_forms.specs.Effect.{world_passed}
use Rattle.region_forms.specs.Form.{leave}
use Rattle.region_forms.specs.World.{Exception, building, native, foreign, object_address, World, exception_at}
use Rattle.linear_forms.specs.Linear.{plain}
use Rattle.linear_forms.specs.Stub.{end_catch}
use Rattle.linear_forms.specs.Activation.{Activation, State, Code, goes_to}
use Rattle.linear_forms.specs.Machine.{step}
use Rattle.linear_forms.specs.Pace.{paying}
use Rattle.linear_forms.specs.UnitRun.{code_of, code_at}
use Rattle.flight_homes.specs.Lives.{ExceptionKnown, known_in}
use Rattle.flight_homes.specs.Nest.{is_called_by}
use Rattle.linear_invariant.specs.Calls.{unmarked}
use Rattle.linear_invariant.specs.Handled.{open_handlers}
use Rattle.linear_invariant.proofs.Calls.{all_spared}
use Rattle.linear_invariant.proofs.Steps.{steps_stand}
use Rattle.source_bounds.specs.Compiled.{unit_for}
use Rattle.machine_pieces.specs.Turning.{Turns}
use Rattle.machine_simulation.specs.Calls.{open_bytes}
use Rattle.machine_simulation.specs.Entering.{opened, frame_for, begin_room}
use Rattle.machine_simulation.specs.Exceptions.{LinearExceptions, live_in}
use Rattle.machine_simulation.specs.Matches.{Matches}
use Rattle.machine_simulation.specs.Plan.{Plan, shape, slot_kinds, function}
use Rattle.machine_simulation.proofs.Given.{SameBeside, same_beside}
use Rattle.machine_exceptions.specs.Leaves.{destroying}
use Rattle.machine_exceptions.specs.Destroys.{waiting_catch, object_passed, in_destructor, MayDestroy, DestructorsBegin}
use Rattle.machine_exceptions.proofs.CatchSteps.{no_words, last_step}
use Rattle.stack_bounds.specs.Taken.{StacksHoldCalls}
use Rattle.own_ends.specs.Overflow.{DestructorsOverflow, Overflows as RunsOver, LacksRoom}
use Rattle.address_invariant.specs.Extents.{extents_of}
use Rattle.address_invariant.specs.Laws.{GoesOn}
use Rattle.address_invariant.specs.Reaching.{ObjectsReach, Reaches}
use Rattle.address_invariant.proofs.Newest.{newest_was_made}
use Rattle.address_invariant.proofs.Plans.{plans_go_on}
use Rattle.address_invariant.proofs.Steps.{steps_reach}
use Rattle.operation_premises.specs.Static.{ObjectStatic}
use Rattle.whole_runs.specs.Steps.{Overflows}
use Rattle.whole_runs.proofs.Counts.{leaves_once}
use Rattle.whole_runs.proofs.Rounds.{some_shown, steps_overflow}
use Rattle.whole_runs.proofs.Single.{made_by_turns}
use Rattle.whole_runs.proofs.Staying.{deepest_grows}
use Rattle.whole_runs.proofs.Spending.{call_turns, last_turn_spends}
use Rattle.cost_words.specs.Spends.{spends}
use Rattle.step_law.specs.Facts.{regions_for, needs_for, code_for}
use Rattle.step_law.specs.Leaves.{destructor_of, destructor_due, DestructorsBeginFollow}
use Rattle.step_law.specs.Rows.{Run, IsAt, FollowsIn}
use Rattle.step_law.proofs.Aligned.{SameFrames, align_push_two}
use Rattle.step_law.proofs.At.{same_code, own_end_paid, weight_paid}
use Rattle.step_law.proofs.Destructors.{destructor_there, object_fits, destructor_alone}
use Rattle.step_law.proofs.Facing.{newest_made}
use Rattle.step_law.proofs.Keeping.{NotEntered, unmarked_stands, ShownBehind}
use Rattle.step_law.proofs.Leaving.{left_fewer, begins, calm_here, in_code, quiet, asked, live, at_leave}
use Rattle.step_law.proofs.Calm.{CalmSteps, calm_leads, catch_calm, calm_newest, steps_follow_soon}
use Rattle.step_law.proofs.Rooms.{room_or_none, page_here, few_to_enter}

module _ (x : Run) (q : Plan) (before n d : ℕ) (st : State) (w : abi.World) (at : IsAt x q before n (plain leave) st w) (y : Entry) (ys : List Entry) (caught : st.world.caught ≡ y ∷ ys) (t : ℕ) (kept : Installed) (last : is_last y ≡ true)
    (is : exception_at st.world y.number ≡ native t (Some d) kept) where
  abbrev code : Code
  code = code_for x.program

  abbrev image : Image
  image = (program_of x.image).image

  abbrev e : ℕ
  e = y.number

  abbrev active : List Activation
  active = waiting_catch d e ∷ st.top ∷ st.frames

  -- end_catch begins, and calls the destructor
  abbrev first : State
  first = record { top = record { function = end_catch; place = 0; frame = no_words }; frames = st.top ∷ st.frames; world = st.world }

  abbrev second : State
  second = record { top = waiting_catch d e; frames = st.top ∷ st.frames; world = destroying e st.world }

  abbrev next : State
  next = in_destructor q d e st

  one : step code st ≡ goes_to first
  one = begins x q before n st w at

  two : step code first ≡ goes_to second
  two = in_code x q before n st w at first (goes_to second) (last_step q st y ys (native t (Some d) kept) caught (asked x q before n st w at y ys caught).can last is)

  own_three : step (code_of q.unit) second ≡ goes_to next
  own_three = refl

  three : step code second ≡ goes_to next
  three = in_code x q before n st w at second (goes_to next) own_three

  calm : CalmSteps code 3 st next
  calm = (calm_here x q before n st w at, first, one, (catch_calm code first refl, second, two, (catch_calm code second refl, next, three, refl)))

  once : paying code 3 st ≤ 1
  once = leaves_once code st no_words (st.top ∷ st.frames) st.world (quiet x q before n st w at) one

  there : live_in st.world.live e ≡ Some (native t (Some d) kept)
  there = live x q before n st w at y ys caught ∙ ap (λ z. Some z) is

  -- the destructor is a function that takes an object alone
  static : ObjectStatic q.unit d
  static =
      let known : ExceptionKnown (known_in (regions_for x.program)) (native t (Some d) kept) = subst (λ z. ExceptionKnown (known_in (regions_for x.program)) z) is (asked x q before n st w at y ys caught).exception in
      subst (λ u. ObjectStatic u d) (sym at.stands.unit) (destructor_there (regions_for x.program) d known.1)

  takes : 1 ≡ (function q d).parameters
  takes =
      let known : ExceptionKnown (known_in (regions_for x.program)) (native t (Some d) kept) = subst (λ z. ExceptionKnown (known_in (regions_for x.program)) z) is (asked x q before n st w at y ys caught).exception in
      subst (λ u. 1 ≡ (code_at u d).parameters) (sym at.stands.unit) (destructor_alone (regions_for x.program) d known.1)

  -- the step that calls it pays for its beginning
  last_paid : spends code 1 st + 64 ≤ spends code 3 st
  last_paid = last_turn_spends code 2 st second next (omega arith) (calm_leads code 2 st second (calm_here x q before n st w at, first, one, (catch_calm code first refl, second, two, refl))) three (call_turns code second next d refl refl)

  beside : SameBeside (destroying e st.world) (world_passed (slot_kinds q d) st.world.calls 0 (object_passed e) (destroying e st.world))
  beside = same_beside (slot_kinds q d) st.world.calls 0 (object_passed e) (destroying e st.world)

  module _ (stack : ℕ) where
    abbrev r : Plan
    r = opened q d st.world.calls stack

    same_frames : SameFrames q r
    same_frames = record { unit = refl; hidden = refl }

    -- nothing else begins on the way
    goes_same : (v : World) (m : State) → ObjectsReach (extents_of q) v → m.world.last_number ≤ v.last_number → m.top.frame.call ≢ v.calls → GoesOn (extents_of q) (extents_of q) (unit_for x.program) v m
    goes_same v m objects number other = subst (λ u. GoesOn (extents_of q) (extents_of q) u v m) at.stands.unit (plans_go_on.same q q v m refl objects number other)

    no_call : 0 ≢ st.world.calls
    no_call zero_is = let older = at.matches.memory.newest in omega (arith, zero_is, older)

    first_reaches : Reaches (extents_of q) (unit_for x.program) (needs_for x.program) first
    first_reaches =
        steps_reach (extents_of q) (extents_of q) (unit_for x.program) (needs_for x.program) st first at.facts.reach at.stands.reaches (newest_was_made q st w at.matches) one
        (goes_same st.world first at.stands.reaches.objects (omega arith) no_call)

    second_reaches : Reaches (extents_of q) (unit_for x.program) (needs_for x.program) second
    second_reaches =
        steps_reach (extents_of q) (extents_of q) (unit_for x.program) (needs_for x.program) first second at.facts.reach first_reaches (newest_was_made q st w at.matches) two
        (goes_same st.world second first_reaches.objects (omega arith) no_call)

    next_reaches : Reaches (extents_of r) (unit_for x.program) (needs_for x.program) next
    next_reaches =
        let r1 = regions_for x.program in
        let stood = unmarked_stands x.program x.image x.carrying x.tables q before st w at.stands in
        let stood_first = steps_stand r1 x.carrying at.stands.steps st first at.facts.fits stood one in
        let stood_second = steps_stand r1 x.carrying (at.stands.steps + 1) first second at.facts.fits stood_first two in
        let newest = newest_made (unmarked (known_in r1)) code x.carrying (at.stands.steps + 1 + 1) second stood_second in
        let goes : GoesOn (extents_of q) (extents_of r) (unit_for x.program) second.world next =
        subst (λ u. GoesOn (extents_of q) (extents_of r) u second.world next) at.stands.unit
        (plans_go_on.called q d stack second.world next (at.matches.memory.unit.frames d static.known) second_reaches.objects (ap (λ (k : LinearExceptions). k.last_number) beside.kept) refl) in
        steps_reach (extents_of q) (extents_of r) (unit_for x.program) (needs_for x.program) second next at.facts.reach second_reaches newest three goes

    shown : (turns : ℕ) (u : abi.World) → Turns image turns w u (Leave e ∷ Destroy e ∷ []) → Matches r next u → ShownBehind x.program x.carrying q r turns st next w u (Leave e ∷ Destroy e ∷ [])
    shown turns u turned matches = record {
      plan = record { frames = same_frames; base = refl; tables = refl };
      aligned = align_push_two q r same_frames next.top (waiting_catch d e) (st.top ∷ st.frames);
      spared = all_spared x.carrying (NotEntered (Leave e ∷ Destroy e ∷ [])) (λ k. refl) None (next.top ∷ next.frames);
      rests = inl matches;
      few = let handlers = ap (λ (k : LinearExceptions). open_handlers k.caught) beside.kept in let fewer = left_fewer st.world.caught in omega (arith, handlers, fewer);
      reaches = next_reaches;
      ending = λ not. sym beside.ending ∙ not;
      once = let few = at.stands.once in omega (arith, few);
      forced = calm_newest x.program x.image x.carrying x.tables at.facts q before 3 st next w u at.stands calm turned.unwinding;
    }

  -- the stack has room for it
  begins_there : DestructorsBegin → open_bytes q active + begin_room (shape q d).leaf (shape q d).size ≤ 0x100_0000 → FollowsIn x before st w
  begins_there run room =
      let some = static.some in
      let may : MayDestroy q d e active = record { known = static.known; passed = omega (arith, some); taken = takes; words = (object_fits (slot_kinds q d 0) (object_address e) static.held, tt); room = room } in
      let ran = run image q n st first y ys t d kept w at.matches (at_leave x q before n st w at y ys caught) last there may in
      let stack : ℕ = frame_for q d active in
      let many = some_shown image x.pick ran.2.turns w ran.2.after (Leave e) (Destroy e ∷ []) (made_by_turns image x.pick ran.2.turns w ran.2.after (Leave e ∷ Destroy e ∷ []) ran.2.runs) in
      let entry = few_to_enter q d in
      let weight = weight_paid x q before n (plain leave) st w at 24 (omega arith) in
      steps_follow_soon x q (r stack) before 3 ran.2.turns st next w ran.2.after (Leave e ∷ Destroy e ∷ []) at.facts at.stands (omega arith) calm once (omega (arith, many))
      (omega (arith, ran.2.few, entry, weight, last_paid)) (omega (arith, ran.2.few, entry, weight)) ran.1 ran.2.runs
      (shown stack ran.2.turns ran.2.after ran.2.runs ran.2.holds)

  -- it has none
  over_by : DestructorsOverflow → LacksRoom q d active → (j : ℕ) → 20 ≤ j → RunsOver image x.pick j q d e st w
  over_by over lacks j many =
      over.compiled image x.pick j q n st first y ys t d kept w at.matches (at_leave x q before n st w at y ys caught) last there lacks many

  runs_over : DestructorsOverflow → StacksHoldCalls → LacksRoom q d active → FollowsIn x before st w
  runs_over over holds lacks =
      let own = same_code x q before n (plain leave) st w at in
      let few = at.stands.once in
      let depth = at.stands.stands.stand.deep in
      let deep = holds q active d st.world.deepest (at.facts.frames q at.stands.unit) (subst (λ f. is_called_by end_catch f ≡ true) (sym at.runs) refl, at.stands.stands.stand.nest) (omega (arith, few)) at.stands.hidden (omega (arith, depth)) lacks.lacks in
      let more = deepest_grows code 3 st next (calm_leads code 3 st next calm) in
      let ran = over_by over lacks 20 (omega arith) in
      inr (inr (inl (subst (λ c. Overflows image x.pick c st w) own
      (steps_overflow image x.pick q st w 3 next 20 (Leave e ∷ Destroy e ∷ []) ran.0 (subst (λ c. paying c 3 st ≤ 1) (sym own) once) (own_end_paid x q before n (plain leave) st w at 20 (omega arith)) (omega (arith, deep, more)) ran.1 (λ j many. (over_by over lacks j many).2)))))

  either : DestructorsBegin → DestructorsOverflow → StacksHoldCalls → FollowsIn x before st w
  either run over holds = by (room_or_none (shape q d).leaf (open_bytes q active) (shape q d).size (let page = page_here x q before n (plain leave) st w at refl in omega (arith, page)))
    where
      by : (open_bytes q active + begin_room (shape q d).leaf (shape q d).size ≤ 0x100_0000) ⊎ (((shape q d).leaf ≡ false) × (0x100_0000 < open_bytes q active + (shape q d).size + 0x1000)) → FollowsIn x before st w
      by (inl room) = begins_there run room
      by (inr lacks) = runs_over over holds (record { known = static.known; looks = lacks.0; lacks = lacks.1 })

pub destructors_begin_follow : DestructorsBegin → DestructorsOverflow → StacksHoldCalls → DestructorsBeginFollow
destructors_begin_follow run over holds x q before n d st w at due = by st.world.caught refl due
  where
    by_exception : (y : Entry) (ys : List Entry) → st.world.caught ≡ y ∷ ys → is_last y ≡ true → (z : Exception) → exception_at st.world y.number ≡ z → destructor_of z ≡ Some d → FollowsIn x before st w
    by_exception y ys caught last building is due = absurd (cc due)
    by_exception y ys caught last (native t o kept) is due = either x q before n d st w at y ys caught t kept last (is ∙ ap (λ p. native t p kept) due) run over holds
    by_exception y ys caught last (foreign k token) is due = absurd (cc due)

    by_last : (y : Entry) (ys : List Entry) → st.world.caught ≡ y ∷ ys → (b : Bool) → is_last y ≡ b → (if b then destructor_of (exception_at st.world y.number) else None) ≡ Some d → FollowsIn x before st w
    by_last y ys caught true last due = by_exception y ys caught last (exception_at st.world y.number) refl due
    by_last y ys caught false last due = absurd (cc due)

    by : (zs : List Entry) → st.world.caught ≡ zs → destructor_due st.world zs ≡ Some d → FollowsIn x before st w
    by [] is due = absurd (cc due)
    by (y ∷ ys) is due = by_last y ys is (is_last y) refl due
