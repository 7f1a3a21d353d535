-- call_unexpected leaves the last handler of an exception with a destructor, in a whole run: the destructor begins, or the run is over for want of stack,
-- with 4,096 calls open.
use Rattle.std.proofs.Common.{◌≡◌, ◌≢◌, ◌∙◌, refl, sym, ap, subst, arith, ℕ, ◌+◌, ◌-◌, ◌≤◌, ◌<◌, ◌⊎◌, inl, inr, Bool, true, false, List, [], ◌∷◌, length, Some, None, if◌then◌else◌}
use Rattle.meaning_forms.specs.World.{Installed}
use Rattle.run_items.specs.declared.item.Item.{Item}
use Rattle.run_items.specs.declared.item.Item.TheVariants.{Leave, Destroy}
use Rattle.cxa_runtime.specs.declared.effect.End.{End}
use Rattle.cxa_runtime.specs.declared.effect.End.TheVariants.{Stack}
use Rattle.cxa_runtime.specs.Raising.{Image}
use Rattle.cxa_runtime.specs.Run.{run}
use Rattle.cxa_runtime.specs.World as abi
use Rattle.eh_run.specs.Program.{program_of}
use Rattle.region_forms.specs.Caught.{Entry, is_last}
use Rattle.region_forms.specs.Effect.{newest_of, world_passed}
use Rattle.region_forms.specs.World.{Exception, building, native, foreign, object_address, World, exception_at}
use Rattle.linear_forms.specs.Stub.{end_catch, call_unexpected}
use Rattle.linear_forms.specs.Activation.{Activation, State, Code, goes_to}
use Rattle.linear_forms.specs.Machine.{step}
use Rattle.linear_forms.specs.Pace.{paying}
use Rattle.linear_forms.specs.UnitRun.{code_at, code_of}
use Rattle.flight_homes.specs.Lives.{ExceptionKnown, known_in}
use Rattle.flight_homes.specs.Nest.{is_called_by}
use Rattle.linear_invariant.specs.Calls.{unmarked}
use Rattle.linear_invariant.specs.Handled.{open_handlers}
use Rattle.linear_invariant.proofs.Calls.{all_spared}
use Rattle.linear_invariant.proofs.Steps.{leads_stand}
use Rattle.source_bounds.specs.Compiled.{unit_for}
use Rattle.machine_pieces.specs.Turning.{Turns}
use Rattle.machine_pieces.proofs.Turning.{turns_then}
use Rattle.machine_simulation.specs.Calls.{open_bytes, frame_of}
use Rattle.machine_simulation.specs.Entering.{opened, frame_for, begin_room}
use Rattle.machine_simulation.specs.Exceptions.{LinearExceptions, live_in}
use Rattle.machine_simulation.specs.Matches.{FrameIs, Matches}
use Rattle.machine_simulation.specs.Plan.{Plan, function, shape, slot_kinds}
use Rattle.machine_simulation.proofs.Given.{SameBeside, same_beside}
use Rattle.machine_exceptions.specs.Leaves.{destroying}
use Rattle.machine_exceptions.specs.Destroys.{waiting_catch, object_passed, in_destructor, MayDestroy}
use Rattle.machine_exceptions.proofs.CatchSteps.{in_catch, no_words, last_step}
use Rattle.raise_ends.specs.Ends.{RunEnds}
use Rattle.stack_bounds.specs.Taken.{StacksHoldCalls}
use Rattle.own_ends.specs.Canceled.{CanceledLeaves}
use Rattle.own_ends.specs.Destroying.{OwnDestructorsBegin}
use Rattle.own_ends.specs.Overflow.{DestructorsOverflow, Overflows as RunsOver, LacksRoom}
use Rattle.own_ends.specs.Leaving.{Leaving}
use Rattle.address_invariant.specs.Extents.{extents_of}
use Rattle.address_invariant.specs.Laws.{GoesOn}
use Rattle.address_invariant.specs.Reaching.{IsBegunCall, CallsReach, ObjectsReach, Reaches}
use Rattle.address_invariant.proofs.Plans.{plans_go_on}
use Rattle.address_invariant.proofs.Steps.{steps_reach}
use Rattle.operation_premises.specs.Static.{ObjectStatic}
use Rattle.whole_runs.proofs.Counts.{leaves_once}
use Rattle.whole_runs.proofs.Rounds.{some_shown}
use Rattle.whole_runs.proofs.Single.{made_by_turns}
use Rattle.whole_runs.proofs.Staying.{once_stays, deepest_grows}
use Rattle.whole_runs.proofs.Spending.{call_turns, last_turn_spends}
use Rattle.rv64_isa.specs.Step.{x as hart_at}
use Rattle.machine_forms.specs.Registers.{sp}
use Rattle.cost_words.specs.Spends.{spends}
use Rattle.machine_stubs.specs.Stretches.{frame_size}
use Rattle.step_law.specs.Facts.{regions_for, needs_for, code_for}
use Rattle.step_law.specs.Leaves.{destructor_of, destructor_due}
use Rattle.step_law.specs.Own.{StandsAt}
use Rattle.step_law.specs.OwnLeaves.{OwnDestructorsBeginFollow}
use Rattle.step_law.specs.Rows.{Run, FollowsIn}
use Rattle.step_law.proofs.Aligned.{SameFrames, CallsAlign, align_push_two}
use Rattle.step_law.proofs.At.{there_is}
use Rattle.step_law.proofs.Calm.{CalmSteps, calm_leads, catch_calm, calm_newest, steps_follow_soon}
use Rattle.step_law.proofs.Destructors.{destructor_there, object_fits, destructor_alone}
use Rattle.step_law.proofs.Facing.{newest_made}
use Rattle.step_law.proofs.Keeping.{NotEntered, ShownBehind}
use Rattle.step_law.proofs.Leaving.{left_fewer}
use Rattle.step_law.proofs.OwnLeaving.{at_place, Comes, own_step, own_stands, comes, own_begins, own_quiet, own_calm, own_called}
use Rattle.step_law.proofs.OwnLeft.{own_asked, own_live, own_at_leave}
use Rattle.step_law.proofs.Rooms.{room_or_none, own_page, few_to_enter}

-- a run that ends behind turns ends
ends_behind : (image : Image) (pick : ℕ → ℕ) (t most : ℕ) (w v : abi.World) (items : List Item) (end : End) → Turns image t w v [] → ((j : ℕ) → most ≤ j → RunEnds image pick j v items end) → (j : ℕ) → t + most ≤ j → RunEnds image pick j w items end
ends_behind image pick t most w v items end turned ends j many =
    let count : t + (j - t) ≡ j = omega (arith, many) in
    let rest = ends (j - t) (omega (arith, many)) in
    let same = ap (λ n. run image pick n w) (sym count) ∙ turned.run pick (j - t) in
    (ap (λ r. r.items) same ∙ rest.0, ap (λ r. r.end) same ∙ rest.1)

module _ (x : Run) (q : Plan) (before d : ℕ) (st : State) (w : abi.World) (at : StandsAt x q before st w) (c : Comes x q st w) (y : Entry) (ys : List Entry) (caught : st.world.caught ≡ y ∷ ys) (t : ℕ) (kept : Installed) (last : is_last y ≡ true)
    (is : exception_at st.world y.number ≡ native t (Some d) kept) where
  abbrev code : Code
  code = code_for x.program

  abbrev image : Image
  image = (program_of x.image).image

  abbrev e : ℕ
  e = y.number

  abbrev here : State
  here = at_place c.place st

  abbrev active : List Activation
  active = waiting_catch d e ∷ here.top ∷ st.frames

  -- end_catch begins, and calls the destructor
  abbrev first : State
  first = in_catch here 0 no_words st.world

  abbrev second : State
  second = record { top = waiting_catch d e; frames = here.top ∷ st.frames; world = destroying e st.world }

  abbrev next : State
  next = in_destructor q d e here

  one : step code here ≡ goes_to first
  one = own_begins x q before st w at c

  two : step code first ≡ goes_to second
  two = own_step x q before st w at first (goes_to second) (last_step q here y ys (native t (Some d) kept) caught (own_asked x q before st w at c y ys caught).can last is)

  own_three : step (code_of q.unit) second ≡ goes_to next
  own_three = refl

  three : step code second ≡ goes_to next
  three = own_step x q before st w at second (goes_to next) own_three

  calm : CalmSteps code 3 here next
  calm = (own_calm x q before st w at c, first, one, (catch_calm code first refl, second, two, (catch_calm code second refl, next, three, refl)))

  calm_all : CalmSteps code (c.more 3) st next
  calm_all = c.calmly 3 next calm

  once : paying code (c.more 3) st ≤ 1
  once = let paid = c.paid 3 in let few = leaves_once code here no_words (here.top ∷ st.frames) st.world (own_quiet x q before st w at c) one in omega (arith, paid, few)

  there : live_in st.world.live e ≡ Some (native t (Some d) kept)
  there = own_live x q before st w at c y ys caught ∙ ap (λ z. Some z) is

  -- the destructor is a function that takes an object alone
  static : ObjectStatic q.unit d
  static =
      let known : ExceptionKnown (known_in (regions_for x.program)) (native t (Some d) kept) = subst (λ z. ExceptionKnown (known_in (regions_for x.program)) z) is (own_asked x q before st w at c y ys caught).exception in
      subst (λ u. ObjectStatic u d) (sym at.stands.unit) (destructor_there (regions_for x.program) d known.1)

  takes : 1 ≡ (function q d).parameters
  takes =
      let known : ExceptionKnown (known_in (regions_for x.program)) (native t (Some d) kept) = subst (λ z. ExceptionKnown (known_in (regions_for x.program)) z) is (own_asked x q before st w at c y ys caught).exception in
      subst (λ u. 1 ≡ (code_at u d).parameters) (sym at.stands.unit) (destructor_alone (regions_for x.program) d known.1)

  -- the step that calls it pays for its beginning
  last_paid : spends code 1 st + 64 ≤ spends code (c.more 3) st
  last_paid =
      let up_to : CalmSteps code (c.more 2) st second = c.calmly 2 second (own_calm x q before st w at c, first, one, (catch_calm code first refl, second, two, refl)) in
      let paid = last_turn_spends code (c.more 2) st second next (c.some 2 (omega arith)) (calm_leads code (c.more 2) st second up_to) three (call_turns code second next d refl refl) in
      subst (λ n. spends code 1 st + 64 ≤ spends code n st) (sym (c.one_more 2)) paid

  -- call_unexpected leaves so much of the stack
  page : open_bytes q (here.top ∷ st.frames) + 0xD00 ≤ 0x100_0000
  page = let free = by c.leaving in let top : frame_of q.unit q.hidden st.top.function ≡ frame_size call_unexpected = ap (frame_of q.unit q.hidden) c.runs in omega (arith, free, top)
    where
      by : Leaving q c.place c.word here c.there → frame_size call_unexpected + open_bytes q st.frames + 0xD00 ≤ 0x100_0000
      by (inl h) = own_page q call_unexpected st.frames st.world c.there.hart.memory (hart_at c.there.hart sp) h.0.rests.back h.0.rests.memory
      by (inr (inl h)) = own_page q call_unexpected st.frames st.world c.there.hart.memory (hart_at c.there.hart sp) h.0.rests.back h.0.rests.memory
      by (inr (inr h)) = own_page q call_unexpected st.frames st.world c.there.hart.memory (hart_at c.there.hart sp) h.back h.memory

  frame_is : FrameIs (function q d)
  frame_is =
      let less : d < length (unit_for x.program).functions = subst (λ u. d < length u.functions) at.stands.unit static.known in
      subst (λ u. FrameIs (code_at u d)) (sym at.stands.unit) (at.facts.known.frames d (code_at (unit_for x.program) d) (there_is (unit_for x.program).functions d less))

  beside : SameBeside (destroying e st.world) (world_passed (slot_kinds q d) st.world.calls 0 (object_passed e) (destroying e st.world))
  beside = same_beside (slot_kinds q d) st.world.calls 0 (object_passed e) (destroying e st.world)

  -- calls have been made
  no_call : 0 ≢ st.world.calls
  no_call zero_is =
      let called = own_called x q before st w at c in
      let calls : CallsReach (extents_of q) (unit_for x.program) (needs_for x.program) st.world (called.caller ∷ called.others) =
      subst (CallsReach (extents_of q) (unit_for x.program) (needs_for x.program) st.world) called.frames at.stands.reaches.calls.1 in
      let begun : called.caller.frame.call < st.world.calls = subst (λ f. IsBegunCall st.world f called.caller.frame.call) called.is calls.0.begun in
      omega (arith, zero_is, begun)

  goes_same : (v : World) (m : State) → ObjectsReach (extents_of q) v → m.world.last_number ≤ v.last_number → m.top.frame.call ≢ v.calls → GoesOn (extents_of q) (extents_of q) (unit_for x.program) v m
  goes_same v m objects number other = subst (λ u. GoesOn (extents_of q) (extents_of q) u v m) at.stands.unit (plans_go_on.same q q v m refl objects number other)

  newest_here : newest_of st.world.caught ≤ st.world.last_number
  newest_here = newest_made (unmarked (known_in (regions_for x.program))) code x.carrying at.stands.steps st (own_stands x q before st w at)

  first_reaches : Reaches (extents_of q) (unit_for x.program) (needs_for x.program) first
  first_reaches =
      steps_reach (extents_of q) (extents_of q) (unit_for x.program) (needs_for x.program) here first at.facts.reach (record { objects = at.stands.reaches.objects; calls = at.stands.reaches.calls }) newest_here one
      (goes_same st.world first at.stands.reaches.objects (omega arith) no_call)

  second_reaches : Reaches (extents_of q) (unit_for x.program) (needs_for x.program) second
  second_reaches =
      steps_reach (extents_of q) (extents_of q) (unit_for x.program) (needs_for x.program) first second at.facts.reach first_reaches newest_here two (goes_same st.world second first_reaches.objects (omega arith) no_call)

  module _ (stack : ℕ) where
    abbrev r : Plan
    r = opened q d st.world.calls stack

    same_frames : SameFrames q r
    same_frames = record { unit = refl; hidden = refl }

    next_reaches : Reaches (extents_of r) (unit_for x.program) (needs_for x.program) next
    next_reaches =
        let r1 = regions_for x.program in
        let up_to : CalmSteps code 2 here second = (own_calm x q before st w at c, first, one, (catch_calm code first refl, second, two, refl)) in
        let stood = leads_stand r1 x.carrying at.stands.steps (c.more 2) st second at.facts.fits (own_stands x q before st w at) (calm_leads code (c.more 2) st second (c.calmly 2 second up_to)) in
        let newest = newest_made (unmarked (known_in r1)) code x.carrying (at.stands.steps + c.more 2) second stood in
        let goes : GoesOn (extents_of q) (extents_of r) (unit_for x.program) second.world next =
        subst (λ u. GoesOn (extents_of q) (extents_of r) u second.world next) at.stands.unit
        (plans_go_on.called q d stack second.world next frame_is second_reaches.objects (ap (λ (k : LinearExceptions). k.last_number) beside.kept) refl) in
        steps_reach (extents_of q) (extents_of r) (unit_for x.program) (needs_for x.program) second next at.facts.reach second_reaches newest three goes

    aligned : CallsAlign q r (st.top ∷ st.frames) (next.top ∷ next.frames)
    aligned = let all = align_push_two q r same_frames next.top (waiting_catch d e) (here.top ∷ st.frames) in record { targets = λ k less also. all.targets k less also; calls = λ k less also. all.calls k less also }

    shown : (turns : ℕ) (u : abi.World) → Turns image turns w u (Leave e ∷ Destroy e ∷ []) → Matches r next u → ShownBehind x.program x.carrying q r turns st next w u (Leave e ∷ Destroy e ∷ [])
    shown turns u turned matches = record {
      plan = record { frames = same_frames; base = refl; tables = refl };
      aligned = aligned;
      spared = all_spared x.carrying (NotEntered (Leave e ∷ Destroy e ∷ [])) (λ k. refl) None (next.top ∷ next.frames);
      rests = inl matches;
      few = let handlers = ap (λ (k : LinearExceptions). open_handlers k.caught) beside.kept in let fewer = left_fewer st.world.caught in omega (arith, handlers, fewer);
      reaches = next_reaches;
      ending = λ not. sym beside.ending ∙ not;
      once = let few = at.stands.once in omega (arith, few);
      forced = calm_newest x.program x.image x.carrying x.tables at.facts q before (c.more 3) st next w u at.stands calm_all turned.unwinding;
    }

  -- the stack has room for it
  begins_there : OwnDestructorsBegin → open_bytes q active + begin_room (shape q d).leaf (shape q d).size ≤ 0x100_0000 → FollowsIn x before st w
  begins_there law room =
      let some = static.some in
      let may : MayDestroy q d e active = record { known = static.known; passed = omega (arith, some); taken = takes; words = (object_fits (slot_kinds q d 0) (object_address e) static.held, tt); room = room } in
      let ran = law image q c.place c.word here y ys t d kept c.there (own_at_leave x q before st w at c y ys caught) last there may in
      let items : List Item = Leave e ∷ Destroy e ∷ [] in
      let stack : ℕ = frame_for q d active in
      let all : Turns image (c.turns + ran.2.turns) w ran.2.after items = turns_then image c.turns ran.2.turns w c.there ran.2.after [] items c.turned ran.2.runs in
      let many = some_shown image x.pick (c.turns + ran.2.turns) w ran.2.after (Leave e) (Destroy e ∷ []) (made_by_turns image x.pick (c.turns + ran.2.turns) w ran.2.after items all) in
      let entry = few_to_enter q d in
      let first_pays = c.few in
      steps_follow_soon x q (r stack) before (c.more 3) (c.turns + ran.2.turns) st next w ran.2.after items at.facts at.stands (c.some 3 (omega arith)) calm_all once (omega (arith, many)) (omega (arith, ran.2.few, entry, first_pays, last_paid))
      (omega (arith, ran.2.few, entry, first_pays)) ran.1 all
      (shown stack (c.turns + ran.2.turns) ran.2.after all ran.2.holds)

  -- it has none
  over_by : DestructorsOverflow → LacksRoom q d active → (j : ℕ) → 22 ≤ j → RunsOver image x.pick j q d e here c.there
  over_by over lacks j many =
      over.own image x.pick j q c.place c.word here y ys t d kept c.there (own_at_leave x q before st w at c y ys caught) last there lacks many

  runs_over : DestructorsOverflow → StacksHoldCalls → LacksRoom q d active → FollowsIn x before st w
  runs_over over holds lacks =
      let few = at.stands.once in
      let depth = at.stands.stands.stand.deep in
      let deep = holds q active d st.world.deepest (at.facts.frames q at.stands.unit) (subst (λ f. is_called_by end_catch f ≡ true) (sym c.runs) refl, at.stands.stands.stand.nest) (omega (arith, few)) at.stands.hidden (omega (arith, depth)) lacks.lacks in
      let leads = calm_leads code (c.more 3) st next calm_all in
      let more = deepest_grows code (c.more 3) st next leads in
      let ran = over_by over lacks 22 (omega arith) in
      let ends = λ (j : ℕ) (many : c.turns + 22 ≤ j). ends_behind image x.pick c.turns 22 w c.there (Leave e ∷ Destroy e ∷ []) Stack c.turned (λ k enough. (over_by over lacks k enough).2) j many in
      inr (inr (inl (record {
        steps = c.more 3;
        next = next;
        leads = leads;
        stays = once_stays image x.pick code (c.more 3) st w once;
        deep = omega (arith, deep, more);
        items = Leave e ∷ Destroy e ∷ [];
        shows = ran.1;
        ends = record { turns = c.turns + 22; shows = λ j many. (ends j many).0; ends = λ j many. (ends j many).1 };
        few = omega (arith, c.few);
      })))

  either : OwnDestructorsBegin → DestructorsOverflow → StacksHoldCalls → FollowsIn x before st w
  either law over holds = by (room_or_none (shape q d).leaf (open_bytes q active) (shape q d).size (let free = page in omega (arith, free)))
    where
      by : (open_bytes q active + begin_room (shape q d).leaf (shape q d).size ≤ 0x100_0000) ⊎ (((shape q d).leaf ≡ false) × (0x100_0000 < open_bytes q active + (shape q d).size + 0x1000)) → FollowsIn x before st w
      by (inl room) = begins_there law room
      by (inr lacks) = runs_over over holds (record { known = static.known; looks = lacks.0; lacks = lacks.1 })

pub own_destructors_begin_follow : OwnDestructorsBegin → DestructorsOverflow → StacksHoldCalls → CanceledLeaves → OwnDestructorsBeginFollow
own_destructors_begin_follow law over holds cancels x q before d st w at leaving due = by st.world.caught refl due
  where
    by_exception : (y : Entry) (ys : List Entry) → st.world.caught ≡ y ∷ ys → is_last y ≡ true → (z : Exception) → exception_at st.world y.number ≡ z → destructor_of z ≡ Some d → FollowsIn x before st w
    by_exception y ys caught last building is due = absurd (cc due)
    by_exception y ys caught last (native t o kept) is due =
        either x q before d st w at (comes x q before st w at cancels leaving) y ys caught t kept last (is ∙ ap (λ p. native t p kept) due) law over holds
    by_exception y ys caught last (foreign k token) is due = absurd (cc due)

    by_last : (y : Entry) (ys : List Entry) → st.world.caught ≡ y ∷ ys → (b : Bool) → is_last y ≡ b → (if b then destructor_of (exception_at st.world y.number) else None) ≡ Some d → FollowsIn x before st w
    by_last y ys caught true last due = by_exception y ys caught last (exception_at st.world y.number) refl due
    by_last y ys caught false last due = absurd (cc due)

    by : (zs : List Entry) → st.world.caught ≡ zs → destructor_due st.world zs ≡ Some d → FollowsIn x before st w
    by [] is due = absurd (cc due)
    by (y ∷ ys) is due = by_last y ys is (is_last y) refl due
