-- call_unexpected leaves a handler and no destructor is called, in a whole run.
use Rattle.std.proofs.Common.{◌≡◌, ◌∙◌, refl, sym, ap, subst, arith, ℕ, ◌+◌, ◌≤◌, ◌<◌, inr, Bool, true, false, List, [], ◌∷◌, Some, None, if◌then◌else◌}
use Rattle.meaning_forms.specs.World.{Installed}
use Rattle.run_items.specs.declared.item.Item.{Item}
use Rattle.run_items.specs.declared.item.Item.TheVariants.{Leave, Destroy, Free, Clean}
use Rattle.cxa_runtime.specs.Raising.{Image}
use Rattle.cxa_runtime.specs.World as abi
use Rattle.eh_run.specs.Program.{program_of}
use Rattle.region_forms.specs.Caught.{Entry, is_last}
use Rattle.region_forms.specs.Effect.{left, cleaned_up}
use Rattle.region_forms.specs.Lives.{is_built, may_leave}
use Rattle.region_forms.specs.World.{Exception, building, native, foreign, nothing, address_word, object_address, address_in, exception_of, with_slot, Frame, World, exception_at, type_at}
use Rattle.linear_forms.specs.Activation.{Activation, State, Code, goes_to, not_defined, by_program}
use Rattle.linear_forms.specs.Machine.{step, over, exec}
use Rattle.linear_forms.specs.Pace.{paying}
use Rattle.linear_forms.specs.StubOperation.{is_bad, empty_call}
use Rattle.linear_forms.specs.UnitRun.{code_of}
use Rattle.flight_homes.specs.Lives.{known_in}
use Rattle.linear_invariant.specs.Asked.{NewestAsked}
use Rattle.linear_invariant.proofs.Asked.{leaves_are_asked}
use Rattle.linear_invariant.proofs.Calls.{all_spared}
use Rattle.source_bounds.specs.Compiled.{unit_for}
use Rattle.machine_pieces.specs.Turning.{Turns}
use Rattle.machine_pieces.proofs.Turning.{turns_then}
use Rattle.machine_simulation.specs.Exceptions.{live_in}
use Rattle.machine_simulation.specs.Objects.{without_object, Shows}
use Rattle.machine_simulation.specs.Plan.{Plan}
use Rattle.machine_simulation.proofs.LiveThere.{built_there}
use Rattle.machine_exceptions.specs.Leaves.{StepsTo, behind, destroying, destroyed_world}
use Rattle.machine_exceptions.proofs.CatchSteps.{in_catch, no_words, still_step, last_step}
use Rattle.own_ends.specs.Canceled.{CanceledLeaves}
use Rattle.own_ends.specs.Leaving.{AtOwnLeave}
use Rattle.own_ends.specs.Left.{OwnHandlersLeft}
use Rattle.stub_landings.specs.Rests.{LeavesOn, Rests}
use Rattle.address_invariant.specs.Extents.{extents_of}
use Rattle.address_invariant.specs.Laws.{GoesOn}
use Rattle.address_invariant.specs.Reaching.{VariablesLie, Reaches}
use Rattle.address_invariant.proofs.Following.{follows_reach}
use Rattle.address_invariant.proofs.Operations.{still_at}
use Rattle.whole_runs.proofs.Counts.{quiet_once, leaves_once, freed_once}
use Rattle.whole_runs.proofs.Rounds.{some_shown}
use Rattle.whole_runs.proofs.Single.{made_by_turns}
use Rattle.whole_runs.proofs.Staying.{once_stays}
use Rattle.step_law.specs.Facts.{regions_for, needs_for, code_for}
use Rattle.step_law.specs.Leaves.{destructor_of, destructor_due}
use Rattle.step_law.specs.Own.{StandsAt}
use Rattle.step_law.specs.OwnLeaves.{OwnLeavesFollow}
use Rattle.step_law.specs.Rows.{Run, FollowsIn}
use Rattle.step_law.proofs.Aligned.{align_same}
use Rattle.step_law.proofs.Calm.{CalmSteps, rest_of, catch_calm, calm_newest, steps_follow}
use Rattle.step_law.proofs.Keeping.{NotEntered, PlanGoes, ShownBehind}
use Rattle.step_law.proofs.Leaving.{left_fewer, LessHandled, destroyed_less, frees_in_catch}
use Rattle.step_law.proofs.OwnLeaving.{at_place, Comes, own_same, own_step, own_stands, comes, which, own_begins, own_quiet, own_calm, own_called, rests_behind}

module _ (x : Run) (q : Plan) (before : ℕ) (st : State) (w : abi.World) (at : StandsAt x q before st w) (c : Comes x q st w) where
  abbrev code : Code
  code = code_for x.program

  abbrev image : Image
  image = (program_of x.image).image

  abbrev here : State
  here = at_place c.place st

  abbrev first : State
  first = in_catch here 0 no_words st.world

  begins : step code here ≡ goes_to first
  begins = own_begins x q before st w at c

  -- no handler is open
  none_open : OwnHandlersLeft → st.world.caught ≡ [] → FollowsIn x before st w
  none_open run none =
      let own : exec code 2 here ≡ over not_defined st.world = ap (λ k. exec k 2 here) (sym (own_same x q before st w at)) ∙ run.breaks q c.place c.word here c.there c.leaving (ap (may_leave st.world) none) in
      let few = quiet_once code here (own_quiet x q before st w at c) in
      let same = c.paid 2 in
      inr (inr (inr (record {
        steps = c.more 2;
        how = not_defined;
        world = st.world;
        over = c.runs_on 2 ∙ own;
        stays = once_stays image x.pick code (c.more 2) st w (omega (arith, few, same));
        no_end = λ why is. let no : not_defined ≡ by_program why = is in absurd (cc no);
        few = omega (arith, few, same);
      })))

  module _ (y : Entry) (ys : List Entry) (caught : st.world.caught ≡ y ∷ ys) where
    pub own_asked : NewestAsked (known_in (regions_for x.program)) x.carrying st y ys
    own_asked = leaves_are_asked (regions_for x.program) x.carrying at.stands.steps st y ys at.facts.fits (own_stands x q before st w at) caught

    pub own_live : live_in st.world.live y.number ≡ Some (exception_at st.world y.number)
    own_live = built_there st.world.live y.number own_asked.can

    pub own_at_leave : AtOwnLeave q c.place c.word here c.there y ys
    own_at_leave = record { leaves = c.leaving; called = own_called x q before st w at c; caught = caught }

    module _ (v : World) (r : Plan) (less : LessHandled st.world v) (same : extents_of r ≡ extents_of q) (plan : PlanGoes q r) where
      abbrev next : State
      next = behind here v

      goes_on : GoesOn (extents_of q) (extents_of r) (unit_for x.program) st.world next
      goes_on =
          let last = less.last in
          subst (λ z. GoesOn (extents_of q) z (unit_for x.program) st.world next) (sym same) (record {
            same = λ b begun. (refl, refl);
            objects = record { globals = at.stands.reaches.objects.globals; exceptions = λ e made. at.stands.reaches.objects.exceptions e (omega (arith, made, last)) };
            opened = λ new. subst (λ f. VariablesLie (extents_of q) (unit_for x.program) f st.top.frame.call) (sym c.runs) tt;
          })

      reaches_on : Reaches (extents_of r) (unit_for x.program) (needs_for x.program) next
      reaches_on =
          follows_reach (extents_of q) (extents_of r) (unit_for x.program) (needs_for x.program) st.world next goes_on
          (still_at (extents_of q) (unit_for x.program) (needs_for x.program) st.world at.facts.reach.small at.stands.reaches.objects st.top.function (c.place + 1) st.top.frame st.frames v
          (record { calls = omega (arith, less.calls); last_number = omega (arith, less.last) }) at.stands.reaches.calls.0 at.stands.reaches.calls.1)

      shown : (steps turns : ℕ) (u : abi.World) (items : List Item) → CalmSteps code steps here next → Turns image turns w u items → ((e : ℕ) → NotEntered items e) → Rests r next u → ShownBehind x.program x.carrying q r turns st next w u items
      shown steps turns u items calm turned none rests = record {
        plan = plan;
        aligned = align_same q r plan.frames st.top next.top st.frames refl;
        spared = all_spared x.carrying (NotEntered items) none None (next.top ∷ next.frames);
        rests = rests;
        few = let fewer = less.few in omega (arith, fewer);
        reaches = reaches_on;
        ending = λ not. sym less.ending ∙ not;
        once = at.stands.once;
        forced = calm_newest x.program x.image x.carrying x.tables at.facts q before (c.more steps) st next w u at.stands (c.calmly steps next calm) turned.unwinding;
      }

      left_on : (steps turns : ℕ) (u : abi.World) (i : Item) (items : List Item) → 0 < steps → CalmSteps code steps here next → paying code steps here ≤ 1 → turns ≤ 20 → Shows here next (i ∷ items) → Turns image turns c.there u (i ∷ items) →
          ((e : ℕ) → NotEntered (i ∷ items) e) → LeavesOn r c.word (c.place + 1) next u → FollowsIn x before st w
      left_on steps turns u i items some calm once least shows turned none rests =
          let all : Turns image (c.turns + turns) w u (i ∷ items) = turns_then image c.turns turns w c.there u [] (i ∷ items) c.turned turned in
          let many = some_shown image x.pick (c.turns + turns) w u i items (made_by_turns image x.pick (c.turns + turns) w u (i ∷ items) all) in
          let paid = c.paid steps in
          steps_follow x q r before (c.more steps) (c.turns + turns) st next w u (i ∷ items) at.facts at.stands (c.some steps some) (c.calmly steps next calm) (omega (arith, paid, once)) (omega (arith, many)) (omega (arith, least, c.few)) shows all
          (shown steps (c.turns + turns) u (i ∷ items) calm all none (rests_behind r c.place c.word next u (which x q before st w at c) rests))

    same_plan : (r : Plan) → r.unit ≡ q.unit → r.hidden ≡ q.hidden → r.base ≡ q.base → r.tables ≡ q.tables → PlanGoes q r
    same_plan r unit hidden base tables = record { frames = record { unit = unit; hidden = hidden }; base = base; tables = tables }

    -- up to end_catch's return
    three_calm : (v : World) → step code first ≡ goes_to (in_catch here 3 no_words v) → StepsTo code 3 here (behind here v) → CalmSteps code 3 here (behind here v)
    three_calm v two steps =
        let second : State = in_catch here 3 no_words v in
        let rest : StepsTo code 1 second (behind here v) = rest_of code 1 first second (behind here v) (rest_of code 2 here first (behind here v) steps begins) two in
        (own_calm x q before st w at c, first, begins, (catch_calm code first refl, second, two, (catch_calm code second refl, rest.0, rest.1, rest.2)))

    own_steps : (n : ℕ) (next : State) → StepsTo (code_of q.unit) n here next → StepsTo code n here next
    own_steps n next h = subst (λ k. StepsTo k n here next) (own_same x q before st w at) h

    -- other handlers have the exception, or it travels again
    still : OwnHandlersLeft → is_last y ≡ false → FollowsIn x before st w
    still run last =
        let v : World = left st.world in
        let ran = run.still_handled image q c.place c.word here y ys c.there own_at_leave own_asked.can last in
        let two = own_step x q before st w at first (goes_to (in_catch here 3 no_words v)) (still_step q here y ys caught own_asked.can last) in
        left_on v q (record { calls = refl; last = refl; ending = refl; few = left_fewer st.world.caught }) refl (same_plan q refl refl refl refl) 3 ran.2.turns ran.2.after (Leave y.number) [] (omega arith)
        (three_calm v two (own_steps 3 (behind here v) ran.0)) (leaves_once code here no_words (here.top ∷ st.frames) st.world (own_quiet x q before st w at c) begins) (omega (arith, ran.2.few)) ran.1 ran.2.runs (λ e. refl) ran.2.holds

    -- a foreign one is cleaned up
    cleaned : OwnHandlersLeft → (k token : ℕ) → is_last y ≡ true → exception_at st.world y.number ≡ foreign k token → FollowsIn x before st w
    cleaned run k token last is =
        let v : World = cleaned_up y.number k token (left st.world) in
        let r : Plan = without_object q y.number in
        let ran = run.foreign_cleaned image q c.place c.word here y ys k token c.there own_at_leave last (own_live ∙ ap (λ z. Some z) is) in
        let two = own_step x q before st w at first (goes_to (in_catch here 3 no_words v)) (last_step q here y ys (foreign k token) caught own_asked.can last is) in
        left_on v r (record { calls = refl; last = refl; ending = refl; few = left_fewer st.world.caught }) refl (same_plan r refl refl refl refl) 3 ran.2.turns ran.2.after (Leave y.number) (Clean k token ∷ []) (omega arith)
        (three_calm v two (own_steps 3 (behind here v) ran.0)) (leaves_once code here no_words (here.top ∷ st.frames) st.world (own_quiet x q before st w at c) begins) (omega (arith, ran.2.few)) ran.1 ran.2.runs (λ e. refl) ran.2.holds

    -- one without a destructor is freed at once
    freed_now : OwnHandlersLeft → (t : ℕ) (kept : Installed) → is_last y ≡ true → exception_at st.world y.number ≡ native t None kept → FollowsIn x before st w
    freed_now run t kept last is =
        let e : ℕ = y.number in
        let fs : List Activation = here.top ∷ st.frames in
        let v : World = destroyed_world t e fs st.world in
        let d : World = destroying e st.world in
        let frame : Frame = with_slot 1 nothing (with_slot 0 (address_word (object_address e)) no_words) in
        let u : World = if is_bad (type_at d (exception_of (address_in (frame.slots 0)))) then empty_call fs d else d in
        let second : State = in_catch here 1 frame d in
        let third : State = in_catch here 2 frame u in
        let r : Plan = without_object q e in
        let two : step code first ≡ goes_to second = own_step x q before st w at first (goes_to second) (last_step q here y ys (native t None kept) caught own_asked.can last is) in
        let three : step code second ≡ goes_to third = refl in
        let ran = run.freed_at_once image q c.place c.word here y ys t kept c.there own_at_leave last (own_live ∙ ap (λ z. Some z) is) in
        let rest : StepsTo code 2 third (behind here v) =
        rest_of code 2 second third (behind here v) (rest_of code 3 first second (behind here v) (rest_of code 4 here first (behind here v) (own_steps 5 (behind here v) ran.0) begins) two) three in
        let calm : CalmSteps code 5 here (behind here v) = (
          own_calm x q before st w at c,
          first,
          begins,
          (
            catch_calm code first refl,
            second,
            two,
            (
              catch_calm code second refl,
              third,
              three,
              (catch_calm code third refl, rest.0, rest.1, (catch_calm code rest.0 (frees_in_catch code frame fs u rest.0 rest.1), rest.2.0, rest.2.1, rest.2.2)),
            ),
          ),
        ) in
        left_on v r (destroyed_less t e fs st.world) refl (same_plan r refl refl refl refl) 5 ran.2.turns ran.2.after (Leave e) (Destroy e ∷ Free e ∷ []) (omega arith) calm
        (freed_once code here first frame fs d (own_quiet x q before st w at c) begins refl two refl) (omega (arith, ran.2.few)) ran.1 ran.2.runs (λ k. refl) ran.2.holds

    by_exception : OwnHandlersLeft → is_last y ≡ true → (z : Exception) → exception_at st.world y.number ≡ z → destructor_of z ≡ None → FollowsIn x before st w
    by_exception run last building is none = let no : false ≡ true = ap is_built (sym is) ∙ own_asked.can in absurd (cc no)
    by_exception run last (native t d kept) is none = freed_now run t kept last (is ∙ ap (λ o. native t o kept) none)
    by_exception run last (foreign k token) is none = cleaned run k token last is

    by_last : OwnHandlersLeft → (b : Bool) → is_last y ≡ b → (if b then destructor_of (exception_at st.world y.number) else None) ≡ None → FollowsIn x before st w
    by_last run true last none = by_exception run last (exception_at st.world y.number) refl none
    by_last run false last none = still run last

  own_left : OwnHandlersLeft → destructor_due st.world st.world.caught ≡ None → FollowsIn x before st w
  own_left run none = by st.world.caught refl none
    where
      by : (zs : List Entry) → st.world.caught ≡ zs → destructor_due st.world zs ≡ None → FollowsIn x before st w
      by [] is none = none_open run is
      by (y ∷ ys) is none = by_last y ys is run (is_last y) refl none

pub own_leaves_follow : OwnHandlersLeft → CanceledLeaves → OwnLeavesFollow
own_leaves_follow run cancels x q before st w at leaving none = own_left x q before st w at (comes x q before st w at cancels leaving) run none
