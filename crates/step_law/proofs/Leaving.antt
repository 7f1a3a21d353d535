-- A compiled function leaves a handler and no destructor is called, in a whole run.
use Rattle.std.proofs.Common.{◌≡◌, ◌∙◌, refl, sym, ap, subst, arith, ℕ, zero, suc, ◌+◌, ◌≤◌, ◌<◌, inl, inr, Bool, true, false, List, [], ◌∷◌, Some, None, if◌then◌else◌}
use Rattle.meaning_forms.specs.World.{Installed}
use Rattle.run_items.specs.declared.item.Item.{Item}
use Rattle.run_items.specs.declared.item.Item.TheVariants.{Leave, Destroy, Free, Clean}
use Rattle.cxa_runtime.specs.Raising.{Image}
use Rattle.cxa_runtime.specs.World as abi
use Rattle.eh_run.specs.Program.{program_of}
use Rattle.region_forms.specs.Caught.{Entry, left_count, left_of, is_last, gives_back}
use Rattle.region_forms.specs.Effect.{left, newest_of, cleaned_up, freed}
use Rattle.region_forms.specs.Form.{leave}
use Rattle.region_forms.specs.Lives.{is_live, is_built, may_leave}
use Rattle.region_forms.specs.World.{Exception, building, native, foreign, nothing, address_word, object_address, address_in, exception_of, exception_in_slot, with_slot, Frame, World, exception_at, type_at}
use Rattle.linear_forms.specs.Linear.{plain}
use Rattle.linear_forms.specs.Stub.{end_catch}
use Rattle.linear_forms.specs.Activation.{Activation, State, Code, Next, goes_to, finishes, not_defined, by_program, next_if}
use Rattle.linear_forms.specs.Machine.{step, exec, go_on}
use Rattle.linear_forms.specs.Pace.{pays_at, paying}
use Rattle.linear_forms.specs.StubOperation.{given_back, is_bad, empty_call}
use Rattle.linear_forms.specs.UnitRun.{code_of}
use Rattle.linear_invariant.specs.Asked.{NewestAsked}
use Rattle.linear_invariant.specs.Handled.{open_handlers}
use Rattle.linear_invariant.proofs.Asked.{leaves_are_asked}
use Rattle.linear_invariant.proofs.Calls.{all_spared}
use Rattle.flight_homes.specs.Lives.{known_in}
use Rattle.source_bounds.specs.Compiled.{unit_for}
use Rattle.machine_pieces.specs.Turning.{Turns}
use Rattle.machine_simulation.specs.Exceptions.{live_in}
use Rattle.machine_simulation.specs.Matches.{Matches}
use Rattle.machine_simulation.specs.Objects.{without_object, Shows}
use Rattle.machine_simulation.specs.Plan.{Plan}
use Rattle.machine_simulation.specs.Steps.{StepAt}
use Rattle.machine_simulation.proofs.LiveThere.{built_there}
use Rattle.machine_exceptions.specs.Leaves.{StepsTo, behind, AtLeave, destroying, destroyed_world, LeavesRun}
use Rattle.machine_exceptions.proofs.CatchSteps.{in_catch, no_words, still_step, last_step, back_step}
use Rattle.address_invariant.specs.Extents.{extents_of}
use Rattle.address_invariant.specs.Laws.{GoesOn}
use Rattle.address_invariant.specs.Reaching.{Reaches}
use Rattle.address_invariant.proofs.Following.{follows_reach}
use Rattle.address_invariant.proofs.Operations.{still_at}
use Rattle.address_invariant.proofs.Plans.{plans_go_on}
use Rattle.whole_runs.proofs.Counts.{own_state, quiet_once, leaves_once, freed_once, at_most}
use Rattle.whole_runs.proofs.Rounds.{pays_known, some_shown}
use Rattle.whole_runs.proofs.Single.{made_by_turns}
use Rattle.whole_runs.proofs.Staying.{once_stays}
use Rattle.step_law.specs.Facts.{regions_for, needs_for, code_for}
use Rattle.step_law.specs.Leaves.{destructor_of, destructor_due, LeavesFollow}
use Rattle.step_law.specs.Rows.{Run, IsAt, FollowsIn}
use Rattle.step_law.proofs.Aligned.{align_same}
use Rattle.step_law.proofs.At.{same_code, step_acts, step_at, weight_paid}
use Rattle.step_law.proofs.Exceptions.{calm_op}
use Rattle.step_law.proofs.Keeping.{NotEntered, CalmAt, unmarked_stands, PlanGoes, ShownBehind}
use Rattle.step_law.proofs.Calm.{CalmSteps, rest_of, catch_calm, calm_newest, steps_follow}

-- where the newest handler is left, no more are open
pub left_fewer : (xs : List Entry) → open_handlers (left_of xs) ≤ open_handlers xs
left_fewer [] = omega arith
left_fewer (y ∷ ys) = by y.more
  where
    by : (m : ℕ) → open_handlers (left_count y.again m y.number ys) ≤ m + 1 + open_handlers ys
    by zero = omega arith
    by (suc m) = omega arith

-- what a world has of one before it, where handlers were left
pub record LessHandled (v u : World) : Type 0 where
  pub calls : u.calls ≡ v.calls
  pub last : u.last_number ≡ v.last_number
  pub ending : u.ending ≡ v.ending
  pub few : open_handlers u.caught ≤ open_handlers v.caught

pub destroyed_less : (t e : ℕ) (fs : List Activation) (v : World) → LessHandled v (destroyed_world t e fs v)
destroyed_less t e fs v = by (is_bad (Some t))
  where
    by : (b : Bool) → LessHandled v (freed e (if b then empty_call fs (destroying e v) else destroying e v))
    by true = record { calls = refl; last = refl; ending = refl; few = left_fewer v.caught }
    by false = record { calls = refl; last = refl; ending = refl; few = left_fewer v.caught }

-- end_catch frees an object
pub frees_in_catch : (code : Code) (frame : Frame) (fs : List Activation) (v : World) (m : State) → step code (own_state end_catch 2 frame fs v) ≡ goes_to m → m.top.function ≡ end_catch
frees_in_catch code frame fs v m e = by (is_live v (exception_in_slot frame 0)) e
  where
    by : (b : Bool) → next_if b v (goes_to (own_state end_catch 3 frame fs (freed (exception_in_slot frame 0) v))) ≡ goes_to m → m.top.function ≡ end_catch
    by true e = let went : own_state end_catch 3 frame fs (freed (exception_in_slot frame 0) v) ≡ m = cc e in ap (λ (s : State). s.top.function) (sym went)
    by false e = absurd (cc e)

module _ (x : Run) (q : Plan) (before n : ℕ) (st : State) (w : abi.World) (at : IsAt x q before n (plain leave) st w) where
  abbrev code : Code
  code = code_for x.program

  abbrev own : Code
  own = code_of q.unit

  abbrev image : Image
  image = (program_of x.image).image

  -- end_catch begins
  abbrev pub first : State
  first = in_catch st 0 no_words st.world

  pub begins : step code st ≡ goes_to first
  begins = step_acts x q before n (plain leave) st w at

  pub st_at : StepAt q st first n (plain leave)
  st_at = step_at x q before n (plain leave) st w at first begins

  pub calm_here : CalmAt code st
  calm_here = calm_op x q before n (plain leave) st w at leave refl tt

  pub in_code : (a : State) (z : Next) → step own a ≡ z → step code a ≡ z
  in_code a z e = ap (λ c. step c a) (sym (same_code x q before n (plain leave) st w at)) ∙ e

  pub quiet : pays_at code st ≡ false
  quiet = subst (λ c. pays_at c st ≡ false) (same_code x q before n (plain leave) st w at) (pays_known image x.pick q st w n (plain leave) at.runs at.there)

  -- no handler is open
  none_open : st.world.caught ≡ [] → FollowsIn x before st w
  none_open none = inr (inr (inr (record {
    steps = 2;
    how = not_defined;
    world = st.world;
    over = ap (go_on (exec code 1)) begins ∙ ap (go_on (exec code 0)) second;
    stays = once_stays image x.pick code 2 st w (quiet_once code st quiet);
    no_end = λ why is. let no : not_defined ≡ by_program why = is in absurd (cc no);
    few = let most = at_most code 2 st in omega (arith, most);
  })))
    where
      a : Activation
      a = record { function = end_catch; place = 0; frame = no_words }

      second : step code first ≡ finishes not_defined st.world
      second = ap (λ b. next_if b st.world (if gives_back st.world.caught then given_back (exception_at st.world (newest_of st.world.caught)) (newest_of st.world.caught) 0 1 3 a (st.top ∷ st.frames) (left st.world)
          else goes_to (own_state end_catch 3 no_words (st.top ∷ st.frames) (left st.world)))) (ap (may_leave st.world) none)

  module _ (y : Entry) (ys : List Entry) (caught : st.world.caught ≡ y ∷ ys) where
    pub asked : NewestAsked (known_in (regions_for x.program)) x.carrying st y ys
    asked = leaves_are_asked (regions_for x.program) x.carrying at.stands.steps st y ys at.facts.fits (unmarked_stands x.program x.image x.carrying x.tables q before st w at.stands) caught

    pub live : live_in st.world.live y.number ≡ Some (exception_at st.world y.number)
    live = built_there st.world.live y.number asked.can

    pub at_leave : AtLeave q n st first y ys
    at_leave = record { at = st_at; caught = caught }

    -- the call goes on behind it
    module _ (v : World) (r : Plan) (less : LessHandled st.world v) (same : extents_of r ≡ extents_of q) (plan : PlanGoes q r) where
      abbrev next : State
      next = behind st v

      goes_on : GoesOn (extents_of q) (extents_of r) (unit_for x.program) st.world next
      goes_on =
          let older = at.matches.memory.newest in
          subst (λ u. GoesOn (extents_of q) (extents_of r) u st.world next) at.stands.unit
          (plans_go_on.same q r st.world next same at.stands.reaches.objects (omega (arith, less.last)) (λ is. omega (arith, is, older)))

      reaches_on : Reaches (extents_of r) (unit_for x.program) (needs_for x.program) next
      reaches_on =
          follows_reach (extents_of q) (extents_of r) (unit_for x.program) (needs_for x.program) st.world next goes_on
          (still_at (extents_of q) (unit_for x.program) (needs_for x.program) st.world at.facts.reach.small at.stands.reaches.objects st.top.function (st.top.place + 1) st.top.frame st.frames v
          (record { calls = omega (arith, less.calls); last_number = omega (arith, less.last) }) at.stands.reaches.calls.0 at.stands.reaches.calls.1)

      shown : (steps turns : ℕ) (u : abi.World) (items : List Item) → CalmSteps code steps st next → Turns image turns w u items → ((e : ℕ) → NotEntered items e) → Matches r next u → ShownBehind x.program x.carrying q r turns st next w u items
      shown steps turns u items calm turned none matches = record {
        plan = plan;
        aligned = align_same q r plan.frames st.top next.top st.frames refl;
        spared = all_spared x.carrying (NotEntered items) none None (next.top ∷ next.frames);
        rests = inl matches;
        few = let fewer = less.few in omega (arith, fewer);
        reaches = reaches_on;
        ending = λ not. sym less.ending ∙ not;
        once = at.stands.once;
        forced = calm_newest x.program x.image x.carrying x.tables at.facts q before steps st next w u at.stands calm turned.unwinding;
      }

      left_on : (steps turns : ℕ) (u : abi.World) (i : Item) (items : List Item) → 0 < steps → CalmSteps code steps st next → paying code steps st ≤ 1 → turns ≤ 18 → Shows st next (i ∷ items) → Turns image turns w u (i ∷ items) →
          ((e : ℕ) → NotEntered (i ∷ items) e) → Matches r next u → FollowsIn x before st w
      left_on steps turns u i items some calm once least shows turned none matches =
          let many = some_shown image x.pick turns w u i items (made_by_turns image x.pick turns w u (i ∷ items) turned) in
          steps_follow x q r before steps turns st next w u (i ∷ items) at.facts at.stands some calm once (omega (arith, many)) (weight_paid x q before n (plain leave) st w at turns (omega (arith, least))) shows turned (shown steps turns u (i ∷ items) calm turned none matches)

    same_plan : (r : Plan) → r.unit ≡ q.unit → r.hidden ≡ q.hidden → r.base ≡ q.base → r.tables ≡ q.tables → PlanGoes q r
    same_plan r unit hidden base tables = record { frames = record { unit = unit; hidden = hidden }; base = base; tables = tables }

    -- other handlers have the exception, or it travels again
    still : LeavesRun → is_last y ≡ false → FollowsIn x before st w
    still run last =
        let v : World = left st.world in
        let second : State = in_catch st 3 no_words v in
        let calm : CalmSteps code 3 st (behind st v) = (
          calm_here,
          first,
          begins,
          (
            catch_calm code first refl,
            second,
            in_code first (goes_to second) (still_step q st y ys caught asked.can last),
            (catch_calm code second refl, behind st v, in_code second (goes_to (behind st v)) (back_step q n st first no_words v st_at), refl),
          ),
        ) in
        let ran = run.still_handled image q n st first y ys w at.matches at_leave asked.can last in
        left_on v q (record { calls = refl; last = refl; ending = refl; few = left_fewer st.world.caught }) refl (same_plan q refl refl refl refl) 3 ran.2.turns ran.2.after (Leave y.number) [] (omega arith) calm
        (leaves_once code st no_words (st.top ∷ st.frames) st.world quiet begins) (omega (arith, ran.2.few)) ran.1 ran.2.runs (λ e. refl) ran.2.holds

    -- a foreign one is cleaned up
    cleaned : LeavesRun → (k token : ℕ) → is_last y ≡ true → exception_at st.world y.number ≡ foreign k token → FollowsIn x before st w
    cleaned run k token last is =
        let v : World = cleaned_up y.number k token (left st.world) in
        let second : State = in_catch st 3 no_words v in
        let calm : CalmSteps code 3 st (behind st v) = (
          calm_here,
          first,
          begins,
          (
            catch_calm code first refl,
            second,
            in_code first (goes_to second) (last_step q st y ys (foreign k token) caught asked.can last is),
            (catch_calm code second refl, behind st v, in_code second (goes_to (behind st v)) (back_step q n st first no_words v st_at), refl),
          ),
        ) in
        let ran = run.foreign_cleaned image q n st first y ys k token w at.matches at_leave last (live ∙ ap (λ z. Some z) is) in
        left_on v (without_object q y.number) (record { calls = refl; last = refl; ending = refl; few = left_fewer st.world.caught }) refl (same_plan (without_object q y.number) refl refl refl refl) 3 ran.2.turns ran.2.after
        (Leave y.number) (Clean k token ∷ []) (omega arith) calm (leaves_once code st no_words (st.top ∷ st.frames) st.world quiet begins) (omega (arith, ran.2.few)) ran.1 ran.2.runs (λ e. refl) ran.2.holds

    -- one without a destructor is freed at once
    freed_now : LeavesRun → (t : ℕ) (kept : Installed) → is_last y ≡ true → exception_at st.world y.number ≡ native t None kept → FollowsIn x before st w
    freed_now run t kept last is =
        let e : ℕ = y.number in
        let fs : List Activation = st.top ∷ st.frames in
        let v : World = destroyed_world t e fs st.world in
        let d : World = destroying e st.world in
        let frame : Frame = with_slot 1 nothing (with_slot 0 (address_word (object_address e)) no_words) in
        let u : World = if is_bad (type_at d (exception_of (address_in (frame.slots 0)))) then empty_call fs d else d in
        let second : State = in_catch st 1 frame d in
        let third : State = in_catch st 2 frame u in
        let two : step code first ≡ goes_to second = in_code first (goes_to second) (last_step q st y ys (native t None kept) caught asked.can last is) in
        let three : step code second ≡ goes_to third = refl in
        let ran = run.freed_at_once image q n st first y ys t kept w at.matches at_leave last (live ∙ ap (λ z. Some z) is) in
        let steps : StepsTo code 5 st (behind st v) = subst (λ c. StepsTo c 5 st (behind st v)) (same_code x q before n (plain leave) st w at) ran.0 in
        let rest : StepsTo code 2 third (behind st v) = rest_of code 2 second third (behind st v) (rest_of code 3 first second (behind st v) (rest_of code 4 st first (behind st v) steps begins) two) three in
        let calm : CalmSteps code 5 st (behind st v) = (
          calm_here,
          first,
          begins,
          (
            catch_calm code first refl,
            second,
            two,
            (
              catch_calm code second refl,
              third,
              three,
              (catch_calm code third refl, rest.0, rest.1, (catch_calm code rest.0 (frees_in_catch code frame fs u rest.0 rest.1), rest.2.0, rest.2.1, rest.2.2)),
            ),
          ),
        ) in
        left_on v (without_object q e) (destroyed_less t e fs st.world) refl (same_plan (without_object q e) refl refl refl refl) 5 ran.2.turns ran.2.after (Leave e) (Destroy e ∷ Free e ∷ []) (omega arith) calm
        (freed_once code st first frame fs d quiet begins refl two refl) (omega (arith, ran.2.few)) ran.1 ran.2.runs (λ k. refl) ran.2.holds

    by_exception : LeavesRun → is_last y ≡ true → (z : Exception) → exception_at st.world y.number ≡ z → destructor_of z ≡ None → FollowsIn x before st w
    by_exception run last building is none = let no : false ≡ true = ap is_built (sym is) ∙ asked.can in absurd (cc no)
    by_exception run last (native t d kept) is none = freed_now run t kept last (is ∙ ap (λ o. native t o kept) none)
    by_exception run last (foreign k token) is none = cleaned run k token last is

    by_last : LeavesRun → (b : Bool) → is_last y ≡ b → (if b then destructor_of (exception_at st.world y.number) else None) ≡ None → FollowsIn x before st w
    by_last run true last none = by_exception run last (exception_at st.world y.number) refl none
    by_last run false last none = still run last

  pub left_follows : LeavesRun → destructor_due st.world st.world.caught ≡ None → FollowsIn x before st w
  left_follows run none = by st.world.caught refl none
    where
      by : (zs : List Entry) → st.world.caught ≡ zs → destructor_due st.world zs ≡ None → FollowsIn x before st w
      by [] is none = none_open is
      by (y ∷ ys) is none = by_last y ys is run (is_last y) refl none

pub leaves_follow : LeavesRun → LeavesFollow
leaves_follow run x q before n st w at none = left_follows x q before n st w at run none
