-- A destructor returns to end_catch, which a compiled function called, in a whole run.
use Rattle.std.proofs.Common.{◌≡◌, ◌∙◌, refl, sym, ap, subst, arith, ℕ, ◌+◌, ◌≤◌, ◌<◌, inl, false, List, [], ◌∷◌, Option, Some, None}
use Rattle.std.specs.Prelude.{slice_get}
use Rattle.run_items.specs.declared.item.Item.TheVariants.{Free}
use Rattle.cxa_runtime.specs.Raising.{Image}
use Rattle.cxa_runtime.specs.World as abi
use Rattle.eh_run.specs.Program.{program_of}
use Rattle.region_forms.specs.Form.{leave}
use Rattle.region_forms.specs.World.{address_in, exception_of}
use Rattle.region_forms.specs.Effect.{finished, freed, result_in}
use Rattle.linear_forms.specs.Linear.{plain, return}
use Rattle.linear_forms.specs.Stub.{compiled, end_catch, linear}
use Rattle.linear_forms.specs.Activation.{Activation, State, Code, Next, goes_to, finishes, fetch, kinds}
use Rattle.linear_forms.specs.Machine.{step}
use Rattle.linear_forms.specs.Operation.{settled, wanted_by, returned_with}
use Rattle.linear_forms.specs.Pace.{pays_at}
use Rattle.linear_forms.specs.UnitRun.{code_at, code_of}
use Rattle.flight_homes.specs.Lives.{known_in}
use Rattle.linear_invariant.specs.Asked.{ReturnAsked}
use Rattle.linear_invariant.proofs.Calls.{all_spared}
use Rattle.linear_invariant.proofs.Returning.{returns_are_asked}
use Rattle.linear_invariant.proofs.Rows.{op_there}
use Rattle.source_bounds.specs.Compiled.{unit_for}
use Rattle.machine_pieces.specs.Turning.{Turns}
use Rattle.machine_simulation.specs.Matches.{Matches}
use Rattle.machine_simulation.specs.Objects.{without_object}
use Rattle.machine_simulation.specs.Plan.{Plan, function, shape}
use Rattle.machine_simulation.specs.Returns.{closed}
use Rattle.machine_exceptions.specs.Destroys.{AtReturn, DestructorsEnd}
use Rattle.machine_exceptions.specs.Leaves.{StepsTo}
use Rattle.machine_exceptions.proofs.DestructorsEnd.{CameBack, returns_value}
use Rattle.stack_bounds.specs.Taken.{terminate_calls}
use Rattle.address_invariant.specs.Extents.{extents_of}
use Rattle.address_invariant.specs.Laws.{GoesOn}
use Rattle.address_invariant.specs.Reaching.{IsBegunCall, CallsReach, Reaches}
use Rattle.address_invariant.proofs.Following.{follows_reach}
use Rattle.address_invariant.proofs.Operations.{still_at}
use Rattle.address_invariant.proofs.Plans.{plans_go_on}
use Rattle.whole_runs.proofs.Counts.{own_state, destroyed_once}
use Rattle.whole_runs.proofs.Rounds.{pays_known, some_shown}
use Rattle.whole_runs.proofs.Single.{made_by_turns}
use Rattle.cost_words.proofs.Counts.{return_words}
use Rattle.step_law.specs.Facts.{regions_for, needs_for, code_for}
use Rattle.step_law.specs.Leaves.{DestructorsEndFollow}
use Rattle.step_law.specs.Rows.{Run, IsAt, FollowsIn}
use Rattle.step_law.proofs.Aligned.{SameFrames, CallsAlign, align_pop, align_then, align_return, itself}
use Rattle.step_law.proofs.At.{same_code, step_acts, weight_paid}
use Rattle.step_law.proofs.Exceptions.{calm_other}
use Rattle.step_law.proofs.Keeping.{NotEntered, CalmAt, unmarked_stands, ShownBehind}
use Rattle.step_law.proofs.Leaving.{frees_in_catch}
use Rattle.step_law.proofs.Returns.{OnlyUndefined, returned_only, undefined_breaks, result_stands}
use Rattle.step_law.proofs.Calm.{CalmSteps, rest_of, catch_calm, calm_newest, steps_follow}

-- a call comes back to end_catch, which wants nothing of it
pub comes_back_to : (p : Plan) (n : ℕ) (st : State) (waiting : Activation) (fs : List Activation) (r : Option ℕ) → CameBack p n st waiting fs r → waiting.function ≡ end_catch → waiting.place ≡ 1 →
    step (code_of p.unit) st ≡ goes_to (own_state end_catch 2 waiting.frame fs st.world)
comes_back_to p n st waiting fs r c catch place =
    let own : Code = code_of p.unit in
    let op : fetch own waiting.function waiting.place ≡ fetch own end_catch 1 = ap (λ f. fetch own f waiting.place) catch ∙ ap (fetch own end_catch) place in
    c.step ∙ ap (λ o. settled (finished (kinds own waiting.function) (wanted_by o) c.value waiting.frame st.world) waiting fs st.world) op
    ∙ ap (λ k. goes_to (own_state waiting.function (k + 1) waiting.frame fs st.world)) place ∙ ap (λ f. goes_to (own_state f 2 waiting.frame fs st.world)) catch

module _ (x : Run) (q : Plan) (before n m : ℕ) (r : Option ℕ) (waiting a : Activation) (fs : List Activation) (st : State) (w : abi.World) (at : IsAt x q before n (return r) st w) (frames : st.frames ≡ waiting ∷ a ∷ fs)
    (catch : waiting.function ≡ end_catch) (caller : a.function ≡ compiled m) where
  abbrev code : Code
  code = code_for x.program

  abbrev own : Code
  own = code_of q.unit

  abbrev image : Image
  image = (program_of x.image).image

  same : own ≡ code
  same = same_code x q before n (return r) st w at

  asked : ReturnAsked (known_in (regions_for x.program)) code x.carrying st waiting a fs
  asked = returns_are_asked (regions_for x.program) x.carrying at.stands.steps n st waiting a fs at.facts.fits (unmarked_stands x.program x.image x.carrying x.tables q before st w at.stands) at.runs frames catch

  abbrev e : ℕ
  e = asked.destroys.number

  abbrev p : Plan
  p = without_object (closed q a.frame.call) e

  abbrev second : State
  second = own_state end_catch 2 waiting.frame (a ∷ fs) st.world

  abbrev next : State
  next = record { top = record { function = a.function; place = a.place + 1; frame = a.frame }; frames = fs; world = freed e st.world }

  leaves : slice_get (function q m).ops a.place ≡ Some (plain leave)
  leaves =
      let there : fetch code (compiled m) a.place ≡ Some (linear (plain leave)) = subst (λ f. fetch code f a.place ≡ Some (linear (plain leave))) caller asked.leaves in
      subst (λ u. slice_get (code_at u m).ops a.place ≡ Some (plain leave)) (sym at.stands.unit) (op_there (code.op_at m a.place) (plain leave) there)

  module _ (middle : State) (goes : step code st ≡ goes_to middle) where
    own_first : step own st ≡ goes_to second
    own_first =
        comes_back_to q n st waiting (a ∷ fs) r (returns_value q n st middle waiting (a ∷ fs) r at.runs at.there (ap (λ c. step c st) same ∙ goes) frames) catch asked.place

    one : step code st ≡ goes_to second
    one = ap (λ c. step c st) (sym same) ∙ own_first

    at_return : AtReturn q n m e st second waiting a fs r
    at_return = record {
      at = record { runs = at.runs; there = at.there; step = own_first };
      frames = frames;
      catch = catch;
      object = ap (λ o. exception_of (address_in o)) asked.destroys.object;
      caller = caller;
      leaves = leaves;
      result = result_stands x q before n (return r) st w at r refl;
    }

    calm_here : CalmAt code st
    calm_here = calm_other x q before n (return r) st w at (λ op is. cc is)

    quiet : pays_at code st ≡ false
    quiet = subst (λ c. pays_at c st ≡ false) same (pays_known image x.pick q st w n (return r) at.runs at.there)

    calm : StepsTo own 3 st next → CalmSteps code 3 st next
    calm steps =
        let rest : StepsTo code 2 second next = rest_of code 2 st second next (subst (λ c. StepsTo c 3 st next) same steps) one in
        (calm_here, second, one, (catch_calm code second refl, rest.0, rest.1, (catch_calm code rest.0 (frees_in_catch code waiting.frame (a ∷ fs) st.world rest.0 rest.1), rest.2.0, rest.2.1, rest.2.2)))

    waiting_reach : CallsReach (extents_of q) (unit_for x.program) (needs_for x.program) st.world (waiting ∷ a ∷ fs)
    waiting_reach = subst (CallsReach (extents_of q) (unit_for x.program) (needs_for x.program) st.world) frames at.stands.reaches.calls.1

    goes_on : GoesOn (extents_of q) (extents_of p) (unit_for x.program) st.world next
    goes_on =
        let begun : a.frame.call < st.world.calls = subst (λ f. IsBegunCall st.world f a.frame.call) caller waiting_reach.1.0.begun in
        subst (λ u. GoesOn (extents_of q) (extents_of p) u st.world next) at.stands.unit (plans_go_on.same q p st.world next refl at.stands.reaches.objects (omega arith) (λ is. omega (arith, is, begun)))

    reaches_on : Reaches (extents_of p) (unit_for x.program) (needs_for x.program) next
    reaches_on =
        follows_reach (extents_of q) (extents_of p) (unit_for x.program) (needs_for x.program) st.world next goes_on
        (still_at (extents_of q) (unit_for x.program) (needs_for x.program) st.world at.facts.reach.small at.stands.reaches.objects a.function (a.place + 1) a.frame fs (freed e st.world)
        (record { calls = omega arith; last_number = omega arith }) waiting_reach.1.0 waiting_reach.1.1)

    aligned : CallsAlign q p (st.top ∷ st.frames) (next.top ∷ fs)
    aligned =
        let frames_same : SameFrames q p = record { unit = refl; hidden = refl } in
        subst (λ gs. CallsAlign q p (st.top ∷ gs) (next.top ∷ fs)) (sym frames)
        (align_then q q p (st.top ∷ waiting ∷ a ∷ fs) (waiting ∷ a ∷ fs) (next.top ∷ fs) (omega arith) (align_pop q q (itself q) st.top (waiting ∷ a ∷ fs)) (align_return q p frames_same waiting a next.top fs refl))

    fewer : terminate_calls (next.top ∷ fs) ≤ 1
    fewer = let below = ap terminate_calls frames in let few = at.stands.once in omega (arith, below, few)

    shown : (turns : ℕ) (u : abi.World) → CalmSteps code 3 st next → Turns image turns w u (Free e ∷ []) → Matches p next u → ShownBehind x.program x.carrying q p turns st next w u (Free e ∷ [])
    shown turns u calmly turned matches = record {
      plan = record { frames = record { unit = refl; hidden = refl }; base = refl; tables = refl };
      aligned = aligned;
      spared = all_spared x.carrying (NotEntered (Free e ∷ [])) (λ k. refl) None (next.top ∷ fs);
      rests = inl matches;
      few = omega arith;
      reaches = reaches_on;
      ending = λ none. none;
      once = fewer;
      forced = calm_newest x.program x.image x.carrying x.tables at.facts q before 3 st next w u at.stands calmly turned.unwinding;
    }

    ends : DestructorsEnd → FollowsIn x before st w
    ends run =
        let ran = run image q n m e st second waiting a fs r w at.matches at_return in
        let calmly = calm ran.0 in
        let many = some_shown image x.pick ran.2.turns w ran.2.after (Free e) [] (made_by_turns image x.pick ran.2.turns w ran.2.after (Free e ∷ []) ran.2.runs) in
        steps_follow x q p before 3 ran.2.turns st next w ran.2.after (Free e ∷ []) at.facts at.stands (omega arith) calmly (destroyed_once code st waiting.frame (a ∷ fs) st.world quiet one) (omega (arith, many)) (let words = return_words (shape q n) r in weight_paid x q before n (return r) st w at ran.2.turns (omega (arith, ran.2.few, words))) ran.1 ran.2.runs
        (shown ran.2.turns ran.2.after calmly ran.2.runs ran.2.holds)

  ended : DestructorsEnd → FollowsIn x before st w
  ended run = by (step code st) refl (subst OnlyUndefined (sym acts) (returned_only code (result_in r st.top.frame st.world (kinds code st.top.function)) waiting (a ∷ fs) st.world))
    where
      acts : step code st ≡ returned_with code (result_in r st.top.frame st.world (kinds code st.top.function)) (waiting ∷ a ∷ fs) st.world
      acts = step_acts x q before n (return r) st w at ∙ ap (λ gs. returned_with code (result_in r st.top.frame st.world (kinds code st.top.function)) gs st.world) frames

      by : (z : Next) → step code st ≡ z → OnlyUndefined z → FollowsIn x before st w
      by (goes_to middle) goes h = ends middle goes run
      by (finishes f v) goes h = undefined_breaks x q before n (return r) st w at f v goes h

pub destructors_end_follow : DestructorsEnd → DestructorsEndFollow
destructors_end_follow run x q before n m r waiting a fs st w at frames catch caller = ended x q before n m r waiting a fs st w at frames catch caller run
