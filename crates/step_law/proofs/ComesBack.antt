-- An unexpected handler returns to call_unexpected, which terminates the program, in a whole run.
use Rattle.std.proofs.Common.{◌≡◌, ◌∙◌, refl, sym, ap, subst, arith, ℕ, zero, suc, ◌+◌, ◌<◌, ◌≤◌, ◌⊎◌, inl, inr, ℤ, true, false, List, [], ◌∷◌, length, Option, Some, None}
use Rattle.meaning_forms.specs.Class.{contains}
use Rattle.meaning_forms.specs.World.{Installed}
use Rattle.cxa_runtime.specs.World as abi
use Rattle.eh_run.specs.Program.{program_of}
use Rattle.rv64_isa.specs.State.{Part}
use Rattle.rv64_isa.specs.Step.{x as register}
use Rattle.region_forms.specs.Effect.{finished, result_in}
use Rattle.region_forms.specs.Form.{Op}
use Rattle.region_forms.specs.Lives.{is_built}
use Rattle.region_forms.specs.Unexpected.{kept_with}
use Rattle.region_forms.specs.World.{World, native, object_address, address_in, exception_of, exception_in_slot, exception_at}
use Rattle.linear_forms.specs.Linear.{plain, return}
use Rattle.linear_forms.specs.Stub.{Function, compiled, end_catch, terminating, call_unexpected, linear, runtime, call_held, terminate_for, stub_op}
use Rattle.linear_forms.specs.Activation.{Activation, State, Code, goes_to, fetch, kinds, terminated, not_defined}
use Rattle.linear_forms.specs.Defined.{RunsAt}
use Rattle.linear_forms.specs.Machine.{act_on, step}
use Rattle.linear_forms.specs.Operation.{settled, wanted_by, returned, returned_with}
use Rattle.linear_forms.specs.Pace.{pays, pays_at, Leads}
use Rattle.linear_forms.proofs.Paces
use Rattle.flight_homes.specs.Keeps.{is_help_in}
use Rattle.flight_homes.specs.Lives.{ExceptionKnown, known_in}
use Rattle.flight_homes.specs.Nest.{CallsNest, is_called_by}
use Rattle.linear_invariant.specs.Calls.{unmarked, CallsKeep}
use Rattle.linear_invariant.specs.Held.{NoneHolds}
use Rattle.linear_invariant.specs.Stands.{StandsIn}
use Rattle.linear_invariant.proofs.Asked.{none_gone, exception_known}
use Rattle.linear_invariant.proofs.Calls.{all_spared}
use Rattle.source_bounds.specs.Compiled.{unit_for}
use Rattle.machine_forms.specs.Registers.{sp}
use Rattle.machine_forms.specs.LinearCode.{linear_code}
use Rattle.machine_stubs.specs.Stretches.{stub_word}
use Rattle.machine_simulation.specs.Plan.{Plan, shape, function}
use Rattle.machine_simulation.specs.Calls.{CallsWait, open_bytes}
use Rattle.machine_simulation.specs.StubCalls.{DestructorWaits, UnexpectedWaits, LeavingWaits}
use Rattle.machine_simulation.specs.Exceptions.{destroyed, live_in}
use Rattle.machine_simulation.specs.Returns.{closed}
use Rattle.machine_simulation.proofs.LiveThere.{built_there}
use Rattle.stack_bounds.specs.Taken.{StacksHoldCalls}
use Rattle.address_invariant.specs.Extents.{extents_of}
use Rattle.address_invariant.specs.Reaching.{VariablesLie, Reaches}
use Rattle.address_invariant.proofs.Newest.{newest_was_made}
use Rattle.address_invariant.proofs.Steps.{steps_reach}
use Rattle.unexpected_calls.specs.Terminates.{NamesTerminate, HandlerReturns, came_back, UnexpectedTerminates}
use Rattle.unexpected_calls.specs.TerminateOverflow.{TerminateHandlersOverflow}
use Rattle.whole_runs.proofs.Counts.{aborts_once, quiet_then, quiet_twice}
use Rattle.whole_runs.proofs.Rounds.{some_ending}
use Rattle.whole_runs.proofs.Single.{made_by_turns}
use Rattle.whole_runs.proofs.Staying.{once_stays}
use Rattle.step_law.specs.Facts.{regions_for, needs_for, code_for}
use Rattle.step_law.specs.Rows.{Run, IsAt, FollowsIn}
use Rattle.step_law.specs.Passing.{HandlerIsOver, UnexpectedReturns}
use Rattle.step_law.proofs.Aligned.{CallsAlign, align_return, itself}
use Rattle.step_law.proofs.At.{fetches, step_acts, step_at, end_paid}
use Rattle.step_law.proofs.Exceptions.{gone_destroyed}
use Rattle.step_law.proofs.Keeping.{NotEntered, CalmAt, kept_by_turns, unmarked_stands}
use Rattle.step_law.proofs.LostBehind.{IsLostBehind, abort_behind, handler_begins, handler_overflows, fits_or_not, with_or_without}
use Rattle.step_law.proofs.Returns.{undefined_breaks, result_stands, return_calm}
use Rattle.step_law.proofs.Rooms.{few_to_enter, takes_nothing, handler_there, waiting_page}

-- what calls call_unexpected is compiled
pub record IsCompiled (f : Function) : Type 0 where
  pub number : ℕ
  pub is : f ≡ compiled number

pub caller_compiled : (f : Function) → is_called_by call_unexpected f ≡ true → IsCompiled f
caller_compiled (compiled m) h = record { number = m; is = refl }
caller_compiled end_catch h = absurd (cc h)
caller_compiled terminating h = absurd (cc h)
caller_compiled call_unexpected h = absurd (cc h)

-- what call_unexpected keeps where it waits for a handler
record KeptThere (waiting : Activation) : Type 0 where
  number : ℕ
  is : address_in (waiting.frame.slots 0) ≡ Some (object_address number)

kept_by : (q : Plan) (waiting : Activation) (v : World) (memory : List Part) (stack back : ℕ) → waiting.function ≡ call_unexpected → waiting.place ≡ 1 →
    DestructorWaits q waiting v memory stack back ⊎ UnexpectedWaits q waiting v memory stack back ⊎ LeavingWaits q waiting v memory stack back → KeptThere waiting
kept_by q waiting v memory stack back stub place (inl d) = let no : call_unexpected ≡ end_catch = sym stub ∙ d.callee in absurd (cc no)
kept_by q waiting v memory stack back stub place (inr (inl u)) = record { number = u.stopped.number; is = u.stopped.is }
kept_by q waiting v memory stack back stub place (inr (inr l)) = absurd (neither l.returns)
  where
    neither : ((waiting.place ≡ 15) × (back ≡ stub_word q.base call_unexpected 55)) ⊎ ((waiting.place ≡ 16) × (back ≡ stub_word q.base call_unexpected 57)) → ⊥
    neither (inl h) = let no : 1 ≡ 15 = sym place ∙ h.0 in cc no
    neither (inr h) = let no : 1 ≡ 16 = sym place ∙ h.0 in cc no

kept_there : (q : Plan) (waiting : Activation) (fs : List Activation) (v : World) (memory : List Part) (stack back limit : ℕ) → waiting.function ≡ call_unexpected → waiting.place ≡ 1 → CallsWait q (waiting ∷ fs) v memory stack back limit → KeptThere waiting
kept_there q waiting fs v memory stack back limit stub place (inl (less, n, outer, h, others)) = let no : call_unexpected ≡ compiled n = sym stub ∙ h.callee in absurd (cc no)
kept_there q waiting fs v memory stack back limit stub place (inr (inl (outer, h, others))) = kept_by q waiting v memory stack back stub place h.waits
kept_there q waiting fs v memory stack back limit stub place (inr (inr (h, room))) = let no : call_unexpected ≡ terminating = sym stub ∙ h.callee in absurd (cc no)

module _ (x : Run) (q : Plan) (before n type : ℕ) (r d : Option ℕ) (kept : Installed) (waiting a : Activation) (fs : List Activation) (st : State) (w : abi.World) (here : IsAt x q before n (return r) st w) (over : HandlerIsOver st waiting a fs type d kept) where
  abbrev code : Code
  code = code_for x.program

  abbrev back : State
  back = came_back waiting a fs st

  inv : StandsIn (unmarked (known_in (regions_for x.program))) code x.carrying here.stands.steps st
  inv = unmarked_stands x.program x.image x.carrying x.tables q before st w here.stands

  caller : IsCompiled a.function
  caller =
      let nest : CallsNest (st.top ∷ waiting ∷ a ∷ fs) = subst (λ gs. CallsNest (st.top ∷ gs)) over.frames here.stands.stands.stand.nest in
      caller_compiled a.function (subst (λ f. is_called_by f a.function ≡ true) over.stub nest.1.0)

  keeps : KeptThere waiting
  keeps = kept_there q waiting (a ∷ fs) st.world w.hart.memory (register w.hart sp + (shape q here.matches.number).size) here.matches.back st.top.frame.call over.stub over.place
      (subst (λ gs. CallsWait q gs st.world w.hart.memory (register w.hart sp + (shape q here.matches.number).size) here.matches.back st.top.frame.call) over.frames here.matches.memory.waiting)

  abbrev e : ℕ
  e = keeps.number

  held : exception_in_slot waiting.frame 0 ≡ e
  held = ap exception_of keeps.is

  is_native : exception_at st.world e ≡ native type d kept
  is_native = ap (exception_at st.world) (sym held) ∙ over.native

  live : live_in st.world.live e ≡ Some (native type d kept)
  live = built_there st.world.live e (ap is_built is_native) ∙ ap (λ y. Some y) is_native

  none_holds : NoneHolds x.carrying (Some a.function) fs e
  none_holds =
      let calls : CallsKeep code x.carrying (unmarked (known_in (regions_for x.program))) None (st.top ∷ waiting ∷ a ∷ fs) st.world = subst (λ gs. CallsKeep code x.carrying (unmarked (known_in (regions_for x.program))) None (st.top ∷ gs) st.world) over.frames inv.calls in
      (calls.1.0.forgets 0 e (subst (λ f. is_help_in code f 0) (sym over.stub) tt) keeps.is).2

  whole : contains (destroyed fs) e ≡ false
  whole = ap (λ es. contains es e) (gone_destroyed fs) ∙ none_gone x.carrying (Some a.function) fs e none_holds

  fetch_is : fetch code waiting.function waiting.place ≡ Some (runtime (call_held 3))
  fetch_is = ap (λ f. fetch code f waiting.place) over.stub ∙ ap (stub_op call_unexpected) over.place

  acts : step code st ≡ returned_with code (result_in r st.top.frame st.world (kinds code st.top.function)) (waiting ∷ a ∷ fs) st.world
  acts = step_acts x q before n (return r) st w here ∙ ap (λ gs. returned_with code (result_in r st.top.frame st.world (kinds code st.top.function)) gs st.world) over.frames

  comes_back : (z : ℤ) → returned code z (waiting ∷ a ∷ fs) st.world ≡ goes_to back
  comes_back z =
      ap (λ op. settled (finished (kinds code waiting.function) (wanted_by op) z waiting.frame st.world) waiting (a ∷ fs) st.world) fetch_is
      ∙ ap (λ p. goes_to (record { top = record { function = waiting.function; place = p; frame = waiting.frame }; frames = a ∷ fs; world = st.world })) (ap (λ k. k + 1) over.place)

  ends : step code back ≡ terminated kept.terminate_handler (back.top ∷ back.frames) st.world
  ends =
      ap (λ f. act_on code (fetch code f 2) back.top back.frames st.world) over.stub
      ∙ ap (λ y. terminated (kept_with y).terminate_handler (back.top ∷ back.frames) st.world) over.native

  module _ (one : step code st ≡ goes_to back) where
    unpaid : pays_at code st ≡ false
    unpaid = ap pays (fetches x q before n (return r) st w here)

    unpaid_back : pays_at code back ≡ false
    unpaid_back = ap (λ f. pays (fetch code f 2)) over.stub

    calm : (j : ℕ) (between : State) → j < 1 → Leads code j st (goes_to between) → CalmAt code between
    calm zero between few leads = let same : st ≡ between = cc leads in subst (λ m. CalmAt code m) same (return_calm x q before n r st w here)
    calm (suc j) between few leads = absurd (omega (arith, few))

    reach_back : Reaches (extents_of (closed q a.frame.call)) (unit_for x.program) (needs_for x.program) back
    reach_back = steps_reach (extents_of q) (extents_of (closed q a.frame.call)) (unit_for x.program) (needs_for x.program) st back here.facts.reach here.stands.reaches (newest_was_made q st w here.matches) one (record {
      same = λ b begun. (refl, refl);
      objects = record { globals = here.stands.reaches.objects.globals; exceptions = here.stands.reaches.objects.exceptions };
      opened = λ new. subst (λ f. VariablesLie (extents_of (closed q a.frame.call)) (unit_for x.program) f waiting.frame.call) (sym over.stub) tt;
    })

    known : (m : ℕ) → kept.terminate_handler ≡ Some m → m < length q.unit.functions
    known m some =
        let lives = subst (ExceptionKnown (known_in (regions_for x.program))) is_native (exception_known (known_in (regions_for x.program)) st.world.last_number st.world.live e inv.lives.lives) in
        handler_there x.program q kept.terminate_handler m here.stands.unit lives.2.terminate some

    takes : (m : ℕ) → kept.terminate_handler ≡ Some m → 0 ≡ (function q m).parameters
    takes m some =
        let lives = subst (ExceptionKnown (known_in (regions_for x.program))) is_native (exception_known (known_in (regions_for x.program)) st.world.last_number st.world.live e inv.lives.lives) in
        takes_nothing x.program q kept.terminate_handler m here.stands.unit lives.2.terminate some

    -- call_unexpected leaves so much of the stack
    page : open_bytes q (waiting ∷ a ∷ fs) + 0xD00 ≤ 0x100_0000
    page =
        waiting_page q waiting (a ∷ fs) st.world w.hart.memory (register w.hart sp + (shape q here.matches.number).size) here.matches.back st.top.frame.call over.stub
        (subst (λ gs. CallsWait q gs st.world w.hart.memory (register w.hart sp + (shape q here.matches.number).size) here.matches.back st.top.frame.call) over.frames here.matches.memory.waiting)

    lost : IsLostBehind x q st 1 back st.world [] 0 kept.terminate_handler
    lost = record {
      leads = Paces.one_step code st (goes_to back) one;
      runs = over.stub;
      quiet = refl;
      still = refl;
      ends = λ quiet. ends;
      last_number = refl;
      newest = newest_was_made q st w here.matches;
      calm = calm;
      none = λ op y u b hit begins found. absurd (no_plain op hit);
      aligned = subst (λ gs. CallsAlign q q (st.top ∷ gs) (back.top ∷ back.frames)) (sym over.frames) (align_return q q (itself q) st.top waiting back.top (a ∷ fs) refl);
      spared = all_spared x.carrying (NotEntered []) (λ y. refl) (Some terminating) (back.top ∷ back.frames);
      known = known;
      takes = takes;
      page = page;
      frames = here.matches.memory.unit.frames;
      few = omega arith;
    }
      where
        no_plain : (op : Op) → RunsAt code back (linear (plain op)) → ⊥
        no_plain op hit = let no : Some (runtime (terminate_for 0)) ≡ Some (linear (plain op)) = sym (ap (λ f. fetch code f 2) over.stub) ∙ hit in cc no

    returns : HandlerReturns q n caller.number e r type d kept waiting a fs st back
    returns = record {
      at = step_at x q before n (return r) st w here back one;
      result = result_stands x q before n (return r) st w here r refl;
      frames = over.frames;
      stub = over.stub;
      place = over.place;
      caller = caller.is;
      object = keeps.is;
      native = live;
      whole = whole;
    }

    named : NamesTerminate (program_of x.image).image q
    named = here.facts.named ∙ ap (λ b. stub_word b terminating 0) (sym here.stands.base)

    without : UnexpectedTerminates → (st.world.ending ≡ true) ⊎ (kept.terminate_handler ≡ None) → FollowsIn x before st w
    without run none_called =
        let first = quiet_then code 3 st back unpaid one in
        let last = aborts_once code back kept.terminate_handler (back.top ∷ back.frames) st.world unpaid_back ends none_called in
        let most : ℕ = length (linear_code (shape q n) (return r)) + 10 in
        abort_behind x q before st w here.facts here.stands 4 most [] (end_paid x q before n (return r) st w here most (omega arith)) (once_stays (program_of x.image).image x.pick code 4 st w (omega (arith, first, last)))
        (λ k many. run.aborts_behind (program_of x.image).image x.pick k q n caller.number e r type d kept waiting a fs st back w here.matches returns named none_called many)

    with_one : UnexpectedTerminates → TerminateHandlersOverflow → StacksHoldCalls → (m : ℕ) → st.world.ending ≡ false → kept.terminate_handler ≡ Some m → FollowsIn x before st w
    with_one run overflow holds m quiet some =
        let hidden = here.stands.hides quiet in
        let once = quiet_twice code st back unpaid one unpaid_back in
        let stays = once_stays (program_of x.image).image x.pick code 3 st w once in
        fits_or_not x q before st w here.facts here.stands 1 back st.world [] 0 kept.terminate_handler lost m quiet some
        (λ room.
        let ran = run.calls_behind (program_of x.image).image q n caller.number e r type d kept m waiting a fs st back w here.matches returns named quiet some hidden room in
        let reaches = ran.2 in
        let made = made_by_turns (program_of x.image).image x.pick reaches.turns w reaches.after [] reaches.runs in
        let more = some_ending (program_of x.image).image x.pick reaches.turns w reaches.after [] made (here.matches.runtime.terminating ∙ quiet) reaches.holds.runtime.terminating in
        handler_begins x q before st w here.facts here.stands 1 back st.world [] 0 kept.terminate_handler lost m quiet some (closed q a.frame.call)
        (record { frames = record { unit = refl; hidden = refl }; base = refl; tables = refl }) reach_back reaches.turns reaches.after (kept_by_turns (program_of x.image).image reaches.turns w reaches.after [] reaches.runs)
        made reaches.holds (omega arith) (omega (arith, once, more)) (let entry = few_to_enter q m in end_paid x q before n (return r) st w here reaches.turns (omega (arith, reaches.few, entry))) stays ran.1)
        (λ lacks.
        let most : ℕ = length (linear_code (shape q n) (return r)) + 15 in
        let ran = λ (k : ℕ) (many : most ≤ k). overflow.behind (program_of x.image).image x.pick k q n caller.number e r type d kept m waiting a fs st back w here.matches returns
        (record { named = named; quiet = quiet; some = some; hidden = hidden; lacks = lacks }) many in
        handler_overflows x q before st w here.facts here.stands 1 back st.world [] 0 kept.terminate_handler lost m quiet some lacks holds most (end_paid x q before n (return r) st w here most (omega arith)) stays (ran most (omega arith)).shown (λ k many. (ran k many).run))

  follows : UnexpectedTerminates → TerminateHandlersOverflow → StacksHoldCalls → FollowsIn x before st w
  follows run overflow holds = by (result_in r st.top.frame st.world (kinds code st.top.function)) acts
    where
      by : (y : Option ℤ) → step code st ≡ returned_with code y (waiting ∷ a ∷ fs) st.world → FollowsIn x before st w
      by None e = undefined_breaks x q before n (return r) st w here not_defined st.world e refl
      by (Some z) e =
          let one = e ∙ comes_back z in
          with_or_without x q before st w here.facts here.stands 1 back st.world [] 0 kept.terminate_handler (lost one) (without one run) (with_one one run overflow holds)

pub unexpected_returns : UnexpectedTerminates → TerminateHandlersOverflow → StacksHoldCalls → UnexpectedReturns
unexpected_returns run overflow holds x q before n type r d kept waiting a fs st w here over = follows x q before n type r d kept waiting a fs st w here over run overflow holds
