-- What is allowed is thrown again, and nothing stops it, on both machines.
use Rattle.std.proofs.Common.{◌≡◌, ◌∙◌, refl, sym, ap, subst, arith, ℕ, suc, ◌+◌, ◌-◌, ◌≤◌, ◌==◌, Bool, true, false, pos, List, [], ◌∷◌, append-nil, append_assoc, Option, Some}
use Rattle.std.specs.Prelude.{if◌then◌else◌}
use Rattle.meaning_forms.specs.Class.{contains}
use Rattle.meaning_forms.specs.World.{Installed}
use Rattle.meaning_forms.specs.Outcome.{aborted}
use Rattle.run_items.specs.declared.item.Item.{Item}
use Rattle.run_items.specs.declared.item.Item.TheVariants.{Enter}
use Rattle.rv64_isa.specs.State as hart
use Rattle.rv64_isa.specs.Step.{x}
use Rattle.elf_image.specs.Clean.{CleanImage}
use Rattle.raise_core.specs.Raise as unwinder
use Rattle.caught_stack.specs.declared.header.Header.{Header}
use Rattle.caught_stack.specs.Live.{header_of}
use Rattle.cxa_runtime.specs.declared.effect.End.TheVariants.{Aborted}
use Rattle.cxa_runtime.specs.declared.object.Object.{Object}
use Rattle.cxa_runtime.specs.Catch.{entered as runtime_entered}
use Rattle.cxa_runtime.specs.Terminate.{terminates}
use Rattle.cxa_runtime.specs.World as abi
use Rattle.cxa_runtime.specs.Raising.{Image, unhandled}
use Rattle.cxa_runtime.specs.Call.{call_effect}
use Rattle.eh_run.specs.Program.{program_of}
use Rattle.region_forms.specs.Caught.{Entry, entered_on, counted}
use Rattle.region_forms.specs.Lives.{can_travel, is_built}
use Rattle.region_forms.specs.World.{World, Exception, native, exception_type, exception_at}
use Rattle.region_forms.specs.Effect.{entered, entered_doomed, raises, only_where, rethrown, flies, terminates as terminates_effect}
use Rattle.linear_forms.specs.Search.{found_above}
use Rattle.linear_forms.specs.Stub.{call_unexpected}
use Rattle.linear_forms.specs.Activation.{Activation, State, finishes, by_program, look, terminated}
use Rattle.linear_forms.specs.Machine.{step}
use Rattle.linear_forms.specs.Operation.{performed}
use Rattle.linear_forms.specs.Unwinding.{doomed, doomed_by, raised_to, unwind}
use Rattle.linear_forms.specs.UnitRun.{code_of}
use Rattle.machine_forms.specs.Registers.{sp}
use Rattle.machine_pieces.proofs.Turning.{no_turns}
use Rattle.machine_stubs.specs.Calls.{asked, CallsAreMade}
use Rattle.machine_stubs.specs.Terminate.{TerminateRuns}
use Rattle.machine_stubs.specs.CallUnexpected.{UnexpectedChecks, UnexpectedAnswers}
use Rattle.table_verdicts.specs.Types.{thrown_as}
use Rattle.image_tables.specs.Functions.{records_end}
use Rattle.raise_simulation.specs.Raises.{RaisesAgree}
use Rattle.machine_simulation.specs.Plan.{Plan, slot_kinds}
use Rattle.machine_simulation.specs.Exceptions.{Addresses, addresses_of, exceptions_in, kept_by, destroyed, live_in, HasHeader, HeaderIs, IsFunction}
use Rattle.machine_simulation.specs.Matches.{RuntimeMatches, Matches}
use Rattle.machine_simulation.proofs.Holding.{same_number}
use Rattle.machine_simulation.proofs.Given.{same_beside}
use Rattle.machine_exceptions.specs.Leaves.{StepsTo}
use Rattle.machine_exceptions.specs.Terminates.{ending_world, in_handler}
use Rattle.machine_exceptions.proofs.Picking.{turns_for}
use Rattle.machine_exceptions.proofs.Enters.{exception_is}
use Rattle.machine_exceptions.proofs.Finding.{live_header}
use Rattle.machine_exceptions.proofs.Freed.{slots_alike}
use Rattle.machine_raises.specs.Resumes.{TypeIsThere}
use Rattle.machine_raises.proofs.Onward.{thrown_known}
use Rattle.machine_raises.proofs.Rethrowing.{newest_kept}
use Rattle.raise_ends.specs.Ends.{RunEnds, NoneIsCalled, unless_ending, LinearEnds, plan_in_handler}
use Rattle.raise_ends.proofs.Steps.{over_at_once, over_without, handler_in_two}
use Rattle.raise_ends.proofs.Again.{again_world, again_runtime}
use Rattle.raise_ends.proofs.Asking.{lost_as}
use Rattle.raise_ends.proofs.Aborting.{no_handler, shown_again, shown_first}
use Rattle.raise_ends.proofs.Comes.{aborts_again}
use Rattle.runtime_invariant.specs.Memory.{RunsKeepMemory}
use Rattle.stub_landings.specs.Rests.{StubMemory, StubRegisters}
use Rattle.stub_landings.specs.OwnCalls.{AtOwnCall}
use Rattle.stub_landings.specs.StubStacks.{StubStacksStand}
use Rattle.unexpected_calls.specs.Lists.{ListsAnswer}
use Rattle.unexpected_calls.specs.Terminates.{BothAbort, NamesTerminate}
use Rattle.unexpected_calls.specs.Thrown.{ThrownOut, checked_state}
use Rattle.unexpected_calls.specs.Doomed.{NothingStops, doomed_in, AllowedIsDoomed}
use Rattle.unexpected_calls.proofs.Steps.{steps_on, exec_on}
use Rattle.unexpected_calls.proofs.OverCall.{over_call, over_alike}
use Rattle.unexpected_calls.proofs.StackEnd.{stub_end}
use Rattle.unexpected_calls.proofs.Sent.{Asks, asks_aborts, asks_begins, then_reaches, then_ends, reaches_most}
use Rattle.unexpected_calls.proofs.Lost.{own_lost, rethrows_so}
use Rattle.unexpected_calls.proofs.CheckSteps.{steps_to_allowed}
use Rattle.unexpected_calls.proofs.Allowed.{AtRethrow, at_rethrow}
use Rattle.machine_pieces.specs.Keeping.{saved_of}
use Rattle.machine_simulation.specs.Entering.{entry_turns}

-- ---- the step

-- what is entered is the newest, and does not travel
pub record NewestEntered (e : ℕ) (xs : List Entry) : Type 0 where
  pub entry : Entry
  pub others : List Entry
  pub is : entered_on e xs ≡ entry ∷ others
  pub number : entry.number ≡ e
  pub still : entry.again ≡ false

pub entered_newest : (e : ℕ) (xs : List Entry) → NewestEntered e xs
entered_newest e [] = record { entry = record { number = e; more = 0; again = false }; others = []; is = refl; number = refl; still = refl }
entered_newest e (y ∷ ys) = by (y.number == e) refl
  where
    by : (b : Bool) → (y.number == e) ≡ b → NewestEntered e (y ∷ ys)
    by true at = record { entry = record { number = e; more = suc y.more; again = false }; others = ys; is = ap (λ b. counted b e false y ys) at; number = refl; still = refl }
    by false at = record { entry = record { number = e; more = 0; again = false }; others = y ∷ ys; is = ap (λ b. counted b e false y ys) at; number = refl; still = refl }

-- the rethrow dooms it
step_dooms : (p : Plan) (e type : ℕ) (destructor : Option ℕ) (kept : Installed) (st : State) → live_in st.world.live e ≡ Some (native type destructor kept) → let raising = checked_state 10 e (pos 0) st in NothingStops p type raising →
    step (code_of p.unit) raising ≡ doomed e (raising.top ∷ raising.frames) raising.world
step_dooms p e type destructor kept st live none =
    let raising : State = checked_state 10 e (pos 0) st in
    let code = code_of p.unit in
    let v : World = raising.world in
    let a : Activation = raising.top in
    let fs : List Activation = a ∷ raising.frames in
    let n = entered_newest e st.world.caught in
    let is : exception_at v e ≡ native type destructor kept = exception_is st.world.live e (native type destructor kept) live in
    ap (λ xs. performed code (rethrown xs v) a raising.frames v) n.is
    ∙ ap (λ b. performed code (if b then terminates_effect v.installed.terminate_handler v else only_where (can_travel v n.entry.number) (raises n.entry.number v)) a raising.frames v) n.still
    ∙ ap (λ k. performed code (only_where (can_travel v k) (raises k v)) a raising.frames v) n.number
    ∙ ap (λ z. performed code (only_where (is_built z) (raises e v)) a raising.frames v) is
    ∙ ap (λ o. raised_to o e fs v (λ c. unwind code (look code a.function a.place) c e a.function a.frame raising.frames (flies e v))) (ap (λ z. found_above code (exception_type z) fs) is ∙ none)

-- ---- the runtime call

-- it aborts where terminate runs, and else comes to terminate
pub record Dooms (i : CleanImage) (p : Plan) (e : ℕ) (kept : Installed) (st : State) (at : abi.World) (behind : hart.State) : Type 0 where
  pub again : abi.World
  pub handler : ℕ
  pub running : again.terminating ≡ at.terminating
  pub nothing : again.shown ≡ []
  pub to : abi.World
  pub same : to.hart ≡ behind
  pub shown : to.shown ≡ Enter e ∷ []
  pub unwinding : to.unwinding ≡ at.unwinding
  pub runtime : RuntimeMatches p st.frames (entered_doomed e (entered e st.world)) to
  pub known : IsFunction (addresses_of p) kept.terminate_handler handler
  pub effect : (wish : ℕ) → call_effect 8 (program_of i).image wish (asked behind at) ≡ (if at.terminating then terminates (program_of i).image.places handler again else terminates (program_of i).image.places handler to)

whole_header : (t : Addresses) (b : Bool) (z : Exception) (h : Header) → b ≡ false → HeaderIs t b z h → HeaderIs t false z h
whole_header t b z h at is = subst (λ c. HeaderIs t c z h) at is

pub dooms : StubStacksStand → RaisesAgree → (i : CleanImage) (p : Plan) (e type : ℕ) (destructor : Option ℕ) (kept : Installed) (st : State) (at : abi.World) (behind : hart.State) → let raising = checked_state 10 e (pos 0) st in
    AtOwnCall p i 8 call_unexpected raising at behind → live_in st.world.live e ≡ Some (native type destructor kept) → contains (destroyed st.frames) e ≡ false → TypeIsThere p (Some type) → NothingStops p type raising → Dooms i p e kept st at behind
dooms stands agree i p e type destructor kept st at behind c live whole types none =
    let image : Image = (program_of i).image in
    let v : World = entered e st.world in
    let z : Exception = native type destructor kept in
    let y : abi.World = asked behind at in
    let n = entered_newest e st.world.caught in
    let r0 = c.runtime in
    let r : RuntimeMatches p st.frames v y = record { input = r0.input; replies = r0.replies; last_number = r0.last_number; terminating = r0.terminating; exceptions = r0.exceptions; plan = r0.plan } in
    let places : Addresses = addresses_of p in
    let gone : List ℕ = destroyed st.frames in
    let newest = newest_kept places gone (exceptions_in v) (kept_by y) n.entry n.others r.exceptions n.is n.still in
    let slot : ℕ = newest.slot in
    let header : Header = newest.has.header in
    let l = live_header places gone (exceptions_in v) (kept_by y) e z r.exceptions live in
    let has_e : HasHeader y.exceptions.live e slot = record { header = header; there = newest.has.there; number = newest.has.number ∙ n.number } in
    let slots : l.slot ≡ slot = slots_alike places gone (exceptions_in v) (kept_by y) e l.slot slot r.exceptions l.has has_e in
    let headers : Some l.has.header ≡ Some header = sym l.has.there ∙ ap (header_of y.exceptions.live) slots ∙ newest.has.there in
    let one : l.has.header ≡ header = cc headers in
    let is : HeaderIs places false z header = whole_header places (contains gone e) z header whole (subst (HeaderIs places (contains gone e) z) one l.is) in
    let known = thrown_known p i behind z header c.running tt types is in
    let lost = own_lost stands agree i p 8 (checked_state 10 e (pos 0) st) at behind (Some type) c types none in
    let o : Object = record { slot = slot; header = header } in
    let up : abi.World = again_world y slot n.entry.more newest.more in
    let end = lost_as image.places y.exceptions o up (unwinder.raise image.fdes (thrown_as (records_end p.unit) p.unit.types (Some type)) behind) behind lost in
    let doomed_runtime = again_runtime p st.frames v y n.entry n.others o _ newest.more r n.is newest.caught newest.has newest.thrown in
    record {
      again = up;
      handler = header.handlers.0;
      running = refl;
      nothing = refl;
      to = runtime_entered o up;
      same = refl;
      shown = ap (λ m. Enter m ∷ []) (newest.has.number ∙ n.number);
      unwinding = refl;
      runtime = subst (λ k. RuntimeMatches p st.frames (entered_doomed k v) (runtime_entered o up)) n.number doomed_runtime;
      known = is.1.0;
      effect = λ wish. rethrows_so image wish y slot n.entry.more newest.more header (thrown_as (records_end p.unit) p.unit.types (Some type)) newest.caught newest.has.there known ∙ end ∙ ap (unhandled image.places y.exceptions o up) is.0.1;
    }

-- ---- both machines

-- the call as one that terminates, where terminate does not run
pub doom_asks : (i : CleanImage) (p : Plan) (e d type : ℕ) (destructor : Option ℕ) (kept : Installed) (j : ℕ) (st : State) (w : abi.World) → (h : ThrownOut i p e d type destructor kept j st w) → (c : AtRethrow i p e (x w.hart sp) st w) → Dooms i p e kept st c.at c.behind →
    NamesTerminate (program_of i).image p → st.world.ending ≡ false → (outer : ℕ) × Asks (program_of i).image p h.called.number h.called.caller h.called.others (doomed_in e (checked_state 10 e (pos 0) st)) kept.terminate_handler c.at outer (Enter e ∷ [])
doom_asks i p e d type destructor kept j st w h c l named quiet =
    let image : Image = (program_of i).image in
    let v : World = entered e st.world in
    let q = h.called in
    let own = c.call in
    let memory = own.inside.memory in
    let over = over_alike p q.number q.caller q.others v (entered_doomed e v) c.behind.memory (x c.behind sp) own.back (saved_of c.behind) refl refl (same_number v)
    (over_call p q.number q.caller q.others v c.behind.memory (x c.behind sp) own.back (saved_of c.behind) q.compiled (subst (λ gs. StubMemory p call_unexpected gs v c.behind.memory (x c.behind sp) own.back) q.frames memory)
    (subst (λ gs. StubRegisters p call_unexpected gs v c.behind.memory (x c.behind sp) (saved_of c.behind)) q.frames own.inside.kept)) in
    let r = l.runtime in (
      over.outer,
      record {
        number = 8;
        behind = c.behind;
        calls = own.calls;
        asks = own.asks;
        registers = own.inside.registers;
        handler = l.handler;
        is = l.known;
        to = l.to;
        effect = λ wish. l.effect wish ∙ ap (λ b. if b then terminates image.places l.handler l.again else terminates image.places l.handler l.to) (own.runtime.terminating ∙ quiet);
        same = l.same;
        unwinding = l.unwinding;
        shown = l.shown;
        memory = over.matches;
        high = over.stands.above;
        small = over.registers.small;
        end = omega (arith, stub_end p st.frames v c.behind.memory (x c.behind sp) own.back memory);
        runtime = record { input = r.input; replies = r.replies; last_number = r.last_number; terminating = r.terminating; exceptions = r.exceptions; plan = r.plan };
        named = named;
      },
    )

pub doomed_handler : (p : Plan) (e type : ℕ) (destructor : Option ℕ) (kept : Installed) (st : State) → live_in st.world.live e ≡ Some (native type destructor kept) → let raising = checked_state 10 e (pos 0) st in NothingStops p type raising → (b : Bool) → st.world.ending ≡ b →
    step (code_of p.unit) raising ≡ (if b then finishes (by_program aborted) raising.world else terminated kept.terminate_handler (raising.top ∷ raising.frames) (entered_doomed e raising.world))
doomed_handler p e type destructor kept st live none b is =
    let raising : State = checked_state 10 e (pos 0) st in
    let v : World = raising.world in
    let fs : List Activation = raising.top ∷ raising.frames in
    step_dooms p e type destructor kept st live none ∙ ap (λ c. if c then finishes (by_program aborted) v else doomed_by e (exception_at v e) fs v) is
    ∙ ap (λ z. if b then finishes (by_program aborted) v else doomed_by e z fs v) (exception_is st.world.live e (native type destructor kept) live)

pub allowed_is_doomed : CallsAreMade → TerminateRuns → UnexpectedChecks → UnexpectedAnswers → RunsKeepMemory → ListsAnswer → StubStacksStand → RaisesAgree → AllowedIsDoomed
allowed_is_doomed made runs checks answers keeps lists stands agree = record {
  calls_the_handler = λ i p e d type destructor kept j m st w h says none named quiet some hidden fits.
      let raising : State = checked_state 10 e (pos 0) st in
      let waiting : State = doomed_in e raising in
      let c = at_rethrow made checks answers keeps lists i p e d type destructor kept j st w h says in
      let l = dooms stands agree i p e type destructor kept st c.at c.behind c.call h.native h.may.whole h.type_is none in
      let asks = doom_asks i p e d type destructor kept j st w h c l named quiet in
      let two = handler_in_two p m raising waiting kept.terminate_handler (Enter e ∷ []) (doomed_handler p e type destructor kept st h.native none false quiet) quiet some refl in
      let rest = asks_begins (program_of i).image p h.called.number h.called.caller h.called.others waiting kept.terminate_handler c.at asks.0 (Enter e ∷ []) asks.1 made runs m quiet some hidden fits in (
        steps_on (code_of p.unit) 4 2 st raising (in_handler p m waiting) (steps_to_allowed i p e d type destructor kept j st w h says) two.0,
        (same_beside (slot_kinds p m) waiting.world.calls 0 [] (ending_world waiting.world)).items ∙ append_assoc st.world.items (Enter e ∷ []) (Enter e ∷ []),
        reaches_most (program_of i).image (18 + (7 + entry_turns p m)) (25 + entry_turns p m) w (Enter e ∷ Enter e ∷ []) (λ u. Matches (plan_in_handler p m waiting) (in_handler p m waiting) u) (omega arith)
            (then_reaches (program_of i).image c.turns (7 + entry_turns p m) w c.at (Enter e ∷ []) (Enter e ∷ []) (λ u. Matches (plan_in_handler p m waiting) (in_handler p m waiting) u) 18 c.runs c.few rest),
      );
  aborts = λ i pick k p e d type destructor kept j st w h says none named no_one many.
      let raising : State = checked_state 10 e (pos 0) st in
      let waiting : State = doomed_in e raising in
      let c = at_rethrow made checks answers keeps lists i p e d type destructor kept j st w h says in
      let l = dooms stands agree i p e type destructor kept st c.at c.behind c.call h.native h.may.whole h.type_is none in
      let steps = steps_to_allowed i p e d type destructor kept j st w h says in
      abort_by made i pick k p e d type destructor kept j st w h c l named no_one many steps none (λ quiet. let asks = doom_asks i p e d type destructor kept j st w h c l named quiet in
      asks_aborts (program_of i).image p h.called.number h.called.caller h.called.others waiting kept.terminate_handler c.at asks.0 (Enter e ∷ []) asks.1 made runs pick (k - c.turns) quiet (no_handler st.world kept.terminate_handler no_one quiet) (omega (arith, c.few, many)));
}
  where
    abort_by : CallsAreMade → (i : CleanImage) (pick : ℕ → ℕ) (k : ℕ) (p : Plan) (e d type : ℕ) (destructor : Option ℕ) (kept : Installed) (j : ℕ) (st : State) (w : abi.World) → (h : ThrownOut i p e d type destructor kept j st w) → (c : AtRethrow i p e (x w.hart sp) st w) →
        Dooms i p e kept st c.at c.behind → NamesTerminate (program_of i).image p → NoneIsCalled st.world kept.terminate_handler → 26 ≤ k → StepsTo (code_of p.unit) 4 st (checked_state 10 e (pos 0) st) → NothingStops p type (checked_state 10 e (pos 0) st) →
        (st.world.ending ≡ false → RunEnds (program_of i).image pick (k - c.turns) c.at (Enter e ∷ []) Aborted) → BothAbort (program_of i).image pick k p 7 st w (Enter e ∷ unless_ending st.world (Enter e ∷ []))
    abort_by made i pick k p e d type destructor kept j st w h c l named no_one many steps none first = by st.world.ending refl
      where
        image : Image
        image = (program_of i).image

        raising : State
        raising = checked_state 10 e (pos 0) st

        v : World
        v = raising.world

        ends_with : (items : List Item) → LinearEnds p 3 raising items aborted → RunEnds image pick (k - c.turns) c.at items Aborted → BothAbort image pick k p 7 st w (Enter e ∷ items)
        ends_with items linear rest = record {
          last = linear.0;
          linear = exec_on (code_of p.unit) 4 3 st raising _ steps linear.1;
          shown = linear.2 ∙ append_assoc st.world.items (Enter e ∷ []) items;
          run = then_ends image pick k c.turns w c.at (Enter e ∷ []) items (turns_for image pick c.turns w c.at (Enter e ∷ []) c.runs) (omega (arith, c.few, many)) Aborted rest;
        }

        by : (b : Bool) → st.world.ending ≡ b → BothAbort image pick k p 7 st w (Enter e ∷ unless_ending st.world (Enter e ∷ []))
        by true is = subst (λ items. BothAbort image pick k p 7 st w (Enter e ∷ items)) (sym (shown_again st.world (Enter e ∷ []) is)) (ends_with []
            (over_at_once p raising v [] (doomed_handler p e type destructor kept st h.native none true is) (sym (append-nil v.items)))
            (aborts_again made image pick (k - c.turns) 0 8 l.handler c.at c.at l.again c.behind [] (no_turns image c.at) c.call.calls c.call.asks
            (l.effect (pick (c.at.last_number + 1)) ∙ ap (λ b. if b then terminates image.places l.handler l.again else terminates image.places l.handler l.to) (c.call.runtime.terminating ∙ is))
            (l.running ∙ (c.call.runtime.terminating ∙ is)) l.nothing (omega (arith, c.few, many))))
        by false is = subst (λ items. BothAbort image pick k p 7 st w (Enter e ∷ items)) (sym (shown_first st.world (Enter e ∷ []) is)) (ends_with (Enter e ∷ [])
            (over_without p raising kept.terminate_handler (raising.top ∷ raising.frames) (entered_doomed e v) (Enter e ∷ []) (doomed_handler p e type destructor kept st h.native none false is) is (no_handler st.world kept.terminate_handler no_one is) refl)
            (first is))
