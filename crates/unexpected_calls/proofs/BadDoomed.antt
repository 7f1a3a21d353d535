-- A bad_exception is thrown, and nothing stops it, on both machines.
use Rattle.std.proofs.Common.{◌≡◌, ◌∙◌, refl, sym, ap, subst, arith, ℕ, ◌+◌, ◌-◌, ◌<◌, ◌≤◌, ◌&&◌, Bool, true, false, pos, List, [], ◌∷◌, ◌++◌, append-nil, append_assoc, length, map, Option, Some, None}
use Rattle.std.specs.Prelude.{not, if◌then◌else◌}
use Rattle.meaning_forms.specs.Class.{contains}
use Rattle.meaning_forms.specs.World.{Installed}
use Rattle.meaning_forms.specs.Outcome.{aborted}
use Rattle.run_items.specs.declared.item.Item.{Item}
use Rattle.run_items.specs.declared.item.Item.TheVariants.{Enter, Make}
use Rattle.rv64_isa.specs.State as hart
use Rattle.rv64_isa.specs.Step.{x}
use Rattle.elf_image.specs.Clean.{CleanImage}
use Rattle.raise_core.specs.Raise as unwinder
use Rattle.caught_stack.specs.declared.header.Header.{Header}
use Rattle.caught_stack.specs.declared.header.HeaderKind.TheVariants.{Building}
use Rattle.caught_stack.specs.Live.{slots}
use Rattle.cxa_runtime.specs.declared.effect.End.TheVariants.{Aborted}
use Rattle.cxa_runtime.specs.declared.object.Object.{Object}
use Rattle.cxa_runtime.specs.Catch.{entered as runtime_entered}
use Rattle.cxa_runtime.specs.Objects.{object_where, is_building}
use Rattle.cxa_runtime.specs.Terminate.{terminates}
use Rattle.cxa_runtime.specs.Throw.{flying}
use Rattle.cxa_runtime.specs.Types.{type_records}
use Rattle.cxa_runtime.specs.World as abi
use Rattle.cxa_runtime.specs.World.{argument}
use Rattle.cxa_runtime.specs.Raising.{Image, native_unhandled}
use Rattle.cxa_runtime.specs.Call.{call_effect}
use Rattle.eh_run.specs.Program.{program_of}
use Rattle.region_forms.specs.Ending.{bad_row}
use Rattle.region_forms.specs.Lives.{is_being_built, is_built}
use Rattle.region_forms.specs.World.{of_exception, World, Exception, building, native, exception_type, exception_at}
use Rattle.region_forms.specs.Effect.{entered_doomed, kept as kept_in, raises, only_where, flies, is_full}
use Rattle.linear_forms.specs.Search.{found_above}
use Rattle.linear_forms.specs.Stub.{call_unexpected}
use Rattle.linear_forms.specs.Activation.{Activation, State, finishes, by_program, look, terminated}
use Rattle.linear_forms.specs.Machine.{step}
use Rattle.linear_forms.specs.Operation.{performed}
use Rattle.linear_forms.specs.Unwinding.{doomed, doomed_by, raised_to, unwind}
use Rattle.linear_forms.specs.UnitRun.{code_of}
use Rattle.machine_forms.specs.Registers.{sp, a0, a1, a2}
use Rattle.machine_pieces.proofs.Turning.{no_turns}
use Rattle.machine_stubs.specs.Calls.{asked, CallsAreMade}
use Rattle.machine_stubs.specs.Terminate.{TerminateRuns}
use Rattle.machine_stubs.specs.CallUnexpected.{UnexpectedChecks, UnexpectedAnswers, bad_record}
use Rattle.image_forms.specs.Placed.{record_at}
use Rattle.table_verdicts.specs.Types.{ChainEnds, with_bases, thrown_as}
use Rattle.image_tables.specs.Functions.{records_end}
use Rattle.image_tables.proofs.TypesRead.{types_are_read}
use Rattle.raise_simulation.specs.Raises.{RaisesAgree}
use Rattle.machine_simulation.specs.Plan.{Plan, slot_kinds}
use Rattle.machine_simulation.specs.Exceptions.{Addresses, addresses_of, exceptions_in, kept_by, destroyed, live_in, IsFunction, record_address}
use Rattle.machine_simulation.specs.Matches.{RuntimeMatches}
use Rattle.machine_simulation.specs.Objects.{with_object}
use Rattle.machine_simulation.proofs.Holding.{same_number}
use Rattle.machine_simulation.proofs.Given.{same_beside}
use Rattle.machine_exceptions.specs.Leaves.{StepsTo}
use Rattle.machine_exceptions.specs.Terminates.{ending_world, in_handler}
use Rattle.machine_exceptions.proofs.Picking.{turns_for, then_for}
use Rattle.machine_exceptions.proofs.Enters.{exception_is, live_is}
use Rattle.machine_exceptions.proofs.Finding.{live_header, object_found}
use Rattle.machine_exceptions.proofs.LiveLists.{new_in}
use Rattle.machine_raises.proofs.Native.{counts_building, thrown_object}
use Rattle.machine_raises.proofs.Doomed.{doomed_runtime}
use Rattle.machine_raises.proofs.Replaced.{replaced_in}
use Rattle.machine_raises.proofs.Throwing.{throw_is, throws_as}
use Rattle.raise_ends.specs.Ends.{RunEnds, NoneIsCalled, unless_ending, LinearEnds}
use Rattle.raise_ends.proofs.Steps.{over_at_once, over_without, handler_in_two}
use Rattle.raise_ends.proofs.Asking.{lost_as}
use Rattle.raise_ends.proofs.Aborting.{no_handler, shown_again, shown_first}
use Rattle.raise_ends.proofs.Comes.{aborts_again}
use Rattle.runtime_invariant.specs.Memory.{RunsKeepMemory}
use Rattle.stub_landings.specs.Rests.{StubMemory, StubRegisters}
use Rattle.stub_landings.specs.OwnCalls.{AtOwnCall}
use Rattle.stub_landings.specs.StubStacks.{StubStacksStand}
use Rattle.unexpected_calls.specs.Leaves.{CalledByCompiled}
use Rattle.unexpected_calls.specs.Lists.{ListsAnswer}
use Rattle.unexpected_calls.specs.Terminates.{BothAbort, NamesTerminate}
use Rattle.unexpected_calls.specs.Thrown.{ThrownOut, list_says}
use Rattle.unexpected_calls.specs.Doomed.{NothingStops}
use Rattle.unexpected_calls.specs.Bad.{bad_state}
use Rattle.unexpected_calls.specs.BadDoomed.{bad_doomed, BadIsDoomed}
use Rattle.unexpected_calls.proofs.Steps.{steps_on, exec_on}
use Rattle.unexpected_calls.proofs.OverCall.{over_call, over_alike}
use Rattle.unexpected_calls.proofs.StackEnd.{stub_end}
use Rattle.unexpected_calls.proofs.Sent.{Asks, asks_aborts, asks_begins, then_ends}
use Rattle.unexpected_calls.proofs.Lost.{own_lost}
use Rattle.unexpected_calls.proofs.Thrown.{thrown_checked}
use Rattle.unexpected_calls.proofs.BadMade.{none_live, at_make, bad_made}
use Rattle.unexpected_calls.proofs.Bad.{steps_to_throw, AtThrow, at_throw}
use Rattle.machine_pieces.specs.Keeping.{saved_of}

-- ---- the step

being_built : (v : World) (e : ℕ) → live_in v.live e ≡ Some building → is_being_built v e ≡ true
being_built v e live = ap (λ b. b && not (is_built (exception_at v e))) (live_is v.live e building live) ∙ ap (λ z. true && not (is_built z)) (exception_is v.live e building live)

-- what it is where it is thrown
bad_is : (e : ℕ) (st : State) → live_in (bad_state e st).world.live (st.world.last_number + 1) ≡ Some building → let v = (bad_state e st).world in let bad = st.world.last_number + 1 in exception_at (kept_in bad bad_row None v) bad ≡ native bad_row None v.installed
bad_is e st live =
    let v : World = (bad_state e st).world in
    let bad : ℕ = st.world.last_number + 1 in
    let j : World = kept_in bad bad_row None v in
    let z : Exception = native bad_row None v.installed in
    exception_is j.live bad z (replaced_in v.live bad z building live)

step_dooms : (p : Plan) (e : ℕ) (st : State) → live_in (bad_state e st).world.live (st.world.last_number + 1) ≡ Some building → NothingStops p bad_row (bad_state e st) → let raising = bad_state e st in let bad = st.world.last_number + 1 in
    step (code_of p.unit) raising ≡ doomed bad (raising.top ∷ raising.frames) (kept_in bad bad_row None raising.world)
step_dooms p e st live none =
    let raising : State = bad_state e st in
    let code = code_of p.unit in
    let v : World = raising.world in
    let a : Activation = raising.top in
    let fs : List Activation = a ∷ raising.frames in
    let bad : ℕ = st.world.last_number + 1 in
    let k : World = kept_in bad bad_row None v in
    ap (λ b. performed code (only_where b (raises bad k)) a raising.frames v) (being_built v bad live)
    ∙ ap (λ o. raised_to o bad fs k (λ c. unwind code (look code a.function a.place) c bad a.function a.frame raising.frames (flies bad k))) (ap (λ z. found_above code (exception_type z) fs) (bad_is e st live) ∙ none)

pub doomed_step : (p : Plan) (e : ℕ) (st : State) → live_in (bad_state e st).world.live (st.world.last_number + 1) ≡ Some building → NothingStops p bad_row (bad_state e st) → (b : Bool) → st.world.ending ≡ b → let raising = bad_state e st in let bad = st.world.last_number + 1 in
    let k = kept_in bad bad_row None raising.world in step (code_of p.unit) raising ≡ (if b then finishes (by_program aborted) k else terminated st.world.installed.terminate_handler (raising.top ∷ raising.frames) (entered_doomed bad k))
doomed_step p e st live none b is =
    let raising : State = bad_state e st in
    let bad : ℕ = st.world.last_number + 1 in
    let k : World = kept_in bad bad_row None raising.world in
    let fs : List Activation = raising.top ∷ raising.frames in
    step_dooms p e st live none ∙ ap (λ c. if c then finishes (by_program aborted) k else doomed_by bad (exception_at k bad) fs k) is
    ∙ ap (λ z. if b then finishes (by_program aborted) k else doomed_by bad z fs k) (bad_is e st live)

-- ---- the runtime call

pub record Dooms (i : CleanImage) (q : Plan) (e : ℕ) (st : State) (at : abi.World) (behind : hart.State) : Type 0 where
  pub again : abi.World
  pub handler : ℕ
  pub running : again.terminating ≡ at.terminating
  pub nothing : again.shown ≡ []
  pub to : abi.World
  pub same : to.hart ≡ behind
  pub shown : to.shown ≡ Enter (st.world.last_number + 1) ∷ []
  pub unwinding : to.unwinding ≡ at.unwinding
  pub runtime : RuntimeMatches q st.frames (bad_doomed e st).world to
  pub known : IsFunction (addresses_of q) st.world.installed.terminate_handler handler
  pub effect : (wish : ℕ) → call_effect 5 (program_of i).image wish (asked behind at) ≡ (if at.terminating then terminates (program_of i).image.places handler again else terminates (program_of i).image.places handler to)

dooms : StubStacksStand → RaisesAgree → (i : CleanImage) (q : Plan) (e : ℕ) (st : State) (at : abi.World) (behind : hart.State) → AtOwnCall q i 5 call_unexpected (bad_state e st) at behind → live_in (bad_state e st).world.live (st.world.last_number + 1) ≡ Some building →
    x behind a0 ≡ q.at (of_exception (st.world.last_number + 1)) → x behind a1 ≡ bad_record q.base → x behind a2 ≡ 0 → bad_row < length q.unit.types → ChainEnds q.unit.types bad_row → NothingStops q bad_row (bad_state e st) → Dooms i q e st at behind
dooms stands agree i q e st at behind c live object type none_given there bases none =
    let image : Image = (program_of i).image in
    let raising : State = bad_state e st in
    let v : World = raising.world in
    let bad : ℕ = st.world.last_number + 1 in
    let y : abi.World = asked behind at in
    let r0 = c.runtime in
    let r : RuntimeMatches q st.frames v y = record { input = r0.input; replies = r0.replies; last_number = r0.last_number; terminating = r0.terminating; exceptions = r0.exceptions; plan = r0.plan } in
    let places : Addresses = addresses_of q in
    let gone : List ℕ = destroyed st.frames in
    let l = live_header places gone (exceptions_in v) (kept_by y) bad building r.exceptions live in
    let slot : ℕ = l.slot in
    let header : Header = l.has.header in
    let kind : header.kind ≡ Building = counts_building places (contains gone bad) header l.is in
    let rec : ℕ = record_address q.base bad_row in
    let types = map (record_at (records_end q.unit)) (with_bases q.unit.types bad_row) in
    let o : Object = thrown_object q y slot bad_row 0 header in
    let found : object_where is_building y.exceptions.live (argument y 10) ≡ Some (record { slot = slot; header = header })
    = ap (object_where is_building at.exceptions.live) (object ∙ l.object) ∙ object_found is_building at.exceptions.live slot header l.below l.has.there (ap is_building kind) in
    let read : type_records y.hart rec ≡ Some types = ap (λ b. type_records behind (record_at b bad_row)) c.running.base ∙ types_are_read q.unit i behind bad_row c.running.image c.running.run there bases in
    let lost = own_lost stands agree i q 5 raising at behind (Some bad_row) c (there, bases) none in
    let end = lost_as image.places y.exceptions o (flying o y) (unwinder.raise image.fdes (thrown_as (records_end q.unit) q.unit.types (Some bad_row)) behind) behind lost in
    let none_there : IsFunction places None 0 = refl in
    record {
      again = flying o y;
      handler = o.header.handlers.0;
      running = refl;
      nothing = refl;
      to = runtime_entered o (flying o y);
      same = refl;
      shown = ap (λ m. Enter m ∷ []) l.has.number;
      unwinding = refl;
      runtime = doomed_runtime q st.frames v y bad slot bad_row 0 None r l.has kind live none_there;
      known = r.exceptions.terminate_handler;
      effect = λ wish. throw_is image wish y ∙ throws_as image y slot rec 0 header types (native_unhandled image.places o (flying o y)) found type read none_given end;
    }

-- ---- both machines

pub doom_asks : (i : CleanImage) (pick : ℕ → ℕ) (p : Plan) (e slot stack : ℕ) (st : State) (w : abi.World) → (c : CalledByCompiled st) → (t : AtThrow i pick p e slot stack st w) → Dooms i (with_object p (st.world.last_number + 1) slot) e st t.at t.behind →
    NamesTerminate (program_of i).image p → st.world.ending ≡ false → let q = with_object p (st.world.last_number + 1) slot in
    (outer : ℕ) × Asks (program_of i).image q c.number c.caller c.others (bad_doomed e st) st.world.installed.terminate_handler t.at outer (Enter (st.world.last_number + 1) ∷ [])
doom_asks i pick p e slot stack st w c t l named quiet =
    let image : Image = (program_of i).image in
    let q : Plan = with_object p (st.world.last_number + 1) slot in
    let v : World = (bad_state e st).world in
    let u : World = (bad_doomed e st).world in
    let own = t.call in
    let memory = own.inside.memory in
    let over = over_alike q c.number c.caller c.others v u t.behind.memory (x t.behind sp) own.back (saved_of t.behind) refl refl (same_number v)
    (over_call q c.number c.caller c.others v t.behind.memory (x t.behind sp) own.back (saved_of t.behind) c.compiled (subst (λ gs. StubMemory q call_unexpected gs v t.behind.memory (x t.behind sp) own.back) c.frames memory)
    (subst (λ gs. StubRegisters q call_unexpected gs v t.behind.memory (x t.behind sp) (saved_of t.behind)) c.frames own.inside.kept)) in
    let r = l.runtime in (
      over.outer,
      record {
        number = 5;
        behind = t.behind;
        calls = own.calls;
        asks = own.asks;
        registers = own.inside.registers;
        handler = l.handler;
        is = l.known;
        to = l.to;
        effect = λ wish. l.effect wish ∙ ap (λ b. if b then terminates image.places l.handler l.again else terminates image.places l.handler l.to) (own.runtime.terminating ∙ quiet);
        same = l.same;
        unwinding = l.unwinding;
        shown = l.shown;
        memory = over.matches;
        high = over.stands.above;
        small = over.registers.small;
        end = omega (arith, stub_end q st.frames v t.behind.memory (x t.behind sp) own.back memory);
        runtime = record { input = r.input; replies = r.replies; last_number = r.last_number; terminating = r.terminating; exceptions = r.exceptions; plan = r.plan };
        named = named;
      },
    )

-- the call of the throw, and what it does
pub record Thrown (i : CleanImage) (pick : ℕ → ℕ) (p : Plan) (e slot stack : ℕ) (st : State) (w : abi.World) : Type 0 where
  pub at : AtThrow i pick p e slot stack st w
  pub live : live_in (bad_state e st).world.live (st.world.last_number + 1) ≡ Some building
  pub dooms_it : Dooms i (with_object p (st.world.last_number + 1) slot) e st at.at at.behind

pub thrown : CallsAreMade → UnexpectedChecks → UnexpectedAnswers → RunsKeepMemory → ListsAnswer → StubStacksStand → RaisesAgree → (i : CleanImage) (pick : ℕ → ℕ) (p : Plan) (e d type : ℕ) (destructor : Option ℕ) (kept : Installed) (j : ℕ) (st : State) (w : abi.World) →
    (h : ThrownOut i p e d type destructor kept j st w) → list_says p h.rests.kept.owner j type ≡ pos 1 → is_full st.world ≡ false → ChainEnds p.unit.types bad_row → NothingStops p bad_row (bad_state e st) →
    (slot : ℕ) × (slot < slots) × Thrown i pick p e slot (x w.hart sp) st w
thrown made checks answers keeps lists stands agree i pick p e d type destructor kept j st w h says free bases none =
    let c = h.called in
    let back : ℕ = h.rests.rests.back in
    let m = at_make answers keeps i p e c.number back c.caller c.others st w (thrown_checked made checks keeps lists i p e d type destructor kept j 1 st w h says) in
    let b = bad_made made i pick p e c.number back c.caller c.others st w m free in
    let slot : ℕ = b.0 in
    let q : Plan = with_object p (st.world.last_number + 1) slot in
    let t = at_throw answers keeps i pick p e back slot st w c h.bad b.1 in
    let not_live = none_live st.world.live (st.world.last_number + 1) st.world.last_number m.runtime.exceptions.numbers refl in
    let live = new_in st.world.live (st.world.last_number + 1) building not_live in
    (slot, omega (arith, b.1.below), record { at = t; live = live; dooms_it = dooms stands agree i q e st t.at t.behind t.call live t.object t.type t.none h.bad bases none })

pub bad_is_doomed : CallsAreMade → TerminateRuns → UnexpectedChecks → UnexpectedAnswers → RunsKeepMemory → ListsAnswer → StubStacksStand → RaisesAgree → BadIsDoomed
bad_is_doomed made runs checks answers keeps lists stands agree = record {
  calls_the_handler = λ i pick p e d type destructor kept j m st w h says free bases none named quiet some hidden fits.
      let raising : State = bad_state e st in
      let waiting : State = bad_doomed e st in
      let bad : ℕ = st.world.last_number + 1 in
      let all = thrown made checks answers keeps lists stands agree i pick p e d type destructor kept j st w h says free bases none in
      let slot : ℕ = all.0 in
      let q : Plan = with_object p bad slot in
      let t = all.2.at in
      let asks = doom_asks i pick p e slot (x w.hart sp) st w h.called t all.2.dooms_it named quiet in
      let two = handler_in_two p m raising waiting st.world.installed.terminate_handler (Enter bad ∷ []) (doomed_step p e st all.2.live none false quiet) quiet some refl in
      let rest = asks_begins (program_of i).image q h.called.number h.called.caller h.called.others waiting st.world.installed.terminate_handler t.at asks.0 (Enter bad ∷ []) asks.1 made runs m quiet some hidden (record { taken = fits.taken; room = fits.room }) in (
        steps_on (code_of p.unit) 7 2 st raising (in_handler p m waiting) (steps_to_throw i p e d type destructor kept j st w h says free) two.0,
        (same_beside (slot_kinds p m) waiting.world.calls 0 [] (ending_world waiting.world)).items ∙ ap (λ is. is ++ Enter bad ∷ []) (append_assoc st.world.items (Enter e ∷ []) (Make bad ∷ [])) ∙ append_assoc st.world.items (Enter e ∷ Make bad ∷ []) (Enter bad ∷ []),
        slot,
        all.1,
        record {
          turns = t.turns + rest.turns;
          few = omega (arith, t.few, rest.few);
          after = rest.after;
          runs = then_for (program_of i).image pick t.turns rest.turns w t.at rest.after (Enter e ∷ Make bad ∷ []) (Enter bad ∷ []) t.runs (turns_for (program_of i).image pick rest.turns t.at rest.after (Enter bad ∷ []) rest.runs);
          holds = rest.holds;
        },
      );
  aborts = λ i pick k p e d type destructor kept j st w h says free bases none named no_one many.
      let all = thrown made checks answers keeps lists stands agree i pick p e d type destructor kept j st w h says free bases none in
      let bad : ℕ = st.world.last_number + 1 in
      let slot : ℕ = all.0 in
      let t = all.2.at in
      abort_by made i pick k p e slot st w all.2 no_one many (steps_to_throw i p e d type destructor kept j st w h says free) none
      (λ quiet. let asks = doom_asks i pick p e slot (x w.hart sp) st w h.called t all.2.dooms_it named quiet in
      asks_aborts (program_of i).image (with_object p bad slot) h.called.number h.called.caller h.called.others (bad_doomed e st) st.world.installed.terminate_handler t.at asks.0 (Enter bad ∷ []) asks.1 made runs pick (k - t.turns) quiet
      (no_handler st.world st.world.installed.terminate_handler no_one quiet) (omega (arith, t.few, many)));
}
  where
    abort_by : CallsAreMade → (i : CleanImage) (pick : ℕ → ℕ) (k : ℕ) (p : Plan) (e slot : ℕ) (st : State) (w : abi.World) → (a : Thrown i pick p e slot (x w.hart sp) st w) → NoneIsCalled st.world st.world.installed.terminate_handler → 38 ≤ k →
        StepsTo (code_of p.unit) 7 st (bad_state e st) → NothingStops p bad_row (bad_state e st) → (st.world.ending ≡ false → RunEnds (program_of i).image pick (k - a.at.turns) a.at.at (Enter (st.world.last_number + 1) ∷ []) Aborted) →
        BothAbort (program_of i).image pick k p 10 st w (Enter e ∷ Make (st.world.last_number + 1) ∷ unless_ending st.world (Enter (st.world.last_number + 1) ∷ []))
    abort_by made i pick k p e slot st w a no_one many steps none first = by st.world.ending refl
      where
        image : Image
        image = (program_of i).image

        raising : State
        raising = bad_state e st

        bad : ℕ
        bad = st.world.last_number + 1

        doomed_world : World
        doomed_world = kept_in bad bad_row None raising.world

        t : AtThrow i pick p e slot (x w.hart sp) st w
        t = a.at

        shown : raising.world.items ≡ st.world.items ++ (Enter e ∷ Make bad ∷ [])
        shown = append_assoc st.world.items (Enter e ∷ []) (Make bad ∷ [])

        ends_with : (items : List Item) → LinearEnds p 3 raising items aborted → RunEnds image pick (k - t.turns) t.at items Aborted → BothAbort image pick k p 10 st w (Enter e ∷ Make bad ∷ items)
        ends_with items linear rest = record {
          last = linear.0;
          linear = exec_on (code_of p.unit) 7 3 st raising _ steps linear.1;
          shown = linear.2 ∙ ap (λ is. is ++ items) shown ∙ append_assoc st.world.items (Enter e ∷ Make bad ∷ []) items;
          run = then_ends image pick k t.turns w t.at (Enter e ∷ Make bad ∷ []) items t.runs (omega (arith, t.few, many)) Aborted rest;
        }

        l : Dooms i (with_object p bad slot) e st t.at t.behind
        l = a.dooms_it

        by : (b : Bool) → st.world.ending ≡ b → BothAbort image pick k p 10 st w (Enter e ∷ Make bad ∷ unless_ending st.world (Enter bad ∷ []))
        by true is = subst (λ items. BothAbort image pick k p 10 st w (Enter e ∷ Make bad ∷ items)) (sym (shown_again st.world (Enter bad ∷ []) is)) (ends_with []
            (over_at_once p raising doomed_world [] (doomed_step p e st a.live none true is) (sym (append-nil raising.world.items)))
            (aborts_again made image pick (k - t.turns) 0 5 l.handler t.at t.at l.again t.behind [] (no_turns image t.at) t.call.calls t.call.asks
            (l.effect (pick (t.at.last_number + 1)) ∙ ap (λ b. if b then terminates image.places l.handler l.again else terminates image.places l.handler l.to) (t.call.runtime.terminating ∙ is))
            (l.running ∙ (t.call.runtime.terminating ∙ is)) l.nothing (omega (arith, t.few, many))))
        by false is = subst (λ items. BothAbort image pick k p 10 st w (Enter e ∷ Make bad ∷ items)) (sym (shown_first st.world (Enter bad ∷ []) is)) (ends_with (Enter bad ∷ [])
            (over_without p raising st.world.installed.terminate_handler (raising.top ∷ raising.frames) (entered_doomed bad doomed_world) (Enter bad ∷ []) (doomed_step p e st a.live none false is) is
            (no_handler st.world st.world.installed.terminate_handler no_one is) refl)
            (first is))
