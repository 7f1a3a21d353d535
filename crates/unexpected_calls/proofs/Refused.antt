-- call_unexpected can't go on, and terminates with the handler in effect.
use Rattle.std.proofs.Common.{◌≡◌, ◌∙◌, refl, sym, ap, subst, arith, ℕ, ◌+◌, ◌<◌, ◌≤◌, Bool, true, false, pos, List, [], ◌∷◌, append-nil, length, slice_set, length-set, Option, Some, None}
use Rattle.std.specs.Prelude.{if◌then◌else◌, ◌&&◌}
use Rattle.std.proofs.lemmas.Bool.Decides.{nat_tests}
use Rattle.meaning_forms.specs.World.{Installed}
use Rattle.run_items.specs.declared.item.Item.TheVariants.{Enter}
use Rattle.rv64_isa.specs.Step.{x}
use Rattle.elf_image.specs.Clean.{CleanImage}
use Rattle.caught_stack.specs.declared.header.HeaderKind.TheVariants.{Building}
use Rattle.caught_stack.specs.Live.{slots, is_vacant, live_count}
use Rattle.caught_stack.specs.Exceptions.{Exceptions, IsSound}
use Rattle.caught_stack.proofs.Headers.{vacant_below, vacant_not_live, both_counts}
use Rattle.cxa_runtime.specs.Objects.{slot_for, first_vacant_from}
use Rattle.cxa_runtime.specs.Allocate.{made_in, new_header}
use Rattle.cxa_runtime.specs.World as abi
use Rattle.cxa_runtime.specs.Raising.{Image}
use Rattle.cxa_runtime.proofs.Changes.{full_gives_none}
use Rattle.eh_run.specs.Program.{program_of}
use Rattle.region_forms.specs.Caught.{holds_other}
use Rattle.region_forms.specs.Lives.{may_enter}
use Rattle.region_forms.specs.Unexpected.{made as made_world}
use Rattle.region_forms.specs.World.{World, Frame, flying, exception_at, address_word, object_address, with_slot}
use Rattle.region_forms.specs.Effect.{Effect, goes, terminates, only_where, is_foreign, entered, is_full}
use Rattle.linear_forms.specs.Activation.{Activation, State, Next, terminated}
use Rattle.linear_forms.specs.Machine.{step}
use Rattle.linear_forms.specs.Operation.{performed}
use Rattle.linear_forms.specs.UnitRun.{code_of}
use Rattle.machine_forms.specs.Registers.{sp, a0, a1}
use Rattle.machine_pieces.specs.Turning.{Turns}
use Rattle.machine_stubs.specs.Calls.{asked, CallsAreMade}
use Rattle.machine_stubs.specs.Terminate.{TerminateRuns}
use Rattle.machine_stubs.specs.CallUnexpected.{UnexpectedChecks, UnexpectedAnswers}
use Rattle.machine_simulation.specs.Plan.{Plan}
use Rattle.machine_simulation.specs.Matches.{MemoryMatches}
use Rattle.machine_simulation.proofs.Matching.{runtime_stays}
use Rattle.machine_simulation.proofs.Freeing.{beside_matches}
use Rattle.machine_exceptions.specs.Enters.{is_crowded}
use Rattle.machine_exceptions.proofs.Enters.{crowded_call}
use Rattle.machine_exceptions.proofs.Headers.{count_more}
use Rattle.machine_exceptions.proofs.Travels.{can_enter}
use Rattle.runtime_invariant.specs.Memory.{RunsKeepMemory}
use Rattle.unexpected_calls.specs.Lists.{ListsAnswer}
use Rattle.unexpected_calls.specs.Terminates.{NamesTerminate}
use Rattle.unexpected_calls.specs.Thrown.{ThrownOut, checked_state}
use Rattle.unexpected_calls.specs.Refused.{ForeignOut, entering_state, UnexpectedRefuses}
use Rattle.unexpected_calls.proofs.Sent.{Asks}
use Rattle.unexpected_calls.proofs.Ending.{then_handler, then_abort}
use Rattle.unexpected_calls.proofs.StackEnd.{stub_end}
use Rattle.unexpected_calls.proofs.Leaving.{rests_over, selector_held}
use Rattle.unexpected_calls.proofs.Thrown.{gets_flying, without_own, thrown_checked}
use Rattle.unexpected_calls.proofs.CheckSteps.{goes_on, number_is, steps_to_bad}
use Rattle.unexpected_calls.proofs.BadMade.{AtMake, allocate_is, at_make}
use Rattle.machine_pieces.specs.Keeping.{AreSmall}

-- ---- a foreign exception while another is handled

pub foreign_step : (p : Plan) (e d : ℕ) (st : State) → st.top.frame.slots 4 ≡ flying e d → may_enter st.world e ≡ true → is_crowded st.world e ≡ true → let waiting = entering_state st in
    step (code_of p.unit) waiting ≡ terminated st.world.installed.terminate_handler (waiting.top ∷ waiting.frames) waiting.world
foreign_step p e d st flies may crowded =
    let v : World = st.world in
    let a : Activation = (entering_state st).top in
    let does : Effect → Next = λ y. performed (code_of p.unit) y a st.frames v in
    let rest : Bool → Effect = λ b. if b then terminates v.installed.terminate_handler v else goes a.frame (entered e v) in
    ap (λ k. does (only_where (may_enter v k) (if is_foreign (exception_at v k) && holds_other k v.caught then terminates v.installed.terminate_handler v else goes a.frame (entered k v)))) (number_is st e d flies)
    ∙ ap (λ b. does (only_where b (rest (is_crowded v e)))) may ∙ ap (λ b. does (rest b)) crowded

-- the ECALL that would enter it
pub record AtEnter (image : Image) (p : Plan) (n : ℕ) (st : State) (w : abi.World) : Type 0 where
  pub caller : Activation
  pub others : List Activation
  pub turns : ℕ
  pub few : turns ≤ 7
  pub at : abi.World
  pub runs : Turns image turns w at []
  pub outer : ℕ
  pub asks : Asks image p n caller others (entering_state st) st.world.installed.terminate_handler at outer []

pub at_enter : UnexpectedChecks → (image : Image) (p : Plan) (e d : ℕ) (st : State) (w : abi.World) → (h : ForeignOut p e d st w) → NamesTerminate image p → AtEnter image p h.called.number st w
at_enter checks image p e d st w h named =
    let v : World = st.world in
    let c = h.called in
    let low : ℕ = x w.hart sp in
    let o = rests_over p 13 st w c h.rests.rests in
    let gets = gets_flying p v (st.top.frame.slots 4) e d (x w.hart a0) h.flies h.rests.gets in
    let selector : x w.hart a1 ≡ 1 = selector_held p st w h.rests (pos 1) h.selector in
    let come = checks.enters image p.unit p.base (x w.hart a0) w o.stands refl gets.1 (λ zero. absurd (omega (arith, zero, selector))) in
    let r = come.holds in
    let run = runtime_stays p st.frames v w come.after r.kept.runtime (without_own p st w h.rests.rests.runs h.rests.rests.runtime) in
    let floor = o.over.stands.above in
    let held = beside_matches p c.number c.caller.frame c.others v w.hart.memory r.behind.memory (low + 80) o.over.outer low 80 o.over.matches (record { low = omega (arith, floor); high = omega arith }) r.kept.beside in
    record {
      caller = c.caller;
      others = c.others;
      turns = come.turns;
      few = come.few;
      at = come.after;
      runs = come.runs;
      outer = o.over.outer;
      asks = record {
        number = 6;
        behind = r.behind;
        calls = r.calls;
        asks = r.asks;
        registers = r.stands.registers;
        handler = come.after.terminate_handler;
        is = run.exceptions.terminate_handler;
        to = asked r.behind come.after;
        effect = λ wish. crowded_call image p st e r.behind come.after run.exceptions (can_enter st.frames v e h.may h.defined) h.crowded (r.holds.0 ∙ gets.0) wish;
        same = refl;
        unwinding = refl;
        shown = refl;
        memory = subst (λ a. MemoryMatches p c.number c.caller.frame c.others v r.behind.memory (a + 80) o.over.outer) (sym r.pointer) held;
        high = omega (arith, r.pointer, floor);
        small = subst AreSmall (sym r.variables) o.over.registers.small;
        end = omega (arith, r.pointer, stub_end p st.frames v w.hart.memory low h.rests.rests.back h.rests.rests.memory);
        runtime = record { input = run.input; replies = run.replies; last_number = run.last_number; terminating = run.terminating; exceptions = run.exceptions; plan = run.plan };
        named = named;
      };
    }

-- ---- as many exceptions are live as can be

-- none is given, whichever is wished for
none_given : (e : Exceptions) (wish : ℕ) → IsSound e → live_count e.live ≡ slots → slot_for e.live wish ≡ None
none_given e wish sound full = by (is_vacant e.live wish) refl
  where
    by : (b : Bool) → is_vacant e.live wish ≡ b → slot_for e.live wish ≡ None
    by false is = ap (λ b. if b then Some wish else first_vacant_from 0 e.live) is ∙ full_gives_none e sound full
    by true is =
        let low : wish < length e.live = omega (arith, vacant_below e.live wish is, sound.slots) in
        let more = count_more e.live wish (new_header 0 Building) low (vacant_not_live e.live wish is) in
        let all = both_counts (slice_set e.live wish (Some (new_header 0 Building))) in
        absurd (omega (arith, more, all, full, sound.slots, length-set e.live wish (Some (new_header 0 Building))))

pub full_step : (p : Plan) (e : ℕ) (st : State) → is_full st.world ≡ true → let waiting = checked_state 11 e (pos 1) st in
    step (code_of p.unit) waiting ≡ terminated st.world.installed.terminate_handler (waiting.top ∷ waiting.frames) waiting.world
full_step p e st full =
    let waiting : State = checked_state 11 e (pos 1) st in
    let v : World = waiting.world in
    let a : Activation = waiting.top in
    let frame : Frame = with_slot 7 (address_word (object_address (st.world.last_number + 1))) a.frame in
    ap (λ b. performed (code_of p.unit) (if b then terminates v.installed.terminate_handler v else goes frame (made_world v)) a st.frames v) full

pub full_asks : (i : CleanImage) (p : Plan) (e d type : ℕ) (destructor : Option ℕ) (kept : Installed) (j : ℕ) (st : State) (w : abi.World) → (h : ThrownOut i p e d type destructor kept j st w) → is_full st.world ≡ true → NamesTerminate (program_of i).image p →
    (c : AtMake i p e h.called.number h.rests.rests.back h.called.caller h.called.others st w) → Asks (program_of i).image p h.called.number h.called.caller h.called.others (checked_state 11 e (pos 1) st) st.world.installed.terminate_handler c.at c.over.outer []
full_asks i p e d type destructor kept j st w h full named c =
    let image : Image = (program_of i).image in
    let t : abi.World = asked c.behind c.at in
    let r = c.runtime in
    let m = r.exceptions in
    let many : 1024 ≤ length st.world.live = grind (arith, nat_tests, full) in
    let all : live_count c.at.exceptions.live ≡ slots = omega (arith, many, m.count, m.sound.slots, both_counts c.at.exceptions.live) in
    record {
      number = 3;
      behind = c.behind;
      calls = c.calls;
      asks = c.asks;
      registers = c.stands.registers;
      handler = c.at.terminate_handler;
      is = m.terminate_handler;
      to = t;
      effect = λ wish. allocate_is image wish t ∙ ap (made_in image.places t) (none_given c.at.exceptions wish m.sound all);
      same = refl;
      unwinding = refl;
      shown = refl;
      memory = c.over.matches;
      high = c.over.stands.above;
      small = c.over.registers.small;
      end = omega (arith, c.pointer, stub_end p st.frames st.world w.hart.memory (x w.hart sp) h.rests.rests.back h.rests.rests.memory);
      runtime = record { input = r.input; replies = r.replies; last_number = r.last_number; terminating = r.terminating; exceptions = r.exceptions; plan = r.plan };
      named = named;
    }

-- ---- both

pub unexpected_refuses : CallsAreMade → TerminateRuns → UnexpectedChecks → UnexpectedAnswers → RunsKeepMemory → ListsAnswer → UnexpectedRefuses
unexpected_refuses made runs checks answers keeps lists = record {
  foreign_calls = λ image p e d m st w h named quiet some hidden fits.
      let c = at_enter checks image p e d st w h named in
      then_handler made runs image p h.called.number 1 c.turns 7 c.caller c.others st (entering_state st) st.world.installed.terminate_handler w c.at c.outer [] (entering_state st, goes_on p st h.rests.rests.runs h.rests.place h.selector, refl)
      (foreign_step p e d st h.flies h.defined h.crowded) (sym (append-nil st.world.items)) c.runs c.few c.asks m quiet some hidden fits;
  foreign_aborts = λ image pick k p e d st w h named none many.
      let c = at_enter checks image p e d st w h named in
      then_abort made runs image p h.called.number 1 c.turns 7 c.caller c.others st (entering_state st) st.world.installed.terminate_handler w c.at c.outer [] (entering_state st, goes_on p st h.rests.rests.runs h.rests.place h.selector, refl)
      (foreign_step p e d st h.flies h.defined h.crowded) (sym (append-nil st.world.items)) c.runs c.few c.asks pick k none many;
  full_calls = λ i p e d type destructor kept j m st w h says full named quiet some hidden fits.
      let q = h.called in
      let c = at_make answers keeps i p e q.number h.rests.rests.back q.caller q.others st w (thrown_checked made checks keeps lists i p e d type destructor kept j 1 st w h says) in
      then_handler made runs (program_of i).image p q.number 5 c.turns 22 q.caller q.others st (checked_state 11 e (pos 1) st) st.world.installed.terminate_handler w c.at c.over.outer (Enter e ∷ []) (steps_to_bad i p e d type destructor kept j st w h says)
      (full_step p e st full) refl c.runs c.few (full_asks i p e d type destructor kept j st w h full named c) m quiet some hidden fits;
  full_aborts = λ i pick k p e d type destructor kept j st w h says full named none many.
      let q = h.called in
      let c = at_make answers keeps i p e q.number h.rests.rests.back q.caller q.others st w (thrown_checked made checks keeps lists i p e d type destructor kept j 1 st w h says) in
      then_abort made runs (program_of i).image p q.number 5 c.turns 22 q.caller q.others st (checked_state 11 e (pos 1) st) st.world.installed.terminate_handler w c.at c.over.outer (Enter e ∷ []) (steps_to_bad i p e d type destructor kept j st w h says)
      (full_step p e st full) refl c.runs c.few (full_asks i p e d type destructor kept j st w h full named c) pick k none many;
}
