-- The unexpected handler comes back: the program terminates.
use Rattle.std.proofs.Common.{◌≡◌, ◌∙◌, refl, sym, ap, subst, arith, ℕ, ◌+◌, ◌-◌, ◌^◌, ◌<◌, ◌≤◌, false, List, [], ◌∷◌, ◌++◌, append-nil, length, Option, Some, inl, inr}
use Rattle.std.specs.Prelude.{◌⊎◌}
use Rattle.meaning_forms.specs.Class.{contains}
use Rattle.meaning_forms.specs.World.{Installed}
use Rattle.rv64_isa.specs.State.{State, Part}
use Rattle.rv64_isa.specs.Step.{x}
use Rattle.cxa_runtime.specs.World as abi
use Rattle.cxa_runtime.specs.Raising.{Image}
use Rattle.region_forms.specs.World.{of_exception, World, Exception, native, exception_of, exception_in_slot, exception_at}
use Rattle.region_forms.specs.Unexpected.{kept_with}
use Rattle.region_forms.specs.Effect.{finished}
use Rattle.linear_forms.specs.Stub.{Function, compiled, end_catch, terminating, call_unexpected}
use Rattle.linear_forms.specs.Activation.{Activation, State as LinearState, goes_to, fetch, kinds, terminated}
use Rattle.linear_forms.specs.Machine.{step}
use Rattle.linear_forms.specs.Operation.{settled, wanted_by}
use Rattle.linear_forms.specs.UnitRun.{code_of}
use Rattle.machine_forms.specs.Registers.{sp}
use Rattle.machine_pieces.specs.Frames.{AddressAt}
use Rattle.machine_pieces.specs.Turning.{Reaches}
use Rattle.machine_pieces.proofs.Turning.{turns_then, executes_turns}
use Rattle.machine_stubs.specs.Calls.{CallsAreMade}
use Rattle.machine_stubs.specs.Terminate.{TerminateRuns}
use Rattle.machine_stubs.specs.CallUnexpected.{UnexpectedBegins, stopped_slot}
use Rattle.machine_stubs.specs.Stretches.{StubAt, stub_word, frame_size, Room, Stands as StubStands}
use Rattle.machine_simulation.specs.Plan.{Plan, shape, slot_kinds}
use Rattle.machine_simulation.specs.StubCalls.{DestructorWaits, UnexpectedWaits, LeavingWaits, StubStands as StubFrame}
use Rattle.machine_simulation.specs.Calls.{CallsWait, frame_of, open_bytes}
use Rattle.machine_simulation.specs.Exceptions.{addresses_of, exceptions_in, kept_by, destroyed_by, destroyed, ExceptionsMatch}
use Rattle.machine_simulation.specs.Matches.{MemoryMatches, Matches}
use Rattle.machine_simulation.specs.Returns.{closed}
use Rattle.machine_simulation.specs.Objects.{Shows}
use Rattle.machine_simulation.proofs.Words.{even_base}
use Rattle.machine_simulation.proofs.Matching.{Stands, stands_by, runtime_stays}
use Rattle.machine_simulation.proofs.Closing.{popped_to, plan_popped, destroyed_nothing}
use Rattle.machine_simulation.proofs.Freeing.{beside_matches}
use Rattle.machine_simulation.proofs.Calling.{stack_at}
use Rattle.machine_simulation.proofs.Given.{same_beside}
use Rattle.machine_simulation.proofs.Returning.{call_waits, comes_back}
use Rattle.machine_exceptions.specs.Leaves.{StepsTo}
use Rattle.machine_exceptions.specs.Terminates.{ending_world, in_handler}
use Rattle.machine_exceptions.proofs.Enters.{exception_is}
use Rattle.machine_exceptions.proofs.EndCatching.{room_below}
use Rattle.machine_exceptions.proofs.DestructorsEnd.{CameBack, returns_value}
use Rattle.raise_ends.specs.Ends.{NoneIsCalled, HandlerFits, plan_in_handler}
use Rattle.raise_ends.proofs.Steps.{handler_in_two}
use Rattle.unexpected_calls.specs.Terminates.{BothAbort, NamesTerminate, HandlerReturns, came_back, UnexpectedTerminates}
use Rattle.unexpected_calls.proofs.Sent.{AsksFor, for_aborts, for_begins, reaches_most}
use Rattle.unexpected_calls.proofs.Steps.{exec_on}
use Rattle.unexpected_calls.proofs.Without.{linear_ends, calls_without, aborts_without}
use Rattle.machine_pieces.specs.Keeping.{saved_of, AreSmall}
use Rattle.machine_simulation.specs.Entering.{entry_turns}
use Rattle.machine_simulation.proofs.KeptClosed.{before_small}
use Rattle.machine_forms.specs.LinearCode.{linear_code}
use Rattle.linear_forms.specs.Linear.{return}

-- ---- call_unexpected waits for the handler

pub record HandlerAwaited (p : Plan) (waiting : Activation) (fs : List Activation) (v : World) (memory : List Part) (stack back limit : ℕ) : Type 0 where
  pub outer : ℕ
  pub stands : StubFrame p call_unexpected memory stack outer
  pub waits : UnexpectedWaits p waiting v memory stack back
  pub rest : CallsWait p fs v memory (stack + 80) outer limit

pub handler_awaited : (p : Plan) (waiting : Activation) (fs : List Activation) (v : World) (memory : List Part) (stack back limit : ℕ) → waiting.function ≡ call_unexpected → waiting.place ≡ 1 → CallsWait p (waiting ∷ fs) v memory stack back limit →
    HandlerAwaited p waiting fs v memory stack back limit
handler_awaited p waiting fs v memory stack back limit stub place (inl h) = absurd (let both : compiled h.1 ≡ call_unexpected = sym h.3.callee ∙ stub in cc both)
handler_awaited p waiting fs v memory stack back limit stub place (inr (inl h)) = by h.1.waits
  where
    by : DestructorWaits p waiting v memory stack back ⊎ UnexpectedWaits p waiting v memory stack back ⊎ LeavingWaits p waiting v memory stack back → HandlerAwaited p waiting fs v memory stack back limit
    by (inl w) = absurd (let both : end_catch ≡ call_unexpected = sym w.callee ∙ stub in cc both)
    by (inr (inl w)) = record {
      outer = h.0;
      stands = subst (λ f. StubFrame p f memory stack h.0) stub h.1.stands;
      waits = w;
      rest = subst (λ f. CallsWait p fs v memory (stack + frame_size f) h.0 limit) stub h.2;
    }
    by (inr (inr w)) = absurd (later w.returns)
      where
        later : ((waiting.place ≡ 15) × (back ≡ stub_word p.base call_unexpected 55)) ⊎ ((waiting.place ≡ 16) × (back ≡ stub_word p.base call_unexpected 57)) → ⊥
        later (inl y) = omega (arith, place, y.0)
        later (inr y) = omega (arith, place, y.0)
handler_awaited p waiting fs v memory stack back limit stub place (inr (inr h)) = absurd (let both : terminating ≡ call_unexpected = sym h.0.callee ∙ stub in cc both)

-- ---- the machine for linear code

pub back_step : (p : Plan) (n : ℕ) (r : Option ℕ) (waiting a : Activation) (fs : List Activation) (st : LinearState) → CameBack p n st waiting (a ∷ fs) r → waiting.function ≡ call_unexpected → waiting.place ≡ 1 →
    step (code_of p.unit) st ≡ goes_to (came_back waiting a fs st)
back_step p n r waiting a fs st c stub place =
    let op : fetch (code_of p.unit) waiting.function waiting.place ≡ fetch (code_of p.unit) call_unexpected 1 = ap (λ f. fetch (code_of p.unit) f waiting.place) stub ∙ ap (fetch (code_of p.unit) call_unexpected) place in
    let to : ℕ → LinearState = λ k. record { top = record { function = waiting.function; place = k; frame = waiting.frame }; frames = a ∷ fs; world = st.world } in
    c.step ∙ ap (λ o. settled (finished (kinds (code_of p.unit) waiting.function) (wanted_by o) c.value waiting.frame st.world) waiting (a ∷ fs) st.world) op
    ∙ ap (λ k. goes_to (to (k + 1))) place

pub terminates_behind : (p : Plan) (n m e : ℕ) (r : Option ℕ) (type : ℕ) (d : Option ℕ) (kept : Installed) (waiting a : Activation) (fs : List Activation) (st middle : LinearState) → HandlerReturns p n m e r type d kept waiting a fs st middle →
    let back = came_back waiting a fs st in step (code_of p.unit) back ≡ terminated kept.terminate_handler (back.top ∷ back.frames) back.world
terminates_behind p n m e r type d kept waiting a fs st middle h =
    let v : World = st.world in
    let at : Function → LinearState = λ f. record { top = record { function = f; place = 2; frame = waiting.frame }; frames = a ∷ fs; world = v } in
    let own : LinearState = at call_unexpected in
    let number : exception_in_slot waiting.frame 0 ≡ e = ap exception_of h.object in
    let y : Exception = native type d kept in
    ap (λ f. step (code_of p.unit) (at f)) h.stub ∙ ap (λ f. terminated (kept_with (exception_at v f)).terminate_handler (own.top ∷ own.frames) v) number
    ∙ ap (λ k. terminated (kept_with k).terminate_handler (own.top ∷ own.frames) v) (exception_is v.live e y h.native)
    ∙ ap (λ f. terminated kept.terminate_handler ((at f).top ∷ a ∷ fs) v) (sym h.stub)

-- ---- the ABI machine

few_both : (a b c d : ℕ) → a ≤ c → b ≤ d → a + b ≤ c + d
few_both a b c d h i = omega (arith, h, i)

pub asks_behind : UnexpectedBegins → (image : Image) (p : Plan) (n m e : ℕ) (r : Option ℕ) (type : ℕ) (d : Option ℕ) (kept : Installed) (waiting a : Activation) (fs : List Activation) (st middle : LinearState) (w : abi.World) (back : ℕ) → Stands p n st w back →
    HandlerReturns p n m e r type d kept waiting a fs st middle → NamesTerminate image p → (outer : ℕ) × AsksFor image (closed p a.frame.call) m e kept a fs (came_back waiting a fs st) w outer (length (linear_code (shape p n) (return r)) + 2) []
asks_behind begins image p n m e r type d kept waiting a fs st middle w back stood h named =
    let v : World = st.world in
    let s : State = w.hart in
    let to : LinearState = came_back waiting a fs st in
    let below : List Activation = to.top ∷ to.frames in
    let mid : ℕ = x s sp + (shape p n).size in
    let went = returns_value p n st middle waiting (a ∷ fs) r h.at.runs h.at.there h.at.step h.frames in
    let hw = handler_awaited p waiting (a ∷ fs) v s.memory mid back st.top.frame.call h.stub h.place (subst (λ gs. CallsWait p gs v s.memory mid back st.top.frame.call) h.frames stood.memory.waiting) in
    let even = even_base p s.memory stood.memory.unit in
    let back_is : back ≡ stub_word p.base call_unexpected 10 = hw.waits.returns in
    let small : stub_word p.base call_unexpected 10 < 2 ^ 64 = omega (arith, stood.memory.unit.stubs.call_unexpected.0.word.below, stood.memory.unit.few) in
    let gave = comes_back p n st w back r went.value stood h.at.there h.result went.value_is (omega (arith, back_is, even)) (omega (arith, back_is, small)) in
    let ran = executes_turns image gave.steps w s gave.after refl gave.runs in
    let w1 : abi.World = ran.after in
    let memory1 : w1.hart.memory ≡ s.memory = ap (λ (u : State). u.memory) ran.hart ∙ gave.memory in
    let stack1 : x w1.hart sp ≡ mid = ap (λ (u : State). x u sp) ran.hart ∙ gave.stack in
    let number : hw.waits.stopped.number ≡ e = sym (ap exception_of hw.waits.stopped.is) ∙ ap exception_of h.object in
    let stopped : AddressAt w1.hart.memory (x w1.hart sp + stopped_slot) (p.at (of_exception e))
    = subst (λ ps. AddressAt ps (x w1.hart sp + stopped_slot) (p.at (of_exception e))) (sym memory1) (subst (λ k. AddressAt s.memory (k + stopped_slot) (p.at (of_exception e))) (sym stack1)
    (subst (λ k. AddressAt s.memory (mid + stopped_slot) (p.at (of_exception k))) number hw.waits.stopped.there)) in
    let c = call_waits p m a fs v s.memory (mid + 80) hw.outer st.top.frame.call h.caller hw.rest in
    let high : 0x7000_1000 ≤ mid + 80 = hw.stands.above in
    let stands : StubStands p.unit p.base call_unexpected 10 (x w1.hart sp) 80 w1.hart = record {
      pc = ap (λ (u : State). u.pc) ran.hart ∙ gave.pc ∙ back_is;
      registers = ap (λ (u : State). length u.regs) ran.hart ∙ gave.registers;
      code = subst (StubAt p.unit p.base call_unexpected) (sym memory1) stood.memory.unit.stubs.call_unexpected;
      room = subst (λ k. Room k 80 w1.hart.memory) (omega (arith, stack1))
          (subst (Room (mid + 80 - 80) 80) (sym memory1) (room_below s.memory (mid + 80) 80 stood.memory.may (omega (arith, high)) (omega (arith, hw.stands.below)) (omega (arith, hw.stands.saved.aligned)) refl));
    } in
    let come = begins.terminates_behind image p.unit p.base (p.at (of_exception e)) w1 stands stopped in
    let y = come.holds in
    let q : Plan = closed p a.frame.call in
    let held1 = popped_to p n m st.top.frame st.frames a fs v s.memory (x s sp) back (mid + 80) c.outer stood.memory c.less c.waits.stands c.rest in
    let held2 : MemoryMatches q m a.frame fs v w1.hart.memory (x w1.hart sp + 80) c.outer
    = subst (λ ps. MemoryMatches q m a.frame fs v ps (x w1.hart sp + 80) c.outer) (sym memory1) (subst (λ k. MemoryMatches q m a.frame fs v s.memory (k + 80) c.outer) (sym stack1) held1) in
    let held3 = beside_matches q m a.frame fs v w1.hart.memory y.behind.memory (x w1.hart sp + 80) c.outer (x w1.hart sp) 80 held2
    (record { low = omega (arith, stack1, high); high = omega arith }) y.kept.beside in
    let small_regs = before_small p n st.top.frame v s.memory (x s sp) (saved_of s) stood.kept.before stood.kept.top stood.kept.small refl in
    let r2 = runtime_stays p st.frames v w1 come.after y.kept.runtime (runtime_stays p st.frames v w w1 ran.runtime stood.runtime) in
    let out : destroyed below ≡ destroyed fs = ap (λ f. destroyed_by f waiting.frame ++ destroyed (a ∷ fs)) h.stub ∙ ap (λ ds. ds ++ destroyed fs) (destroyed_nothing p m a h.caller) in (
      c.outer,
      record {
        turns = gave.steps + come.turns;
        few = few_both gave.steps come.turns (length (linear_code (shape p n) (return r))) 2 gave.most come.few;
        at = come.after;
        runs = turns_then image gave.steps come.turns w w1 come.after [] [] ran.turns come.runs;
        behind = y.behind;
        calls = y.calls;
        asks = y.asks;
        registers = y.stands.registers;
        given = y.holds;
        memory = subst (λ k. MemoryMatches q m a.frame fs v y.behind.memory (k + 80) c.outer) (sym y.pointer) held3;
        high = omega (arith, y.pointer, stack1, high);
        small = subst AreSmall (sym (y.variables ∙ ap saved_of ran.hart ∙ gave.saved)) small_regs.0;
        end = omega (arith, y.pointer, stack1, stack_at p n st w back stood, ap (frame_of p.unit p.hidden) stood.runs, ap (λ gs. open_bytes p gs) h.frames);
        runtime = record {
          input = r2.input;
          replies = r2.replies;
          last_number = r2.last_number;
          terminating = r2.terminating;
          exceptions = subst (λ gs. ExceptionsMatch (addresses_of p) (destroyed gs) (exceptions_in v) (kept_by come.after)) h.frames r2.exceptions;
          plan = plan_popped p a.frame.call v.live r2.plan;
        };
        type = type;
        destructor = d;
        live = h.native;
        whole = ap (λ ds. contains ds e) out ∙ h.whole;
        named = named;
      },
    )

-- ---- both

calls_behind : CallsAreMade → TerminateRuns → UnexpectedBegins → (image : Image) (p : Plan) (n c e : ℕ) (r : Option ℕ) (type : ℕ) (d : Option ℕ) (kept : Installed) (m : ℕ) (waiting a : Activation) (fs : List Activation) (st middle : LinearState) (w : abi.World) →
    Matches p st w → HandlerReturns p n c e r type d kept waiting a fs st middle → NamesTerminate image p → st.world.ending ≡ false → kept.terminate_handler ≡ Some m → p.hidden ≡ 0 → let back = came_back waiting a fs st in HandlerFits p m back →
    let next = in_handler p m back in StepsTo (code_of p.unit) 3 st next × Shows st next [] × Reaches image (length (linear_code (shape p n) (return r)) + 9 + entry_turns p m) w [] (λ u. Matches (plan_in_handler (closed p a.frame.call) m back) next u)
calls_behind made runs begins image p n c e r type d kept m waiting a fs st middle w h at named quiet some hidden fits =
    let to : LinearState = came_back waiting a fs st in
    let stood = stands_by p n st w h at.at.runs in
    let went = returns_value p n st middle waiting (a ∷ fs) r at.at.runs at.at.there at.at.step at.frames in
    let two = handler_in_two p m to to kept.terminate_handler [] (terminates_behind p n c e r type d kept waiting a fs st middle at) quiet some (sym (append-nil to.world.items)) in
    let asks = asks_behind begins image p n c e r type d kept waiting a fs st middle w h.back stood at named in (
      (to, back_step p n r waiting a fs st went at.stub at.place, two.0),
      (same_beside (slot_kinds p m) to.world.calls 0 [] (ending_world to.world)).items ∙ sym (append-nil st.world.items),
      reaches_most image (length (linear_code (shape p n) (return r)) + 2 + 7 + entry_turns p m) (length (linear_code (shape p n) (return r)) + 9 + entry_turns p m) w [] (λ u. Matches (plan_in_handler (closed p a.frame.call) m to) (in_handler p m to) u) (omega arith)
          (for_begins image (closed p a.frame.call) c e kept a fs to w asks.0 (length (linear_code (shape p n) (return r)) + 2) [] asks.1 made runs m quiet some hidden (record { taken = fits.taken; room = fits.room })),
    )

aborts_behind : CallsAreMade → TerminateRuns → UnexpectedBegins → (image : Image) (pick : ℕ → ℕ) (k : ℕ) (p : Plan) (n c e : ℕ) (r : Option ℕ) (type : ℕ) (d : Option ℕ) (kept : Installed) (waiting a : Activation) (fs : List Activation) (st middle : LinearState)
    (w : abi.World) → Matches p st w → HandlerReturns p n c e r type d kept waiting a fs st middle → NamesTerminate image p → NoneIsCalled st.world kept.terminate_handler → length (linear_code (shape p n) (return r)) + 10 ≤ k → BothAbort image pick k p 4 st w []
aborts_behind made runs begins image pick k p n c e r type d kept waiting a fs st middle w h at named no_one many =
    let to : LinearState = came_back waiting a fs st in
    let stood = stands_by p n st w h at.at.runs in
    let went = returns_value p n st middle waiting (a ∷ fs) r at.at.runs at.at.there at.at.step at.frames in
    let ends = linear_ends p to kept.terminate_handler (to.top ∷ to.frames) to.world (terminates_behind p n c e r type d kept waiting a fs st middle at) refl no_one in
    let asks = asks_behind begins image p n c e r type d kept waiting a fs st middle w h.back stood at named in
    record {
      last = ends.0;
      linear = exec_on (code_of p.unit) 1 3 st to _ (to, back_step p n r waiting a fs st went at.stub at.place, refl) ends.1;
      shown = ends.2;
      run = for_aborts image (closed p a.frame.call) c e kept a fs to w asks.0 (length (linear_code (shape p n) (return r)) + 2) [] asks.1 made runs pick k no_one (omega (arith, many));
    }

pub unexpected_terminates : CallsAreMade → TerminateRuns → UnexpectedBegins → UnexpectedTerminates
unexpected_terminates made runs begins = record {
  calls_without = calls_without made runs begins;
  aborts_without = aborts_without made runs begins;
  calls_behind = calls_behind made runs begins;
  aborts_behind = aborts_behind made runs begins;
}
