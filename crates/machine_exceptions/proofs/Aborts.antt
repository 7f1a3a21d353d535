-- The run aborts: no handler is called, or the handler comes back.
use Rattle.std.proofs.Common.{◌≡◌, ◌∙◌, refl, sym, ap, subst, arith, ℕ, ◌+◌, ◌-◌, ◌≤◌, Bool, true, false, List, [], ◌∷◌, length, Option, Some, None, is_some, inl, inr}
use Rattle.std.specs.Prelude.{◌⊎◌, if◌then◌else◌}
use Rattle.meaning_forms.specs.Outcome.{aborted}
use Rattle.rv64_isa.specs.State.{State, Part}
use Rattle.rv64_isa.specs.Step.{x}
use Rattle.cxa_runtime.specs.World as abi
use Rattle.cxa_runtime.specs.Raising.{Image}
use Rattle.cxa_runtime.specs.Run.{Ran, run}
use Rattle.region_forms.specs.World.{World, nothing}
use Rattle.linear_forms.specs.Linear.{return}
use Rattle.linear_forms.specs.Stub.{Function, compiled, terminating, end_catch, call_unexpected}
use Rattle.linear_forms.specs.Activation.{Activation, State as LinearState, Next, at as linear_at, finishes, by_program, stub_frame, function_word, goes_to}
use Rattle.linear_forms.specs.Machine.{step, go_on, exec}
use Rattle.linear_forms.specs.Operation.{returned_with}
use Rattle.linear_forms.specs.UnitRun.{code_of}
use Rattle.machine_forms.specs.Registers.{sp}
use Rattle.machine_forms.specs.LinearCode.{linear_code}
use Rattle.machine_pieces.specs.Turning.{Turns, with_items}
use Rattle.machine_pieces.specs.Laws.{CallsAreTurns}
use Rattle.machine_pieces.proofs.Turning.{executes_turns}
use Rattle.machine_stubs.specs.Stretches.{StubAt}
use Rattle.machine_stubs.specs.Calls.{asked}
use Rattle.machine_stubs.specs.Terminates as stubs
use Rattle.machine_stubs.specs.Terminates.{CallsTerminate}
use Rattle.machine_stubs.specs.Terminate.{TerminateRuns}
use Rattle.machine_simulation.specs.Plan.{Plan, shape}
use Rattle.machine_simulation.specs.StubCalls.{DestructorWaits, UnexpectedWaits, LeavingWaits, TerminateWaits}
use Rattle.machine_simulation.specs.Calls.{CallsWait}
use Rattle.machine_simulation.specs.Exceptions.{Addresses, addresses_of, IsFunction}
use Rattle.machine_simulation.specs.Matches.{Matches}
use Rattle.machine_simulation.specs.Steps.{StepAt}
use Rattle.machine_simulation.specs.Returns.{ResultStands}
use Rattle.machine_simulation.proofs.Words.{even_base}
use Rattle.machine_simulation.proofs.Matching.{Stands, stands_by}
use Rattle.machine_simulation.proofs.Returning.{comes_back}
use Rattle.machine_exceptions.specs.Terminates.{AtTerminating, RunAborts, LinearAborts}
use Rattle.machine_exceptions.proofs.DestructorsEnd.{CameBack, returns_value}
use Rattle.machine_exceptions.proofs.Terminating.{terminating_step}
use Rattle.machine_exceptions.proofs.Terminates.{called}

-- ---- behind turns that show nothing

aborts_later : (image : Image) (pick : ℕ → ℕ) (k n : ℕ) (w v : abi.World) → Turns image n w v [] → n ≤ k → RunAborts image pick (k - n) v → RunAborts image pick k w
aborts_later image pick k n w v runs few rest =
    let whole : n + (k - n) ≡ k = omega (arith, few) in
    let same : run image pick k w ≡ with_items [] (run image pick (k - n) v) = ap (λ m. run image pick m w) (sym whole) ∙ runs.run pick (k - n) in
    (ap (λ (r : Ran). r.items) same ∙ rest.0, ap (λ (r : Ran). r.end) same ∙ rest.1)

-- ---- no handler is called

no_handler : (t : Addresses) (h : Option ℕ) (a : ℕ) → h ≡ None → IsFunction t h a → a ≡ 0
no_handler t h a is f = subst (λ k. IsFunction t k a) is f

linear_aborts : (image : Image) (p : Plan) (n : ℕ) (st : LinearState) → AtTerminating image p n st → (st.world.ending ≡ true) ⊎ (st.world.installed.terminate_handler ≡ None) → LinearAborts p 3 st
linear_aborts image p n st at none = by none st.world.ending refl
  where
    after_step : (b : Bool) → Next
    after_step b =
        if b then finishes (by_program aborted) st.world
        else linear_at terminating 0 (stub_frame (function_word st.world.installed.terminate_handler) nothing nothing) (st.top ∷ st.frames) (record st.world { ending = is_some st.world.installed.terminate_handler })

    first : (b : Bool) → st.world.ending ≡ b → step (code_of p.unit) st ≡ after_step b
    first b is = terminating_step image p n st at ∙ ap after_step is

    running : st.world.ending ≡ true → LinearAborts p 3 st
    running is = (st.world, ap (go_on (exec (code_of p.unit) 2)) (first true is), refl)

    by : (st.world.ending ≡ true) ⊎ (st.world.installed.terminate_handler ≡ None) → (b : Bool) → st.world.ending ≡ b → LinearAborts p 3 st
    by (inl is) b same = running is
    by (inr none) true same = running same
    by (inr none) false same =
        let behind : Option ℕ → Next = λ h. linear_at terminating 0 (stub_frame (function_word h) nothing nothing) (st.top ∷ st.frames) (record st.world { ending = is_some h }) in
        (record st.world { ending = false }, ap (go_on (exec (code_of p.unit) 2)) (first false same ∙ ap behind none), refl)

pub aborts : CallsAreTurns → CallsTerminate → (image : Image) (pick : ℕ → ℕ) (k : ℕ) (p : Plan) (n : ℕ) (st : LinearState) (w : abi.World) → Matches p st w → (at : AtTerminating image p n st) →
    (st.world.ending ≡ true) ⊎ (st.world.installed.terminate_handler ≡ None) → length (linear_code (shape p n) at.operation) + 10 ≤ k → LinearAborts p 3 st × RunAborts image pick k w
aborts turns laws image pick k p n st w h at none many =
    let stood = stands_by p n st w h at.runs in
    let c = called turns image p n st w h.back stood at in
    (linear_aborts image p n st at none, aborts_later image pick k c.turns w c.at c.runs (omega (arith, c.few, many)) (by none st.world.ending refl))
  where
    by : (st.world.ending ≡ true) ⊎ (st.world.installed.terminate_handler ≡ None) → (b : Bool) → st.world.ending ≡ b →
        let c = called turns image p n st w h.back (stands_by p n st w h at.runs) at in RunAborts image pick (k - c.turns) c.at
    by (inl is) b same =
        let c = called turns image p n st w h.back (stands_by p n st w h at.runs) at in
        laws.aborts_again image pick (k - c.turns) c.number c.at.terminate_handler c.at (asked c.behind c.at) c.calls (c.runtime.terminating ∙ is) (omega (arith, c.few, many))
    by (inr gone) true same =
        let c = called turns image p n st w h.back (stands_by p n st w h at.runs) at in
        laws.aborts_again image pick (k - c.turns) c.number c.at.terminate_handler c.at (asked c.behind c.at) c.calls (c.runtime.terminating ∙ same) (omega (arith, c.few, many))
    by (inr gone) false same =
        let c = called turns image p n st w h.back (stands_by p n st w h at.runs) at in
        let zero_is = no_handler (addresses_of p) st.world.installed.terminate_handler c.at.terminate_handler gone c.runtime.exceptions.terminate_handler in
        laws.aborts image pick (k - c.turns) p.unit p.base c.number c.at (asked c.behind c.at) (subst (λ a. stubs.Terminates image c.number a c.at (asked c.behind c.at)) zero_is c.calls) (c.runtime.terminating ∙ same) c.may
        (omega (arith, c.few, many))

-- ---- the handler comes back

terminate_waits : (p : Plan) (waiting : Activation) (fs : List Activation) (v : World) (memory : List Part) (stack back limit : ℕ) → waiting.function ≡ terminating → CallsWait p (waiting ∷ fs) v memory stack back limit →
    TerminateWaits p.base waiting stack back
terminate_waits p waiting fs v memory stack back limit is (inl h) = absurd (let both : compiled h.1 ≡ terminating = sym h.3.callee ∙ is in cc both)
terminate_waits p waiting fs v memory stack back limit is (inr (inl h)) = by h.1.waits
  where
    by : DestructorWaits p waiting v memory stack back ⊎ UnexpectedWaits p waiting v memory stack back ⊎ LeavingWaits p waiting v memory stack back → TerminateWaits p.base waiting stack back
    by (inl w) = absurd (let both : end_catch ≡ terminating = sym w.callee ∙ is in cc both)
    by (inr (inl w)) = absurd (let both : call_unexpected ≡ terminating = sym w.callee ∙ is in cc both)
    by (inr (inr w)) = absurd (let both : call_unexpected ≡ terminating = sym w.callee ∙ is in cc both)
terminate_waits p waiting fs v memory stack back limit is (inr (inr h)) = h.0

return_to_terminate : (p : Plan) (n : ℕ) (st middle : LinearState) (waiting : Activation) (fs : List Activation) (r : Option ℕ) → StepAt p st middle n (return r) → st.frames ≡ waiting ∷ fs → waiting.function ≡ terminating → waiting.place ≡ 0 →
    step (code_of p.unit) st ≡ goes_to (record { top = record { function = terminating; place = 1; frame = waiting.frame }; frames = fs; world = st.world })
return_to_terminate p n st middle waiting fs r at frames is place =
    let c : CameBack p n st waiting fs r = returns_value p n st middle waiting fs r at.runs at.there at.step frames in
    let answer : Function → ℕ → Next = λ f k. returned_with (code_of p.unit) (Some c.value) (record { function = f; place = k; frame = waiting.frame } ∷ fs) st.world in
    c.step ∙ ap (λ f. answer f waiting.place) is ∙ ap (answer terminating) place

pub aborts_behind : TerminateRuns → (image : Image) (pick : ℕ → ℕ) (k : ℕ) (p : Plan) (n : ℕ) (st middle : LinearState) (waiting : Activation) (fs : List Activation) (r : Option ℕ) (w : abi.World) → Matches p st w → StepAt p st middle n (return r) →
    st.frames ≡ waiting ∷ fs → waiting.function ≡ terminating → ResultStands p n st.top.frame r → length (linear_code (shape p n) (return r)) + 2 ≤ k → LinearAborts p 2 st × RunAborts image pick k w
aborts_behind laws image pick k p n st middle waiting fs r w h at frames is result many =
    let s : State = w.hart in
    let stood : Stands p n st w h.back = stands_by p n st w h at.runs in
    let tw = terminate_waits p waiting fs st.world s.memory (x s sp + (shape p n).size) h.back st.top.frame.call is
    (subst (λ gs. CallsWait p gs st.world s.memory (x s sp + (shape p n).size) h.back st.top.frame.call) frames stood.memory.waiting) in
    let c : CameBack p n st waiting fs r = returns_value p n st middle waiting fs r at.runs at.there at.step frames in
    let even = even_base p s.memory stood.memory.unit in
    let gave = comes_back p n st w h.back r c.value stood at.there result c.value_is (omega (arith, tw.returns, even)) (omega (arith, tw.returns, stood.memory.unit.stubs.call_unexpected.0.word.below)) in
    let ran = executes_turns image gave.steps w s gave.after refl gave.runs in
    let w1 : abi.World = ran.after in
    let memory1 : w1.hart.memory ≡ s.memory = ap (λ (u : State). u.memory) ran.hart ∙ gave.memory in
    let rest = laws.aborts_behind image pick (k - gave.steps) p.unit p.base w1 (ap (λ (u : State). u.pc) ran.hart ∙ gave.pc ∙ tw.returns) (ap (λ (u : State). length u.regs) ran.hart ∙ gave.registers)
    (subst (StubAt p.unit p.base terminating) (sym memory1) stood.memory.unit.stubs.terminate) (omega (arith, gave.most, many)) in (
      (st.world, ap (go_on (exec (code_of p.unit) 1)) (return_to_terminate p n st middle waiting fs r at frames is tw.place), refl),
      aborts_later image pick k gave.steps w w1 ran.turns (omega (arith, gave.most, many)) rest,
    )
