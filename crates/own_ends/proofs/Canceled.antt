-- A forced unwind that comes out of the unexpected handler leaves the exception that was stopped.
use Rattle.std.proofs.Common.{◌≡◌, ◌∙◌, refl, sym, ap, subst, arith, ℕ, ◌+◌, pos, ◌∷◌, Some, inr}
use Rattle.std.specs.Prelude.{if◌then◌else◌}
use Rattle.rv64_isa.specs.State.{State}
use Rattle.rv64_isa.specs.Step.{x}
use Rattle.cxa_runtime.specs.World as abi
use Rattle.region_forms.specs.World.{Word, number_word}
use Rattle.linear_forms.specs.Linear.{jump_filter}
use Rattle.linear_forms.specs.Stub.{call_unexpected, linear}
use Rattle.linear_forms.specs.Activation.{State as LinearState, goes_to, fetch, on, place_of}
use Rattle.linear_forms.specs.Machine.{act_on, step}
use Rattle.linear_forms.specs.Operation.{holds_number, jumped}
use Rattle.linear_forms.specs.UnitRun.{code_of}
use Rattle.machine_forms.specs.Registers.{sp, a0, a1}
use Rattle.machine_forms.specs.Shape.{return_offset}
use Rattle.machine_pieces.specs.Numbers.{extended}
use Rattle.machine_stubs.specs.CallUnexpected.{thrown_slot, selector_slot, UnexpectedChecks}
use Rattle.machine_simulation.specs.Plan.{Plan}
use Rattle.machine_simulation.specs.StubCalls.{KeepsFlying}
use Rattle.machine_simulation.specs.Matches.{RuntimeMatches}
use Rattle.machine_simulation.proofs.Matching.{runtime_stays}
use Rattle.stub_landings.specs.Rests.{StubMemory, ChecksThrown}
use Rattle.own_ends.specs.Canceled.{at_second, CanceledLeaves}
use Rattle.own_ends.proofs.Registers.{registers_below, registers_at}
use Rattle.own_ends.proofs.Memory.{stub_beside, address_beside}
use Rattle.own_ends.proofs.Calling.{unexpected_stands, gets_below, gets_kept}
use Rattle.machine_pieces.specs.Keeping.{saved_of}
use Rattle.machine_stubs.specs.Stretches.{frame_size}
use Rattle.machine_simulation.proofs.Freeing.{IsFree}

jumps : (p : Plan) (st : LinearState) (w : abi.World) → (h : ChecksThrown p st w) → h.filter ≡ pos 0 → step (code_of p.unit) st ≡ goes_to (at_second st)
jumps p st w h none =
    let code = code_of p.unit in
    let op : fetch code st.top.function st.top.place ≡ Some (linear (jump_filter 5 (pos 0) 16)) = ap (λ f. fetch code f st.top.place) h.rests.runs ∙ ap (fetch code call_unexpected) h.place in
    let word : st.top.frame.slots 5 ≡ number_word (pos 0) = h.filter_is.0 ∙ ap number_word none in
    ap (λ o. act_on code o st.top st.frames st.world) op
    ∙ ap (λ y. if holds_number y (pos 0) then jumped code 16 st.top st.frames st.world else on st.top st.top.frame st.frames st.world) word
    ∙ ap (λ f. goes_to (record { top = record { function = st.top.function; place = place_of code f 16; frame = st.top.frame }; frames = st.frames; world = st.world })) h.rests.runs

-- what the runtime keeps does not depend on the place
runtime_at : (p : Plan) (st : LinearState) (w : abi.World) → RuntimeMatches p (st.top ∷ st.frames) st.world w → RuntimeMatches p ((at_second st).top ∷ st.frames) st.world w
runtime_at p st w h = record { input = h.input; replies = h.replies; last_number = h.last_number; terminating = h.terminating; exceptions = h.exceptions; plan = h.plan }

pub canceled_leaves : UnexpectedChecks → CanceledLeaves
canceled_leaves checks image p st w h none =
    let r = h.rests in
    let s : State = w.hart in
    let low : ℕ = x s sp in
    let m = r.memory in
    let word : Word = st.top.frame.slots 4 in
    let zero_is : x s a1 ≡ 0 = h.filter_is.1 ∙ ap extended none in
    let came = checks.leaves_canceled image p.unit p.base (x s a0) w m.unit.few (unexpected_stands p 13 st w r) refl (gets_below p st.world word (x s a0) h.gets) (omega (arith, zero_is)) in
    let t : abi.World = came.after in
    let at = came.holds in
    let b = at.holds in
    let floor = m.stands.above in
    let free : IsFree (low + frame_size call_unexpected) (low + selector_slot) 16 = record { low = omega (arith, floor); high = omega arith } in
    let kept = stub_beside p call_unexpected st.frames st.world s.memory t.hart.memory low r.back (low + selector_slot) 16 m free b.2
    (address_beside (low + selector_slot) 16 (low + return_offset) r.back s.memory t.hart.memory b.2 (λ i j hi hj e. omega (arith, hi, hj, e)) m.stands.saved) in (
      jumps p st w h none,
      record {
        turns = came.turns;
        few = came.few;
        after = t;
        runs = came.runs;
        holds = record {
          which = inr (refl, refl);
          back = r.back;
          runs = r.runs;
          there = refl;
          registers = at.registers;
          pc = at.there;
          returns = b.0;
          memory = subst (λ a. StubMemory p call_unexpected st.frames st.world t.hart.memory a r.back) (sym at.pointer) kept;
          runtime = runtime_at p st t (runtime_stays p (st.top ∷ st.frames) st.world w t at.kept.runtime r.runtime);
          thrown = subst (λ a. KeepsFlying p word st.world t.hart.memory (a + thrown_slot)) (sym at.pointer) (gets_kept p st.world word (x s a0) t.hart.memory (low + thrown_slot) h.gets b.1);
          kept = registers_at p call_unexpected st.frames st.world t.hart.memory low (saved_of s) t.hart refl at.pointer at.variables
              (registers_below p call_unexpected st.frames st.world s.memory t.hart.memory low r.back (low + selector_slot) 16 (saved_of s) m free b.2 r.kept);
        };
      },
    )
