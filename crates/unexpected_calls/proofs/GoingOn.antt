-- What call_unexpected lets out goes on.
use Rattle.std.proofs.Common.{◌≡◌, ◌∙◌, refl, sym, ap, subst, arith, ℕ, ◌+◌, ◌≤◌, ℤ, List, [], Some, None, inl, inr}
use Rattle.rv64_isa.specs.State as hart
use Rattle.rv64_isa.specs.State.{Part}
use Rattle.rv64_isa.specs.Step.{x}
use Rattle.elf_image.specs.Clean.{CleanImage}
use Rattle.caught_stack.specs.Exceptions.{Exceptions}
use Rattle.caught_stack.specs.Live.{header_of}
use Rattle.cxa_runtime.specs.World as abi
use Rattle.eh_run.specs.Program.{program_of}
use Rattle.region_forms.specs.World.{of_exception, Word, flying, unwinding, object_address, address_in, exception_of, World}
use Rattle.linear_forms.specs.Stub.{call_unexpected}
use Rattle.linear_forms.specs.Activation.{State}
use Rattle.machine_forms.specs.Registers.{sp, a0}
use Rattle.machine_pieces.specs.Frames.{AddressAt}
use Rattle.machine_pieces.specs.Turning.{Turns, SameRuntime}
use Rattle.machine_pieces.proofs.Turning.{turns_then}
use Rattle.machine_stubs.specs.CallUnexpected.{UnexpectedEnds, thrown_slot}
use Rattle.machine_simulation.specs.Plan.{Plan}
use Rattle.machine_simulation.specs.StubCalls.{KeepsFlying}
use Rattle.machine_simulation.specs.Operations.{Matched}
use Rattle.machine_simulation.proofs.Matching.{runtime_stays}
use Rattle.machine_raises.specs.Stacks.{IsRunning}
use Rattle.machine_raises.specs.Throws.{AimedAt}
use Rattle.runtime_invariant.specs.Memory.{RunsKeepMemory}
use Rattle.stub_landings.specs.Rests.{StubMemory, LeavesOn, StubRegisters}
use Rattle.stub_landings.specs.OwnCalls.{AtOwnCall, GoesOnInOwn}
use Rattle.stub_landings.specs.OwnRaises.{OwnResumeAsked, OwnResumesLand, OwnForcedLands}
use Rattle.stub_landings.proofs.Own.{unexpected_resumes}
use Rattle.unexpected_calls.specs.Leaves.{CalledByCompiled}
use Rattle.unexpected_calls.specs.Goes.{UnexpectedGoesOn}
use Rattle.unexpected_calls.proofs.OverCall.{over_stub, over_registers, over_at}
use Rattle.unexpected_calls.proofs.Leaving.{rests_over}
use Rattle.unexpected_calls.proofs.Thrown.{running_then, running_behind, without_own}
use Rattle.machine_pieces.specs.Keeping.{saved_of}

-- ---- the ECALL

record AtResume (i : CleanImage) (p : Plan) (a stack : ℕ) (st : State) (w : abi.World) : Type 0 where
  turns : ℕ
  few : turns ≤ 2
  at : abi.World
  runs : Turns (program_of i).image turns w at []
  behind : hart.State
  call : AtOwnCall p i 9 call_unexpected st at behind
  given : x behind a0 ≡ a
  pointer : x behind sp ≡ stack
  kept : SameRuntime w at

at_resume : UnexpectedEnds → RunsKeepMemory → (i : CleanImage) (p : Plan) (a : ℕ) (st : State) (w : abi.World) → LeavesOn p 57 17 st w → CalledByCompiled st → IsRunning p i w.hart → AddressAt w.hart.memory (x w.hart sp + thrown_slot) a →
    AtResume i p a (x w.hart sp) st w
at_resume ends keeps i p a st w h c running there =
    let image = (program_of i).image in
    let v : World = st.world in
    let low : ℕ = x w.hart sp in
    let back : ℕ = h.rests.back in
    let o = rests_over p 57 st w c h.rests in
    let come = ends.resumes image p.unit p.base a w o.stands there in
    let r = come.holds in
    let over = over_at p c.number c.caller c.others v w.hart.memory low back (saved_of w.hart) r.behind r.holds.0 r.pointer r.variables o.over in
    record {
      turns = come.turns;
      few = come.few;
      at = come.after;
      runs = come.runs;
      behind = r.behind;
      call = record {
        calls = r.calls;
        asks = r.asks;
        running = running_behind i p come.after.hart r.behind r.calls (running_then keeps image i p come.turns w come.after [] come.runs running);
        back = back;
        inside = record {
          own = tt;
          runs = h.rests.runs;
          registers = r.stands.registers;
          goes_on = subst (λ k. GoesOnInOwn p call_unexpected k r.behind.pc) (sym h.there) (unexpected_resumes p r.behind.pc r.stands.pc);
          memory = subst (λ gs. StubMemory p call_unexpected gs v r.behind.memory (x r.behind sp) back) (sym c.frames)
              (over_stub p c.number c.caller c.others v r.behind.memory (x r.behind sp) back (saved_of r.behind) c.compiled over);
          kept = subst (λ gs. StubRegisters p call_unexpected gs v r.behind.memory (x r.behind sp) (saved_of r.behind)) (sym c.frames)
              (over_registers p c.number c.caller c.others v r.behind.memory (x r.behind sp) back (saved_of r.behind) c.compiled over);
        };
        runtime = runtime_stays p st.frames v w come.after r.kept.runtime (without_own p st w h.rests.runs h.rests.runtime);
      };
      given = r.holds.1;
      pointer = r.pointer;
      kept = r.kept.runtime;
    }

-- turns in front
then_matched : (i : CleanImage) (w at : abi.World) (turns words : ℕ) (P Q : abi.World → Type 0) → Turns (program_of i).image turns w at [] → turns ≤ 2 → Matched (program_of i).image (1 + words) at [] P → ((u : abi.World) → P u → Q u) → Matched (program_of i).image (3 + words) w [] Q
then_matched i w at turns words P Q runs few m more = record {
  turns = turns + m.turns;
  few = omega (arith, few, m.few);
  some = λ some. omega (arith, m.some (omega arith));
  after = m.after;
  runs = turns_then (program_of i).image turns m.turns w at m.after [] [] runs m.runs;
  holds = more m.after m.holds;
}

-- ---- both

-- what is kept of an exception on its way
flying_kept : (p : Plan) (word : Word) (e d : ℕ) (v : World) (memory : List Part) (at : ℕ) → word ≡ flying e d → KeepsFlying p word v memory at → AddressAt memory at (p.at (of_exception e))
flying_kept p word e d v memory at is (inl h) =
    let number : h.number ≡ e = sym (ap exception_of h.is) ∙ ap (λ y. exception_of (address_in y)) is in
    subst (λ n. AddressAt memory at (p.at (of_exception n))) number h.there
flying_kept p word e d v memory at is (inr h) = let both : flying e d ≡ unwinding h.0 = sym is ∙ h.1 in absurd (cc both)

unwinding_kept : (p : Plan) (word : Word) (k : ℤ) (v : World) (memory : List Part) (at : ℕ) → word ≡ unwinding k → KeepsFlying p word v memory at → AddressAt memory at 0
unwinding_kept p word k v memory at is (inl h) = absurd (let both : None ≡ Some (object_address h.number) = sym (ap address_in is) ∙ h.is in cc both)
unwinding_kept p word k v memory at is (inr h) = h.2

aimed_still : (w u : abi.World) (e cfa : ℕ) → u.exceptions ≡ w.exceptions → AimedAt w e cfa → AimedAt u e cfa
aimed_still w u e cfa same h = record { slot = h.slot; has = record { header = h.has.header; there = ap (λ (y : Exceptions). header_of y.live h.slot) same ∙ h.has.there; number = h.has.number }; aimed = h.aimed }

pub unexpected_goes_on : UnexpectedEnds → RunsKeepMemory → OwnResumesLand → OwnForcedLands → UnexpectedGoesOn
unexpected_goes_on ends keeps resumes forces = record {
  exception = λ i p e d st next w h c running went flies asked plain ints on.
      let there = flying_kept p (st.top.frame.slots 4) e d st.world w.hart.memory (x w.hart sp + thrown_slot) flies h.thrown in
      let r = at_resume ends keeps i p (p.at (of_exception e)) st w h c running there in
      let target = subst (λ a. OwnResumeAsked p st w e d a) (sym r.pointer) asked in
      let all = resumes i p call_unexpected 17 4 e d st next r.at r.behind r.call (inr (refl, refl, refl)) (record { there = h.there; step = went }) flies r.given
      (record { exception = target.exception; travels = target.travels; target = target.target; aimed = aimed_still w r.at e _ r.kept.exceptions target.aimed }) plain ints on in
      (all.0, then_matched i w r.at r.turns _ _ _ r.runs r.few all.1 (λ u q. (q.0, q.1 ∙ r.kept.exceptions)));
  forced = λ i p k st next w h c running went is on_way plain ints on.
      let there = unwinding_kept p (st.top.frame.slots 4) k st.world w.hart.memory (x w.hart sp + thrown_slot) is h.thrown in
      let r = at_resume ends keeps i p 0 st w h c running there in
      let all = forces i p call_unexpected 17 4 k st next r.at r.behind r.call (inr (refl, refl, refl)) (record { there = h.there; step = went }) is r.given (r.kept.unwinding ∙ on_way) plain ints on in
      (all.0, then_matched i w r.at r.turns _ _ _ r.runs r.few all.1 (λ u q. (q.0, record { exceptions = q.1.exceptions ∙ r.kept.exceptions; unwinding = q.1.unwinding ∙ r.kept.unwinding })));
}
