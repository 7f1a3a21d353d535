-- A runtime call that terminates, from its ECALL on.
use Rattle.std.proofs.Common.{◌≡◌, ◌∙◌, sym, ap, subst, arith, ℕ, suc, ◌+◌, ◌-◌, ◌≤◌, true, false, cond, [], ◌++◌, append-nil, ◌≢◌, ◌%◌, ◌^◌, ◌<◌}
use Rattle.rv64_isa.specs.State.{State}
use Rattle.rv64_isa.specs.Step.{x}
use Rattle.cxa_runtime.specs.declared.effect.End.TheVariants.{Aborted}
use Rattle.cxa_runtime.specs.declared.effect.Turn.TheVariants.{Ended}
use Rattle.cxa_runtime.specs.World.{World, goes, aborts}
use Rattle.cxa_runtime.specs.Raising.{Image}
use Rattle.cxa_runtime.specs.Run.{Ran, called, counted, turn, and_more, run}
use Rattle.cxa_runtime.specs.Terminate.{at_stub}
use Rattle.linear_forms.specs.Linear.{UnitCode}
use Rattle.linear_forms.specs.Stub.{terminating}
use Rattle.machine_pieces.specs.Turning.{ForcedTurns, ForcedReaches}
use Rattle.machine_pieces.proofs.Registers.{set_length, read_same, read_other}
use Rattle.machine_pieces.proofs.Turning.{as_forced, forced_then}
use Rattle.machine_stubs.specs.Stretches.{stub_word, Room, Stands, AtAddress}
use Rattle.machine_stubs.specs.Terminates.{Terminates, MayTerminate, sent, CallsTerminate}
use Rattle.machine_stubs.proofs.Calls.{calls_are_made}
use Rattle.machine_stubs.proofs.Terminate.{terminate_runs}

-- ---- the call

sent_turns : (image : Image) (number handler : ℕ) (w t : World) → Terminates image number handler w t → t.terminating ≡ false → ForcedTurns image 1 w (sent image.places handler t) t.shown
sent_turns image number handler w t h first =
    let next : World = record t { hart = at_stub image.places handler t.hart; terminating = true } in
    calls_are_made.unwinds image number w next h.behind h.calls h.asks (λ wish. h.effect wish ∙ ap (λ b. cond b (aborts t) (goes next)) first)

-- ---- the hart at the first word of terminate

record AtFirst (u : UnitCode) (base handler stack : ℕ) (s : State) : Type 0 where
  pointer : x s 2 ≡ stack
  stands : Stands u base terminating 0 (x s 2 - 32) 32 s
  deep : 32 ≤ x s 2
  handler_is : x s 10 ≡ handler

at_first : (u : UnitCode) (base handler : ℕ) (image : Image) (t : World) → MayTerminate u base image t → AtFirst u base handler (x t.hart 2) (at_stub image.places handler t.hart)
at_first u base handler image t h =
    let s : State = at_stub image.places handler t.hart in
    let pointer : x s 2 ≡ x t.hart 2 = read_other t.hart.regs 10 2 handler (λ z. absurd (omega (arith, z))) in
    record {
      pointer = pointer;
      stands = record {
        pc = h.named;
        registers = set_length t.hart.regs 10 handler ∙ h.registers;
        code = h.code;
        room = subst (λ a. Room (a - 32) 32 t.hart.memory) (sym pointer) h.room;
      };
      deep = omega (arith, pointer, h.deep);
      handler_is = read_same t.hart.regs 10 handler (λ z. absurd (omega (arith, z))) (omega (arith, h.registers));
    }

-- ---- what follows

again : (image : Image) (pick : ℕ → ℕ) (k number handler : ℕ) (w t : World) → Terminates image number handler w t → t.terminating ≡ true →
    ((run image pick (suc k) w).items ≡ t.shown) × ((run image pick (suc k) w).end ≡ Aborted)
unfolding run
again image pick k number handler w t h running =
    let wish : ℕ = pick (w.last_number + 1) in
    let next : World = record t { hart = at_stub image.places handler t.hart; terminating = true } in
    let one : turn image wish w ≡ (Ended Aborted, counted t)
    = calls_are_made.made image wish number w h.behind h.calls h.asks ∙ ap (called w.hart.pc) (h.effect wish ∙ ap (λ b. cond b (aborts t) (goes next)) running) in
    let all = ap (and_more (run image pick k)) one in
    (ap (λ (r : Ran). r.items) all, ap (λ (r : Ran). r.end) all)

to_the_handler : (image : Image) (u : UnitCode) (base number handler : ℕ) (w t : World) → Terminates image number handler w t → t.terminating ≡ false → MayTerminate u base image t → handler ≢ 0 → handler % 4 ≡ 0 → handler < 2 ^ 64 →
    ForcedReaches image 7 w t.shown (AtAddress handler (x t.hart 2 - 32) (x t.hart 2 - 32) 32 (sent image.places handler t) (λ s. (x s 1 ≡ stub_word base terminating 6) × (x s 10 ≡ handler)))
to_the_handler image u base number handler w t h first may some aligned small =
    let v : World = sent image.places handler t in
    let a = at_first u base handler image t may in
    let one = sent_turns image number handler w t h first in
    let two = terminate_runs.calls_the_handler image u base handler v a.deep a.stands a.handler_is some aligned small in
    record {
      turns = 1 + two.turns;
      few = omega (arith, two.few);
      after = two.after;
      runs = subst (ForcedTurns image (1 + two.turns) w two.after) (append-nil t.shown) (forced_then image 1 two.turns w v two.after t.shown [] one (as_forced image two.turns v two.after [] two.runs));
      holds = subst (λ y. AtAddress handler (y - 32) (y - 32) 32 v (λ s. (x s 1 ≡ stub_word base terminating 6) × (x s 10 ≡ handler)) two.after) a.pointer two.holds;
    }

pub calls_terminate : CallsTerminate
calls_terminate = record {
  calls_the_handler = λ image u base number handler w t h first may some aligned small kept.
      let come = to_the_handler image u base number handler w t h first may some aligned small in
      record { turns = come.turns; few = come.few; after = come.after; runs = record { run = come.runs.run; unwinding = come.holds.kept.runtime.unwinding ∙ kept }; holds = come.holds };
  unwinds_to_the_handler = to_the_handler;
  aborts = λ image pick n u base number w t h first may many.
      let v : World = sent image.places 0 t in
      let a = at_first u base 0 image t may in
      let one = sent_turns image number 0 w t h first in
      let left : ℕ = n - 1 in
      let two = terminate_runs.aborts_without image pick left u base v a.deep a.stands a.handler_is (omega (arith, many)) in
      let count : n ≡ 1 + left = omega (arith, many) in
      let whole = ap (λ i. run image pick i w) count ∙ one.run pick left in
      (ap (λ (r : Ran). r.items) whole ∙ ap (λ is. t.shown ++ is) two.0 ∙ append-nil t.shown, ap (λ (r : Ran). r.end) whole ∙ two.1);
  aborts_again = λ image pick n number handler w t h running some.
      let count : n ≡ suc (n - 1) = omega (arith, some) in
      subst (λ i. ((run image pick i w).items ≡ t.shown) × ((run image pick i w).end ≡ Aborted)) (sym count) (again image pick (n - 1) number handler w t h running);
}
