-- What memory holds where a destructor begins below end_catch and call_unexpected.
use Rattle.std.proofs.Common.{◌≡◌, ◌∙◌, refl, sym, ap, subst, arith, ℕ, zero, suc, ◌+◌, ◌-◌, ◌*◌, ◌≤◌, List, ◌∷◌, length, Some, inl, inr}
use Rattle.std.specs.Prelude.{◌⊎◌, true, slice_get}
use Rattle.rv64_isa.specs.State.{State, Part}
use Rattle.rv64_isa.specs.Step.{x}
use Rattle.region_forms.specs.World.{Base, of_exception, Address, Word, World, address_word, object_address, address_in}
use Rattle.region_forms.specs.Effect.{new_frame, new_world}
use Rattle.linear_forms.specs.Stub.{end_catch, call_unexpected}
use Rattle.linear_forms.specs.Activation.{Activation, State as LinearState}
use Rattle.machine_forms.specs.Registers.{sp, saved_registers}
use Rattle.machine_forms.specs.Shape.{return_offset, prologue}
use Rattle.machine_forms.specs.KeptCode.{saves}
use Rattle.machine_pieces.specs.Memory.{Apart}
use Rattle.machine_pieces.specs.Standing.{address}
use Rattle.machine_pieces.specs.Frames.{AddressAt}
use Rattle.machine_pieces.specs.Transfers.{lowest_sp}
use Rattle.machine_pieces.specs.Keeping.{saved_of}
use Rattle.machine_stubs.specs.Stretches.{stub_word, frame_size}
use Rattle.machine_stubs.specs.EndCatch.{object_slot}
use Rattle.machine_stubs.specs.CallUnexpected.{thrown_slot}
use Rattle.machine_simulation.specs.Plan.{Plan, function, shape, slot_kinds, first_word, setting}
use Rattle.machine_simulation.specs.StubCalls.{StubStands as StubFrame, StubWaits, KeepsFlying}
use Rattle.machine_simulation.specs.Calls.{CallsWait}
use Rattle.machine_simulation.specs.KeptCalls.{KeptCalls}
use Rattle.machine_simulation.specs.Matches.{FrameIs}
use Rattle.machine_simulation.specs.Entering.{opened}
use Rattle.machine_simulation.proofs.Given.{number_beside}
use Rattle.machine_simulation.proofs.Beneath.{beneath_call, MayPass, Begins}
use Rattle.machine_simulation.proofs.Opening.{many, slot_or_not, frame_apart, waits_opened}
use Rattle.machine_simulation.proofs.Floors.{lowest_floor}
use Rattle.machine_simulation.proofs.KeptCalls.{call_behind, stub_behind}
use Rattle.machine_simulation.proofs.KeptOpened.{opened_registers}
use Rattle.machine_simulation.proofs.KeptEntered.{BegunCall, begins_saved}
use Rattle.machine_exceptions.specs.Destroys.{waiting_catch, object_passed, MayDestroy}
use Rattle.machine_exceptions.proofs.Destroying.{beneath_lower}
use Rattle.stub_landings.specs.Rests.{StubMemory, StubRegisters}
use Rattle.own_ends.specs.Callers.{CalledBy}
use Rattle.own_ends.specs.Leaving.{IsLeaving}
use Rattle.own_ends.proofs.Memory.{called_by}
use Rattle.own_ends.proofs.Registers.{caller_registers}

-- Memory behind the destructor's prologue: the object's address is passed below end_catch's frame, which has it too and the address that it returns to;
-- and the destructor's frame has its own.
pub record Begun (p : Plan) (k d e : ℕ) (st : LinearState) (v : World) (memory : List Part) (stack back outer : ℕ) (regs : List ℕ) : Type 0 where
  pub stub : StubMemory p call_unexpected st.frames v memory stack back
  pub registers : StubRegisters p call_unexpected st.frames v memory stack regs
  pub thrown : KeepsFlying p (st.top.frame.slots 4) v memory (stack + thrown_slot)
  pub outer_is : outer ≡ stub_word p.base call_unexpected k
  pub low : lowest_sp (shape p d).leaf (shape p d).size ≤ stack - 48
  pub live : p.live (of_exception e) ≡ true
  pub passed : AddressAt memory (stack - 48 - 8) (p.at (of_exception e))
  pub kept : AddressAt memory (stack - 48 + object_slot) (p.at (of_exception e))
  pub saved : AddressAt memory (stack - 48 + return_offset) outer
  pub returns : AddressAt memory (stack - 48 - (shape p d).size + return_offset) (stub_word p.base end_catch 13)

pub destructor_begun : (p : Plan) (place k d e depth : ℕ) (st : LinearState) (v : World) (t : State) (stack back outer : ℕ) (active : List Activation) → Begun p k d e st v t.memory stack back outer (saved_of t) → CalledBy st.frames → MayDestroy p d e active →
    IsLeaving place k → st.top.function ≡ call_unexpected → st.top.place ≡ place → x t sp ≡ stack - 48 - (shape p d).size → length t.regs ≡ 32 → t.pc ≡ address (setting p d).ground (first_word p d + length (prologue (shape p d))) →
    BegunCall (opened p d v.calls (x t sp)) d (new_frame (slot_kinds p d) (object_passed e) v) (waiting_catch d e ∷ st.top ∷ st.frames) (new_world (slot_kinds p d) (object_passed e) depth v) (stub_word p.base end_catch 13)
    (length (saves (shape p d) (function p d).parameters saved_registers (shape p d).kept)) t
destructor_begun p place k d e depth st v t stack back outer active h c ok which runs there pointer many_regs at =
    let memory : List Part = t.memory in
    let regs : List ℕ = saved_of t in
    let ret : ℕ = stub_word p.base end_catch 13 in
    let mid : ℕ = stack - 48 in
    let low : ℕ = x t sp in
    let limit : ℕ = v.calls in
    let given : List Word = object_passed e in
    let q : Plan = opened p d limit low in
    let u : World = new_world (slot_kinds p d) given depth v in
    let called = called_by p call_unexpected st.frames v memory stack back h.stub c in
    let m = called.matches in
    let frame_is : FrameIs (function p d) = m.unit.frames d ok.known in
    let floor : 0x7000_0000 + (shape p d).size ≤ mid = lowest_floor (shape p d).leaf (shape p d).size mid frame_is.small h.low in
    let room_is : low + (shape p d).size ≡ mid = omega (arith, pointer, floor) in
    let above_mid : stack ≡ mid + 48 = omega (arith, floor) in
    let stub_above = h.stub.stands.above in
    let later : v.last_number ≤ u.last_number = omega (arith, number_beside (slot_kinds p d) limit 0 given v) in
    let under = beneath_lower p v memory (stack + 80) mid (omega arith) (beneath_call p c.number c.caller.frame c.others v memory (stack + 80) called.outer m) in
    let passed : AddressAt memory (mid - 8 * (0 + 1)) (p.at (of_exception e) + 0)
    = subst (AddressAt memory (mid - 8 * (0 + 1))) (omega arith) (subst (λ a. AddressAt memory a (p.at (of_exception e))) (omega arith) h.passed) in
    let begins : Begins p c.number d v memory mid low ret given = record {
      below = under;
      known = ok.known;
      frame = room_is;
      room = h.low;
      passed = (passed, tt);
      may = λ j word b got found. may_at j word b got found;
      few = ok.passed;
      taken = ok.taken;
      fits = ok.words;
      saved = subst (λ a. AddressAt memory (a + return_offset) ret) (sym pointer) h.returns;
    } in
    let stub : StubWaits p st.top v memory stack outer back = record {
      stands = subst (λ f. StubFrame p f memory stack back) (sym runs) h.stub.stands;
      waits = inr (inr (record { callee = runs; returns = returns which; thrown = h.thrown }));
    } in
    let waiting : CallsWait p (st.top ∷ st.frames) v memory stack outer limit = inr (inl (back, stub, subst (λ f. CallsWait p st.frames v memory (stack + frame_size f) back limit) (sym runs) h.stub.waiting)) in
    let held = caller_registers p call_unexpected st.frames v memory stack regs h.registers c in
    let new = opened_registers p d low c.number c.caller.frame c.others v given depth memory memory (stack + 80) called.outer regs frame_is (omega (arith, room_is, above_mid)) (λ b n y from held. held) m held in
    let caller : KeptCalls q (c.caller ∷ c.others) u memory (stack + 80) regs
    = call_behind q c.caller.frame u memory (stack + 80) regs (λ next others. KeptCalls q c.others u memory next others) c.caller.function c.number c.is (new.before, new.top, new.waiting) in
    let own : KeptCalls q (st.top ∷ st.frames) u memory stack regs = stub_behind q st.top.frame u memory stack regs (λ next others. KeptCalls q st.frames u memory next others) st.top.function (inr runs)
    (subst (λ f. KeptCalls q st.frames u memory (stack + frame_size f) regs) (sym runs) (subst (λ gs. KeptCalls q gs u memory (stack + 80) regs) (sym c.frames) caller)) in
    let both : KeptCalls q (waiting_catch d e ∷ st.top ∷ st.frames) u memory mid regs
    = stub_behind q (waiting_catch d e).frame u memory mid regs (λ next others. KeptCalls q (st.top ∷ st.frames) u memory next others) end_catch (inl refl) (subst (λ a. KeptCalls q (st.top ∷ st.frames) u memory a regs) above_mid own) in
    begins_saved p c.number d v mid ret given depth (waiting_catch d e ∷ st.top ∷ st.frames) t begins many_regs at h.registers.small (λ ints. inr (inl (
      outer,
      record {
        stands = record {
          above = omega (arith, stub_above, above_mid);
          below = omega (arith, above_mid, h.stub.stands.below);
          saved = h.saved;
          alone = λ b live. frame_apart p d limit low mid 48 b frame_is (omega (arith, room_is)) (λ n alive. below_alone n alive) live (slot_or_not limit (many p d) b);
        };
        waits = inl (record { callee = refl; place = refl; returns = refl; object = record { number = e; is = refl; made = omega (arith, m.objects.made e h.live, later); there = h.kept } });
      },
      subst (λ a. CallsWait q (st.top ∷ st.frames) u memory a outer limit) above_mid
          (waits_opened p d limit low (st.top ∷ st.frames) v u memory stack outer limit frame_is later (omega arith) (omega (arith, room_is, above_mid)) ints waiting),
    ))) both
  where
    returns : IsLeaving place k → ((st.top.place ≡ 15) × (outer ≡ stub_word p.base call_unexpected 55)) ⊎ ((st.top.place ≡ 16) × (outer ≡ stub_word p.base call_unexpected 57))
    returns (inl (at, word)) = inl (there ∙ at, h.outer_is ∙ ap (stub_word p.base call_unexpected) word)
    returns (inr (at, word)) = inr (there ∙ at, h.outer_is ∙ ap (stub_word p.base call_unexpected) word)

    may_at : (j : ℕ) (word : Word) (b : Address) → slice_get (object_passed e) j ≡ Some word → address_in word ≡ Some b → MayPass p v b.base
    may_at zero word b got found =
        let same : address_word (object_address e) ≡ word = cc got in
        let both : Some (object_address e) ≡ Some b = ap address_in same ∙ found in
        let at : object_address e ≡ b = cc both in
        subst (λ (n : Address). MayPass p v n.base) at (h.stub.objects.made e h.live)
    may_at (suc j) word b got found = absurd (cc got)

    below_alone : (b : Base) → p.live b ≡ true → Apart (p.at b) (p.size b) (stack - 48) 48
    below_alone b live i j hi hj same =
        let m = (called_by p call_unexpected st.frames v t.memory stack back h.stub c).matches in
        by (m.top.clear b live (m.last b live))
      where
        stub_above : 0x7000_1000 ≤ stack + 80
        stub_above = h.stub.stands.above

        by : (p.at b + p.size b ≤ 0x7000_0000) ⊎ (stack + 80 ≤ p.at b) → ⊥
        by (inl below) = omega (arith, below, stub_above, hi, hj, same)
        by (inr above) = omega (arith, above, stub_above, hi, hj, same)
