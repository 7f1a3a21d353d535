-- A new call leaves what registers hold for the calls that are open already.
use Rattle.std.proofs.Common.{◌≡◌, ◌∙◌, refl, sym, ap, arith, ℕ, ◌+◌, ◌≤◌, List, Some, inl, inr}
use Rattle.std.specs.Prelude.{true}
use Rattle.rv64_isa.specs.State.{Part}
use Rattle.region_forms.specs.World.{Base, of_variable, Word, Frame, World}
use Rattle.region_forms.specs.Effect.{new_world}
use Rattle.linear_forms.specs.Activation.{Activation}
use Rattle.machine_forms.specs.Shape.{slot_offset}
use Rattle.machine_forms.specs.KeptCode.{register_of}
use Rattle.machine_pieces.specs.Memory.{Holds, Apart}
use Rattle.machine_simulation.specs.Plan.{Plan, function, shape, slot_kinds}
use Rattle.machine_simulation.specs.KeptCalls.{kept_of, KeptCall, RegistersMatch}
use Rattle.machine_simulation.specs.Matches.{FrameIs, MemoryMatches}
use Rattle.machine_simulation.specs.Entering.{slot_room, opened}
use Rattle.machine_simulation.proofs.Slots.{slot_place_of}
use Rattle.machine_simulation.proofs.KeptSlots.{kept_slot}
use Rattle.machine_simulation.proofs.KeptCalls.{kept_alone}
use Rattle.machine_simulation.proofs.KeptStores.{registers_still}
use Rattle.machine_simulation.proofs.Given.{memory_beside}
use Rattle.machine_simulation.proofs.Opening.{many, SlotOrNot, slot_or_not, begun_is_old, new_slot, old_base}

-- where the bytes from the calls' frames on hold what they held
pub opened_registers : (p : Plan) (m low n : ℕ) (frame : Frame) (fs : List Activation) (v : World) (given : List Word) (d : ℕ) (old new : List Part) (stack back : ℕ) (regs : List ℕ) → FrameIs (function p m) → low + (shape p m).size ≤ stack →
    ((b k x : ℕ) → stack ≤ b → Holds old b k x → Holds new b k x) → MemoryMatches p n frame fs v old stack back → RegistersMatch p n frame fs v old stack regs →
    RegistersMatch (opened p m v.calls low) n frame fs (new_world (slot_kinds p m) given d v) new stack regs
opened_registers p m low n frame fs v given d old new stack back regs is room keep h r =
    registers_still p q.at q.size q.live q.ints n frame frame fs v (new_world (slot_kinds p m) given d v) old new stack back regs refl h
    (λ k f place home rs before above le st one. record {
      ints = λ s i e. memory_beside (slot_kinds p m) c 0 given v (record { base = of_variable f.call s; offset = 0 }) (λ t same. let call : f.call ≡ c = cc same in omega (arith, call, le, h.newest));
      saved = λ s i b e held. record { aligned = held.aligned; below = held.below; holds = keep (place + slot_offset (shape p k) s) 8 b (omega (arith, above)) held.holds };
      dead = λ s i e. (old_base p m c low (of_variable f.call s) (begun_is_old c (many p m) v (of_variable f.call s) (omega arith) (omega (arith, le, h.newest)))).live ∙ one.dead s i e;
      alone = λ b s i live e. alone_at k f place rs before b s i above one live e (slot_or_not c (many p m) b);
    }) r
  where
    c : ℕ
    c = v.calls

    q : Plan
    q = opened p m c low

    alone_at : (k : ℕ) (f : Frame) (place : ℕ) (rs before : List ℕ) (b : Base) (s i : ℕ) → stack ≤ place → KeptCall p k f v old place rs before → q.live b ≡ true → register_of (kept_of p k) s ≡ Some i → SlotOrNot c (many p m) b →
        Apart (place + slot_offset (shape p k) s) 8 (q.at b) (q.size b)
    alone_at k f place rs before b s i above one live e (inl own) i1 j1 hi hj same =
        let new = new_slot p m c low own.0 own.2 in
        let at : q.at b ≡ low + slot_offset (shape p m) own.0 = ap (λ y. q.at y) own.1 ∙ new.at in
        let size : q.size b ≡ slot_room (shape p m) own.0 = ap (λ y. q.size y) own.1 ∙ new.size in
        let slot = slot_place_of (function p m) own.0 is own.2 in
        omega (arith, at, size, slot.high, room, above, hj, same)
    alone_at k f place rs before b s i above one live e (inr not_one) i1 j1 hi hj same =
        let old_one = old_base p m c low b not_one in
        let y = kept_slot (function p k) s i e in
        kept_alone p k f v old place rs before b s i one (sym old_one.live ∙ live) e y.place y.slot_is i1 j1 hi (omega (arith, hj, old_one.size)) (omega (arith, same, old_one.at))
