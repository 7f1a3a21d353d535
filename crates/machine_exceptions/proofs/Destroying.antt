-- A destructor begins below end_catch.
use Rattle.std.proofs.Common.{◌≡◌, ◌∙◌, refl, sym, ap, subst, arith, ℕ, zero, suc, ◌+◌, ◌-◌, ◌*◌, ◌%◌, ◌<◌, ◌≤◌, List, ◌∷◌, ◌++◌, length, flat_map, Some, inl, inr}
use Rattle.std.specs.Prelude.{◌⊎◌, true, slice_get}
use Rattle.rv64_isa.specs.State.{State, Part}
use Rattle.rv64_isa.specs.Step.{x}
use Rattle.region_forms.specs.Form.{leave}
use Rattle.region_forms.specs.World.{Base, of_exception, Address, Word, address_word, object_address, address_in, Frame, World}
use Rattle.region_forms.specs.Effect.{new_frame, new_world}
use Rattle.linear_forms.specs.Linear.{plain}
use Rattle.linear_forms.specs.Stub.{compiled, end_catch}
use Rattle.linear_forms.specs.Activation.{Activation}
use Rattle.machine_forms.specs.Registers.{sp, saved_registers}
use Rattle.machine_forms.specs.Piece.{Piece}
use Rattle.machine_forms.specs.Shape.{return_offset, prologue}
use Rattle.machine_forms.specs.CallCode.{function_called}
use Rattle.machine_forms.specs.Routine.{op_word}
use Rattle.machine_forms.specs.KeptCode.{saves}
use Rattle.machine_pieces.specs.Memory.{Apart}
use Rattle.machine_pieces.specs.Standing.{address}
use Rattle.machine_pieces.specs.Frames.{AddressAt}
use Rattle.machine_pieces.specs.Transfers.{Enters, lowest_sp}
use Rattle.machine_pieces.proofs.Fetching.{pieces_split}
use Rattle.machine_pieces.proofs.Framing.{prologue_enters}
use Rattle.machine_pieces.specs.Keeping.{saved_of}
use Rattle.machine_stubs.specs.Stretches.{stub_word}
use Rattle.machine_stubs.specs.EndCatch.{object_slot}
use Rattle.machine_simulation.specs.Plan.{Plan, function, shape, slot_kinds, routine, first_word, setting}
use Rattle.machine_simulation.specs.Calls.{CallStands, CallsWait}
use Rattle.machine_simulation.specs.Matches.{UnitStands, FrameIs, StackMay, MemoryMatches}
use Rattle.machine_simulation.specs.Entering.{opened}
use Rattle.machine_simulation.proofs.Words.{operation_at}
use Rattle.machine_simulation.proofs.Given.{number_beside}
use Rattle.machine_simulation.proofs.Beneath.{Beneath, beneath_call, MayPass, Begins}
use Rattle.machine_simulation.proofs.Opening.{many, slot_or_not, frame_apart, call_opened, waits_opened}
use Rattle.machine_simulation.specs.KeptCalls.{KeptCalls, RegistersMatch}
use Rattle.machine_simulation.proofs.Floors.{lowest_floor}
use Rattle.machine_simulation.proofs.KeptCalls.{call_behind, stub_behind}
use Rattle.machine_simulation.proofs.KeptOpened.{opened_registers}
use Rattle.machine_simulation.proofs.KeptEntered.{BegunCall, begins_saved}
use Rattle.machine_exceptions.specs.Destroys.{waiting_catch, object_passed, MayDestroy}

-- ---- the prologue of a function that is called by its address

pub entered_at : (p : Plan) (m : ℕ) (s : State) → UnitStands p s.memory → StackMay s.memory → m < length p.unit.functions → length s.regs ≡ 32 → s.pc ≡ address (setting p m).ground (first_word p m) → lowest_sp (shape p m).leaf (shape p m).size ≤ x s sp →
    x s sp ≤ 0x7100_0000 → x s sp % 8 ≡ 0 → Enters (setting p m).ground (first_word p m) (shape p m) s
entered_at p m s unit may known regs at room low even =
    let frame_is : FrameIs (function p m) = unit.frames m known in
    let front : List Piece = prologue (shape p m) in
    let behind : List Piece = saves (shape p m) (function p m).parameters saved_registers (shape p m).kept in
    let parts = pieces_split s.memory (setting p m).ground (first_word p m) (front ++ behind) (flat_map (λ b. b) (routine p m).blocks) (unit.functions m known) in
    let heads = pieces_split s.memory (setting p m).ground (first_word p m) front behind parts.0 in
    let floor = lowest_floor (shape p m).leaf (shape p m).size (x s sp) frame_is.small room in
    prologue_enters (setting p m).ground (first_word p m) (shape p m) s heads.0 at (record {
      registers = regs;
      size = (frame_is.small, omega (arith, frame_is.size), omega (arith, frame_is.size));
      aligned = even;
      above = room;
      below = omega (arith, low);
      may = may (x s sp - (shape p m).size + return_offset) 8 (omega (arith, floor)) (omega (arith, floor, frame_is.size, low));
    })

-- ---- what stands below end_catch

-- below a place that is lower
pub beneath_lower : (p : Plan) (v : World) (memory : List Part) (stack low : ℕ) → low ≤ stack → Beneath p v memory stack → Beneath p v memory low
beneath_lower p v memory stack low le h = record {
  unit = h.unit;
  apart = h.apart;
  inside = h.inside;
  ints = h.ints;
  fresh = h.fresh;
  objects = h.objects;
  may = h.may;
  end = omega (arith, h.end, le);
  begun = h.begun;
  clear = λ b live. by (p.at b) (p.size b) (h.clear b live);
  reached = h.reached;
  all_globals = h.all_globals;
}
  where
    by : (a n : ℕ) → (a + n ≤ 0x7000_0000) ⊎ (stack ≤ a) → (a + n ≤ 0x7000_0000) ⊎ (low ≤ a)
    by a n (inl under) = inl under
    by a n (inr above) = inr (omega (arith, above, le))

-- What memory holds behind the destructor's prologue: the object's address is passed below end_catch's frame, which has the address too and the
-- one that it returns to; the destructor's frame has the return address into end_catch.
pub record Begun (p : Plan) (n d e : ℕ) (frame : Frame) (fs : List Activation) (v : World) (memory : List Part) (stack back outer : ℕ) (regs : List ℕ) : Type 0 where
  pub matches : MemoryMatches p n frame fs v memory stack back
  pub registers : RegistersMatch p n frame fs v memory stack regs
  pub low : lowest_sp (shape p d).leaf (shape p d).size ≤ stack - 48
  pub high : 0x7000_1000 ≤ stack
  pub live : p.live (of_exception e) ≡ true
  pub passed : AddressAt memory (stack - 48 - 8) (p.at (of_exception e))
  pub kept : AddressAt memory (stack - 48 + object_slot) (p.at (of_exception e))
  pub saved : AddressAt memory (stack - 48 + return_offset) outer
  pub returns : AddressAt memory (stack - 48 - (shape p d).size + return_offset) (stub_word p.base end_catch 13)

-- a call at `leave` waits for end_catch, and this one for the destructor, which saves its caller's registers
pub destructor_begun : (p : Plan) (n d e depth : ℕ) (top : Activation) (fs active : List Activation) (v : World) (t : State) (stack back outer : ℕ) → Begun p n d e top.frame fs v t.memory stack back outer (saved_of t) → MayDestroy p d e active →
    top.function ≡ compiled n → slice_get (function p n).ops top.place ≡ Some (plain leave) → outer ≡ address (setting p n).ground (first_word p n + op_word (routine p n) (top.place + 1)) →
    x t sp ≡ stack - 48 - (shape p d).size → length t.regs ≡ 32 → t.pc ≡ address (setting p d).ground (first_word p d + length (prologue (shape p d))) →
    BegunCall (opened p d v.calls (x t sp)) d (new_frame (slot_kinds p d) (object_passed e) v) (waiting_catch d e ∷ top ∷ fs) (new_world (slot_kinds p d) (object_passed e) depth v) (stub_word p.base end_catch 13)
    (length (saves (shape p d) (function p d).parameters saved_registers (shape p d).kept)) t
destructor_begun p n d e depth top fs active v t stack back outer h ok runs there returns pointer many_regs at =
    let memory : List Part = t.memory in
    let ret : ℕ = stub_word p.base end_catch 13 in
    let mid : ℕ = stack - 48 in
    let low : ℕ = x t sp in
    let c : ℕ = v.calls in
    let given : List Word = object_passed e in
    let q : Plan = opened p d c low in
    let u : World = new_world (slot_kinds p d) given depth v in
    let m = h.matches in
    let frame_is : FrameIs (function p d) = m.unit.frames d ok.known in
    let floor : 0x7000_0000 + (shape p d).size ≤ mid = lowest_floor (shape p d).leaf (shape p d).size mid frame_is.small h.low in
    let room_is : low + (shape p d).size ≡ mid = omega (arith, pointer, floor) in
    let above_mid : stack ≡ mid + 48 = omega (arith, floor) in
    let own = operation_at p memory n top.place (plain leave) m.unit m.top.known there in
    let later : v.last_number ≤ u.last_number = omega (arith, number_beside (slot_kinds p d) c 0 given v) in
    let under = beneath_lower p v memory stack mid (omega arith) (beneath_call p n top.frame fs v memory stack back m) in
    let passed : AddressAt memory (mid - 8 * (0 + 1)) (p.at (of_exception e) + 0)
    = subst (AddressAt memory (mid - 8 * (0 + 1))) (omega arith) (subst (λ a. AddressAt memory a (p.at (of_exception e))) (omega arith) h.passed) in
    let begins : Begins p n d v memory mid low ret given = record {
      below = under;
      known = ok.known;
      frame = room_is;
      room = h.low;
      passed = (passed, tt);
      may = λ j word b got found. may_at j word b got found;
      few = ok.passed;
      taken = ok.taken;
      fits = ok.words;
      saved = subst (λ a. AddressAt memory (a + return_offset) ret) (sym pointer) h.returns;
    } in
    let registers = opened_registers p d low n top.frame fs v given depth memory memory stack back (saved_of t) frame_is (omega (arith, room_is, above_mid)) (λ b k y from held. held) m h.registers in
    let caller : KeptCalls q (top ∷ fs) u memory stack (saved_of t)
    = call_behind q top.frame u memory stack (saved_of t) (λ next others. KeptCalls q fs u memory next others) top.function n runs (registers.before, registers.top, registers.waiting) in
    let waiting : KeptCalls q (waiting_catch d e ∷ top ∷ fs) u memory mid (saved_of t)
    = stub_behind q (waiting_catch d e).frame u memory mid (saved_of t) (λ next others. KeptCalls q (top ∷ fs) u memory next others) end_catch (inl refl) (subst (λ a. KeptCalls q (top ∷ fs) u memory a (saved_of t)) above_mid caller) in
    begins_saved p n d v mid ret given depth (waiting_catch d e ∷ top ∷ fs) t begins many_regs at h.registers.small (λ ints. inr (inl (
      outer,
      record {
        stands = record {
          above = omega (arith, h.high, above_mid);
          below = omega (arith, above_mid, m.top.below);
          saved = h.saved;
          alone = λ b live. frame_apart p d c low mid 48 b frame_is (omega (arith, room_is)) (λ k alive. stub_alone k alive) live (slot_or_not c (many p d) b);
        };
        waits = inl (record {
          callee = refl;
          place = refl;
          returns = refl;
          object = record { number = e; is = refl; made = omega (arith, m.objects.made e h.live, later); there = h.kept };
        });
      },
      inl (
        m.newest,
        n,
        back,
        record {
          callee = runs;
          op = plain leave;
          there = there;
          calls = inr (inl refl);
          front = function_called end_catch;
          is = refl;
          returns = returns ∙ omega (arith, own.next);
          stands = subst (λ a. CallStands q n top.frame u memory a back) above_mid
              (call_opened p d c low n top.frame v u memory stack back frame_is later m.newest (omega (arith, room_is, above_mid)) ints m.top);
        },
        subst (λ a. CallsWait q fs u memory (a + (shape p n).size) back top.frame.call) above_mid
            (waits_opened p d c low fs v u memory (stack + (shape p n).size) back top.frame.call frame_is later (omega (arith, m.newest)) (omega (arith, room_is, above_mid)) ints m.waiting),
      ),
    ))) waiting
  where
    may_at : (j : ℕ) (word : Word) (b : Address) → slice_get (object_passed e) j ≡ Some word → address_in word ≡ Some b → MayPass p v b.base
    may_at zero word b got found =
        let same : address_word (object_address e) ≡ word = cc got in
        let both : Some (object_address e) ≡ Some b = ap address_in same ∙ found in
        let at : object_address e ≡ b = cc both in
        subst (λ (k : Address). MayPass p v k.base) at (h.matches.objects.made e h.live)
    may_at (suc j) word b got found = absurd (cc got)

    stub_alone : (b : Base) → p.live b ≡ true → Apart (p.at b) (p.size b) (stack - 48) 48
    stub_alone b live i j hi hj same = by (h.matches.top.clear b live (h.matches.last b live))
      where
        by : (p.at b + p.size b ≤ 0x7000_0000) ⊎ (stack ≤ p.at b) → ⊥
        by (inl below) = omega (arith, below, h.high, hi, hj, same)
        by (inr above) = omega (arith, above, h.high, hi, hj, same)
