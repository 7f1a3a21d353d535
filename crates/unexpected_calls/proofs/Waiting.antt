-- The unexpected handler stands below call_unexpected, which waits for it.
use Rattle.std.proofs.Common.{◌≡◌, refl, sym, subst, arith, ℕ, ◌+◌, ◌-◌, ◌≤◌, ◌<◌, ℤ, pos, List, [], ◌∷◌, length, Some, inl, inr}
use Rattle.std.specs.Prelude.{slice_get}
use Rattle.rv64_isa.specs.State.{State, Part}
use Rattle.rv64_isa.specs.Step.{x}
use Rattle.region_forms.specs.World.{of_exception, number_word, object_address, address_in, World}
use Rattle.region_forms.specs.Effect.{new_frame, new_world}
use Rattle.linear_forms.specs.Linear.{unexpected}
use Rattle.linear_forms.specs.Stub.{compiled, call_unexpected}
use Rattle.linear_forms.specs.Activation.{Activation}
use Rattle.machine_forms.specs.Registers.{sp, a0, saved_registers}
use Rattle.machine_forms.specs.Shape.{return_offset, prologue}
use Rattle.machine_forms.specs.KeptCode.{saves}
use Rattle.machine_forms.specs.PlaceCode.{slot_loaded}
use Rattle.machine_forms.specs.CallCode.{passed, function_called}
use Rattle.machine_forms.specs.LinearCode.{linear_code}
use Rattle.machine_forms.specs.Routine.{op_word}
use Rattle.machine_pieces.specs.Standing.{address}
use Rattle.machine_pieces.specs.Frames.{IntAt, AddressAt}
use Rattle.machine_pieces.specs.Transfers.{lowest_sp}
use Rattle.machine_pieces.specs.Keeping.{saved_of}
use Rattle.machine_stubs.specs.Stretches.{stub_word, frame_size}
use Rattle.machine_simulation.specs.StubCalls.{StubStands as StubFrame}
use Rattle.machine_stubs.specs.CallUnexpected.{stopped_slot, list_slot, table_slot}
use Rattle.machine_simulation.specs.Plan.{Plan, function, shape, slot_kinds, routine, first_word, setting}
use Rattle.machine_simulation.specs.Calls.{CallsWait}
use Rattle.machine_simulation.specs.KeptCalls.{KeptCalls, RegistersMatch}
use Rattle.machine_simulation.specs.Matches.{FrameIs, MemoryMatches}
use Rattle.machine_simulation.specs.Entering.{opened}
use Rattle.machine_simulation.proofs.Given.{number_beside}
use Rattle.machine_simulation.proofs.Beneath.{beneath_call, Begins}
use Rattle.machine_simulation.proofs.Opening.{many, slot_or_not, frame_apart, call_opened, waits_opened}
use Rattle.machine_simulation.proofs.Floors.{lowest_floor, looked_above}
use Rattle.machine_simulation.proofs.KeptCalls.{call_behind, stub_behind}
use Rattle.machine_simulation.proofs.KeptOpened.{opened_registers}
use Rattle.machine_simulation.proofs.KeptEntered.{BegunCall, begins_saved}
use Rattle.machine_exceptions.specs.Terminates.{HandlerFits}
use Rattle.machine_exceptions.proofs.Destroying.{beneath_lower}
use Rattle.unexpected_calls.proofs.Above.{stack_apart}

-- what the frame of call_unexpected holds while the unexpected handler runs, and which call it is
pub record Keeps (p : Plan) (n e : ℕ) (z : ℤ) (waiting : Activation) (memory : List Part) (low outer : ℕ) : Type 0 where
  pub callee : waiting.function ≡ call_unexpected
  pub place : waiting.place ≡ 1
  pub object : address_in (waiting.frame.slots 0) ≡ Some (object_address e)
  pub selector : waiting.frame.slots 1 ≡ number_word z
  pub owner : waiting.frame.slots 2 ≡ number_word (pos n)
  pub saved : AddressAt memory (low + return_offset) outer
  pub stopped : AddressAt memory (low + stopped_slot) (p.at (of_exception e))
  pub list : IntAt memory (low + list_slot) z
  pub table : AddressAt memory (low + table_slot) (p.tables n)

-- the call whose specification stopped the exception waits at its operation
pub record Stops (p : Plan) (n o s : ℕ) (top : Activation) (outer : ℕ) : Type 0 where
  pub runs : top.function ≡ compiled n
  pub there : slice_get (function p n).ops top.place ≡ Some (unexpected o s)
  pub returns : outer ≡ address (setting p n).ground (first_word p n + op_word (routine p n) top.place + length (linear_code (shape p n) (unexpected o s)))

pub handler_begun : (p : Plan) (n m o s e depth : ℕ) (z : ℤ) (waiting top : Activation) (fs active : List Activation) (v : World) (t : State) (low back outer : ℕ) → MemoryMatches p n top.frame fs v t.memory (low + 80) back →
    RegistersMatch p n top.frame fs v t.memory (low + 80) (saved_of t) → Keeps p n e z waiting t.memory low outer → Stops p n o s top outer → e ≤ v.last_number → m < length p.unit.functions → HandlerFits p m active →
    lowest_sp (shape p m).leaf (shape p m).size ≤ low → AddressAt t.memory (low - (shape p m).size + return_offset) (stub_word p.base call_unexpected 10) → x t sp ≡ low - (shape p m).size → length t.regs ≡ 32 →
    t.pc ≡ address (setting p m).ground (first_word p m + length (prologue (shape p m))) →
    BegunCall (opened p m v.calls (x t sp)) m (new_frame (slot_kinds p m) [] v) (waiting ∷ top ∷ fs) (new_world (slot_kinds p m) [] depth v) (stub_word p.base call_unexpected 10)
    (length (saves (shape p m) (function p m).parameters saved_registers (shape p m).kept)) t
handler_begun p n m o s e depth z waiting top fs active v t low back outer held kept keeps stops made known fits least returns pointer many_regs at =
    let memory : List Part = t.memory in
    let regs : List ℕ = saved_of t in
    let ret : ℕ = stub_word p.base call_unexpected 10 in
    let under : ℕ = x t sp in
    let c : ℕ = v.calls in
    let q : Plan = opened p m c under in
    let u : World = new_world (slot_kinds p m) [] depth v in
    let frame_is : FrameIs (function p m) = held.unit.frames m known in
    let floor : 0x7000_0000 + (shape p m).size ≤ low = lowest_floor (shape p m).leaf (shape p m).size low frame_is.small least in
    let high : 0x7000_1000 ≤ low + 80 = looked_above p n top.place (low + 80) (unexpected o s) stops.there refl held.top.above in
    let room : under + (shape p m).size ≡ low = omega (arith, pointer, floor) in
    let later : v.last_number ≤ u.last_number = omega (arith, number_beside (slot_kinds p m) c 0 [] v) in
    let begins : Begins p n m v memory low under ret [] = record {
      below = beneath_lower p v memory (low + 80) low (omega arith) (beneath_call p n top.frame fs v memory (low + 80) back held);
      known = known;
      frame = room;
      room = least;
      passed = tt;
      may = λ j word b got found. absurd (cc got);
      few = omega arith;
      taken = fits.taken;
      fits = tt;
      saved = subst (λ a. AddressAt memory (a + return_offset) ret) (sym pointer) returns;
    } in
    let new = opened_registers p m under n top.frame fs v [] depth memory memory (low + 80) back regs frame_is (omega (arith, room)) (λ b k y from there. there) held kept in
    let caller : KeptCalls q (top ∷ fs) u memory (low + 80) regs = call_behind q top.frame u memory (low + 80) regs (λ next others. KeptCalls q fs u memory next others) top.function n stops.runs (new.before, new.top, new.waiting) in
    let all : KeptCalls q (waiting ∷ top ∷ fs) u memory low regs = stub_behind q waiting.frame u memory low regs (λ next others. KeptCalls q (top ∷ fs) u memory next others) waiting.function (inr keeps.callee)
    (subst (λ f. KeptCalls q (top ∷ fs) u memory (low + frame_size f) regs) (sym keeps.callee) caller) in
    begins_saved p n m v low ret [] depth (waiting ∷ top ∷ fs) t begins many_regs at kept.small (λ ints. inr (inl (
      outer,
      record {
        stands = subst (λ f. StubFrame q f memory low outer) (sym keeps.callee) (record {
          above = high;
          below = omega (arith, held.top.below);
          saved = keeps.saved;
          alone = λ b live. frame_apart p m c under low 80 b frame_is (omega (arith, room)) (λ k alive. stack_apart p n top.frame fs v memory (low + 80) back low 80 held (omega (arith, floor)) (omega arith) k alive) live (slot_or_not c (many p m) b);
        });
        waits = inr (inl (record {
          callee = keeps.callee;
          place = keeps.place;
          returns = refl;
          stopped = record { number = e; is = keeps.object; made = omega (arith, made, later); there = keeps.stopped };
          selector = z;
          selector_is = keeps.selector;
          list = keeps.list;
          owner = n;
          owner_is = keeps.owner;
          table = keeps.table;
        }));
      },
      subst (λ f. CallsWait q (top ∷ fs) u memory (low + frame_size f) outer c) (sym keeps.callee) (inl (
        held.newest,
        n,
        back,
        record {
          callee = stops.runs;
          op = unexpected o s;
          there = stops.there;
          calls = inr (inr (o, s, refl));
          front = slot_loaded (shape p n) a0 o ∷ passed a0 0 ∷ slot_loaded (shape p n) a0 s ∷ passed a0 1 ∷ function_called call_unexpected;
          is = refl;
          returns = stops.returns;
          stands = call_opened p m c under n top.frame v u memory (low + 80) back frame_is later held.newest (omega (arith, room)) ints held.top;
        },
        waits_opened p m c under fs v u memory (low + 80 + (shape p n).size) back top.frame.call frame_is later (omega (arith, held.newest)) (omega (arith, room)) ints held.waiting,
      )),
    ))) all
