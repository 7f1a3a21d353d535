-- What call_unexpected is passed: the address of an exception's object, and a selector.
use Rattle.std.proofs.Common.{◌≡◌, ◌∙◌, refl, sym, ap, subst, arith, ℕ, ◌+◌, ◌-◌, ◌*◌, ◌%◌, ◌^◌, ◌<◌, ◌≤◌, ℤ, pos, negsuc, List, [], ◌∷◌, length}
use Rattle.std.proofs.lemmas.Bool.{eq-eqb}
use Rattle.std.proofs.lemmas.Bool.Decides.{nat_tests}
use Rattle.rv64_isa.specs.declared.step.Step.TheVariants.{Done}
use Rattle.rv64_isa.specs.Arithmetic.{add}
use Rattle.rv64_isa.specs.State.{State, Part, state, with_value, value_of}
use Rattle.rv64_isa.specs.Step.{step_of, next, stores, x, imm12}
use Rattle.region_forms.specs.World.{number_word, Frame, World}
use Rattle.linear_forms.specs.Activation.{Activation}
use Rattle.machine_forms.specs.Immediate.{immediate}
use Rattle.machine_forms.specs.Registers.{sp, a0}
use Rattle.machine_forms.specs.Shape.{slot_offset}
use Rattle.machine_forms.specs.Piece.{Piece}
use Rattle.machine_forms.specs.PlaceCode.{slot_loaded, within}
use Rattle.machine_forms.specs.CallCode.{passed}
use Rattle.machine_pieces.specs.Memory.{Holds, MayWrite, Written}
use Rattle.machine_pieces.specs.Numbers.{IsInt, int_bits}
use Rattle.machine_pieces.specs.Standing.{Ground, address, PieceAt, PiecesAt}
use Rattle.machine_pieces.specs.Going.{Computes}
use Rattle.machine_pieces.specs.Frames.{IntAt, AddressAt, WordHolds}
use Rattle.machine_pieces.proofs.Numbers.{int_stored}
use Rattle.machine_pieces.proofs.Storing.{stores_done, holds_apart, value_written}
use Rattle.machine_pieces.proofs.Fetching.{piece_done}
use Rattle.machine_pieces.proofs.Stepping.{one_step, steps_then}
use Rattle.machine_pieces.proofs.Going.{next_is, kept_low, sets_value}
use Rattle.machine_pieces.proofs.Places.{address_done, near_address}
use Rattle.machine_simulation.specs.Plan.{Plan, function, shape, setting}
use Rattle.machine_simulation.specs.Matches.{MemoryMatches}
use Rattle.machine_simulation.proofs.Freeing.{free_matches}
use Rattle.machine_simulation.proofs.Passing.{Passes, four_of_eight}
use Rattle.machine_simulation.proofs.Slots.{slot_place_of, plain_room}
use Rattle.machine_simulation.proofs.Floors.{call_floor}
use Rattle.machine_simulation.proofs.Matching.{values_saved}
use Rattle.machine_exceptions.specs.Makes.{IsWordSlot}
use Rattle.machine_exceptions.proofs.Putting.{sd_done}
use Rattle.machine_exceptions.proofs.Selectors.{lower_four}

second_place : (a : ℕ) → 16 ≤ a → a < 2 ^ 64 → add a (imm12 (immediate (negsuc (8 * 1 + 7)))) ≡ a - 8 * (1 + 1)
second_place a le below = grind (arith, nat_tests, le, below)

-- ---- a selector comes from its slot, and stands in eight bytes below sp

bits_below : (z : ℤ) → IsInt z → int_bits z < 2 ^ 32
bits_below z int = omega (arith, int_stored z int)

-- eight bytes of a slot, of which four hold the selector
record EightHeld (memory : List Part) (a : ℕ) (z : ℤ) : Type 0 where
  value : ℕ
  held : AddressAt memory a value
  lower : value % 2 ^ 32 ≡ int_bits z
  int : IsInt z

eight_held : (p : Plan) (n : ℕ) (frame : Frame) (fs : List Activation) (v : World) (back slot : ℕ) (z : ℤ) (s : State) → MemoryMatches p n frame fs v s.memory (x s sp) back → IsWordSlot p n slot → frame.slots slot ≡ number_word z →
    EightHeld s.memory (x s sp + slot_offset (shape p n) slot) z
eight_held p n frame fs v back slot z s h holds is =
    let a : ℕ = x s sp + slot_offset (shape p n) slot in
    let there : IntAt s.memory a z = subst (WordHolds (setting p n) s.memory a) is (h.top.holds.slots slot holds.inside) in
    let place = slot_place_of (function p n) slot (h.unit.frames n h.top.known) holds.inside in
    let eight_room = plain_room (function p n) slot (h.unit.frames n h.top.known) holds.inside holds.plain in
    let may : MayWrite s.memory a 8 = h.may a 8 (omega (arith, call_floor p n frame v s.memory (x s sp) back h.top)) (omega (arith, h.top.below, place.high, eight_room)) in
    let eight : Holds s.memory a 8 (value_of may.bytes) = record { bytes = may.bytes; there = may.there; is = refl } in
    record {
      value = value_of may.bytes;
      held = record { aligned = omega (arith, h.top.saved.aligned, place.even); below = there.below; holds = eight };
      lower = lower_four s.memory a (value_of may.bytes) (int_bits z) eight there.holds (bits_below z there.int);
      int = there.int;
    }

-- the selector is passed as the second word, and the first stays
pub record SelectorPassed (p : Plan) (n : ℕ) (frame : Frame) (fs : List Activation) (v : World) (back here : ℕ) (z : ℤ) (s : State) : Type 0 where
  pub passes : Passes p n frame fs v back here 2 1 [] s
  pub selector : IntAt passes.after.memory (x s sp - 16) z

pub selector_passed : (p : Plan) (n : ℕ) (frame : Frame) (fs : List Activation) (v : World) (back here slot : ℕ) (z : ℤ) (s : State) → MemoryMatches p n frame fs v s.memory (x s sp) back → IsWordSlot p n slot → frame.slots slot ≡ number_word z →
    0x7000_1000 ≤ x s sp → length s.regs ≡ 32 → s.pc ≡ address (setting p n).ground here → PiecesAt s.memory (setting p n).ground here (slot_loaded (shape p n) a0 slot ∷ passed a0 1 ∷ []) → SelectorPassed p n frame fs v back here z s
selector_passed p n frame fs v back here slot z s h holds is high regs at code =
    let g : Ground = (setting p n).ground in
    let e = eight_held p n frame fs v back slot z s h holds is in
    let near : add (x s sp) (imm12 (within (shape p n) slot 0)) ≡ x s sp + slot_offset (shape p n) slot =
    ap (λ k. add (x s sp) (imm12 (immediate (pos k)))) (omega arith) ∙ near_address (x s sp) (slot_offset (shape p n) slot) holds.near e.held.below in
    let first : Computes g here 1 0 s e.value = sets_value g here 0 (slot_loaded (shape p n) a0 slot) s e.value code.0 at regs (omega arith)
    (address_done a0 sp (within (shape p n) slot 0) (x s sp + slot_offset (shape p n) slot) e.value s near e.held) in
    let goes = first.goes in
    let m : State = goes.after in
    let a : ℕ = x s sp - 8 * (1 + 1) in
    let new : List Part = with_value s.memory a 8 e.value in
    let y : Piece = passed a0 1 in
    let code_m : PieceAt m.memory g (here + 1) y = subst (λ ps. PieceAt ps g (here + 1) y) (sym goes.memory) code.1.0 in
    let stack : x m sp ≡ x s sp = goes.kept sp (kept_low 0 sp (omega arith)) in
    let target : add (x m sp) (imm12 (immediate (negsuc (8 * 1 + 7)))) ≡ a
    = ap (λ b. add b (imm12 (immediate (negsuc (8 * 1 + 7))))) stack ∙ second_place (x s sp) (omega (arith, high)) (omega (arith, h.top.below)) in
    let even : a % 8 ≡ 0 = omega (arith, h.top.saved.aligned, high) in
    let low : 0x7000_0000 ≤ a = omega (arith, high) in
    let may8 : MayWrite s.memory a 8 = h.may a 8 low (omega (arith, h.top.below, high)) in
    let may4 : MayWrite s.memory a 4 = h.may a 4 low (omega (arith, h.top.below, high)) in
    let may_m : MayWrite m.memory a 8 = subst (λ ps. MayWrite ps a 8) (sym goes.memory) may8 in
    let u : State = state (next m) m.regs (with_value m.memory a 8 e.value) in
    let step : step_of m ≡ (Done, u)
    = piece_done g (here + 1) y m code_m goes.pc ∙ sd_done sp a0 (immediate (negsuc (8 * 1 + 7))) m ∙ ap (λ b. stores m 8 b (x m a0)) target ∙ ap (stores m 8 a) first.is
    ∙ stores_done m 8 a e.value (eq-eqb (a % 8) 0 even) may_m in
    let memory : u.memory ≡ new = ap (λ ps. with_value ps a 8 e.value) goes.memory in
    let held : IntAt new a z = record { int = e.int; aligned = omega (arith, even); below = omega (arith, h.top.below); holds = subst (Holds new a 4) e.lower (four_of_eight s.memory a e.value may4) } in
    record {
      passes = record {
        steps = goes.steps + 1;
        most = omega (arith, goes.most);
        after = u;
        runs = steps_then goes.steps 1 s m u goes.runs (one_step m u step);
        pc = next_is g (here + 1) y m code_m goes.pc ∙ omega arith;
        registers = goes.registers;
        stack = stack;
        saved = values_saved s m goes.kept;
        written = subst (Written s.memory) (sym memory) (value_written s.memory a 8 e.value may8);
        memory = subst (λ ps. MemoryMatches p n frame fs v ps (x s sp) back) (sym memory)
            (free_matches p n frame fs v s.memory (x s sp) back a 8 e.value h (record { low = low; high = omega (arith, high) }));
        passed = tt;
        above = λ b k c from there. subst (λ ps. Holds ps b k c) (sym memory)
            (holds_apart s.memory a 8 e.value b k c (λ i1 j1 hi hj same. omega (arith, from, hi, same, high)) there);
        held = λ j other b got named. absurd (cc got);
      };
      selector = subst (λ ps. IntAt ps a z) (sym memory) held;
    }
