-- Ints are written to places of a frame.
use Rattle.std.proofs.Common.{◌≡◌, ◌∙◌, refl, sym, ap, subst, arith, ℕ, ◌+◌, ◌-◌, ◌%◌, ◌^◌, ◌<◌, ℤ, pos, List, length, Option, Some, None}
use Rattle.std.proofs.lemmas.Bool.{eq-eqb}
use Rattle.rv64_isa.specs.declared.step.Step.TheVariants.{Done}
use Rattle.rv64_isa.specs.declared.instr.Instr.TheVariants.{Auipc, Sw}
use Rattle.rv64_isa.specs.Arithmetic.{add}
use Rattle.rv64_isa.specs.State.{State, Part, state, with_value}
use Rattle.rv64_isa.specs.Step.{step_of, next, sets, stores, x, imm12, imm20, done}
use Rattle.region_forms.specs.Form.{SlotKind, int_slot, address_slot, object_slot, help_slot, Kinds, Root, in_slot, through, in_global}
use Rattle.region_forms.specs.World.{of_global, Address, Frame, World, behind, address_in}
use Rattle.region_forms.specs.Evaluation.{Location, in_memory, slot_location, location_behind, root_location}
use Rattle.machine_forms.specs.Immediate.{immediate, upper, lower}
use Rattle.machine_forms.specs.Registers.{register, sp}
use Rattle.machine_forms.specs.Piece.{Target, global_at, Piece, instruction, upper_part, store_rest, placed, distance}
use Rattle.machine_forms.specs.Shape.{Shape, slot_offset}
use Rattle.machine_forms.specs.PlaceCode.{within, root_stored}
use Rattle.machine_pieces.specs.Memory.{MayWrite}
use Rattle.machine_pieces.specs.Numbers.{extended}
use Rattle.machine_pieces.specs.Standing.{Ground, address, PieceAt, PiecesAt}
use Rattle.machine_pieces.specs.Going.{IsKept, Goes, Stores}
use Rattle.machine_pieces.specs.Frames.{Setting, byte_of, Reached, RootFits, SlotFits, FrameHolds, Ready, location_byte}
use Rattle.machine_pieces.specs.Laws.{PlacesAreWritten}
use Rattle.machine_pieces.proofs.Storing.{stores_done}
use Rattle.machine_pieces.proofs.Fetching.{piece_done}
use Rattle.machine_pieces.proofs.Stepping.{one_step, steps_then}
use Rattle.machine_pieces.proofs.Going.{next_is, goes_none, sets_value}
use Rattle.machine_pieces.proofs.Places.{near_address, far_address, reached_from, through_address}

sw_done : (base value imm : ℕ) (s : State) → done (Sw base value imm) s ≡ stores s 4 (add (x s base) (imm12 imm)) (x s value)
unfolding done
sw_done base value imm s = refl

auipc_done : (rd imm : ℕ) (s : State) → done (Auipc rd imm) s ≡ sets s rd (add s.pc (imm20 imm))
unfolding done
auipc_done rd imm s = refl

-- one more word, which writes an int
then_stores : (g : Ground) (here m k : ℕ) (y : Piece) (s : State) (place : ℕ) (z : ℤ) (first : Goes g here m k s) → PieceAt s.memory g (here + m) y → place % 4 ≡ 0 → MayWrite s.memory place 4 →
    done (placed g.places (here + m) y) first.after ≡ stores first.after 4 place (extended z) → Stores g here (m + 1) k s place z
then_stores g here m k y s place z first h aligned may does =
    let t : State = first.after in
    let there : PieceAt t.memory g (here + m) y = subst (λ ps. PieceAt ps g (here + m) y) (sym first.memory) h in
    let may_t : MayWrite t.memory place 4 = subst (λ ps. MayWrite ps place 4) (sym first.memory) may in
    let u : State = state (next t) t.regs (with_value t.memory place 4 (extended z)) in
    let step : step_of t ≡ (Done, u) = piece_done g (here + m) y t there first.pc ∙ does ∙ stores_done t 4 place (extended z) (eq-eqb (place % 4) 0 aligned) may_t in
    record {
      steps = first.steps + 1;
      most = omega (arith, first.most);
      after = u;
      runs = steps_then first.steps 1 s t u first.runs (one_step t u step);
      pc = next_is g (here + m) y t there first.pc ∙ omega arith;
      memory = ap (λ ps. with_value ps place 4 (extended z)) first.memory;
      registers = first.registers;
      kept = first.kept;
    }

-- where a slot's place is
slot_byte : (t : Setting) (f : Shape) (kinds : Kinds) (frame : Frame) (w : World) (memory : List Part) (stack : ℕ) (kind : SlotKind) (s n : ℕ) → FrameHolds t f kinds frame w memory stack → s < length f.slots →
    SlotFits kind n → location_byte t f stack (slot_location kind frame.call s n) ≡ stack + (slot_offset f s + n)
slot_byte t f kinds frame w memory stack int_slot s n h inside fits = omega (arith, h.variables s inside)
slot_byte t f kinds frame w memory stack address_slot s n h inside fits = omega (arith, fits)
slot_byte t f kinds frame w memory stack object_slot s n h inside fits = omega (arith, h.variables s inside)
slot_byte t f kinds frame w memory stack help_slot s n h inside fits = omega (arith, fits)

slot_stores : (t : Setting) (f : Shape) (kinds : Kinds) (frame : Frame) (w : World) (r k here slot n : ℕ) (s : State) (z : ℤ) → Ready t f kinds frame w s → RootFits t f kinds frame (in_slot slot) n →
    PiecesAt s.memory t.ground here (root_stored f r (register k) (in_slot slot) n) → s.pc ≡ address t.ground here → x s r ≡ extended z →
    let place = location_byte t f (x s sp) (slot_location (kinds slot) frame.call slot n) in
    place % 4 ≡ 0 → place < 2 ^ 64 → MayWrite s.memory place 4 → Stores t.ground here 1 k s place z
slot_stores t f kinds frame w r k here slot n s z h fits code at value aligned below may =
    let g : Ground = t.ground in
    let place : ℕ = location_byte t f (x s sp) (slot_location (kinds slot) frame.call slot n) in
    let is : place ≡ x s sp + (slot_offset f slot + n) = slot_byte t f kinds frame w s.memory (x s sp) (kinds slot) slot n h.holds fits.0 fits.2 in
    let y : Piece = instruction (Sw sp r (within f slot n)) in
    let first = goes_none g here k s at h.registers in
    let target : add (x s sp) (imm12 (within f slot n)) ≡ place = near_address (x s sp) (slot_offset f slot + n) fits.1 (omega (arith, is, below)) ∙ sym is in
    let stored = then_stores g here 0 k y s place z first (subst (λ i. PieceAt s.memory g i y) (omega arith) code.0) aligned may
    (sw_done sp r (within f slot n) s ∙ ap (λ a. stores s 4 a (x s r)) target ∙ ap (stores s 4 place) value) in
    stored

through_stores : (t : Setting) (f : Shape) (kinds : Kinds) (frame : Frame) (w : World) (r k here slot n : ℕ) (s : State) (z : ℤ) (b : Address) → Ready t f kinds frame w s → IsKept k r → k < 15 →
    RootFits t f kinds frame (through slot) n → PiecesAt s.memory t.ground here (root_stored f r (register k) (through slot) n) → s.pc ≡ address t.ground here → x s r ≡ extended z →
    address_in (frame.slots slot) ≡ Some b → let place = byte_of t (behind b n) in place % 4 ≡ 0 → place < 2 ^ 64 → MayWrite s.memory place 4 → Stores t.ground here 2 k s place z
through_stores t f kinds frame w r k here slot n s z b h aside inside fits code at value o aligned below may =
    let g : Ground = t.ground in
    let place : ℕ = byte_of t (behind b n) in
    let first = through_address t f kinds frame w k here slot s b h inside fits.0 fits.1 code.0 at o in
    let m : State = first.goes.after in
    let sum : byte_of t b + n ≡ place = omega arith in
    let target : add (x m (register k)) (imm12 (immediate (pos n))) ≡ place
    = ap (λ a. add a (imm12 (immediate (pos n)))) first.is ∙ near_address (byte_of t b) n fits.2 (omega (arith, sum, below)) ∙ sum in
    let kept : x m r ≡ extended z = first.goes.kept r aside ∙ value in
    then_stores g here 1 k (instruction (Sw (register k) r (immediate (pos n)))) s place z first.goes code.1.0 aligned may
    (sw_done (register k) r (immediate (pos n)) m ∙ ap (λ a. stores m 4 a (x m r)) target ∙ ap (stores m 4 place) kept)

global_stores : (t : Setting) (f : Shape) (kinds : Kinds) (frame : Frame) (w : World) (r k here n o : ℕ) (s : State) (z : ℤ) → Ready t f kinds frame w s → IsKept k r → k < 15 →
    RootFits t f kinds frame (in_global n) o → PiecesAt s.memory t.ground here (root_stored f r (register k) (in_global n) o) → s.pc ≡ address t.ground here → x s r ≡ extended z →
    let place = t.at (of_global n) + o in place % 4 ≡ 0 → place < 2 ^ 64 → MayWrite s.memory place 4 → Stores t.ground here 2 k s place z
global_stores t f kinds frame w r k here n o s z h aside inside fits code at value aligned below may =
    let g : Ground = t.ground in
    let rd : ℕ = register k in
    let u : Target = global_at n o in
    let b : ℕ = t.at (of_global n) in
    let none : o ≡ 0 = fits.1 in
    let place : b ≡ b + o = omega (arith, none) in
    let d : ℤ = distance g.places here u in
    let reached = subst (λ i. Reached g (global_at n i) b) (sym none) (h.holds.reached n fits.0) in
    let high : ℕ = add s.pc (imm20 (upper d)) in
    let first = sets_value g here k (upper_part rd u) s high code.0 at h.registers inside (auipc_done rd (upper d) s) in
    let m : State = first.goes.after in
    let here_again : here + 1 - 1 ≡ here = omega arith in
    let low : lower (distance g.places (here + 1 - 1) u) ≡ lower d = ap (λ i. lower (distance g.places i u)) here_again in
    let near = reached.near here code.0.inside in
    let target : add (x m rd) (imm12 (lower (distance g.places (here + 1 - 1) u))) ≡ b + o =
    ap (λ a. add a (imm12 (lower (distance g.places (here + 1 - 1) u)))) first.is ∙ ap (λ i. add high (imm12 i)) low
    ∙ ap (λ p. add (add p (imm20 (upper d))) (imm12 (lower d))) at
    ∙ far_address (address g here) b d (omega (arith, code.0.word.below)) (omega (arith, place, below)) near.0 near.1 (reached_from g here u b reached) ∙ place in
    let kept : x m r ≡ extended z = first.goes.kept r aside ∙ value in
    then_stores g here 1 k (store_rest r rd u) s (b + o) z first.goes code.1.0 aligned may
    (sw_done rd r (lower (distance g.places (here + 1 - 1) u)) m ∙ ap (λ a. stores m 4 a (x m r)) target ∙ ap (stores m 4 (b + o)) kept)

-- an int in a register is written to a place, by means of a register behind it
pub place_stores : (t : Setting) (f : Shape) (kinds : Kinds) (frame : Frame) (w : World) (r k here : ℕ) (s : State) (z : ℤ) (root : Root) (n : ℕ) (l : Location) → Ready t f kinds frame w s → IsKept k r → k < 15 →
    RootFits t f kinds frame root n → PiecesAt s.memory t.ground here (root_stored f r (register k) root n) → s.pc ≡ address t.ground here → x s r ≡ extended z →
    root_location kinds frame root n ≡ Some l → location_byte t f (x s sp) l % 4 ≡ 0 → location_byte t f (x s sp) l < 2 ^ 64 → MayWrite s.memory (location_byte t f (x s sp) l) 4 →
    Stores t.ground here (length (root_stored f r (register k) root n)) k s (location_byte t f (x s sp) l) z
place_stores t f kinds frame w r k here s z (in_slot slot) n l h aside inside fits code at value e aligned below may =
    let same : l ≡ slot_location (kinds slot) frame.call slot n = sym (cc e) in
    subst (λ q. Stores t.ground here 1 k s (location_byte t f (x s sp) q) z) (sym same)
    (slot_stores t f kinds frame w r k here slot n s z h fits code at value (ap (λ q. location_byte t f (x s sp) q % 4) (sym same) ∙ aligned)
    (subst (λ q. location_byte t f (x s sp) q < 2 ^ 64) same below) (subst (λ q. MayWrite s.memory (location_byte t f (x s sp) q) 4) same may))
place_stores t f kinds frame w r k here s z (through slot) n l h aside inside fits code at value e aligned below may = by (address_in (frame.slots slot)) refl e
  where
    by : (o : Option Address) → address_in (frame.slots slot) ≡ o → location_behind n o ≡ Some l → Stores t.ground here 2 k s (location_byte t f (x s sp) l) z
    by None o none = absurd (cc none)
    by (Some b) o some =
        let same : in_memory (behind b n) ≡ l = cc some in
        subst (λ q. Stores t.ground here 2 k s (location_byte t f (x s sp) q) z) same
        (through_stores t f kinds frame w r k here slot n s z b h aside inside fits code at value o (ap (λ q. location_byte t f (x s sp) q % 4) same ∙ aligned)
        (subst (λ q. location_byte t f (x s sp) q < 2 ^ 64) (sym same) below) (subst (λ q. MayWrite s.memory (location_byte t f (x s sp) q) 4) (sym same) may))
place_stores t f kinds frame w r k here s z (in_global n) o l h aside inside fits code at value e aligned below may =
    let same : in_memory (record { base = of_global n; offset = o }) ≡ l = cc e in
    subst (λ q. Stores t.ground here 2 k s (location_byte t f (x s sp) q) z) same
    (global_stores t f kinds frame w r k here n o s z h aside inside fits code at value (ap (λ q. location_byte t f (x s sp) q % 4) same ∙ aligned)
    (subst (λ q. location_byte t f (x s sp) q < 2 ^ 64) (sym same) below) (subst (λ q. MayWrite s.memory (location_byte t f (x s sp) q) 4) (sym same) may))

pub places_are_written : PlacesAreWritten
places_are_written = record {
  place = λ t f kinds frame w r k here s z p l h aside inside fits code at value e aligned below may.
      place_stores t f kinds frame w r k here s z p.root p.offset l h aside inside fits code at value e aligned below may;
}
