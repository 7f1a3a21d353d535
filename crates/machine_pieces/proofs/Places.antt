-- Loads from places of a frame.
use Rattle.std.proofs.Common.{◌≡◌, ◌∙◌, refl, sym, ap, subst, arith, ℕ, ◌+◌, ◌-◌, ◌%◌, ◌^◌, ◌<◌, ℤ, pos, negsuc, List, [], ◌∷◌, length, Option, Some, None, Bool, true, false}
use Rattle.std.specs.Prelude.{◌+ℤ◌, if◌then◌else◌}
use Rattle.std.proofs.lemmas.Bool.{eq-eqb}
use Rattle.std.proofs.lemmas.Bool.Decides.{nat_tests}
use Rattle.std.proofs.lemmas.Int.{ints}
use Rattle.rv64_isa.specs.declared.instr.Instr.TheVariants.{Addi, Auipc, Lw, Ld}
use Rattle.rv64_isa.specs.Arithmetic.{add, sign_extended}
use Rattle.rv64_isa.specs.State.{State, Part}
use Rattle.rv64_isa.specs.Step.{sets, loads, x, imm12, imm20, done}
use Rattle.region_forms.specs.Form.{SlotKind, int_slot, address_slot, object_slot, help_slot, Kinds, Root, in_slot, through, in_global}
use Rattle.region_forms.specs.World.{of_global, of_variable, Address, Word, nothing, number_word, address_word, flying, unwinding, Frame, World, object_address, behind, address_in, number_in}
use Rattle.region_forms.specs.Evaluation.{slot_location, location_behind, root_location, read_location, with_some}
use Rattle.machine_forms.specs.Immediate.{immediate, upper, lower}
use Rattle.machine_forms.specs.KeptCode.{copied, int_read, register_of}
use Rattle.machine_forms.specs.Registers.{register, saved_registers, sp}
use Rattle.machine_forms.specs.Piece.{Target, instruction, upper_part, load_rest, global_at, distance}
use Rattle.machine_forms.specs.Shape.{Shape, slot_offset}
use Rattle.machine_forms.specs.PlaceCode.{within, root_loaded, slot_loaded}
use Rattle.machine_pieces.specs.Numbers.{IsInt, extended, int_bits}
use Rattle.machine_pieces.specs.Standing.{Ground, address, PieceAt, PiecesAt}
use Rattle.machine_pieces.specs.Going.{Computes, MaySet, Puts, Sets}
use Rattle.machine_pieces.specs.Frames.{Setting, byte_of, IntAt, AddressAt, WordHolds, Reached, SlotFits, RootFits, RootIsLive, FrameHolds, Ready}
use Rattle.machine_pieces.proofs.Storing.{loads_done}
use Rattle.machine_pieces.proofs.Numbers.{extended_below, int_loaded}
use Rattle.machine_pieces.proofs.Going.{computes_of, may_set, puts_again, puts_value}
use Rattle.machine_pieces.proofs.Keeping.{among, held_at}
use Rattle.region_forms.specs.Lives.{is_there}

-- ---- addresses in two parts

-- a base and an offset of 12 bits
pub near_address : (a n : ℕ) → n < 2 ^ 11 → a + n < 2 ^ 64 → add a (imm12 (immediate (pos n))) ≡ a + n
near_address a n small below = grind (arith, nat_tests, small, below)

-- the pc, the upper part of a distance and the lower one
far_up : (pc d : ℕ) → d < 2 ^ 30 → pc + d < 2 ^ 64 → add (add pc (imm20 (upper (pos d)))) (imm12 (lower (pos d))) ≡ pc + d
far_up pc d small below = grind (arith, nat_tests, small, below)

far_down : (b d : ℕ) → d < 2 ^ 30 → b + (d + 1) < 2 ^ 64 → add (add (b + (d + 1)) (imm20 (upper (negsuc d)))) (imm12 (lower (negsuc d))) ≡ b
far_down b d small below = grind (arith, nat_tests, small, below)

pub far_address : (pc b : ℕ) (d : ℤ) → pc < 2 ^ 64 → b < 2 ^ 64 → b < pc + 2 ^ 30 → pc < b + 2 ^ 30 → pos pc +ℤ d ≡ pos b → add (add pc (imm20 (upper d))) (imm12 (lower d)) ≡ b
far_address pc b (pos d) hp hb near far is =
    let sum : pc + d ≡ b = omega (arith, ints, is) in
    far_up pc d (omega (arith, near, sum)) (omega (arith, hb, sum)) ∙ sum
far_address pc b (negsuc d) hp hb near far is =
    let sum : b + (d + 1) ≡ pc = omega (arith, ints, is) in
    ap (λ p. add (add p (imm20 (upper (negsuc d)))) (imm12 (lower (negsuc d)))) (sym sum) ∙ far_down b d (omega (arith, far, sum)) (omega (arith, hp, sum))

-- the distance from a word to a target that is reached
pub reached_from : (g : Ground) (here : ℕ) (u : Target) (a : ℕ) → Reached g u a → pos (address g here) +ℤ distance g.places here u ≡ pos a
reached_from g here u a h = omega (arith, ints, h.is)

-- ---- what the words do

lw_done : (rd rs imm : ℕ) (s : State) → done (Lw rd rs imm) s ≡ loads s 4 (λ n. sign_extended 32 n) rd (add (x s rs) (imm12 imm))
unfolding done
lw_done rd rs imm s = refl

ld_done : (rd rs imm : ℕ) (s : State) → done (Ld rd rs imm) s ≡ loads s 8 (λ n. n) rd (add (x s rs) (imm12 imm))
unfolding done
ld_done rd rs imm s = refl

auipc_done : (rd imm : ℕ) (s : State) → done (Auipc rd imm) s ≡ sets s rd (add s.pc (imm20 imm))
unfolding done
auipc_done rd imm s = refl

addi_done : (rd rs imm : ℕ) (s : State) → done (Addi rd rs imm) s ≡ sets s rd (add (x s rs) (imm12 imm))
unfolding done
addi_done rd rs imm s = refl

with_none : (a : ℕ) → a < 2 ^ 64 → add a (imm12 0) ≡ a
with_none a below = omega (arith, below)

-- an int is copied
pub copied_done : (rd r : ℕ) (s : State) (z : ℤ) → IsInt z → x s r ≡ extended z → done (copied rd r) s ≡ sets s rd (extended z)
copied_done rd r s z int is = addi_done rd r 0 s ∙ ap (λ a. sets s rd (add a (imm12 0))) is ∙ ap (sets s rd) (with_none (extended z) (extended_below z int))

pub int_done : (rd rs imm a : ℕ) (z : ℤ) (s : State) → add (x s rs) (imm12 imm) ≡ a → IntAt s.memory a z → done (Lw rd rs imm) s ≡ sets s rd (extended z)
int_done rd rs imm a z s at h =
    lw_done rd rs imm s ∙ ap (loads s 4 (λ n. sign_extended 32 n) rd) at
    ∙ loads_done s 4 (λ n. sign_extended 32 n) rd a (int_bits z) (eq-eqb (a % 4) 0 h.aligned) h.holds ∙ ap (sets s rd) (int_loaded z h.int)

pub address_done : (rd rs imm a b : ℕ) (s : State) → add (x s rs) (imm12 imm) ≡ a → AddressAt s.memory a b → done (Ld rd rs imm) s ≡ sets s rd b
address_done rd rs imm a b s at h =
    ld_done rd rs imm s ∙ ap (loads s 8 (λ n. n) rd) at ∙ loads_done s 8 (λ n. n) rd a b (eq-eqb (a % 8) 0 h.aligned) h.holds

-- ---- what slots hold

number_there : (t : Setting) (memory : List Part) (a : ℕ) (word : Word) (z : ℤ) → WordHolds t memory a word → number_in word ≡ Some z → IntAt memory a z
number_there t memory a nothing z h e = absurd (cc e)
number_there t memory a (number_word v) z h e = let same : v ≡ z = cc e in subst (IntAt memory a) same h
number_there t memory a (address_word b) z h e = absurd (cc e)
number_there t memory a (flying n target) z h e = absurd (cc e)
number_there t memory a (unwinding n) z h e = absurd (cc e)

pub address_there : (t : Setting) (memory : List Part) (a : ℕ) (word : Word) (b : Address) → WordHolds t memory a word → address_in word ≡ Some b → AddressAt memory a (byte_of t b)
address_there t memory a nothing b h e = absurd (cc e)
address_there t memory a (number_word v) b h e = absurd (cc e)
address_there t memory a (address_word c) b h e = let same : c ≡ b = cc e in subst (λ d. AddressAt memory a (byte_of t d)) same h
address_there t memory a (flying n target) b h e = let same : object_address n ≡ b = cc e in subst (λ d. AddressAt memory a (byte_of t d)) same h
address_there t memory a (unwinding n) b h e = absurd (cc e)

-- the int in a slot
variable_there : (t : Setting) (f : Shape) (kinds : Kinds) (frame : Frame) (w : World) (memory : List Part) (stack s n : ℕ) (z : ℤ) → FrameHolds t f kinds frame w memory stack →
    s < length f.slots → register_of f.kept s ≡ None → w.memory (record { base = of_variable frame.call s; offset = n }) ≡ Some z → IntAt memory (stack + (slot_offset f s + n)) z
variable_there t f kinds frame w memory stack s n z h inside none e =
    let place : t.at (of_variable frame.call s) + n ≡ stack + (slot_offset f s + n) = omega (arith, h.variables s inside) in
    subst (λ a. IntAt memory a z) place (h.ints (record { base = of_variable frame.call s; offset = n }) z (h.own s inside none) e)

held_there : (t : Setting) (f : Shape) (kinds : Kinds) (frame : Frame) (w : World) (memory : List Part) (stack : ℕ) (s n : ℕ) (z : ℤ) → FrameHolds t f kinds frame w memory stack →
    s < length f.slots → n ≡ 0 → number_in (frame.slots s) ≡ Some z → IntAt memory (stack + (slot_offset f s + n)) z
held_there t f kinds frame w memory stack s n z h inside none e =
    let place : stack + slot_offset f s ≡ stack + (slot_offset f s + n) = omega (arith, none) in
    subst (λ a. IntAt memory a z) place (number_there t memory (stack + slot_offset f s) (frame.slots s) z (h.slots s inside) e)

slot_there : (t : Setting) (f : Shape) (kinds : Kinds) (frame : Frame) (w : World) (memory : List Part) (stack : ℕ) (kind : SlotKind) (s n : ℕ) (z : ℤ) → FrameHolds t f kinds frame w memory stack →
    s < length f.slots → register_of f.kept s ≡ None → SlotFits kind n → read_location frame w (slot_location kind frame.call s n) ≡ Some z → IntAt memory (stack + (slot_offset f s + n)) z
slot_there t f kinds frame w memory stack int_slot s n z h inside none fits e = variable_there t f kinds frame w memory stack s n z h inside none e
slot_there t f kinds frame w memory stack address_slot s n z h inside none fits e = held_there t f kinds frame w memory stack s n z h inside fits e
slot_there t f kinds frame w memory stack object_slot s n z h inside none fits e = variable_there t f kinds frame w memory stack s n z h inside none e
slot_there t f kinds frame w memory stack help_slot s n z h inside none fits e = held_there t f kinds frame w memory stack s n z h inside fits e

-- the int of a kept variable is that of its slot in the world
kept_there : (frame : Frame) (w : World) (kind : SlotKind) (s n : ℕ) (z : ℤ) → kind ≡ int_slot → n ≡ 0 → read_location frame w (slot_location kind frame.call s n) ≡ Some z →
    w.memory (record { base = of_variable frame.call s; offset = 0 }) ≡ Some z
kept_there frame w int_slot s n z is none e = ap (λ i. w.memory (record { base = of_variable frame.call s; offset = i })) (sym none) ∙ e
kept_there frame w address_slot s n z is none e = absurd (cc is)
kept_there frame w object_slot s n z is none e = absurd (cc is)
kept_there frame w help_slot s n z is none e = absurd (cc is)

-- it is in its register
pub register_there : (t : Setting) (f : Shape) (kinds : Kinds) (frame : Frame) (w : World) (slot n r : ℕ) (s : State) (z : ℤ) → Ready t f kinds frame w s → register_of f.kept slot ≡ Some r →
    n ≡ 0 → read_location frame w (slot_location (kinds slot) frame.call slot n) ≡ Some z → IsInt z × (x s r ≡ extended z)
register_there t f kinds frame w slot n r s z h is none e =
    let a = among saved_registers f.kept slot r is in
    let there = kept_there frame w (kinds slot) slot n z (h.ints slot r is) none e in
    let keeps = h.keeps a.place slot z a.slot there in
    (keeps.0, sym (held_at (x s) saved_registers a.place r a.register) ∙ keeps.1)

-- what is read was there
read_there : (b : Bool) (v : Option ℤ) (z : ℤ) → (if b then v else None) ≡ Some z → v ≡ Some z
read_there true v z e = e
read_there false v z e = absurd (cc e)

-- ---- a place is loaded

-- a register gets what a slot holds that is no variable
slot_puts : (t : Setting) (f : Shape) (kinds : Kinds) (frame : Frame) (w : World) (k rd here slot : ℕ) (s : State) (b : Address) → Ready t f kinds frame w s → MaySet rd →
    slot < length f.slots → slot_offset f slot < 2 ^ 11 → PieceAt s.memory t.ground here (slot_loaded f rd slot) → s.pc ≡ address t.ground here → address_in (frame.slots slot) ≡ Some b →
    Puts t.ground here 1 k rd s (byte_of t b)
slot_puts t f kinds frame w k rd here slot s b h may inside fits code at e =
    let there = address_there t s.memory (x s sp + slot_offset f slot) (frame.slots slot) b (h.holds.slots slot inside) e in
    let place : add (x s sp) (imm12 (within f slot 0)) ≡ x s sp + slot_offset f slot =
    ap (λ n. add (x s sp) (imm12 (immediate (pos n)))) (omega arith) ∙ near_address (x s sp) (slot_offset f slot) fits there.below in
    puts_value t.ground here k rd (slot_loaded f rd slot) s (byte_of t b) code at h.registers may (address_done rd sp (within f slot 0) (x s sp + slot_offset f slot) (byte_of t b) s place there)

pub through_address : (t : Setting) (f : Shape) (kinds : Kinds) (frame : Frame) (w : World) (k here slot : ℕ) (s : State) (b : Address) → Ready t f kinds frame w s → k < 15 →
    slot < length f.slots → slot_offset f slot < 2 ^ 11 → PieceAt s.memory t.ground here (slot_loaded f (register k) slot) → s.pc ≡ address t.ground here → address_in (frame.slots slot) ≡ Some b →
    Computes t.ground here 1 k s (byte_of t b)
through_address t f kinds frame w k here slot s b h small inside fits code at e =
    computes_of t.ground here 1 k s (byte_of t b) small (slot_puts t f kinds frame w k (register k) here slot s b h (may_set k small) inside fits code at e)

-- the int of a slot, in memory or in the register of a kept variable
slot_sets : (t : Setting) (f : Shape) (kinds : Kinds) (frame : Frame) (w : World) (k rd here slot n : ℕ) (s : State) (z : ℤ) → Ready t f kinds frame w s → MaySet rd →
    RootFits t f kinds frame (in_slot slot) n → (o : Option ℕ) → register_of f.kept slot ≡ o → PiecesAt s.memory t.ground here (instruction (int_read o rd (within f slot n)) ∷ []) → s.pc ≡ address t.ground here →
    read_location frame w (slot_location (kinds slot) frame.call slot n) ≡ Some z → Sets t.ground here 1 k rd s z
slot_sets t f kinds frame w k rd here slot n s z h may fits None o code at e =
    let there = slot_there t f kinds frame w s.memory (x s sp) (kinds slot) slot n z h.holds fits.0 o fits.2 e in
    let place : add (x s sp) (imm12 (within f slot n)) ≡ x s sp + (slot_offset f slot + n) = near_address (x s sp) (slot_offset f slot + n) fits.1 there.below in
    record {
      int = there.int;
      puts = puts_value t.ground here k rd (instruction (Lw rd sp (within f slot n))) s (extended z) code.0 at h.registers may
          (int_done rd sp (within f slot n) (x s sp + (slot_offset f slot + n)) z s place there);
    }
slot_sets t f kinds frame w k rd here slot n s z h may fits (Some r) o code at e =
    let there = register_there t f kinds frame w slot n r s z h o (fits.3 r o) e in
    record { int = there.0; puts = puts_value t.ground here k rd (instruction (copied rd r)) s (extended z) code.0 at h.registers may (copied_done rd r s z there.0 there.1) }

through_sets : (t : Setting) (f : Shape) (kinds : Kinds) (frame : Frame) (w : World) (k rd here slot n : ℕ) (s : State) (z : ℤ) → Ready t f kinds frame w s → MaySet rd →
    RootFits t f kinds frame (through slot) n → RootIsLive t frame (through slot) → PiecesAt s.memory t.ground here (root_loaded f rd (through slot) n) → s.pc ≡ address t.ground here →
    (o : Option Address) → address_in (frame.slots slot) ≡ o → with_some (location_behind n o) (read_location frame w) ≡ Some z → Sets t.ground here 2 k rd s z
through_sets t f kinds frame w k rd here slot n s z h may fits live code at None o e = absurd (cc e)
through_sets t f kinds frame w k rd here slot n s z h may fits live code at (Some b) o e =
    let g : Ground = t.ground in
    let first = slot_puts t f kinds frame w k rd here slot s b h may fits.0 fits.1 code.0 at o in
    let there : IntAt s.memory (byte_of t b + n) z = subst (λ a. IntAt s.memory a z) (omega arith) (h.holds.ints (behind b n) z (live b o) (read_there (is_there w b.base) (w.memory (behind b n)) z e)) in
    let m : State = first.after in
    let base : x m rd ≡ byte_of t b = first.is in
    let place : add (x m rd) (imm12 (immediate (pos n))) ≡ byte_of t b + n = ap (λ a. add a (imm12 (immediate (pos n)))) base ∙ near_address (byte_of t b) n fits.2 there.below in
    let still : IntAt m.memory (byte_of t b + n) z = subst (λ ps. IntAt ps (byte_of t b + n) z) (sym first.memory) there in
    record {
      int = there.int;
      puts = puts_again g here 1 k rd (instruction (Lw rd rd (immediate (pos n)))) s (byte_of t b) (extended z) first code.1.0 may (int_done rd rd (immediate (pos n)) (byte_of t b + n) z m place still);
    }

global_sets : (t : Setting) (f : Shape) (kinds : Kinds) (frame : Frame) (w : World) (k rd here n o : ℕ) (s : State) (z : ℤ) → Ready t f kinds frame w s → MaySet rd →
    RootFits t f kinds frame (in_global n) o → PiecesAt s.memory t.ground here (root_loaded f rd (in_global n) o) → s.pc ≡ address t.ground here →
    w.memory (record { base = of_global n; offset = o }) ≡ Some z → Sets t.ground here 2 k rd s z
global_sets t f kinds frame w k rd here n o s z h may fits code at e =
    let g : Ground = t.ground in
    let u : Target = global_at n 0 in
    let b : ℕ = t.at (of_global n) in
    let none : o ≡ 0 = fits.1 in
    let there : IntAt s.memory b z = subst (λ a. IntAt s.memory a z) (omega (arith, none)) (h.holds.ints (record { base = of_global n; offset = o }) z (h.holds.all_globals n fits.0) e) in
    let one : PieceAt s.memory g here (upper_part rd u) = subst (λ i. PieceAt s.memory g here (upper_part rd (global_at n i))) none code.0 in
    let two : PieceAt s.memory g (here + 1) (load_rest rd u) = subst (λ i. PieceAt s.memory g (here + 1) (load_rest rd (global_at n i))) none code.1.0 in
    let d : ℤ = distance g.places here u in
    let reached = h.holds.reached n fits.0 in
    let high : ℕ = add s.pc (imm20 (upper d)) in
    let first = puts_value g here k rd (upper_part rd u) s high one at h.registers may (auipc_done rd (upper d) s) in
    let m : State = first.after in
    let here_again : here + 1 - 1 ≡ here = omega arith in
    let low : lower (distance g.places (here + 1 - 1) u) ≡ lower d = ap (λ i. lower (distance g.places i u)) here_again in
    let near = reached.near here one.inside in
    let place : add (x m rd) (imm12 (lower (distance g.places (here + 1 - 1) u))) ≡ b =
    ap (λ a. add a (imm12 (lower (distance g.places (here + 1 - 1) u)))) first.is ∙ ap (λ i. add high (imm12 i)) low
    ∙ ap (λ p. add (add p (imm20 (upper d))) (imm12 (lower d))) at
    ∙ far_address (address g here) b d (omega (arith, one.word.below)) there.below near.0 near.1 (reached_from g here u b reached) in
    let still : IntAt m.memory b z = subst (λ ps. IntAt ps b z) (sym first.memory) there in
    record {
      int = there.int;
      puts = puts_again g here 1 k rd (load_rest rd u) s high (extended z) first two may (int_done rd rd (lower (distance g.places (here + 1 - 1) u)) b z m place still);
    }

-- what a place holds, in a register
pub place_sets : (t : Setting) (f : Shape) (kinds : Kinds) (frame : Frame) (w : World) (k rd here : ℕ) (s : State) (z : ℤ) (root : Root) (n : ℕ) → Ready t f kinds frame w s → MaySet rd →
    RootFits t f kinds frame root n → RootIsLive t frame root → PiecesAt s.memory t.ground here (root_loaded f rd root n) → s.pc ≡ address t.ground here →
    with_some (root_location kinds frame root n) (read_location frame w) ≡ Some z → Sets t.ground here (length (root_loaded f rd root n)) k rd s z
place_sets t f kinds frame w k rd here s z (in_slot slot) n h may fits live code at e = slot_sets t f kinds frame w k rd here slot n s z h may fits (register_of f.kept slot) refl code at e
place_sets t f kinds frame w k rd here s z (through slot) n h may fits live code at e = through_sets t f kinds frame w k rd here slot n s z h may fits live code at (address_in (frame.slots slot)) refl e
place_sets t f kinds frame w k rd here s z (in_global g) n h may fits live code at e = global_sets t f kinds frame w k rd here g n s z h may fits code at e
