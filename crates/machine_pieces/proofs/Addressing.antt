-- Addresses of places of a frame.
use Rattle.std.proofs.Common.{◌≡◌, ◌∙◌, refl, sym, ap, subst, arith, ℕ, ◌+◌, ◌-◌, ◌^◌, ◌<◌, ◌==◌, ℤ, pos, Bool, true, false, cond, List, [], ◌∷◌, length, Option, Some, None}
use Rattle.std.proofs.lemmas.Bool.{eqb-true}
use Rattle.rv64_isa.specs.declared.instr.Instr.TheVariants.{Auipc, Addi}
use Rattle.rv64_isa.specs.Arithmetic.{add}
use Rattle.rv64_isa.specs.State.{State, Part}
use Rattle.rv64_isa.specs.Step.{sets, x, imm12, imm20, done}
use Rattle.region_forms.specs.Form.{SlotKind, int_slot, address_slot, object_slot, help_slot, Kinds, Root, in_slot, through, in_global}
use Rattle.region_forms.specs.World.{of_global, of_variable, Address, Frame, World, behind, address_in}
use Rattle.region_forms.specs.Evaluation.{with_some, location_address, slot_location, location_behind, root_location}
use Rattle.machine_forms.specs.Immediate.{immediate, upper, lower}
use Rattle.machine_forms.specs.Registers.{register, sp}
use Rattle.machine_forms.specs.Piece.{Target, global_at, instruction, upper_part, add_rest, distance}
use Rattle.machine_forms.specs.Shape.{Shape, slot_offset}
use Rattle.machine_forms.specs.PlaceCode.{within, added, root_address}
use Rattle.machine_pieces.specs.Standing.{Ground, address, PiecesAt}
use Rattle.machine_pieces.specs.Going.{Computes}
use Rattle.machine_pieces.specs.Frames.{Setting, byte_of, Reached, RootFits, FrameHolds, Ready}
use Rattle.machine_pieces.specs.Laws.{AddressesAreComputed}
use Rattle.machine_pieces.proofs.Going.{goes_as, sets_value, then_sets}
use Rattle.machine_pieces.proofs.Places.{near_address, far_address, reached_from, through_address}

addi_done : (rd rs imm : ℕ) (s : State) → done (Addi rd rs imm) s ≡ sets s rd (add (x s rs) (imm12 imm))
unfolding done
addi_done rd rs imm s = refl

auipc_done : (rd imm : ℕ) (s : State) → done (Auipc rd imm) s ≡ sets s rd (add s.pc (imm20 imm))
unfolding done
auipc_done rd imm s = refl

-- a slot's address, if it is one of a variable
slot_is : (t : Setting) (f : Shape) (kinds : Kinds) (frame : Frame) (w : World) (memory : List Part) (stack : ℕ) (kind : SlotKind) (s n : ℕ) (b : Address) → FrameHolds t f kinds frame w memory stack →
    s < length f.slots → location_address (slot_location kind frame.call s n) ≡ Some b → stack + (slot_offset f s + n) ≡ byte_of t b
slot_is t f kinds frame w memory stack int_slot s n b h inside e =
    let same : record { base = of_variable frame.call s; offset = n } ≡ b = cc e in
    omega (arith, h.variables s inside) ∙ ap (byte_of t) same
slot_is t f kinds frame w memory stack address_slot s n b h inside e = absurd (cc e)
slot_is t f kinds frame w memory stack object_slot s n b h inside e =
    let same : record { base = of_variable frame.call s; offset = n } ≡ b = cc e in
    omega (arith, h.variables s inside) ∙ ap (byte_of t) same
slot_is t f kinds frame w memory stack help_slot s n b h inside e = absurd (cc e)

added_by : (g : Ground) (here k n a : ℕ) (s : State) (zero : Bool) → (n == 0) ≡ zero → n < 2 ^ 11 → a + n < 2 ^ 64 → k < 15 → (first : Computes g here 1 k s a) →
    let code = cond zero [] (instruction (Addi (register k) (register k) (immediate (pos n))) ∷ []) in PiecesAt s.memory g (here + 1) code → Computes g here (1 + length code) k s (a + n)
added_by g here k n a s true none small below inside first code =
    let same : n ≡ 0 = eqb-true n 0 none in
    record { goes = goes_as g here 1 (1 + 0) k s (omega arith) first.goes; is = first.is ∙ omega (arith, same) }
added_by g here k n a s false some small below inside first code =
    let rd : ℕ = register k in
    let m : State = first.goes.after in
    let value : add (x m rd) (imm12 (immediate (pos n))) ≡ a + n = ap (λ v. add v (imm12 (immediate (pos n)))) first.is ∙ near_address a n small below in
    then_sets g here 1 k (instruction (Addi rd rd (immediate (pos n)))) s (a + n) first.goes code.0 inside (addi_done rd rd (immediate (pos n)) m ∙ ap (sets m rd) value)

pub place_computes : (t : Setting) (f : Shape) (kinds : Kinds) (frame : Frame) (w : World) (k here : ℕ) (s : State) (root : Root) (n : ℕ) (b : Address) → Ready t f kinds frame w s → k < 15 →
    RootFits t f kinds frame root n → PiecesAt s.memory t.ground here (root_address f (register k) root n) → s.pc ≡ address t.ground here → byte_of t b < 2 ^ 64 →
    with_some (root_location kinds frame root n) location_address ≡ Some b → Computes t.ground here (length (root_address f (register k) root n)) k s (byte_of t b)
place_computes t f kinds frame w k here s (in_slot slot) n b h inside fits code at below e =
    let is = slot_is t f kinds frame w s.memory (x s sp) (kinds slot) slot n b h.holds fits.0 e in
    sets_value t.ground here k (instruction (Addi (register k) sp (within f slot n))) s (byte_of t b) code.0 at h.registers inside
    (addi_done (register k) sp (within f slot n) s ∙ ap (sets s (register k)) (near_address (x s sp) (slot_offset f slot + n) fits.1 (omega (arith, is, below)) ∙ is))
place_computes t f kinds frame w k here s (through slot) n b h inside fits code at below e =
    let count : 1 + length (added (register k) n) ≡ length (root_address f (register k) (through slot) n) = omega arith in
    subst (λ m. Computes t.ground here m k s (byte_of t b)) count (by (address_in (frame.slots slot)) refl e)
  where
    by : (o : Option Address) → address_in (frame.slots slot) ≡ o → with_some (location_behind n o) location_address ≡ Some b → Computes t.ground here (1 + length (added (register k) n)) k s (byte_of t b)
    by None o none = absurd (cc none)
    by (Some c) o some =
        let same : behind c n ≡ b = cc some in
        let first = through_address t f kinds frame w k here slot s c h inside fits.0 fits.1 code.0 at o in
        let sum : byte_of t c + n ≡ byte_of t b = omega arith ∙ ap (byte_of t) same in
        subst (Computes t.ground here (1 + length (added (register k) n)) k s) sum
        (added_by t.ground here k n (byte_of t c) s (n == 0) refl fits.2 (omega (arith, sum, below)) inside first code.1)
place_computes t f kinds frame w k here s (in_global n) o b h inside fits code at below e =
    let g : Ground = t.ground in
    let rd : ℕ = register k in
    let u : Target = global_at n o in
    let a : ℕ = t.at (of_global n) in
    let none : o ≡ 0 = fits.1 in
    let same : record { base = of_global n; offset = o } ≡ b = cc e in
    let is : a ≡ byte_of t b = omega (arith, none) ∙ ap (byte_of t) same in
    let d : ℤ = distance g.places here u in
    let reached = subst (λ i. Reached g (global_at n i) a) (sym none) (h.holds.reached n fits.0) in
    let high : ℕ = add s.pc (imm20 (upper d)) in
    let first = sets_value g here k (upper_part rd u) s high code.0 at h.registers inside (auipc_done rd (upper d) s) in
    let m : State = first.goes.after in
    let here_again : here + 1 - 1 ≡ here = omega arith in
    let low : lower (distance g.places (here + 1 - 1) u) ≡ lower d = ap (λ i. lower (distance g.places i u)) here_again in
    let near = reached.near here code.0.inside in
    let value : add (x m rd) (imm12 (lower (distance g.places (here + 1 - 1) u))) ≡ byte_of t b =
    ap (λ v. add v (imm12 (lower (distance g.places (here + 1 - 1) u)))) first.is ∙ ap (λ i. add high (imm12 i)) low ∙ ap (λ p. add (add p (imm20 (upper d))) (imm12 (lower d))) at
    ∙ far_address (address g here) a d (omega (arith, code.0.word.below)) (omega (arith, is, below)) near.0 near.1 (reached_from g here u a reached) ∙ is in
    then_sets g here 1 k (add_rest rd u) s (byte_of t b) first.goes code.1.0 inside (addi_done rd rd (lower (distance g.places (here + 1 - 1) u)) m ∙ ap (sets m rd) value)

pub addresses_are_computed : AddressesAreComputed
addresses_are_computed = record {
  place = λ t f kinds frame w k here s p b h inside fits code at below e. place_computes t f kinds frame w k here s p.root p.offset b h inside fits code at below e;
}
