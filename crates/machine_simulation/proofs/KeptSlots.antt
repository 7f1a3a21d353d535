-- Which slots are those of kept variables.
use Rattle.std.proofs.Common.{◌≡◌, ◌∙◌, refl, sym, ap, arith, ℕ, zero, suc, ◌<◌, List, [], ◌∷◌, length, Option, Some, None}
use Rattle.std.specs.Prelude.{true, false, slice_get}
use Rattle.rv64_isa.specs.State.{State}
use Rattle.rv64_isa.specs.Step.{x}
use Rattle.region_forms.specs.Form.{SlotKind, int_slot, address_slot, object_slot, help_slot, kinds_of, kind_of}
use Rattle.region_forms.specs.WellFormed.{is_variable}
use Rattle.region_forms.specs.World.{Frame, World}
use Rattle.linear_forms.specs.Linear.{FunctionCode}
use Rattle.machine_forms.specs.Registers.{sp, saved_registers}
use Rattle.machine_forms.specs.Kept.{is_int, kept_slots}
use Rattle.machine_forms.specs.KeptCode.{register_of}
use Rattle.machine_forms.specs.KeptLaws.{IsKept}
use Rattle.machine_forms.proofs.Chosen.{variables_are_kept}
use Rattle.machine_pieces.specs.Frames.{FrameHolds, Ready}
use Rattle.machine_pieces.specs.Keeping.{saved_of, KeptHolds}
use Rattle.machine_pieces.proofs.Keeping.{among}
use Rattle.machine_simulation.specs.Plan.{Plan, function, shape, slot_kinds, setting}
use Rattle.machine_simulation.specs.KeptCalls.{kept_of}
use Rattle.machine_simulation.proofs.Slots.{got_inside}

number_there : (xs : List ℕ) (j : ℕ) → j < length xs → (r : ℕ) × (slice_get xs j ≡ Some r)
number_there [] j inside = absurd (omega (arith, inside))
number_there (y ∷ xs) zero inside = (y, refl)
number_there (y ∷ xs) (suc j) inside = number_there xs j (omega (arith, inside))

-- one that is there has a register
pub kept_register : (g : FunctionCode) (j s : ℕ) → slice_get (kept_slots g) j ≡ Some s → (r : ℕ) × (register_of (kept_slots g) s ≡ Some r)
kept_register g j s e =
    let k = variables_are_kept g in
    let few = k.few in
    let inside = got_inside (kept_slots g) j s e in
    let ten : length saved_registers ≡ 10 = refl in
    let there = number_there saved_registers j (omega (arith, inside, few, ten)) in
    (there.0, k.registers j s e ∙ there.1)

-- and one with a register is there
pub record KeptSlot (g : FunctionCode) (s r : ℕ) : Type 0 where
  pub place : ℕ
  pub slot_is : slice_get (kept_slots g) place ≡ Some s
  pub register_is : slice_get saved_registers place ≡ Some r
  pub kept : IsKept g s

pub kept_slot : (g : FunctionCode) (s r : ℕ) → register_of (kept_slots g) s ≡ Some r → KeptSlot g s r
kept_slot g s r e =
    let h = among saved_registers (kept_slots g) s r e in record { place = h.place; slot_is = h.slot; register_is = h.register; kept = (variables_are_kept g).are h.place s h.slot }

int_kind : (k : SlotKind) → is_int k ≡ true → k ≡ int_slot
int_kind int_slot e = refl
int_kind address_slot e = absurd (cc e)
int_kind object_slot e = absurd (cc e)
int_kind help_slot e = absurd (cc e)

-- it is an int variable
pub kept_kind : (g : FunctionCode) (s r : ℕ) → register_of (kept_slots g) s ≡ Some r → kinds_of g.slots s ≡ int_slot
kept_kind g s r e = let h = (kept_slot g s r e).kept in ap kind_of h.there ∙ int_kind h.slot.kind h.int

pub kept_inside : (g : FunctionCode) (s r : ℕ) → register_of (kept_slots g) s ≡ Some r → s < length g.slots
kept_inside g s r e = let h = (kept_slot g s r e).kept in got_inside g.slots s h.slot h.there

-- so a slot that is no variable is none
pub plain_slot : (g : FunctionCode) (s : ℕ) → is_variable (kinds_of g.slots s) ≡ false → register_of (kept_slots g) s ≡ None
plain_slot g s plain = by (register_of (kept_slots g) s) refl
  where
    by : (o : Option ℕ) → register_of (kept_slots g) s ≡ o → register_of (kept_slots g) s ≡ None
    by None e = e
    by (Some r) e =
        let kind = kept_kind g s r e in
        let both : true ≡ false = ap is_variable (sym kind) ∙ plain in
        absurd (cc both)

-- a call's frame stands with the ints of its kept variables in registers
pub ready_of : (p : Plan) (n : ℕ) (frame : Frame) (v : World) (s : State) → length s.regs ≡ 32 → FrameHolds (setting p n) (shape p n) (slot_kinds p n) frame v s.memory (x s sp) → KeptHolds (kept_of p n) frame v (saved_of s) →
    Ready (setting p n) (shape p n) (slot_kinds p n) frame v s
ready_of p n frame v s regs holds keeps = record { registers = regs; holds = holds; ints = λ s r e. kept_kind (function p n) s r e; keeps = keeps }
