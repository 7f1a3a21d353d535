-- Where the slots of a frame stand in it.
use Rattle.std.proofs.Common.{◌≡◌, ◌∙◌, refl, sym, ap, subst, arith, ℕ, zero, suc, ◌+◌, ◌*◌, ◌%◌, ◌<◌, ◌≤◌, List, [], ◌∷◌, length, take, Some}
use Rattle.std.specs.Prelude.{slice_get, false}
use Rattle.region_forms.specs.Form.{Slot, SlotKind, int_slot, address_slot, object_slot, help_slot, Kinds, kinds_of, kind_of}
use Rattle.region_forms.specs.WellFormed.{is_variable}
use Rattle.region_forms.specs.World.{Word}
use Rattle.linear_forms.specs.Linear.{FunctionCode}
use Rattle.linear_forms.specs.Frame.{rounded_up, slot_bytes}
use Rattle.machine_forms.specs.Shape.{Shape, slot_offset}
use Rattle.machine_forms.specs.Emitted.{shape_of}
use Rattle.machine_forms.specs.KeptLaws.{IsKept}
use Rattle.machine_simulation.specs.Matches.{SizeIs, FrameIs}
use Rattle.machine_simulation.specs.Entering.{slot_room, WordFits, WordsFit}

pub slot_there : (slots : List Slot) (s : ℕ) → s < length slots → (slot : Slot) × (slice_get slots s ≡ Some slot)
slot_there [] s inside = absurd (omega (arith, inside))
slot_there (x ∷ slots) zero inside = (x, refl)
slot_there (x ∷ slots) (suc s) inside = slot_there slots s (omega (arith, inside))

-- ---- the bytes of the first slots

bytes_next : (slots : List Slot) (s : ℕ) (slot : Slot) → slice_get slots s ≡ Some slot → slot_bytes (take (suc s) slots) ≡ slot_bytes (take s slots) + rounded_up 7 slot.size
bytes_next [] s slot e = absurd (cc e)
bytes_next (x ∷ slots) zero slot e = let same : x ≡ slot = cc e in omega (arith, ap (λ (y : Slot). rounded_up 7 y.size) same)
bytes_next (x ∷ slots) (suc s) slot e = omega (arith, bytes_next slots s slot e)

pub bytes_most : (slots : List Slot) (k : ℕ) → slot_bytes (take k slots) ≤ slot_bytes slots
bytes_most slots zero = omega arith
bytes_most [] (suc k) = omega arith
bytes_most (x ∷ slots) (suc k) = omega (arith, bytes_most slots k)

bytes_order : (slots : List Slot) (j k : ℕ) → j ≤ k → slot_bytes (take j slots) ≤ slot_bytes (take k slots)
bytes_order slots zero k le = omega arith
bytes_order [] (suc j) k le = omega arith
bytes_order (x ∷ slots) (suc j) zero le = absurd (omega (arith, le))
bytes_order (x ∷ slots) (suc j) (suc k) le = omega (arith, bytes_order slots j k (omega (arith, le)))

bytes_even : (slots : List Slot) → slot_bytes slots % 8 ≡ 0
bytes_even [] = refl
bytes_even (x ∷ slots) = omega (arith, bytes_even slots)

-- ---- a slot in a frame

-- It stands above the saved area, at a multiple of 8, and below those before it.
pub record SlotPlace (f : Shape) (s : ℕ) : Type 0 where
  pub low : 16 ≤ slot_offset f s
  pub high : slot_offset f s + slot_room f s ≤ f.size
  pub even : slot_offset f s % 8 ≡ 0
  pub order : (t : ℕ) → s < t → t < length f.slots → slot_offset f t + slot_room f t ≤ slot_offset f s

pub slot_place_of : (g : FunctionCode) (s : ℕ) → FrameIs g → s < length g.slots → SlotPlace (shape_of g) s
slot_place_of g s h inside = record {
  low = omega (arith, h.size, bytes_most g.slots (s + 1));
  high = omega (arith, h.size, bytes_most g.slots (s + 1), bytes_order g.slots s (s + 1) (omega arith));
  even = omega (arith, h.size, bytes_even (take (s + 1) g.slots), bytes_most g.slots (s + 1));
  order = λ t less there.
      omega (arith, h.size, bytes_most g.slots (t + 1), bytes_order g.slots t (t + 1) (omega arith), bytes_order g.slots (s + 1) t (omega (arith, less)));
}

-- a slot that is no variable takes 8 bytes
pub plain_room : (g : FunctionCode) (s : ℕ) → FrameIs g → s < length g.slots → is_variable (kinds_of g.slots s) ≡ false → slot_room (shape_of g) s ≡ 8
plain_room g s h inside plain =
    let there = slot_there g.slots s inside in
    let slot : Slot = there.0 in
    let kind : kinds_of g.slots s ≡ slot.kind = ap kind_of there.1 in
    let eight : rounded_up 7 slot.size ≡ 8 = by slot.kind slot.size (ap is_variable (sym kind) ∙ plain) (h.slots s slot there.1) in
    let count : s + 1 ≡ suc s = omega arith in
    omega (arith, ap (λ k. slot_bytes (take k g.slots)) count, bytes_next g.slots s slot there.1, eight)
  where
    by : (k : SlotKind) (n : ℕ) → is_variable k ≡ false → SizeIs k n → rounded_up 7 n ≡ 8
    by int_slot n e size = absurd (cc e)
    by address_slot n e size = omega (arith, size)
    by object_slot n e size = absurd (cc e)
    by help_slot n e size = omega (arith, size)

-- and so does a kept one
pub kept_room : (g : FunctionCode) (s : ℕ) → IsKept g s → slot_room (shape_of g) s ≡ 8
kept_room g s h =
    let count : s + 1 ≡ suc s = omega arith in
    let eight : rounded_up 7 h.slot.size ≡ 8 = omega (arith, h.size) in
    omega (arith, ap (λ k. slot_bytes (take k g.slots)) count, bytes_next g.slots s h.slot h.there, eight)

-- ---- slots of what is passed

fit_size : (k : SlotKind) (n : ℕ) (word : Word) → WordFits k word → SizeIs k n → rounded_up 7 n ≡ 8
fit_size int_slot n word fits size = omega (arith, size)
fit_size address_slot n word fits size = omega (arith, size)
fit_size object_slot n word fits size = absurd fits
fit_size help_slot n word fits size = omega (arith, size)

pub word_fits : (kinds : Kinds) (i j : ℕ) (given : List Word) (word : Word) → WordsFit kinds i given → slice_get given j ≡ Some word → WordFits (kinds (i + j)) word
word_fits kinds i j [] word h e = absurd (cc e)
word_fits kinds i zero (x ∷ given) word h e =
    let same : x ≡ word = cc e in
    let count : i ≡ i + 0 = omega arith in
    subst (λ k. WordFits (kinds k) word) count (subst (WordFits (kinds i)) same h.0)
word_fits kinds i (suc j) (x ∷ given) word h e =
    let count : i + 1 + j ≡ i + suc j = omega arith in
    subst (λ k. WordFits (kinds k) word) count (word_fits kinds (i + 1) j given word h.1 e)

pub given_there : (given : List Word) (j : ℕ) → j < length given → (word : Word) × (slice_get given j ≡ Some word)
given_there [] j inside = absurd (omega (arith, inside))
given_there (x ∷ given) zero inside = (x, refl)
given_there (x ∷ given) (suc j) inside = given_there given j (omega (arith, inside))

-- the first slots have 8 bytes each
pub given_bytes : (g : FunctionCode) (given : List Word) (k : ℕ) → FrameIs g → length given ≤ length g.slots → WordsFit (kinds_of g.slots) 0 given → k ≤ length given → slot_bytes (take k g.slots) ≡ 8 * k
given_bytes g given zero h few fits le = omega arith
given_bytes g given (suc k) h few fits le =
    let word = given_there given k (omega (arith, le)) in
    let there = slot_there g.slots k (omega (arith, le, few)) in
    let slot : Slot = there.0 in
    let kind : kinds_of g.slots k ≡ slot.kind = ap kind_of there.1 in
    let count : 0 + k ≡ k = omega arith in
    let fit : WordFits (kinds_of g.slots k) word.0 = subst (λ i. WordFits (kinds_of g.slots i) word.0) count (word_fits (kinds_of g.slots) 0 k given word.0 fits word.1) in
    let eight : rounded_up 7 slot.size ≡ 8 = fit_size slot.kind slot.size word.0 (subst (λ (y : SlotKind). WordFits y word.0) kind fit) (h.slots k slot there.1) in
    omega (arith, bytes_next g.slots k slot there.1, eight, given_bytes g given k h few fits (omega (arith, le)))

pub got_inside : {A : Type 0} (given : List A) (j : ℕ) (word : A) → slice_get given j ≡ Some word → j < length given
got_inside [] j word e = absurd (cc e)
got_inside (x ∷ given) zero word e = omega arith
got_inside (x ∷ given) (suc j) word e = omega (arith, got_inside given j word e)
