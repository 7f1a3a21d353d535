-- The size of a frame.
use Rattle.std.proofs.Common.{◌≡◌, ℕ, zero, suc, ◌+◌, ◌≤◌, ◌<◌, Bool, true, false, List, [], ◌∷◌, ◌++◌, length, map, replicate, refl, ap, ◌∙◌, arith}
use Rattle.std.specs.Prelude.{◌*◌, ◌%◌, if◌then◌else◌}
use Rattle.cxx_ast.specs.declared.types.Ty.{Ty}
use Rattle.region_forms.specs.Form.{Slot, RegionFunction}
use Rattle.region_forms.specs.Layout.{Layout}
use Rattle.region_forms.specs.LowerProgram.{help, own_slots, slot_for, slots_for}
use Rattle.linear_forms.specs.Frame.{has_pad, code_slots, rounded_up, slot_bytes}
use Rattle.linear_forms.specs.Unit.{function_code}
use Rattle.landing_pads.specs.Frames.{FrameFits, AllFramesFit, between_calls}

-- slots with those of landing pads behind them, or without
abbrev with_pads : Bool → List Slot → List Slot
with_pads b slots = slots ++ (if b then help ∷ help ∷ help ∷ [] else [])

pub bytes_append : (a b : List Slot) → slot_bytes (a ++ b) ≡ slot_bytes a + slot_bytes b
bytes_append [] b = omega arith
bytes_append (s ∷ a) b = omega (arith, bytes_append a b)

count_append : (a b : List Slot) → length (a ++ b) ≡ length a + length b
count_append [] b = omega arith
count_append (s ∷ a) b = omega (arith, count_append a b)

few_more : (b : Bool) (slots : List Slot) → length (with_pads b slots) ≤ length slots + 3
few_more true slots = omega (arith, count_append slots (help ∷ help ∷ help ∷ []))
few_more false slots = omega (arith, count_append slots [])

bytes_more : (b : Bool) (slots : List Slot) → slot_bytes (with_pads b slots) ≤ slot_bytes slots + 24
bytes_more true slots = omega (arith, bytes_append slots (help ∷ help ∷ help ∷ []))
bytes_more false slots = omega (arith, bytes_append slots [])

-- a number rounded up to a multiple of 16
rounded_even : (n : ℕ) → rounded_up 15 n % 16 ≡ 0
rounded_even n = omega arith

rounded_room : (n : ℕ) → n ≤ rounded_up 15 n
rounded_room n = omega arith

rounded_least : (n : ℕ) → rounded_up 15 n < n + 16
rounded_least n = omega arith

frame_fits : (f : RegionFunction) → FrameFits f
frame_fits f =
    let slots = code_slots f in
    let added = bytes_more (has_pad f.body) f.slots in
    record {
      slots = few_more (has_pad f.body) f.slots;
      added = added;
      even = rounded_even (16 + slot_bytes slots);
      room = rounded_room (16 + slot_bytes slots);
      least = rounded_least (16 + slot_bytes slots);
      small = λ h. omega (arith, h, added);
    }

pub all_frames_fit : AllFramesFit
all_frames_fit = frame_fits

-- the slots of a source's function

helps_bytes : (n : ℕ) → slot_bytes (replicate n help) ≡ 8 * n
helps_bytes zero = refl
helps_bytes (suc n) = omega (arith, helps_bytes n)

own_bytes : (m : Bool) → slot_bytes (own_slots m) ≤ 8
own_bytes false = omega arith
own_bytes true = omega arith

pub source_bytes : (f : RegionFunction) (l : Layout) (m : Bool) (types : List Ty) → f.slots ≡ slots_for l m types f.body →
    slot_bytes f.slots ≤ 24 + (slot_bytes (map (slot_for l) types) + 8 * between_calls m types f.body)
source_bytes f l m types e =
    let n = 2 + between_calls m types f.body in
    let whole : slot_bytes f.slots ≡ slot_bytes (own_slots m) + (slot_bytes (map (slot_for l) types) + 8 * n) =
    ap slot_bytes e ∙ bytes_append (own_slots m) (map (slot_for l) types ++ replicate n help) ∙
    ap (λ k. slot_bytes (own_slots m) + k) (bytes_append (map (slot_for l) types) (replicate n help) ∙ ap (λ k. slot_bytes (map (slot_for l) types) + k) (helps_bytes n)) in
    omega (arith, whole, own_bytes m)

-- with n bytes of variables and values between calls
pub source_frame : (f : RegionFunction) (l : Layout) (m : Bool) (types : List Ty) (n : ℕ) → f.slots ≡ slots_for l m types f.body →
    slot_bytes (map (slot_for l) types) + 8 * between_calls m types f.body ≤ n → (function_code f).frame < n + 80
source_frame f l m types n e h =
    let fits = frame_fits f in
    omega (arith, h, source_bytes f l m types e, fits.added, fits.least)

pub frame_even : (f : RegionFunction) → (function_code f).frame % 16 ≡ 0
frame_even f = (frame_fits f).even
