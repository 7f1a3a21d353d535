-- Frames of compiled programs have the slots that lowering gives them.
use Rattle.std.proofs.Common.{◌≡◌, refl, subst, arith, ℕ, zero, suc, ◌+◌, ◌≤◌, List, [], ◌∷◌, ◌++◌, map, length, Some}
use Rattle.std.specs.Prelude.{Bool, true, false, replicate, slice_get, if◌then◌else◌}
use Rattle.std.specs.List.{AllByRecursion}
use Rattle.cxx_ast.specs.declared.types.Ty.{Ty}
use Rattle.cxx_ast.specs.declared.types.Ty.TheVariants.{Int, Void, Object, IntRef, ObjectRef}
use Rattle.cxx_ast.specs.Plain.{Checked, Function}
use Rattle.meaning_forms.specs.Class.{class_at}
use Rattle.region_forms.specs.Form.{Slot, RegionFunction}
use Rattle.region_forms.specs.Layout.{Layout}
use Rattle.region_forms.specs.LowerProgram.{copied_type, slot_for, own_slots, help, declared_function, implicit_default_function, implicit_copy_function, implicit_destructor_function, own_functions, functions_of_class, functions_of_classes, regions_of}
use Rattle.linear_forms.specs.Linear.{FunctionCode}
use Rattle.linear_forms.specs.Frame.{has_pad, code_slots}
use Rattle.linear_forms.specs.Unit.{function_code}
use Rattle.machine_simulation.specs.Matches.{SizeIs, FrameIs}
use Rattle.machine_simulation.specs.Frames.{FramesAreLaidOut}

-- ---- slots

abbrev SlotIs : Slot → Type 0
SlotIs s = SizeIs s.kind s.size

abbrev SlotsAre : List Slot → Type 0
SlotsAre slots = AllByRecursion SlotIs slots

both : {A : Type 0} (P : A → Type 0) (xs ys : List A) → AllByRecursion P xs → AllByRecursion P ys → AllByRecursion P (xs ++ ys)
both P [] ys hx hy = hy
both P (x ∷ xs) ys hx hy = (hx.0, both P xs ys hx.1 hy)

helps : (n : ℕ) → SlotsAre (replicate n help)
helps zero = tt
helps (suc n) = (refl, helps n)

one_slot : (l : Layout) (t : Ty) → SlotIs (slot_for l t)
one_slot l Int = refl
one_slot l Void = refl
one_slot l (Object n) = tt
one_slot l (IntRef const) = refl
one_slot l (ObjectRef const n) = refl

variable_slots : (l : Layout) (types : List Ty) → SlotsAre (map (slot_for l) types)
variable_slots l [] = tt
variable_slots l (t ∷ types) = (one_slot l t, variable_slots l types)

first_slots : (is_member : Bool) → SlotsAre (own_slots is_member)
first_slots false = tt
first_slots true = (refl, tt)

all_slots : (l : Layout) (is_member : Bool) (types : List Ty) (k : ℕ) → SlotsAre (own_slots is_member ++ (map (slot_for l) types ++ replicate k help))
all_slots l is_member types k =
    both SlotIs (own_slots is_member) (map (slot_for l) types ++ replicate k help) (first_slots is_member)
    (both SlotIs (map (slot_for l) types) (replicate k help) (variable_slots l types) (helps k))

pad_slots : (pads : Bool) → SlotsAre (if pads then help ∷ help ∷ help ∷ [] else [])
pad_slots true = (refl, (refl, (refl, tt)))
pad_slots false = tt

-- ---- functions

abbrev HasSlots : RegionFunction → Type 0
HasSlots f = SlotsAre f.slots

own_have : (p : Checked) (l : Layout) (n : ℕ) (fs : List Function) → AllByRecursion HasSlots (own_functions p l n fs)
own_have p l n [] = tt
own_have p l n (f ∷ fs) = (all_slots l false _ _, own_have p l (n + 1) fs)

declared_have : (p : Checked) (l : Layout) (k : ℕ) (fs : List Function) → AllByRecursion HasSlots (map (declared_function p l true false k) fs)
declared_have p l k [] = tt
declared_have p l k (f ∷ fs) = (all_slots l true _ _, declared_have p l k fs)

class_have : (p : Checked) (l : Layout) (k : ℕ) → AllByRecursion HasSlots (functions_of_class p l k)
class_have p l k =
    both HasSlots (map (declared_function p l true false k) (class_at p k).functions) (implicit_default_function p l k ∷ implicit_copy_function p l k ∷ implicit_destructor_function p l k ∷ [])
    (declared_have p l k (class_at p k).functions) (all_slots l true [] _, (all_slots l true (copied_type (class_at p k)) _, (all_slots l true [] _, tt)))

classes_have : (p : Checked) (l : Layout) (k n : ℕ) → AllByRecursion HasSlots (functions_of_classes p l k n)
classes_have p l k zero = tt
classes_have p l k (suc n) = both HasSlots (functions_of_class p l k) (functions_of_classes p l (k + 1) n) (class_have p l k) (classes_have p l (k + 1) n)

-- ---- frames

slot_at : (slots : List Slot) (s : ℕ) (slot : Slot) → SlotsAre slots → slice_get slots s ≡ Some slot → SizeIs slot.kind slot.size
slot_at [] s slot h e = absurd (cc e)
slot_at (x ∷ slots) zero slot h e = let same : x ≡ slot = cc e in subst SlotIs same h.0
slot_at (x ∷ slots) (suc s) slot h e = slot_at slots s slot h.1 e

frame_is : (f : RegionFunction) → HasSlots f → (function_code f).frame ≤ 2032 → FrameIs (function_code f)
frame_is f h small = record {
  size = refl;
  small = omega (arith, small);
  slots = λ s slot e. slot_at (code_slots f) s slot (both SlotIs f.slots (if has_pad f.body then help ∷ help ∷ help ∷ [] else []) h (pad_slots (has_pad f.body))) e;
}

frames_are : (fs : List RegionFunction) → AllByRecursion HasSlots fs → AllByRecursion (λ (g : FunctionCode). g.frame ≤ 2032) (map function_code fs) → AllByRecursion FrameIs (map function_code fs)
frames_are [] h small = tt
frames_are (f ∷ fs) h small = (frame_is f h.0 small.0, frames_are fs h.1 small.1)

pub frames_are_laid_out : FramesAreLaidOut
frames_are_laid_out p l small =
    frames_are (regions_of p l).functions
    (both HasSlots (own_functions p l 0 p.functions) (functions_of_classes p l 0 (length p.classes)) (own_have p l 0 p.functions) (classes_have p l 0 (length p.classes))) small
