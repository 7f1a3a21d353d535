-- The slots of functions that sources become have the bytes of their kinds, and classes are small.
use Rattle.std.proofs.Common.{ℕ, zero, suc, ◌+◌, ◌-◌, ◌≤◌, ◌==◌, Bool, true, false, List, [], ◌∷◌, ◌++◌, map, length, replicate, Option, Some, None, if◌then◌else◌, refl, subst, arith}
use Rattle.std.specs.Prelude.{◌≡◌, slice_get, unwrap_or}
use Rattle.std.specs.List.{AllByRecursion}
use Rattle.cxx_ast.specs.declared.types.Ty.{Ty}
use Rattle.cxx_ast.specs.declared.types.Ty.TheVariants.{Int, Void, Object, IntRef, ObjectRef}
use Rattle.cxx_ast.specs.Limits.{most_class_bytes}
use Rattle.cxx_ast.specs.Plain.{Checked, Class, Function}
use Rattle.cxx_ast.specs.Checked.{IsChecked}
use Rattle.meaning_forms.specs.Class.{ObjectType, int_type, class_type, class_at, object_type}
use Rattle.region_forms.specs.Form.{Slot, Region, RegionFunction}
use Rattle.region_forms.specs.Layout.{ClassLayout, Layout, no_layout, class_layout, layouts_behind, layout_of, laid_size}
use Rattle.region_forms.specs.LowerProgram.{own_slots, slot_for, slots_for, help, copied_type, declared_function, implicit_default_function, implicit_copy_function, implicit_destructor_function, own_functions, functions_of_class, functions_of_classes, regions_of}
use Rattle.region_forms.specs.Numbering.{variables_of}
use Rattle.region_forms.specs.Mentioned.{slots_of}
use Rattle.linear_forms.specs.Frame.{has_pad, code_slots}
use Rattle.linear_forms.specs.Unit.{function_code}
use Rattle.class_layout.specs.Fit.{FitBehind}
use Rattle.class_layout.proofs.Program.{classes_fit}
use Rattle.landing_pads.proofs.CheckedFrames.{checked_frames_fit}
use Rattle.address_bounds.specs.Givens.{Given, no_given, givens_of, own_reach, reaches_in, needs_of}
use Rattle.machine_simulation.specs.Matches.{SizeIs, FrameIs}
use Rattle.source_bounds.proofs.Lists.{both_all, at_or}
use Rattle.checked_units.specs.Operations.{CheckedFramesAreLaidOut, NeedsAreSmall}

-- of an item of a list what holds of each
pub each : {A : Type 0} → (P : A → Type 0) (xs : List A) (n : ℕ) (x : A) → AllByRecursion P xs → slice_get xs n ≡ Some x → P x
each P [] zero x h e = absurd (cc e)
each P [] (suc n) x h e = absurd (cc e)
each P (y ∷ ys) zero x h e = let same : y ≡ x = cc e in subst P same h.0
each P (y ∷ ys) (suc n) x h e = each P ys n x h.1 e

-- slots

abbrev Sized : List Slot → Type 0
Sized slots = AllByRecursion (λ s. SizeIs s.kind s.size) slots

variables_sized : (l : Layout) (types : List Ty) → Sized (map (slot_for l) types)
variables_sized l [] = tt
variables_sized l (Int ∷ types) = (refl, variables_sized l types)
variables_sized l (Void ∷ types) = (refl, variables_sized l types)
variables_sized l (Object n ∷ types) = (tt, variables_sized l types)
variables_sized l (IntRef const ∷ types) = (refl, variables_sized l types)
variables_sized l (ObjectRef const n ∷ types) = (refl, variables_sized l types)

helps_sized : (n : ℕ) → Sized (replicate n help)
helps_sized zero = tt
helps_sized (suc n) = (refl, helps_sized n)

own_sized : (is_member : Bool) → Sized (own_slots is_member)
own_sized false = tt
own_sized true = (refl, tt)

slots_sized : (l : Layout) (is_member : Bool) (types : List Ty) (body : Region) → Sized (slots_for l is_member types body)
slots_sized l is_member types body =
    let n = 2 + (slots_of body - (length (own_slots is_member) + length types + 2)) in
    both_all _ (own_slots is_member) (map (slot_for l) types ++ replicate n help) (own_sized is_member)
    (both_all _ (map (slot_for l) types) (replicate n help) (variables_sized l types) (helps_sized n))

-- functions

abbrev AllSized : List RegionFunction → Type 0
AllSized fs = AllByRecursion (λ f. Sized f.slots) fs

module _ (p : Checked) (l : Layout) where
  own_all : (n : ℕ) (fs : List Function) → AllSized (own_functions p l n fs)
  own_all n [] = tt
  own_all n (f ∷ fs) = (slots_sized l false (variables_of f) (declared_function p l false (n == p.main) 0 f).body, own_all (n + 1) fs)

  methods_all : (k : ℕ) (fs : List Function) → AllSized (map (declared_function p l true false k) fs)
  methods_all k [] = tt
  methods_all k (f ∷ fs) = (slots_sized l true (variables_of f) (declared_function p l true false k f).body, methods_all k fs)

  classes_all : (k n : ℕ) → AllSized (functions_of_classes p l k n)
  classes_all k zero = tt
  classes_all k (suc n) =
      both_all (λ f. Sized f.slots) (functions_of_class p l k) (functions_of_classes p l (k + 1) n)
      (both_all (λ f. Sized f.slots) (map (declared_function p l true false k) (class_at p k).functions)
      (implicit_default_function p l k ∷ implicit_copy_function p l k ∷ implicit_destructor_function p l k ∷ []) (methods_all k (class_at p k).functions) (
        slots_sized l true [] (implicit_default_function p l k).body,
        (slots_sized l true (copied_type (class_at p k)) (implicit_copy_function p l k).body, (slots_sized l true [] (implicit_destructor_function p l k).body, tt)),
      ))
      (classes_all (k + 1) n)

code_sized : (f : RegionFunction) → Sized f.slots → Sized (code_slots f)
code_sized f h = both_all _ f.slots _ h (go (has_pad f.body))
  where
    go : (b : Bool) → Sized (if b then help ∷ help ∷ help ∷ [] else [])
    go true = (refl, (refl, (refl, tt)))
    go false = tt

all_laid : (fs : List RegionFunction) → AllSized fs → AllByRecursion (λ g. g.frame ≤ 2032) (map function_code fs) → AllByRecursion FrameIs (map function_code fs)
all_laid [] h small = tt
all_laid (f ∷ fs) h small = (
  record { size = refl; small = omega (arith, small.0); slots = λ s slot e. each (λ x. SizeIs x.kind x.size) (code_slots f) s slot (code_sized f h.0) e },
  all_laid fs h.1 small.1,
)

pub checked_frames_are_laid_out : CheckedFramesAreLaidOut
checked_frames_are_laid_out p h =
    let l = layout_of p in
    all_laid (regions_of p l).functions (both_all (λ f. Sized f.slots) (own_functions p l 0 p.functions) (functions_of_classes p l 0 (length p.classes)) (own_all p l 0 p.functions) (classes_all p l 0 (length p.classes)))
    (checked_frames_fit p h).frames

-- classes

abbrev Small : List ClassLayout → Type 0
Small laid = AllByRecursion (λ x. x.size ≤ most_class_bytes) laid

small_behind : (laid : List ClassLayout) (cs : List Class) → Small laid → FitBehind laid cs → Small (layouts_behind laid cs)
small_behind laid [] h fit = h
small_behind laid (c ∷ cs) h fit = small_behind (laid ++ class_layout laid c ∷ []) cs (both_all _ laid (class_layout laid c ∷ []) h (fit.0.small, tt)) fit.1

pub classes_small : (p : Checked) → IsChecked p → (k : ℕ) → laid_size (layout_of p) (class_type k) ≤ most_class_bytes
classes_small p h k = at_or (λ x. x.size ≤ most_class_bytes) (layout_of p).classes k no_layout (small_behind [] p.classes tt (classes_fit p h)) (omega arith)

module _ (l : Layout) (classes : (k : ℕ) → laid_size l (class_type k) ≤ most_class_bytes) where
  size_small : (t : ObjectType) → laid_size l t ≤ most_class_bytes
  size_small int_type = omega arith
  size_small (class_type k) = classes k

  own_small : (own : Option ℕ) → AllByRecursion (λ n. n ≤ most_class_bytes) (own_reach l own)
  own_small None = tt
  own_small (Some k) = (classes k, tt)

  variables_small : (types : List Ty) → AllByRecursion (λ n. n ≤ most_class_bytes) (map (λ t. laid_size l (object_type t)) types)
  variables_small [] = tt
  variables_small (t ∷ types) = (size_small (object_type t), variables_small types)

  given_small : (g : Given) → AllByRecursion (λ n. n ≤ most_class_bytes) (reaches_in l g)
  given_small g = both_all (λ n. n ≤ most_class_bytes) (own_reach l g.own) (map (λ t. laid_size l (object_type t)) g.variables) (own_small g.own) (variables_small g.variables)

  needs_small : (p : Checked) (n s : ℕ) → needs_of p l n s ≤ most_class_bytes
  needs_small p n s = let g = unwrap_or (slice_get (givens_of p) n) no_given in at_or (λ n. n ≤ most_class_bytes) (reaches_in l g) s most_class_bytes (given_small g) (omega arith)

pub needs_are_small : NeedsAreSmall
needs_are_small p h n s = needs_small (layout_of p) (classes_small p h) p n s
