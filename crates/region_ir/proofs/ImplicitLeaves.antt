-- The operations and cleanups of implicit functions pass their tests, in a checked program.
use Rattle.std.proofs.Common.{◌≡◌, ◌+◌, ◌≤◌, ◌<◌, ℕ, zero, suc, Bool, true, false, nat_lt, List, [], ◌∷◌, ◌++◌, length, Some, if◌then◌else◌, refl, subst, arith}
use Rattle.std.specs.Prelude.{slice_get, unwrap_or}
use Rattle.std.proofs.lemmas.Bool.{and_parts}
use Rattle.std.proofs.lemmas.Bool.Decides.{nat_tests}
use Rattle.std.proofs.lemmas.List.{length-append}
use Rattle.std.specs.Cmp.Derive.{both_true}
use Rattle.cxx_ast.specs.declared.types.Ty.{Ty}
use Rattle.cxx_ast.specs.Plain.{Checked, Class}
use Rattle.cxx_ast.specs.Checked.{IsChecked}
use Rattle.meaning_forms.specs.Class.{ObjectType, int_type, class_type, class_at, no_class, parts_of}
use Rattle.region_forms.specs.Form.{Slot, Region, regions_from}
use Rattle.region_forms.specs.Layout.{Layout, ClassLayout, class_layout, class_parts, laid_part, layout_of}
use Rattle.region_forms.specs.LowerStatement.{nothing_more}
use Rattle.region_forms.specs.LowerProgram.{build_parts, destroy_parts, default_part, copy_part, slots_for, lowering, copied_type, some_constructor, implicit_default_function, implicit_copy_function, implicit_destructor_function, regions_of}
use Rattle.region_forms.specs.WellFormed.{holds_address, slot_test, within_object}
use Rattle.class_layout.specs.Fit.{IsBefore, AreBefore, FitBehind}
use Rattle.class_layout.proofs.Program.{classes_fit}
use Rattle.class_layout.proofs.Small.{part_small}
use Rattle.region_ir.specs.Leaves.{leaves_test, all_leaves_test}
use Rattle.region_ir.specs.Implicit.{ImplicitPass}
use Rattle.region_ir.proofs.EachFunction.{class_there}
use Rattle.region_ir.proofs.Specials.{own_address, take_objects}

-- a part of one of so many classes is of one of more
type_more : (n m : ℕ) (t : ObjectType) → n ≤ m → IsBefore n t → IsBefore m t
type_more n m int_type h k = tt
type_more n m (class_type c) h k = omega (arith, h, k)

parts_more : (n m : ℕ) (types : List ObjectType) → n ≤ m → AreBefore n types → AreBefore m types
parts_more n m [] h k = tt
parts_more n m (t ∷ types) h k = (type_more n m t h k.0, parts_more n m types h k.1)

parts_before : (laid : List ClassLayout) (cs : List Class) (k : ℕ) → FitBehind laid cs → k < length cs →
    AreBefore (length laid + length cs) (class_parts (unwrap_or (slice_get cs k) no_class))
parts_before laid [] k h below = absurd (omega (arith, below))
parts_before laid (c ∷ cs) zero h below = parts_more (length laid) (length laid + suc (length cs)) (class_parts c) (omega arith) h.0.before
parts_before laid (c ∷ cs) (suc k) h below =
    let one = length-append laid (class_layout laid c ∷ []) in
    let more : length (laid ++ class_layout laid c ∷ []) + length cs ≤ length laid + suc (length cs) = omega (arith, one) in
    parts_more (length (laid ++ class_layout laid c ∷ []) + length cs) (length laid + suc (length cs)) (class_parts (unwrap_or (slice_get cs k) no_class))
    more (parts_before (laid ++ class_layout laid c ∷ []) cs k h.1 (omega (arith, below)))

-- the parts of a class are of classes that are there
pub parts_there : (p : Checked) → IsChecked p → (k : ℕ) → k < length p.classes → AreBefore (length p.classes) (parts_of p k)
parts_there p c k below =
    let none : 0 + length p.classes ≡ length p.classes = omega arith in
    subst (λ n. AreBefore n (parts_of p k)) none (parts_before [] p.classes k (classes_fit p c) below)

-- parts from the i-th on lie within the largest object
abbrev pub PartsWithin : (l : Layout) (p : Checked) (k i : ℕ) → List ObjectType → Type 0
PartsWithin l p k i [] = Unit {0}
PartsWithin l p k i (t ∷ types) = (within_object (laid_part l p k i) ≡ true) × PartsWithin l p k (i + 1) types

within_each : (l : Layout) (p : Checked) (k i : ℕ) (types : List ObjectType) →
    ((j : ℕ) (t : ObjectType) → slice_get types j ≡ Some t → within_object (laid_part l p k (i + j)) ≡ true) → PartsWithin l p k i types
within_each l p k i [] h = tt
within_each l p k i (t ∷ types) h =
    let none : i + 0 ≡ i = omega arith in (
      subst (λ n. within_object (laid_part l p k n) ≡ true) none (h 0 t refl),
      within_each l p k (i + 1) types (λ j u e.
          let same : i + suc j ≡ i + 1 + j = omega arith in subst (λ n. within_object (laid_part l p k n) ≡ true) same (h (suc j) u e)),
    )

-- the place of a part of a class is within the largest object
pub part_within : (p : Checked) → IsChecked p → (k : ℕ) → k < length p.classes → (i : ℕ) (t : ObjectType) → slice_get (parts_of p k) i ≡ Some t →
    within_object (laid_part (layout_of p) p k i) ≡ true
part_within p c k below i t e =
    let small = part_small p.classes (classes_fit p c) k (class_at p k) i t (class_there p k below) e in grind (arith, nat_tests, small)

pub parts_within : (p : Checked) → IsChecked p → (k : ℕ) → k < length p.classes → PartsWithin (layout_of p) p k 0 (parts_of p k)
parts_within p c k below = within_each (layout_of p) p k 0 (parts_of p k) (λ i t e. let same : i ≡ 0 + i = omega arith in
    subst (λ n. within_object (laid_part (layout_of p) p k n) ≡ true) same (part_within p c k below i t e))

-- regions whose operations and cleanups pass
module _ (p : Checked) (l : Layout) (slots : List Slot) where
  abbrev Pass : List Region → Type 0
  Pass rs = all_leaves_test (regions_of p l) slots (regions_from rs) ≡ true

  behind : (rs others : List Region) → Pass rs → Pass others → Pass (rs ++ others)
  behind [] others h k = k
  behind (r ∷ rs) others h k =
      let parts = and_parts (leaves_test (regions_of p l) slots r) (all_leaves_test (regions_of p l) slots (regions_from rs)) h in
      both_true parts.0 (behind rs others parts.1 k)

  module _ (c : IsChecked p) (types : List Ty) (own : slot_test holds_address slots 0 ≡ true) where
    built_pass : (k : ℕ) (build : ℕ → ObjectType → List Region) (i : ℕ) (parts : List ObjectType) (left : ℕ → List Region) (d : ℕ) →
        ((j : ℕ) (t : ObjectType) → IsBefore (length p.classes) t → within_object (laid_part l p k j) ≡ true → Pass (build j t)) →
        AreBefore (length p.classes) parts → PartsWithin l p k i parts → ((e : ℕ) → Pass (left e)) →
        Pass (build_parts (lowering p l true types) k build i parts left d)
    built_pass k build i [] left d b h w rest = rest d
    built_pass k build i (int_type ∷ parts) left d b h w rest =
        behind (build i int_type) _ (b i int_type tt w.0) (built_pass k build (i + 1) parts left d b h.1 w.1 rest)
    built_pass k build i (class_type j ∷ parts) left d b h w rest =
        behind (build i (class_type j)) _ (b i (class_type j) h.0 w.0)
        (both_true (both_true (both_true (both_true own w.0) (take_objects p l c j h.0).destroyed) (built_pass k build (i + 1) parts left (d + 2) b h.1 w.1 rest)) refl)

    destroyed_pass : (k i : ℕ) (parts : List ObjectType) (body : ℕ → List Region) (d : ℕ) → AreBefore (length p.classes) parts →
        PartsWithin l p k i parts → ((e : ℕ) → Pass (body e)) → Pass (destroy_parts (lowering p l true types) k i parts body d)
    destroyed_pass k i [] body d h w rest = rest d
    destroyed_pass k i (int_type ∷ parts) body d h w rest = destroyed_pass k (i + 1) parts body d h.1 w.1 rest
    destroyed_pass k i (class_type j ∷ parts) body d h w rest =
        both_true (both_true (both_true (both_true own w.0) (take_objects p l c j h.0).destroyed) (destroyed_pass k (i + 1) parts body (d + 2) h.1 w.1 rest)) refl

    default_pass : (k i : ℕ) (t : ObjectType) → IsBefore (length p.classes) t → within_object (laid_part l p k i) ≡ true →
        Pass (default_part (lowering p l true types) k i t)
    default_pass k i int_type h w = both_true (both_true (both_true own w) refl) refl
    default_pass k i (class_type j) h w = both_true (both_true (both_true own w) (both_true refl (take_objects p l c j h).default)) refl

    copy_pass : slot_test holds_address slots 1 ≡ true → (k i : ℕ) (t : ObjectType) → IsBefore (length p.classes) t →
        within_object (laid_part l p k i) ≡ true → Pass (copy_part (lowering p l true types) k i t)
    copy_pass from k i int_type h w = both_true (both_true (both_true own w) (both_true from w)) refl
    copy_pass from k i (class_type j) h w =
        both_true (both_true (both_true own w) (both_true (both_true (both_true from w) refl) ((take_objects p l c j h).copied _))) refl

-- an implicit copy constructor's parameter has an address
source_address : (l : Layout) (c : Class) (body : Region) → slot_test holds_address (slots_for l true (copied_type c) body) 1 ≡ true
source_address l c body =
    let there : nat_lt 1 (length (slots_for l true (copied_type c) body)) ≡ true = grind (arith, nat_tests) in both_true there refl

unless_declared : (p : Checked) (l : Layout) (slots : List Slot) (is_declared : Bool) (rs : List Region) →
    all_leaves_test (regions_of p l) slots (regions_from rs) ≡ true →
    all_leaves_test (regions_of p l) slots (regions_from (if is_declared then [] else rs)) ≡ true
unless_declared p l slots true rs h = refl
unless_declared p l slots false rs h = h

pub implicit_pass : (p : Checked) → IsChecked p → (k : ℕ) → k < length p.classes → ImplicitPass p (layout_of p) k
implicit_pass p c k below =
    let l = layout_of p in
    let parts = parts_there p c k below in
    let within = parts_within p c k below in
    let slots = (implicit_default_function p l k).slots in
    let own = own_address l [] (implicit_default_function p l k).body in
    let copy_slots = (implicit_copy_function p l k).slots in
    let copy_own = own_address l (copied_type (class_at p k)) (implicit_copy_function p l k).body in
    let from = source_address l (class_at p k) (implicit_copy_function p l k).body in
    let ended = (implicit_destructor_function p l k).slots in
    record {
      default = unless_declared p l slots (some_constructor (class_at p k).functions)
          (build_parts (lowering p l true []) k (default_part (lowering p l true []) k) 0 (parts_of p k) nothing_more 1)
          (built_pass p l slots c [] own k (default_part (lowering p l true []) k) 0 (parts_of p k) nothing_more 1
          (default_pass p l slots c [] own k) parts within (λ e. refl));
      copy = let types = copied_type (class_at p k) in
          built_pass p l copy_slots c types copy_own k (copy_part (lowering p l true types) k) 0 (parts_of p k)
          nothing_more 1 (copy_pass p l copy_slots c types copy_own from k) parts within (λ e. refl);
      destructor = destroyed_pass p l ended c [] (own_address l [] (implicit_destructor_function p l k).body) k 0 (parts_of p k)
          nothing_more 1 parts within (λ e. refl);
    }
