-- Each slot has some words, and no more bytes than a class may have.
use Rattle.std.proofs.Common.{◌≡◌, ◌+◌, ◌-◌, ◌%◌, ◌&&◌, ◌==◌, nat_le, ℕ, zero, suc, Bool, true, false, List, [], ◌∷◌, ◌++◌, map, length, replicate, refl, arith}
use Rattle.std.proofs.lemmas.Bool.{and_parts}
use Rattle.std.proofs.lemmas.Bool.Decides.{nat_tests}
use Rattle.std.specs.Cmp.Derive.{both_true}
use Rattle.cxx_ast.specs.declared.types.Ty.{Ty}
use Rattle.cxx_ast.specs.declared.types.Ty.TheVariants.{Int, Void, Object, IntRef, ObjectRef}
use Rattle.cxx_ast.specs.Limits.{most_class_bytes}
use Rattle.cxx_ast.specs.Plain.{Checked}
use Rattle.cxx_ast.specs.Checked.{IsChecked}
use Rattle.meaning_forms.specs.Class.{class_type, class_named, class_at}
use Rattle.region_forms.specs.Form.{Slot, Region}
use Rattle.region_forms.specs.Layout.{layout_at, layouts, layout_of}
use Rattle.region_forms.specs.Numbering.{variables_of}
use Rattle.region_forms.specs.LowerProgram.{slot_for, help, own_slots, slots_for, copied_type, declared_function, implicit_default_function, implicit_copy_function, implicit_destructor_function}
use Rattle.region_forms.specs.Mentioned.{slots_of}
use Rattle.region_forms.specs.WellFormed.{every}
use Rattle.class_layout.proofs.Apart.{some_words}
use Rattle.class_layout.proofs.Program.{classes_fit}
use Rattle.class_layout.proofs.Small.{size_small}
use Rattle.region_ir.proofs.EachFunction.{each_passes}
use Rattle.region_formed.specs.Slots.{slot_fits, slots_fit, CheckedSlotsFit}

-- an object's slot
module _ (p : Checked) (c : IsChecked p) where
  abbrev size : ℕ → ℕ
  size k = (layout_at (layouts p.classes) k).size

  object_fits : (k : ℕ) → (nat_le 4 (size k) && (nat_le (size k) most_class_bytes && size k % 4 == 0)) ≡ true
  object_fits k =
      let words = some_words p.classes (class_type k) in
      let some = words.0 in
      let whole = words.1 in
      let most = size_small p.classes (classes_fit p c) (class_type k) in
      let a : nat_le 4 (size k) ≡ true = grind (arith, nat_tests, some) in
      let b : nat_le (size k) most_class_bytes ≡ true = grind (arith, nat_tests, most) in
      let d : (size k % 4 == 0) ≡ true = grind (arith, nat_tests, whole) in both_true a (both_true b d)

  variable_fits : (t : Ty) → slot_fits (slot_for (layout_of p) t) ≡ true
  variable_fits Int = refl
  variable_fits Void = refl
  variable_fits (Object n) = object_fits (class_named n)
  variable_fits (IntRef const) = refl
  variable_fits (ObjectRef const n) = refl

  both_fit : (xs ys : List Slot) → every slot_fits xs ≡ true → every slot_fits ys ≡ true → every slot_fits (xs ++ ys) ≡ true
  both_fit [] ys h k = k
  both_fit (x ∷ xs) ys h k = let parts = and_parts (slot_fits x) (every slot_fits xs) h in both_true parts.0 (both_fit xs ys parts.1 k)

  variables_fit : (types : List Ty) → every slot_fits (map (slot_for (layout_of p)) types) ≡ true
  variables_fit [] = refl
  variables_fit (t ∷ types) = both_true (variable_fits t) (variables_fit types)

  helps_fit : (n : ℕ) → every slot_fits (replicate n help) ≡ true
  helps_fit zero = refl
  helps_fit (suc n) = helps_fit n

  own_fits : (m : Bool) → every slot_fits (own_slots m) ≡ true
  own_fits false = refl
  own_fits true = refl

  all_fit : (m : Bool) (types : List Ty) (body : Region) → every slot_fits (slots_for (layout_of p) m types body) ≡ true
  all_fit m types body = both_fit (own_slots m) _ (own_fits m) (both_fit (map (slot_for (layout_of p)) types) _ (variables_fit types)
      (helps_fit (2 + (slots_of body - (length (own_slots m) + length types + 2)))))

pub slots_sized : CheckedSlotsFit
slots_sized p c = each_passes p (layout_of p) slots_fit (record {
  own = λ is_main i f e. all_fit p c false (variables_of f) (declared_function p (layout_of p) false is_main 0 f).body;
  method = λ k i f below e. all_fit p c true (variables_of f) (declared_function p (layout_of p) true false k f).body;
  default = λ k below. all_fit p c true [] (implicit_default_function p (layout_of p) k).body;
  copy = λ k below. all_fit p c true (copied_type (class_at p k)) (implicit_copy_function p (layout_of p) k).body;
  destructor = λ k below. all_fit p c true [] (implicit_destructor_function p (layout_of p) k).body;
})
