-- An object in which no int is set is of its type's shape, where the parts of each class are of classes before it.
use Rattle.std.proofs.Common.{◌≡◌, ℕ, zero, suc, ◌<◌, ℤ, List, [], ◌∷◌, Some, None, refl, sym, ◌∙◌, arith, length}
use Rattle.std.specs.Prelude.{map}
use Rattle.cxx_ast.specs.Plain.{Checked}
use Rattle.meaning_forms.specs.Class.{ObjectType, int_type, class_type, parts_of}
use Rattle.meaning_forms.specs.Part.{cell, object, Parts, nth_part, part_at, parts_from, unset_within, unset}
use Rattle.class_layout.specs.Fit.{IsBefore, AreBefore}
use Rattle.region_simulation.specs.Typed.{Shaped, AllShaped}
use Rattle.region_simulation.proofs.Parts.{nothing_there}
use Rattle.region_exceptions.specs.Doomed.{AreOrdered}

module _ (p : Checked) (ordered : AreOrdered p) where
  unset_all : (n m : ℕ) (types : List ObjectType) → ((t : ObjectType) → IsBefore m t → Shaped p t (unset_within n p t)) → AreBefore m types
      → AllShaped p types (parts_from (map (unset_within n p) types))
  unset_all n m [] each h = tt
  unset_all n m (t ∷ types) each h = (each t h.0, unset_all n m types each h.1)

  unset_shaped : (n m : ℕ) (t : ObjectType) → m < n → IsBefore m t → Shaped p t (unset_within n p t)
  unset_shaped zero m t lt h = absurd (omega (arith, lt))
  unset_shaped (suc n) m int_type lt h = tt
  unset_shaped (suc n) m (class_type k) lt h =
      (refl, unset_all n k (parts_of p k) (λ t before. unset_shaped n k t (omega (arith, lt, h)) before) (ordered.before k))

  pub unset_is_shaped : (k : ℕ) → k < length p.classes → Shaped p (class_type k) (unset p (class_type k))
  unset_is_shaped k lt = unset_shaped (suc (length p.classes)) (length p.classes) (class_type k) (omega arith) lt

not_set_here : (v : ℤ) → cell None ≡ cell (Some v) → ⊥
not_set_here v e = cc e

object_not_set : (k : ℕ) (parts : Parts) (v : ℤ) → object k parts ≡ cell (Some v) → ⊥
object_not_set k parts v e = cc e

-- no int is set in it
none_among : (p : Checked) (n : ℕ) (types : List ObjectType) (i : ℕ) (path : List ℕ) (v : ℤ) → ((t : ObjectType) → part_at (unset_within n p t) path ≡ cell (Some v) → ⊥)
    → part_at (nth_part (parts_from (map (unset_within n p) types)) i) path ≡ cell (Some v) → ⊥
none_among p n [] i path v each e = not_set_here v (sym (nothing_there path) ∙ e)
none_among p n (t ∷ types) zero path v each e = each t e
none_among p n (t ∷ types) (suc i) path v each e = none_among p n types i path v each e

none_set : (p : Checked) (n : ℕ) (t : ObjectType) (path : List ℕ) (v : ℤ) → part_at (unset_within n p t) path ≡ cell (Some v) → ⊥
none_set p zero t path v e = not_set_here v (sym (nothing_there path) ∙ e)
none_set p (suc n) int_type path v e = not_set_here v (sym (nothing_there path) ∙ e)
none_set p (suc n) (class_type k) [] v e = object_not_set k (parts_from (map (unset_within n p) (parts_of p k))) v e
none_set p (suc n) (class_type k) (i ∷ path) v e = none_among p n (parts_of p k) i path v (λ t. none_set p n t path v) e

pub unset_is_not_set : (p : Checked) (t : ObjectType) (path : List ℕ) (v : ℤ) → part_at (unset p t) path ≡ cell (Some v) → ⊥
unset_is_not_set p t path v e = none_set p (suc (length p.classes)) t path v e
