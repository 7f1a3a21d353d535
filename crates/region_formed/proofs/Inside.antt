-- Objects have a word at least, and a member lies inside its object.
use Rattle.std.proofs.Common.{◌≡◌, ◌∙◌, ◌+◌, ◌≤◌, ℕ, List, map, length, Option, Some, None, option_map, suc, refl, sym, ap, subst, arith}
use Rattle.std.specs.Prelude.{slice_get}
use Rattle.std.proofs.lemmas.Option.{slice_get-map}
use Rattle.cxx_ast.specs.declared.name.Name.{Name}
use Rattle.cxx_ast.specs.Environment.{Kind, int_kind, truth_kind, void_kind, class_kind, no_kind}
use Rattle.cxx_ast.specs.Plain.{Checked}
use Rattle.cxx_ast.specs.Checked.{IsChecked}
use Rattle.meaning_forms.specs.Class.{ObjectType, int_type, class_type, object_type, class_at, base_part, member_part}
use Rattle.region_forms.specs.Layout.{class_parts, layouts, layout_at, layout_of, laid_member, offset_of_part, part_offset}
use Rattle.region_forms.specs.LowerExpression.{member_type}
use Rattle.class_layout.proofs.Apart.{stand_apart}
use Rattle.class_layout.proofs.Program.{classes_fit}
use Rattle.region_formed.proofs.Meant.{Typed, FieldThere, size_in_program}
use Rattle.region_ir.proofs.EachFunction.{class_there}
use Rattle.region_formed.proofs.Slots.{behind}

-- objects have 4 bytes at least
pub some_bytes : (p : Checked) → IsChecked p → (kind : Kind) (t : ObjectType) → Typed (length p.classes) kind t → 4 ≤ size_in_program p t
some_bytes p c int_kind t h = subst (λ t. 4 ≤ size_in_program p t) (sym h) (omega arith)
some_bytes p c (class_kind k) t h =
    subst (λ t. 4 ≤ size_in_program p t) (sym h.0) ((stand_apart p.classes (classes_fit p c)).sized k (class_at p k) (class_there p k h.1)).0
some_bytes p c truth_kind t h = absurd h
some_bytes p c void_kind t h = absurd h
some_bytes p c no_kind t h = absurd h

-- the offset of the i-th member is that of the part behind the base
member_offset : (base : Option Name) (members : List ℕ) (i : ℕ) → offset_of_part base members (length (base_part base) + i) ≡ offset_of_part None members i
member_offset None members i = let e : 0 + i ≡ i = omega arith in ap (offset_of_part None members) e
member_offset (Some b) members i = let e : 1 + i ≡ suc i = omega arith in ap (offset_of_part (Some b) members) e

module _ (p : Checked) (c : IsChecked p) (k i : ℕ) (kind : Kind) (h : FieldThere p k i kind) where
  -- its type by the program
  pub field_type : member_type p k i ≡ object_type h.member.ty
  field_type = ap (λ o. elim o [ None ↦ int_type | Some x ↦ object_type x.ty ]) h.at

  pub field_typed : Typed (length p.classes) kind (member_type p k i)
  field_typed = subst (Typed (length p.classes) kind) (sym field_type) h.typed

  -- its place among the parts
  pub field_part : slice_get (class_parts (class_at p k)) (length (base_part (class_at p k).base) + i) ≡ Some (member_type p k i)
  field_part =
      behind (base_part (class_at p k).base) (map member_part (class_at p k).members) (length (base_part (class_at p k).base) + i) i refl
      ∙ (slice_get-map member_part (class_at p k).members i ∙ (ap (λ o. option_map member_part o) h.at ∙ ap Some (sym field_type)))

  pub field_inside : laid_member (layout_of p) k i + size_in_program p (member_type p k i) ≤ size_in_program p (class_type k)
  field_inside =
      let inside = (stand_apart p.classes (classes_fit p c)).inside k (class_at p k) (length (base_part (class_at p k).base) + i) (member_type p k i)
      (class_there p k h.below) field_part in
      let same : part_offset (layouts p.classes) k (class_at p k) (length (base_part (class_at p k).base) + i) ≡ laid_member (layout_of p) k i =
      member_offset (class_at p k).base (layout_at (layouts p.classes) k).members i in
      omega (arith, inside, same)
