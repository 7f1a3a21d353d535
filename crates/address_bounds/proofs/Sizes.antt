-- Members and bases lie inside their objects.
use Rattle.std.proofs.Common.{◌≡◌, ◌∙◌, refl, sym, ap, subst, arith, ℕ, zero, suc, ◌+◌, ◌%◌, ◌≤◌, ◌==◌, Bool, true, false, List, [], ◌∷◌, ◌++◌, length, Option, Some, None}
use Rattle.std.specs.Prelude.{◌||◌, map, slice_get, unwrap_or}
use Rattle.std.proofs.lemmas.Bool.Decides.{nat_tests}
use Rattle.cxx_ast.specs.declared.name.Name.{Name}
use Rattle.cxx_ast.specs.declared.name.Bound.{Bound}
use Rattle.cxx_ast.specs.declared.name.Bound.TheVariants.{Free, Global, Local, Field, Class as ClassBound, Func, Method, Builtin}
use Rattle.cxx_ast.specs.Plain.{Checked, Class}
use Rattle.meaning_forms.specs.Class.{ObjectType, int_type, class_type, class_named, class_at, contains, chain_of_bases, derives, base_part, member_part, parts_of, member_place, no_class}
use Rattle.region_forms.specs.Layout.{Layout, laid_size, laid_part, laid_member, part_offset, class_parts}
use Rattle.class_layout.specs.StandApart.{StandApart}
use Rattle.region_forms.specs.LowerExpression.{Lowering, member_type, members_offset}
use Rattle.region_simulation.specs.Typed.{type_along, offset_along}
use Rattle.region_simulation.specs.Names.{HasMember, MemberThen, AreMembers}
use Rattle.region_simulation.proofs.Members.{member_along, member_offset}

-- what is there of a class that is there
some_parts : (p : Checked) (k i : ℕ) (t : ObjectType) → slice_get (parts_of p k) i ≡ Some t → (c : Class) × (slice_get p.classes k ≡ Some c) × (slice_get (class_parts c) i ≡ Some t)
some_parts p k i t e = by (slice_get p.classes k) refl e
  where
    by : (o : Option Class) → slice_get p.classes k ≡ o → slice_get (class_parts (unwrap_or o no_class)) i ≡ Some t → (c : Class) × (slice_get p.classes k ≡ Some c) × (slice_get (class_parts c) i ≡ Some t)
    by (Some c) is e = (c, is, e)
    by None is e = absurd (cc e)

module _ (l : Layout) (p : Checked) (apart : StandApart l.classes p.classes) where
  -- a part lies inside its object, from a word on
  pub part_inside : (k i : ℕ) (t : ObjectType) → slice_get (parts_of p k) i ≡ Some t → (laid_part l p k i + laid_size l t ≤ laid_size l (class_type k)) × (laid_part l p k i % 4 ≡ 0)
  part_inside k i t e =
      let s = some_parts p k i t e in
      let same : class_at p k ≡ s.0 = ap (λ o. unwrap_or o no_class) s.1 in (
        subst (λ c. part_offset l.classes k c i + laid_size l t ≤ laid_size l (class_type k)) (sym same) (apart.inside k s.0 i t s.1 s.2),
        subst (λ c. part_offset l.classes k c i % 4 ≡ 0) (sym same) (apart.aligned k s.0 i t s.1 s.2),
      )

  -- a base has no more bytes than what derives from it
  base_small : (n j k : ℕ) → contains (chain_of_bases n p j) k ≡ true → laid_size l (class_type k) ≤ laid_size l (class_type j)
  base_small zero j k c = absurd (cc c)
  base_small (suc n) j k c = by (λ b c. base_small n b k c) (j == k) refl
    where
      through : ((b : ℕ) → contains (chain_of_bases n p b) k ≡ true → laid_size l (class_type k) ≤ laid_size l (class_type b)) → (b : Option Name) → (class_at p j).base ≡ b →
          contains (elim b [ None ↦ [] | Some x ↦ chain_of_bases n p (class_named x) ]) k ≡ true → laid_size l (class_type k) ≤ laid_size l (class_type j)
      through ih None is c = absurd (cc c)
      through ih (Some b) is c =
          let first : slice_get (parts_of p j) 0 ≡ Some (class_type (class_named b)) = ap (λ x. slice_get (base_part x ++ map member_part (class_at p j).members) 0) is in
          let inside = (part_inside j 0 (class_type (class_named b)) first).0 in
          let inner = ih (class_named b) c in
          omega (arith, inside, inner)

      by : ((b : ℕ) → contains (chain_of_bases n p b) k ≡ true → laid_size l (class_type k) ≤ laid_size l (class_type b)) → (b : Bool) → (j == k) ≡ b → laid_size l (class_type k) ≤ laid_size l (class_type j)
      by ih true e = let same : j ≡ k = grind (arith, nat_tests, e) in let sizes : laid_size l (class_type j) ≡ laid_size l (class_type k) = ap (λ x. laid_size l (class_type x)) same in omega (arith, sizes)
      by ih false e = through ih (class_at p j).base refl (subst (λ x. x || contains (elim (class_at p j).base [ None ↦ [] | Some x ↦ chain_of_bases n p (class_named x) ]) k ≡ true) e c)

  pub derived_small : (s : ObjectType) (k : ℕ) → derives p s (class_type k) ≡ true → laid_size l (class_type k) ≤ laid_size l s
  derived_small int_type k d = absurd (cc d)
  derived_small (class_type j) k d = base_small (length p.classes) j k d

  -- a member of what is of a type
  pub member_inside : (s t : ObjectType) (k i : ℕ) → HasMember p s k i t → (laid_member l k i + laid_size l t ≤ laid_size l s) × (laid_member l k i % 4 ≡ 0)
  member_inside s t k i m =
      let there : slice_get (parts_of p k) (member_place p k i) ≡ Some t = part_there k (member_place p k i) t (member_along p k i m.there ∙ ap (λ x. Some x) (sym m.typed)) in
      let part = part_inside k (member_place p k i) t there in
      let outer = derived_small s k m.derived in
      let at : laid_part l p k (member_place p k i) ≡ laid_member l k i = first_offset k (member_place p k i) t there ∙ member_offset l p k i m.there in
      let inside = part.0 in let even = part.1 in
      (omega (arith, inside, outer, at), omega (arith, even, at))
    where
      part_there : (k i : ℕ) (t : ObjectType) → type_along p (class_type k) (i ∷ []) ≡ Some t → slice_get (parts_of p k) i ≡ Some t
      part_there k i t e = by (slice_get (parts_of p k) i) e
        where
          by : (o : Option ObjectType) → elim o [ None ↦ None | Some u ↦ Some u ] ≡ Some t → o ≡ Some t
          by None e = absurd (cc e)
          by (Some u) e = e

      first_offset : (k i : ℕ) (t : ObjectType) → slice_get (parts_of p k) i ≡ Some t → laid_part l p k i ≡ offset_along l p (class_type k) (i ∷ [])
      first_offset k i t e = let none = ap {B = ℕ} (λ x. elim x [ None ↦ 0 | Some u ↦ 0 ]) e in omega (arith, none)

-- names after dots lead to what lies inside
module _ (l : Lowering) (apart : StandApart l.layout.classes l.program.classes) where
  pub members_inside : (ns : List Name) (s t : ObjectType) → AreMembers l.program s ns t → (members_offset l ns + laid_size l.layout t ≤ laid_size l.layout s) × (members_offset l ns % 4 ≡ 0)
  members_inside [] s t e = (let same : laid_size l.layout s ≡ laid_size l.layout t = ap (laid_size l.layout) e in omega (arith, same), refl)
  members_inside (n ∷ ns) s t e = by (λ u e. members_inside ns u t e) n.bound e
    where
      by : ((u : ObjectType) → AreMembers l.program u ns t → (members_offset l ns + laid_size l.layout t ≤ laid_size l.layout u) × (members_offset l ns % 4 ≡ 0)) → (b : Bound) →
          MemberThen l.program s b (λ u. AreMembers l.program u ns t) →
          (elim b [ Field k i ↦ laid_member l.layout k i + members_offset l ns | _ ↦ members_offset l ns ] + laid_size l.layout t ≤ laid_size l.layout s)
          × (elim b [ Field k i ↦ laid_member l.layout k i + members_offset l ns | _ ↦ members_offset l ns ] % 4 ≡ 0)
      by ih (Field k i) e =
          let first = member_inside l.layout l.program apart s (member_type l.program k i) k i e.0 in
          let rest = ih (member_type l.program k i) e.1 in
          let a = first.0 in let b = first.1 in let c = rest.0 in let d = rest.1 in
          (omega (arith, a, c), omega (arith, b, d))
      by ih Free e = absurd e
      by ih (Global g) e = absurd e
      by ih (Local k) e = absurd e
      by ih (ClassBound k) e = absurd e
      by ih (Func k) e = absurd e
      by ih (Method k i) e = absurd e
      by ih (Builtin f) e = absurd e
