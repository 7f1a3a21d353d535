-- The ints of an object stand apart.
use Rattle.std.proofs.Common.{◌≡◌, ℕ, zero, suc, ◌+◌, ◌<◌, ◌≤◌, ◌⊎◌, inl, inr, List, [], ◌∷◌, Option, Some, None, refl, sym, ap, ap₂, ◌∙◌, subst, arith}
use Rattle.std.specs.Prelude.{slice_get, unwrap_or}
use Rattle.cxx_ast.specs.Plain.{Checked, Class}
use Rattle.meaning_forms.specs.Class.{ObjectType, int_type, class_type, parts_of, no_class}
use Rattle.region_forms.specs.Layout.{Layout, size_in, class_parts, part_offset}
use Rattle.class_layout.specs.StandApart.{StandApart}
use Rattle.region_simulation.specs.Typed.{type_along, offset_along}
use Rattle.region_simulation.proofs.Paths.{some_same}

-- how an object of class k goes on to its i-th part
record Step (l : Layout) (p : Checked) (k i : ℕ) (path : List ℕ) (t : ObjectType) : Type 0 where
  class : Class
  there : slice_get p.classes k ≡ Some class
  type : ObjectType
  part : slice_get (class_parts class) i ≡ Some type
  typed : type_along p type path ≡ Some t
  offset : offset_along l p (class_type k) (i ∷ path) ≡ part_offset l.classes k class i + offset_along l p type path

step_of : (l : Layout) (p : Checked) (k i : ℕ) (path : List ℕ) (t : ObjectType) → type_along p (class_type k) (i ∷ path) ≡ Some t → Step l p k i path t
step_of l p k i path t e = go (slice_get p.classes k) refl (slice_get (parts_of p k) i) refl e
  where
    go : (x : Option Class) → slice_get p.classes k ≡ x → (y : Option ObjectType) → slice_get (parts_of p k) i ≡ y
        → elim y [ None ↦ None | Some u ↦ type_along p u path ] ≡ Some t → Step l p k i path t
    go x there None is e = absurd (cc e)
    go None there (Some u) is e = absurd (none_has (subst (λ z. slice_get (class_parts (unwrap_or z no_class)) i ≡ Some u) there is))
      where
        none_has : None ≡ Some u → ⊥
        none_has e = cc e
    go (Some c) there (Some u) is e = record {
      class = c;
      there = there;
      type = u;
      part = subst (λ z. slice_get (class_parts (unwrap_or z no_class)) i ≡ Some u) there is;
      typed = e;
      offset = ap₂ (λ z y. part_offset l.classes k (unwrap_or z no_class) i + elim y [ None ↦ 0 | Some s ↦ offset_along l p s path ]) there is;
    }

module _ (l : Layout) (p : Checked) (apart : StandApart l.classes p.classes) where
  -- an int lies in its object
  pub int_inside : (t : ObjectType) (path : List ℕ) → type_along p t path ≡ Some int_type → offset_along l p t path + 4 ≤ size_in l.classes t
  int_inside t [] e = subst (λ x. 0 + 4 ≤ size_in l.classes x) (sym (some_same e)) (omega arith)
  int_inside int_type (i ∷ path) e = absurd (cc e)
  int_inside (class_type k) (i ∷ path) e =
      let s = step_of l p k i path int_type e in
      let inner = int_inside s.type path s.typed in
      let outer = apart.inside k s.class i s.type s.there s.part in
      let o = s.offset in
      omega (arith, inner, outer, o)

  -- two that begin at one place are the same
  pub one_place : (t : ObjectType) (path other : List ℕ) → type_along p t path ≡ Some int_type → type_along p t other ≡ Some int_type
      → offset_along l p t path ≡ offset_along l p t other → path ≡ other
  one_place t [] [] e f o = refl
  one_place t [] (j ∷ other) e f o = absurd (none_has (subst (λ x. type_along p x (j ∷ other) ≡ Some int_type) (some_same e) f))
    where
      none_has : None ≡ Some int_type → ⊥
      none_has e = cc e
  one_place t (i ∷ path) [] e f o = absurd (none_has (subst (λ x. type_along p x (i ∷ path) ≡ Some int_type) (some_same f) e))
    where
      none_has : None ≡ Some int_type → ⊥
      none_has e = cc e
  one_place int_type (i ∷ path) (j ∷ other) e f o = absurd (cc e)
  one_place (class_type k) (i ∷ path) (j ∷ other) e f o =
      let s = step_of l p k i path int_type e in
      let r = step_of l p k j other int_type f in
      let same = some_same (sym s.there ∙ r.there) in
      let a = int_inside s.type path s.typed in
      let b = int_inside r.type other r.typed in
      let so = s.offset in
      let ro = subst (λ c. offset_along l p (class_type k) (j ∷ other) ≡ part_offset l.classes k c j + offset_along l p r.type other) (sym same) r.offset in
      let part = subst (λ c. slice_get (class_parts c) j ≡ Some r.type) (sym same) r.part in
      go s.class s.type r.type s.there s.part part s.typed r.typed a b so ro (λ u g h q. one_place u path other g h q) (nat_compare i j)
    where
      go : (c : Class) (u x : ObjectType) → slice_get p.classes k ≡ Some c → slice_get (class_parts c) i ≡ Some u → slice_get (class_parts c) j ≡ Some x
          → type_along p u path ≡ Some int_type → type_along p x other ≡ Some int_type
          → offset_along l p u path + 4 ≤ size_in l.classes u → offset_along l p x other + 4 ≤ size_in l.classes x
          → offset_along l p (class_type k) (i ∷ path) ≡ part_offset l.classes k c i + offset_along l p u path
          → offset_along l p (class_type k) (j ∷ other) ≡ part_offset l.classes k c j + offset_along l p x other
          → ((u : ObjectType) → type_along p u path ≡ Some int_type → type_along p u other ≡ Some int_type → offset_along l p u path ≡ offset_along l p u other → path ≡ other)
          → (i < j) ⊎ ((i ≡ j) ⊎ (j < i)) → i ∷ path ≡ j ∷ other
      go c u x there iu jx ti to a b so ro ih (inl lt) = let ap1 = apart.apart k c i j u x there iu jx lt in absurd (omega (arith, ap1, a, b, so, ro, o))
      go c u x there iu jx ti to a b so ro ih (inr (inr lt)) = let ap1 = apart.apart k c j i x u there jx iu lt in absurd (omega (arith, ap1, a, b, so, ro, o))
      go c u x there iu jx ti to a b so ro ih (inr (inl e)) =
          let same : x ≡ u = some_same (sym jx ∙ ap (λ n. slice_get (class_parts c) n) (sym e) ∙ iu) in
          let off : part_offset l.classes k c i ≡ part_offset l.classes k c j = ap (λ n. part_offset l.classes k c n) e in
          let inner : offset_along l p u path ≡ offset_along l p x other = omega (arith, off, so, ro, o) in
          ap₂ (λ n q. n ∷ q) e (ih u ti (subst (λ y. type_along p y other ≡ Some int_type) same to) (inner ∙ ap (λ y. offset_along l p y other) same))

      nat_compare : (m n : ℕ) → (m < n) ⊎ ((m ≡ n) ⊎ (n < m))
      nat_compare zero zero = inr (inl refl)
      nat_compare zero (suc n) = inl (omega arith)
      nat_compare (suc m) zero = inr (inr (omega arith))
      nat_compare (suc m) (suc n) = next (nat_compare m n)
        where
          next : (m < n) ⊎ ((m ≡ n) ⊎ (n < m)) → (suc m < suc n) ⊎ ((suc m ≡ suc n) ⊎ (suc n < suc m))
          next (inl lt) = inl (omega (arith, lt))
          next (inr (inl e)) = inr (inl (ap suc e))
          next (inr (inr lt)) = inr (inr (omega (arith, lt)))
