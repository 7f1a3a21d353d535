-- Paths in objects: the types, the offsets and the parts at their ends.
use Rattle.std.proofs.Common.{◌≡◌, ℕ, zero, suc, ◌+◌, Bool, true, false, List, [], ◌∷◌, ◌++◌, Option, Some, None, refl, sym, ap, subst, arith}
use Rattle.std.specs.Prelude.{◌==◌, ◌||◌, map, slice_get, if◌then◌else◌}
use Rattle.std.proofs.lemmas.Bool.Decides.{nat_tests}
use Rattle.cxx_ast.specs.declared.name.Name.{Name}
use Rattle.cxx_ast.specs.Plain.{Checked}
use Rattle.meaning_forms.specs.Class.{ObjectType, int_type, class_type, class_named, class_at, contains, chain_of_bases, base_part, member_part, parts_of}
use Rattle.meaning_forms.specs.Part.{Part, cell, object, Parts, no_parts, part_then, nth_part, part_at, path_to_class, path_through}
use Rattle.region_forms.specs.Layout.{Layout, layout_at, laid_part, offset_of_part}
use Rattle.region_simulation.specs.Typed.{type_along, offset_along, Shaped, AllShaped}

pub some_same : {A : Type 0} {x y : A} → Some x ≡ Some y → x ≡ y
some_same e = cc e

-- a path that goes on behind another
pub type_joined : (p : Checked) (t u : ObjectType) (path more : List ℕ) → type_along p t path ≡ Some u → type_along p t (path ++ more) ≡ type_along p u more
type_joined p t u [] more e = ap (λ x. type_along p x more) (some_same e)
type_joined p int_type u (i ∷ path) more e = absurd (cc e)
type_joined p (class_type k) u (i ∷ path) more e = go (slice_get (parts_of p k) i) (λ s. type_joined p s u path more) e
  where
    go : (x : Option ObjectType) → ((s : ObjectType) → type_along p s path ≡ Some u → type_along p s (path ++ more) ≡ type_along p u more)
        → elim x [ None ↦ None | Some s ↦ type_along p s path ] ≡ Some u
        → elim x [ None ↦ None | Some s ↦ type_along p s (path ++ more) ] ≡ type_along p u more
    go None ih e = absurd (cc e)
    go (Some s) ih e = ih s e

pub offset_joined : (l : Layout) (p : Checked) (t u : ObjectType) (path more : List ℕ) → type_along p t path ≡ Some u
    → offset_along l p t (path ++ more) ≡ offset_along l p t path + offset_along l p u more
offset_joined l p t u [] more e = let h = ap (λ x. offset_along l p x more) (some_same e) in omega (arith, h)
offset_joined l p int_type u (i ∷ path) more e = absurd (cc e)
offset_joined l p (class_type k) u (i ∷ path) more e = go (slice_get (parts_of p k) i) (λ s. offset_joined l p s u path more) e
  where
    go : (x : Option ObjectType) → ((s : ObjectType) → type_along p s path ≡ Some u → offset_along l p s (path ++ more) ≡ offset_along l p s path + offset_along l p u more)
        → elim x [ None ↦ None | Some s ↦ type_along p s path ] ≡ Some u
        → laid_part l p k i + elim x [ None ↦ 0 | Some s ↦ offset_along l p s (path ++ more) ]
        ≡ laid_part l p k i + elim x [ None ↦ 0 | Some s ↦ offset_along l p s path ] + offset_along l p u more
    go None ih e = absurd (cc e)
    go (Some s) ih e = let h = ih s e in omega (arith, h)

-- the part at the end of a path is of the type there
pub nth_shaped : (p : Checked) (types : List ObjectType) (parts : Parts) (i : ℕ) (t : ObjectType) → AllShaped p types parts → slice_get types i ≡ Some t
    → Shaped p t (nth_part parts i)
nth_shaped p [] no_parts i t h e = absurd (cc e)
nth_shaped p [] (part_then a parts) i t h e = absurd h
nth_shaped p (u ∷ types) no_parts i t h e = absurd h
nth_shaped p (u ∷ types) (part_then a parts) zero t h e = subst (λ x. Shaped p x a) (some_same e) h.0
nth_shaped p (u ∷ types) (part_then a parts) (suc i) t h e = nth_shaped p types parts i t h.1 e

pub shaped_along : (p : Checked) (t u : ObjectType) (a : Part) (path : List ℕ) → Shaped p t a → type_along p t path ≡ Some u → Shaped p u (part_at a path)
shaped_along p t u a [] h e = subst (λ x. Shaped p x a) (some_same e) h
shaped_along p int_type u a (i ∷ path) h e = absurd (cc e)
shaped_along p (class_type k) u (cell v) (i ∷ path) h e = absurd h
shaped_along p (class_type k) u (object c parts) (i ∷ path) h e =
    go (slice_get (parts_of p k) i) refl (λ s shaped. shaped_along p s u (nth_part parts i) path shaped) e
  where
    go : (x : Option ObjectType) → slice_get (parts_of p k) i ≡ x
        → ((s : ObjectType) → Shaped p s (nth_part parts i) → type_along p s path ≡ Some u → Shaped p u (part_at (nth_part parts i) path))
        → elim x [ None ↦ None | Some s ↦ type_along p s path ] ≡ Some u → Shaped p u (part_at (nth_part parts i) path)
    go None is ih e = absurd (cc e)
    go (Some s) is ih e = ih s (nth_shaped p (parts_of p k) parts i s h.1 is) e

-- a path leads to a part of type u, which begins where the whole begins
pub record Leads (l : Layout) (p : Checked) (t u : ObjectType) (path : List ℕ) : Type 0 where
  pub typed : type_along p t path ≡ Some u
  pub first : offset_along l p t path ≡ 0

-- each class leads to class k, where that stands among its n bases
abbrev LeadWithin : Layout → Checked → (n k : ℕ) → Type 0
LeadWithin l p n k = (i : ℕ) (a : Part) → contains (chain_of_bases n p i) k ≡ true → Shaped p (class_type i) a → Leads l p (class_type i) (class_type k) (path_to_class k a)

-- a base is the first part, at the beginning
pub to_base : (l : Layout) (p : Checked) (n j k : ℕ) (a : Part) → contains (chain_of_bases n p j) k ≡ true → Shaped p (class_type j) a
    → Leads l p (class_type j) (class_type k) (path_to_class k a)
to_base l p zero j k a c h = absurd (cc c)
to_base l p (suc n) j k (cell v) c h = absurd h
to_base l p (suc n) j k (object m parts) c h =
    subst (λ x. Leads l p (class_type j) (class_type k) (if x == k then [] else path_through k parts)) (sym h.0) (go (λ i a e s. to_base l p n i k a e s) (j == k) refl)
  where
    own : (j == k ≡ true) → Leads l p (class_type j) (class_type k) []
    own e = record { typed = ap (λ x. Some (class_type x)) (grind (arith, nat_tests, e)); first = refl }

    through : LeadWithin l p n k → (b : Option Name) → (class_at p j).base ≡ b
        → contains (elim b [ None ↦ [] | Some x ↦ chain_of_bases n p (class_named x) ]) k ≡ true
        → AllShaped p (base_part b ++ map member_part (class_at p j).members) parts → (q : Parts) → q ≡ parts
        → Leads l p (class_type j) (class_type k) (path_through k q)
    through ih None is c h q e = absurd (cc c)
    through ih (Some b) is c h no_parts e = absurd (subst (AllShaped p (class_type (class_named b) ∷ map member_part (class_at p j).members)) (sym e) h)
    through ih (Some b) is c h (part_then a rest) e =
        let shaped = (subst (AllShaped p (class_type (class_named b) ∷ map member_part (class_at p j).members)) (sym e) h).0 in
        let inner = ih (class_named b) a c shaped in
        record {
          typed = subst (λ x. elim (slice_get (base_part x ++ map member_part (class_at p j).members) 0)
              [ None ↦ None | Some s ↦ type_along p s (path_to_class k a) ] ≡ Some (class_type k)) (sym is) inner.typed;
          first = subst (λ x. offset_of_part x (layout_at l.classes j).members 0 + elim (slice_get (base_part x ++ map member_part (class_at p j).members) 0)
              [ None ↦ 0 | Some s ↦ offset_along l p s (path_to_class k a) ] ≡ 0) (sym is) (let e0 = inner.first in omega (arith, e0));
        }

    go : LeadWithin l p n k → (b : Bool) → (j == k) ≡ b → Leads l p (class_type j) (class_type k) (if b then [] else path_through k parts)
    go ih true e = own e
    go ih false e = through ih (class_at p j).base refl (subst (λ x. x || contains (elim (class_at p j).base [ None ↦ [] | Some x ↦ chain_of_bases n p (class_named x) ]) k ≡ true) e c) h.1 parts refl
