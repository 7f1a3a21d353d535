-- An int that is set in an object: that one is changed, and no other.
use Rattle.std.proofs.Common.{◌≡◌, ℕ, zero, suc, ◌⊎◌, inl, inr, ℤ, List, [], ◌∷◌, Option, Some, None, refl, sym, ap, ◌∙◌, subst, arith}
use Rattle.std.specs.Prelude.{slice_get}
use Rattle.cxx_ast.specs.Plain.{Checked}
use Rattle.meaning_forms.specs.Class.{ObjectType, int_type, class_type, parts_of}
use Rattle.meaning_forms.specs.Part.{Part, cell, object, Parts, no_parts, part_then, nth_part, with_nth_part, part_at, with_part_at}
use Rattle.region_simulation.specs.Typed.{type_along, Shaped, AllShaped}
use Rattle.region_simulation.proofs.Paths.{some_same, nth_shaped}

-- a step into an object
record Into (p : Checked) (k i : ℕ) (path : List ℕ) (t : ObjectType) : Type 0 where
  type : ObjectType
  part : slice_get (parts_of p k) i ≡ Some type
  typed : type_along p type path ≡ Some t

into : (p : Checked) (k i : ℕ) (path : List ℕ) (t : ObjectType) → type_along p (class_type k) (i ∷ path) ≡ Some t → Into p k i path t
into p k i path t e = go (slice_get (parts_of p k) i) refl e
  where
    go : (y : Option ObjectType) → slice_get (parts_of p k) i ≡ y → elim y [ None ↦ None | Some u ↦ type_along p u path ] ≡ Some t → Into p k i path t
    go None is e = absurd (cc e)
    go (Some u) is e = record { type = u; part = is; typed = e }

pub nothing_there : (path : List ℕ) → part_at (cell None) path ≡ cell None
nothing_there [] = refl
nothing_there (i ∷ path) = nothing_there path

pub not_set : (v : ℤ) → cell None ≡ cell (Some v) → ⊥
not_set v e = cc e

nth_none : (p : Checked) (types : List ObjectType) (parts : Parts) (i : ℕ) → AllShaped p types parts → slice_get types i ≡ None → nth_part parts i ≡ cell None
nth_none p [] no_parts i h e = refl
nth_none p [] (part_then a parts) i h e = absurd h
nth_none p (u ∷ types) no_parts i h e = absurd h
nth_none p (u ∷ types) (part_then a parts) zero h e = absurd (cc e)
nth_none p (u ∷ types) (part_then a parts) (suc i) h e = nth_none p types parts i h.1 e

-- a path to an int that is set is one of an int
pub set_typed : (p : Checked) (t : ObjectType) (a : Part) (path : List ℕ) (v : ℤ) → Shaped p t a → part_at a path ≡ cell (Some v) → type_along p t path ≡ Some int_type
set_typed p int_type a [] v h e = refl
set_typed p (class_type k) a [] v h e = absurd (subst (λ x. Shaped p (class_type k) x) e h)
set_typed p int_type (cell x) (i ∷ path) v h e = absurd (not_set v (sym (nothing_there path) ∙ e))
set_typed p int_type (object c parts) (i ∷ path) v h e = absurd h
set_typed p (class_type k) (cell x) (i ∷ path) v h e = absurd h
set_typed p (class_type k) (object c parts) (i ∷ path) v h e =
    go (slice_get (parts_of p k) i) refl (λ u shaped. set_typed p u (nth_part parts i) path v shaped e)
  where
    go : (y : Option ObjectType) → slice_get (parts_of p k) i ≡ y → ((u : ObjectType) → Shaped p u (nth_part parts i) → type_along p u path ≡ Some int_type)
        → elim y [ None ↦ None | Some u ↦ type_along p u path ] ≡ Some int_type
    go None is ih =
        absurd (not_set v (sym (nothing_there path) ∙ ap (λ x. part_at x path) (sym (nth_none p (parts_of p k) parts i h.1 is)) ∙ e))
    go (Some u) is ih = ih u (nth_shaped p (parts_of p k) parts i u h.1 is)

nth_written : (p : Checked) (types : List ObjectType) (parts : Parts) (i : ℕ) (u : ObjectType) (b : Part) → AllShaped p types parts → slice_get types i ≡ Some u → Shaped p u b
    → AllShaped p types (with_nth_part parts i b)
nth_written p [] no_parts i u b h e s = h
nth_written p [] (part_then a parts) i u b h e s = absurd h
nth_written p (x ∷ types) no_parts i u b h e s = absurd h
nth_written p (x ∷ types) (part_then a parts) zero u b h e s = (subst (λ y. Shaped p y b) (sym (some_same e)) s, h.1)
nth_written p (x ∷ types) (part_then a parts) (suc i) u b h e s = (h.0, nth_written p types parts i u b h.1 e s)

nth_same : (p : Checked) (types : List ObjectType) (parts : Parts) (i : ℕ) (u : ObjectType) (b : Part) → AllShaped p types parts → slice_get types i ≡ Some u
    → nth_part (with_nth_part parts i b) i ≡ b
nth_same p [] no_parts i u b h e = absurd (cc e)
nth_same p [] (part_then a parts) i u b h e = absurd h
nth_same p (x ∷ types) no_parts i u b h e = absurd h
nth_same p (x ∷ types) (part_then a parts) zero u b h e = refl
nth_same p (x ∷ types) (part_then a parts) (suc i) u b h e = nth_same p types parts i u b h.1 e

nth_other : (parts : Parts) (i j : ℕ) (b : Part) → (i ≡ j → ⊥) → nth_part (with_nth_part parts i b) j ≡ nth_part parts j
nth_other no_parts i j b ne = refl
nth_other (part_then a parts) zero zero b ne = absurd (ne refl)
nth_other (part_then a parts) zero (suc j) b ne = refl
nth_other (part_then a parts) (suc i) zero b ne = refl
nth_other (part_then a parts) (suc i) (suc j) b ne = nth_other parts i j b (λ e. ne (ap suc e))

-- the whole keeps its shape
pub shaped_written : (p : Checked) (t : ObjectType) (a : Part) (path : List ℕ) (x : Option ℤ) → Shaped p t a → type_along p t path ≡ Some int_type
    → Shaped p t (with_part_at a path (cell x))
shaped_written p t a [] x h e = subst (λ u. Shaped p u (cell x)) (sym (some_same e)) tt
shaped_written p int_type a (i ∷ path) x h e = absurd (cc e)
shaped_written p (class_type k) (cell y) (i ∷ path) x h e = absurd h
shaped_written p (class_type k) (object c parts) (i ∷ path) x h e =
    let s = into p k i path int_type e in (
      h.0,
      nth_written p (parts_of p k) parts i s.type (with_part_at (nth_part parts i) path (cell x)) h.1 s.part
          (shaped_written p s.type (nth_part parts i) path x (nth_shaped p (parts_of p k) parts i s.type h.1 s.part) s.typed),
    )

-- that int is what was set
pub written_same : (p : Checked) (t : ObjectType) (a : Part) (path : List ℕ) (x : Option ℤ) → Shaped p t a → type_along p t path ≡ Some int_type
    → part_at (with_part_at a path (cell x)) path ≡ cell x
written_same p t a [] x h e = refl
written_same p int_type a (i ∷ path) x h e = absurd (cc e)
written_same p (class_type k) (cell y) (i ∷ path) x h e = absurd h
written_same p (class_type k) (object c parts) (i ∷ path) x h e =
    let s = into p k i path int_type e in
    ap (λ q. part_at q path) (nth_same p (parts_of p k) parts i s.type (with_part_at (nth_part parts i) path (cell x)) h.1 s.part) ∙
    written_same p s.type (nth_part parts i) path x (nth_shaped p (parts_of p k) parts i s.type h.1 s.part) s.typed

type_int : (p : Checked) (t : ObjectType) (i : ℕ) (path : List ℕ) → Some t ≡ Some int_type → type_along p t (i ∷ path) ≡ Some int_type → ⊥
type_int p t i path e f = let g : None ≡ Some int_type = subst (λ x. type_along p x (i ∷ path) ≡ Some int_type) (some_same e) f in cc g

pub same_or_not : (m n : ℕ) → (m ≡ n) ⊎ (m ≡ n → ⊥)
same_or_not zero zero = inl refl
same_or_not zero (suc n) = inr (λ e. absurd (omega (arith, e)))
same_or_not (suc m) zero = inr (λ e. absurd (omega (arith, e)))
same_or_not (suc m) (suc n) = next (same_or_not m n)
  where
    next : (m ≡ n) ⊎ (m ≡ n → ⊥) → (suc m ≡ suc n) ⊎ (suc m ≡ suc n → ⊥)
    next (inl e) = inl (ap suc e)
    next (inr ne) = inr (λ e. ne (omega (arith, e)))

-- every other int stays
pub written_other : (p : Checked) (t : ObjectType) (a : Part) (path other : List ℕ) (x : Option ℤ) → Shaped p t a → type_along p t path ≡ Some int_type
    → type_along p t other ≡ Some int_type → (path ≡ other → ⊥) → part_at (with_part_at a path (cell x)) other ≡ part_at a other
written_other p t a [] [] x h e f ne = absurd (ne refl)
written_other p t a [] (j ∷ other) x h e f ne = absurd (type_int p t j other e f)
written_other p t a (i ∷ path) [] x h e f ne = absurd (type_int p t i path f e)
written_other p int_type a (i ∷ path) (j ∷ other) x h e f ne = absurd (cc e)
written_other p (class_type k) (cell y) (i ∷ path) (j ∷ other) x h e f ne = absurd h
written_other p (class_type k) (object c parts) (i ∷ path) (j ∷ other) x h e f ne =
    let s = into p k i path int_type e in
    let r = into p k j other int_type f in
    let shaped = nth_shaped p (parts_of p k) parts i s.type h.1 s.part in
    go s.type r.type s.part r.part s.typed r.typed shaped (λ f2 ne2. written_other p s.type (nth_part parts i) path other x shaped s.typed f2 ne2) (same_or_not i j)
  where
    go : (u y : ObjectType) → slice_get (parts_of p k) i ≡ Some u → slice_get (parts_of p k) j ≡ Some y → type_along p u path ≡ Some int_type → type_along p y other ≡ Some int_type
        → Shaped p u (nth_part parts i)
        → (type_along p u other ≡ Some int_type → (path ≡ other → ⊥) → part_at (with_part_at (nth_part parts i) path (cell x)) other ≡ part_at (nth_part parts i) other)
        → (i ≡ j) ⊎ (i ≡ j → ⊥)
        → part_at (nth_part (with_nth_part parts i (with_part_at (nth_part parts i) path (cell x))) j) other ≡ part_at (nth_part parts j) other
    go u y iu jy ti tj shaped ih (inr apart) = ap (λ q. part_at q other) (nth_other parts i j (with_part_at (nth_part parts i) path (cell x)) apart)
    go u y iu jy ti tj shaped ih (inl same) =
        let types : y ≡ u = some_same (sym jy ∙ ap (λ n. slice_get (parts_of p k) n) (sym same) ∙ iu) in
        ap (λ n. part_at (nth_part (with_nth_part parts i (with_part_at (nth_part parts i) path (cell x))) n) other) (sym same) ∙
        ap (λ q. part_at q other) (nth_same p (parts_of p k) parts i u (with_part_at (nth_part parts i) path (cell x)) h.1 iu) ∙
        ih (subst (λ z. type_along p z other ≡ Some int_type) types tj) (λ e2. ne (ap (λ q. i ∷ q) e2 ∙ ap (λ n. n ∷ other) same)) ∙
        ap (λ n. part_at (nth_part parts n) other) same
