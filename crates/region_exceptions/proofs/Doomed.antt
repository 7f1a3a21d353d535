-- Regions stop an exception where the source does.
use Rattle.std.proofs.Common.{◌≡◌, ℕ, zero, suc, ◌+◌, ◌<◌, Bool, true, false, List, [], ◌∷◌, ◌++◌, Option, Some, None, refl, ap, ◌∙◌, subst, arith, length}
use Rattle.std.specs.Prelude.{◌==◌, ◌||◌, not, map, slice_get, unwrap_or, find, cond}
use Rattle.std.proofs.lemmas.Bool.Decides.{nat_tests}
use Rattle.std.proofs.lemmas.List.{length-map}
use Rattle.cxx_ast.specs.declared.name.Name.{Name}
use Rattle.cxx_ast.specs.Plain.{Class, Checked}
use Rattle.meaning_forms.specs.Class.{ObjectType, int_type, class_type, some_of, contains, class_named, no_class, class_at, base_part, member_part, chain_of_bases, derives as source_derives}
use Rattle.meaning_forms.specs.Context.{Clause, catch_all, catch_type, Guard, try_block, specification, barrier}
use Rattle.meaning_forms.specs.Guard.{matches as source_matches, allows as source_allows, stops as source_stops, dooms as source_dooms}
use Rattle.class_layout.specs.Fit.{AreBefore}
use Rattle.region_forms.specs.Form.{TypeRow}
use Rattle.region_forms.specs.Guard.{base_row, in_chain, derives, matches, allows, stops, dooms}
use Rattle.region_forms.specs.Numbering.{type_number, base_number, class_row, class_rows, type_rows}
use Rattle.region_simulation.specs.Stands.{clause_of, guard_of}
use Rattle.region_exceptions.specs.Doomed.{AreOrdered, numbered, DoomedAlike}

-- the base in a class's row is the class's
row_of_kind : (kind : ℕ) (cs : List Class) (k : ℕ) → base_row (slice_get (map (class_row kind) cs) k) ≡ base_number (unwrap_or (slice_get cs k) no_class).base
row_of_kind kind [] k = refl
row_of_kind kind (c ∷ cs) zero = refl
row_of_kind kind (c ∷ cs) (suc k) = row_of_kind kind cs k

row_of : (cs : List Class) (k : ℕ) → base_row (slice_get (class_rows cs) k) ≡ base_number (unwrap_or (slice_get cs k) no_class).base
row_of [] k = refl
row_of (c ∷ cs) zero = refl
row_of (c ∷ cs) (suc k) = row_of_kind 2 cs k

base_is : (p : Checked) (k : ℕ) → base_row (slice_get (type_rows p) (k + 1)) ≡ base_number (class_at p k).base
base_is p k = let e : suc k ≡ k + 1 = omega arith in
    subst (λ n. base_row (slice_get (type_rows p) n) ≡ base_number (class_at p k).base) e (row_of p.classes k)

-- a class with a base is there
based : (cs : List Class) (k : ℕ) (b : Name) → (unwrap_or (slice_get cs k) no_class).base ≡ Some b → k < length cs
based [] k b e = absurd (cc e)
based (c ∷ cs) zero b e = omega arith
based (c ∷ cs) (suc k) b e = let h = based cs k b e in omega (arith, h)

rows_count : (cs : List Class) → length (class_rows cs) ≡ length cs
rows_count [] = refl
rows_count (c ∷ cs) = ap suc (length-map cs (class_row 2))

next_same : (k b : ℕ) → (k + 1 == b + 1) ≡ (k == b)
next_same k b = go (k == b) refl
  where
    go : (x : Bool) → (k == b) ≡ x → (k + 1 == b + 1) ≡ x
    go true e = grind (arith, nat_tests, e)
    go false e = grind (arith, nat_tests, e)

never_zero : (k : ℕ) → (k + 1 == 0) ≡ false
never_zero k = grind (arith, nat_tests)

zero_never : (k : ℕ) → (0 == k + 1) ≡ false
zero_never k = grind (arith, nat_tests)

chain_ends : (m : ℕ) (rows : List TypeRow) (u : ℕ) → in_chain m rows None u ≡ false
chain_ends zero rows u = refl
chain_ends (suc m) rows u = refl

-- no class derives from int
never_int : (p : Checked) (m k : ℕ) → in_chain m (type_rows p) (Some (k + 1)) 0 ≡ false
never_int p zero k = refl
never_int p (suc m) k =
    ap (λ x. x || in_chain m (type_rows p) (base_row (slice_get (type_rows p) (k + 1))) 0) (never_zero k) ∙
    ap (λ x. in_chain m (type_rows p) x 0) (base_is p k) ∙ go (class_at p k).base (λ j. never_int p m j)
  where
    go : (x : Option Name) → ((j : ℕ) → in_chain m (type_rows p) (Some (j + 1)) 0 ≡ false) → in_chain m (type_rows p) (base_number x) 0 ≡ false
    go None ih = chain_ends m (type_rows p) 0
    go (Some b) ih = ih (class_named b)

-- both follow the same chain of bases to its end
chain_same : (p : Checked) → AreOrdered p → (n m k b : ℕ) → 0 < n → 0 < m → ((x : Name) → (class_at p k).base ≡ Some x → (k < n) × (k < m))
    → in_chain m (type_rows p) (Some (k + 1)) (b + 1) ≡ contains (chain_of_bases n p k) b
chain_same p ordered zero m k b more longer inside = absurd (omega (arith, more))
chain_same p ordered (suc n) zero k b more longer inside = absurd (omega (arith, longer))
chain_same p ordered (suc n) (suc m) k b more longer inside =
    ap (λ x. x || in_chain m (type_rows p) (base_row (slice_get (type_rows p) (k + 1))) (b + 1)) (next_same k b) ∙
    ap (λ x. k == b || in_chain m (type_rows p) x (b + 1)) (base_is p k) ∙
    ap (λ x. k == b || x) (go (class_at p k).base refl (λ j more longer inside. chain_same p ordered n m j b more longer inside))
  where
    go : (x : Option Name) → (class_at p k).base ≡ x
        → ((j : ℕ) → 0 < n → 0 < m → ((y : Name) → (class_at p j).base ≡ Some y → (j < n) × (j < m))
        → in_chain m (type_rows p) (Some (j + 1)) (b + 1) ≡ contains (chain_of_bases n p j) b)
        → in_chain m (type_rows p) (base_number x) (b + 1) ≡ contains (elim x [ None ↦ [] | Some y ↦ chain_of_bases n p (class_named y) ]) b
    go None e ih = chain_ends m (type_rows p) (b + 1)
    go (Some x) e ih =
        let (one, two) = inside x e in
        let lt = (subst (λ y. AreBefore k (base_part y ++ map member_part (class_at p k).members)) e (ordered.before k)).0 in
        ih (class_named x) (omega (arith, one, lt)) (omega (arith, two, lt)) (λ y f. (omega (arith, one, lt), omega (arith, two, lt)))

module _ (p : Checked) (ordered : AreOrdered p) where
  derives_same : (t u : ObjectType) → derives (type_rows p) (type_number t) (type_number u) ≡ source_derives p t u
  derives_same int_type int_type = refl
  derives_same int_type (class_type b) =
      ap (λ x. x || in_chain (length (type_rows p)) (type_rows p) None (b + 1)) (zero_never b) ∙ chain_ends (length (type_rows p)) (type_rows p) (b + 1)
  derives_same (class_type k) int_type = never_int p (suc (length (type_rows p))) k
  derives_same (class_type k) (class_type b) =
      let some = ordered.some in
      chain_same p ordered (length p.classes) (suc (length (type_rows p))) k b some (omega arith)
      (λ x e. let lt = based p.classes k x e in (lt, omega (arith, lt, rows_count p.classes)))

  matches_same : (t : Option ObjectType) (x : Clause) → matches (type_rows p) (numbered t) (clause_of x) ≡ source_matches p t x
  matches_same t catch_all = refl
  matches_same None (catch_type u) = refl
  matches_same (Some t) (catch_type u) = derives_same t u

  some_same : {A B : Type 0} (f : B → Bool) (g : A → B) (h : A → Bool) → ((x : A) → f (g x) ≡ h x) → (xs : List A) → some_of f (map g xs) ≡ some_of h xs
  some_same f g h e [] = refl
  some_same f g h e (x ∷ xs) = ap (λ y. y || some_of f (map g xs)) (e x) ∙ ap (λ y. h x || y) (some_same f g h e xs)

  allows_same : (t : Option ObjectType) (types : List ObjectType) → allows (type_rows p) (map type_number types) (numbered t) ≡ source_allows p types t
  allows_same None types = refl
  allows_same (Some t) types = some_same (derives (type_rows p) (type_number t)) type_number (source_derives p t) (derives_same t) types

  stops_same : (t : Option ObjectType) (g : Guard) → stops (type_rows p) (numbered t) (guard_of g) ≡ source_stops p t g
  stops_same t (try_block cs) = some_same (matches (type_rows p) (numbered t)) clause_of (source_matches p t) (matches_same t) cs
  stops_same t (specification types) = ap not (allows_same t types)
  stops_same t barrier = refl

  dooms_same : (t : Option ObjectType) (g : Guard) → dooms (numbered t) (Some (guard_of g)) ≡ source_dooms t (Some g)
  dooms_same t (try_block cs) = refl
  dooms_same None (specification types) = refl
  dooms_same (Some t) (specification types) = refl
  dooms_same t barrier = refl

  doomed_same : (t : Option ObjectType) (gs : List Guard)
      → dooms (numbered t) (find (stops (type_rows p) (numbered t)) (map guard_of gs)) ≡ source_dooms t (find (source_stops p t) gs)
  doomed_same t [] = refl
  doomed_same t (g ∷ gs) =
      ap (λ x. dooms (numbered t) (cond x (Some (guard_of g)) (find (stops (type_rows p) (numbered t)) (map guard_of gs)))) (stops_same t g) ∙ go (source_stops p t g) (doomed_same t gs)
    where
      go : (b : Bool) → dooms (numbered t) (find (stops (type_rows p) (numbered t)) (map guard_of gs)) ≡ source_dooms t (find (source_stops p t) gs) → dooms (numbered t) (cond b (Some (guard_of g)) (find (stops (type_rows p) (numbered t)) (map guard_of gs)))
          ≡ source_dooms t (cond b (Some g) (find (source_stops p t) gs))
      go true ih = dooms_same t g
      go false ih = ih

pub doomed_alike : DoomedAlike
doomed_alike p ordered t = record {
  matched = matches_same p ordered t;
  allowed = allows_same p ordered t;
  doomed = doomed_same p ordered t;
}
