-- The least places of texts among names.
use Rattle.std.proofs.Common.{◌≡◌, ℕ, Bool, true, false, ◌||◌, ◌&&◌, nat_lt, List, [], ◌∷◌, ◌++◌, Vec, Option, Some, None, refl, ap, ◌∙◌, sym, cond, bytes_eq, arith}
use Rattle.std.proofs.lemmas.Bool.Decides.{nat_tests}
use Rattle.std.proofs.lemmas.Slice.Eq.{bytes_eq-Decides}
use Rattle.std.specs.Map.{lookup}
use Rattle.std.specs.declared.alloc.Global.{Global}
use Rattle.indexmap.specs.IndexMap.{insert_entry}
use Rattle.cxx_ast.specs.declared.name.Name.{Name}
use Rattle.cxx_ast.specs.ClassRules.{stands_before}
use Rattle.cxx_rules.proofs.NameLaws.{bytes_same, lookup_insert}
use Rattle.cxx_check.specs.Places.{lesser_place, least_place, is_before, ArePlaces}

-- the least place with one name more
abbrev pub with_place : Bool → ℕ → Option ℕ → Option ℕ
with_place true place o = Some (lesser_place place o)
with_place false place o = o

twice_lesser : (a b : ℕ) (o : Option ℕ) → lesser_place a (Some (lesser_place b o)) ≡ lesser_place b (Some (lesser_place a o))
twice_lesser a b None = omega arith
twice_lesser a b (Some p) = omega arith

swapped : (a b : Bool) (p q : ℕ) (o : Option ℕ) → cond a (Some (lesser_place p (with_place b q o))) (with_place b q o) ≡ with_place b q (cond a (Some (lesser_place p o)) o)
swapped true true p q o = ap Some (twice_lesser p q o)
swapped true false p q o = refl
swapped false true p q o = refl
swapped false false p q o = refl

pub place_push : (q : List ℕ) (names : List Name) (n : Name) → least_place q (names ++ n ∷ []) ≡ with_place (bytes_eq n.text q) n.place (least_place q names)
place_push q [] n = by (bytes_eq n.text q)
  where
    by : (b : Bool) → cond b (Some (lesser_place n.place None)) None ≡ with_place b n.place None
    by true = refl
    by false = refl
place_push q (m ∷ names) n =
    ap (λ o. cond (bytes_eq m.text q) (Some (lesser_place m.place o)) o) (place_push q names n)
    ∙ swapped (bytes_eq m.text q) (bytes_eq n.text q) m.place n.place (least_place q names)

before_lesser : (p place : ℕ) (o : Option ℕ) → nat_lt (lesser_place p o) place ≡ (nat_lt p place || is_before o place)
before_lesser p place None = by (nat_lt p place)
  where
    by : (b : Bool) → b ≡ (b || false)
    by true = refl
    by false = refl
before_lesser p place (Some r) = grind (arith, nat_tests)

-- a name stands before another where its least place does
pub stands_by : (names : List Name) (n : Name) → is_before (least_place n.text names) n.place ≡ stands_before names n
stands_by [] n = refl
stands_by (m ∷ names) n = by (bytes_eq m.text n.text) (stands_by names n)
  where
    by : (b : Bool) → is_before (least_place n.text names) n.place ≡ stands_before names n →
        is_before (cond b (Some (lesser_place m.place (least_place n.text names))) (least_place n.text names)) n.place ≡ ((b && nat_lt m.place n.place) || stands_before names n)
    by true h = before_lesser m.place n.place (least_place n.text names) ∙ ap (λ x. nat_lt m.place n.place || x) h
    by false h = h

-- one name more
pub places_with : (n : Name) (k : Vec ℕ Global) (v : ℕ) (es new : List (Vec ℕ Global × ℕ)) (names : List Name) →
    ArePlaces es names → k.items ≡ n.text → v ≡ lesser_place n.place (lookup (λ k. bytes_eq n.text k.items) es) →
    new ≡ insert_entry (λ a b. bytes_eq a.items b.items) es k v → ArePlaces new (names ++ n ∷ [])
places_with n k v es new names h i e f q =
    ap (lookup (λ k. bytes_eq q k.items)) f ∙ lookup_insert q k v es
    ∙ by (bytes_eq q k.items) (bytes_eq n.text q) refl (ap (bytes_eq q) i ∙ bytes_same q n.text) ∙ sym (place_push q names n)
  where
    by : (a b : Bool) → bytes_eq q k.items ≡ a → bytes_eq q k.items ≡ bytes_eq n.text q →
        cond a (Some v) (lookup (λ k. bytes_eq q k.items) es) ≡ with_place (bytes_eq n.text q) n.place (least_place q names)
    by true b g s =
        let same : n.text ≡ q = (bytes_eq-Decides n.text q).0 (sym s ∙ g) in
        ap Some (e ∙ ap (lesser_place n.place) (h n.text ∙ ap (λ t. least_place t names) same))
        ∙ sym (ap (λ b. with_place b n.place (least_place q names)) (sym s ∙ g))
    by false b g s = h q ∙ sym (ap (λ b. with_place b n.place (least_place q names)) (sym s ∙ g))

-- what a map says of a name
pub before_by : (n : Name) (names : List Name) (es : List (Vec ℕ Global × ℕ)) (text : List ℕ) (o : Option ℕ) →
    ArePlaces es names → text ≡ n.text → o ≡ lookup (λ k. bytes_eq text k.items) es → is_before o n.place ≡ stands_before names n
before_by n names es text o h i e =
    ap (λ x. is_before x n.place) (e ∙ h text ∙ ap (λ t. least_place t names) i) ∙ stands_by names n
