-- Members of lists, and of their permutations.
use Rattle.std.proofs.Common.{◌↔◌, IfSome, IsNone, ◌≡◌, ◌⊎◌, inl, inr, zero, suc, Bool, true, false, List, [], ◌∷◌, find, Option, Some, None, refl, ap, sym, subst, ◌∙◌, arith, if◌then◌else◌, All, Contains, IsPermutation}
use Rattle.std.proofs.lemmas.List.Elements.{All-head, All-tail, All-cons, All-nil}
use Rattle.std.proofs.lemmas.List.Sorted.{All-permutation}

abbrev pub In : {A : Type 0} → A → List A → Type 0
In x [] = ⊥
In x (y ∷ ys) = (x ≡ y) ⊎ In x ys

pub all_in : {A : Type 0} (P : A → Type 0) (xs : List A) → All P xs → (x : A) → In x xs → P x
all_in P [] all x here = absurd here
all_in P (y ∷ ys) all x (inl e) = subst P (sym e) (All-head P y ys all)
all_in P (y ∷ ys) all x (inr there) = all_in P ys (All-tail P y ys all) x there

pub in_all : {A : Type 0} (P : A → Type 0) (xs : List A) → ((x : A) → In x xs → P x) → All P xs
in_all P [] f = All-nil P
in_all P (y ∷ ys) f = All-cons P y ys (f y (inl refl)) (in_all P ys (λ x there. f x (inr there)))

pub in_permutation : {A : Type 0} (xs ys : List A) → IsPermutation xs ys → (x : A) → In x ys → In x xs
in_permutation xs ys moved x here = all_in (λ y. In y xs) ys (All-permutation (λ y. In y xs) xs ys moved (in_all (λ y. In y xs) xs (λ y there. there))) x here

pub contains_in : {A : Type 0} (xs : List A) (x : A) → Contains xs x → In x xs
contains_in [] x (k, below, e) = absurd (omega (arith, below))
contains_in (y ∷ ys) x (zero, below, e) = inl (sym e)
contains_in (y ∷ ys) x (suc k, below, e) = inr (contains_in ys x (k, omega (arith, below), e))

pub in_contains : {A : Type 0} (xs : List A) (x : A) → In x xs → Contains xs x
in_contains [] x here = absurd here
in_contains (y ∷ ys) x (inl e) = (0, omega arith, sym e)
in_contains (y ∷ ys) x (inr there) = let r = in_contains ys x there in (suc r.0, let a = r.1 in omega (arith, a), r.2)

-- what a search finds
pub find_in : {A : Type 0} (p : A → Bool) (xs : List A) (x : A) → find p xs ≡ Some x → In x xs × (p x ≡ true)
find_in p [] x e = absurd cc
find_in {A = A} p (y ∷ ys) x e = by (find_in p ys x) (p y) refl e
  where
    some_same : (u v : A) → (λ (w : Option A). w) (Some u) ≡ Some v → u ≡ v
    some_same u v e = cc

    by : (find p ys ≡ Some x → In x ys × (p x ≡ true)) → (b : Bool) → p y ≡ b → (if b then Some y else find p ys) ≡ Some x → In x (y ∷ ys) × (p x ≡ true)
    by later true t f = let same = some_same y x f in (inl (sym same), ap p (sym same) ∙ t)
    by later false t f = let r = later f in (inr r.0, r.1)

-- where it finds nothing
fails : {A : Type 0} (p : A → Bool) (xs : List A) (x : A) → In x xs → find p xs ≡ None → p x ≡ false
fails p [] x here none = absurd here
fails {A = A} p (y ∷ ys) x here none = by (fails p ys x) (p y) refl none here
  where
    by : (In x ys → find p ys ≡ None → p x ≡ false) → (b : Bool) → p y ≡ b → (if b then Some y else find p ys) ≡ None → (x ≡ y) ⊎ In x ys → p x ≡ false
    by later true e f there = absurd cc
    by later false e f (inl same) = ap p same ∙ e
    by later false e f (inr there) = later there f

pub find_none : {A : Type 0} (p : A → Bool) (xs : List A) → find p xs ≡ None → All (λ x. p x ≡ false) xs
find_none p xs none = in_all (λ x. p x ≡ false) xs (λ x here. fails p xs x here none)

pub none_find : {A : Type 0} (p : A → Bool) (xs : List A) → All (λ x. p x ≡ false) xs → find p xs ≡ None
none_find {A = A} p xs all = by (find p xs) refl
  where
    by : (o : Option A) → find p xs ≡ o → o ≡ None
    by None e = refl
    by (Some x) e =
        let r = find_in p xs x e in
        let wrong : true ≡ false = sym r.1 ∙ all_in (λ y. p y ≡ false) xs all x r.0 in absurd cc

pub found_some : {A : Type 0} (p : A → Bool) (xs : List A) (o : Option A) → o ≡ find p xs → IfSome o (λ x. Contains xs x × (p x ≡ true))
found_some p xs None e = tt
found_some p xs (Some x) e = let r = find_in p xs x (sym e) in (in_contains xs x r.0, r.1)

pub found_none : {A : Type 0} (p : A → Bool) (xs : List A) (o : Option A) → o ≡ find p xs → IsNone o ↔ All (λ x. p x ≡ false) xs
found_none p xs None e = (λ none. find_none p xs (sym e), λ all. refl)
found_none p xs (Some x) e = (λ none. absurd cc, λ all. absurd (let wrong : Some x ≡ None = e ∙ none_find p xs all in cc))
