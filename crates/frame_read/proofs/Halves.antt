-- Things whose numbers rise: some of them, and a search by halves.
use Rattle.std.proofs.Common.{◌≡◌, ◌+◌, ◌≤◌, ◌<◌, ◌==◌, ℕ, Bool, false, List, [], ◌∷◌, ◌++◌, map, filter_map, find, Option, Some, None, refl, ap, sym, subst, ◌∙◌, arith, if◌then◌else◌}
use Rattle.std.specs.List.{cons_option}
use Rattle.std.specs.Option.{option_or}
use Rattle.std.proofs.lemmas.Bool.Decides.{nat_tests}
use Rattle.std.proofs.lemmas.List.Folds.{find-append}
use Rattle.frame_read.specs.Rises.{RisesBy}

pub lower : {A : Type 0} (f : A → ℕ) (n m : ℕ) (xs : List A) → n ≤ m → RisesBy f m xs → RisesBy f n xs
lower f n m [] less rise = refl
lower f n m (x ∷ xs) less rise = (let a = rise.0 in omega (arith, less, a), rise.1)

-- what keeps the numbers keeps their order
pub rises_filtered : {A B : Type 0} (f : A → ℕ) (g : B → ℕ) (h : A → Option B) → ((x : A) (y : B) → h x ≡ Some y → g y ≡ f x) → (n : ℕ) (xs : List A) → RisesBy f n xs →
    RisesBy g n (filter_map h xs)
rises_filtered f g h same n [] rise = refl
rises_filtered {A = A} {B = B} f g h same n (x ∷ xs) rise = by (rises_filtered f g h same (f x + 1) xs rise.1) (h x) refl
  where
    by : RisesBy g (f x + 1) (filter_map h xs) → (o : Option B) → h x ≡ o → RisesBy g n (cons_option o (filter_map h xs))
    by later None e = lower g n (f x + 1) (filter_map h xs) (let a = rise.0 in omega (arith, a)) later
    by later (Some y) e =
        let at = same x y e in
        (let a = rise.0 in omega (arith, a, at), subst (λ k. RisesBy g (k + 1) (filter_map h xs)) (sym at) later)

pub rises_mapped : {A B : Type 0} (f : B → ℕ) (g : A → B) (n : ℕ) (xs : List A) → RisesBy f n (map g xs) → RisesBy (λ x. f (g x)) n xs
rises_mapped f g n [] rise = refl
rises_mapped f g n (x ∷ xs) rise = (rise.0, rises_mapped f g (f (g x) + 1) xs rise.1)

-- the one that has a number
abbrev pub has : {A : Type 0} → (A → ℕ) → ℕ → A → Bool
has f k x = f x == k

none_here : {A : Type 0} (f : A → ℕ) (k : ℕ) (x : A) (xs : List A) → (f x == k) ≡ false → find (has f k) xs ≡ None → find (has f k) (x ∷ xs) ≡ None
none_here {A = A} f k x xs differs rest = ap (λ b. if b then Some x else find (has f k) xs) differs ∙ rest

none_above : {A : Type 0} (f : A → ℕ) (k n : ℕ) (xs : List A) → k < n → RisesBy f n xs → find (has f k) xs ≡ None
none_above f k n [] less rise = refl
none_above f k n (x ∷ xs) less rise =
    let a = rise.0 in
    none_here f k x xs (grind (arith, nat_tests, a, less)) (none_above f k (f x + 1) xs (omega (arith, a, less)) rise.1)

reaches : {A : Type 0} (f : A → ℕ) (n : ℕ) (xs : List A) (y : A) (ys : List A) → RisesBy f n (xs ++ y ∷ ys) → n ≤ f y
reaches f n [] y ys rise = rise.0
reaches f n (x ∷ xs) y ys rise = let r = reaches f (f x + 1) xs y ys rise.1 in let a = rise.0 in omega (arith, r, a)

none_below : {A : Type 0} (f : A → ℕ) (k n : ℕ) (xs : List A) (y : A) (ys : List A) → f y ≤ k → RisesBy f n (xs ++ y ∷ ys) → find (has f k) xs ≡ None
none_below f k n [] y ys less rise = refl
none_below f k n (x ∷ xs) y ys less rise =
    let r = reaches f (f x + 1) xs y ys rise.1 in
    none_here f k x xs (grind (arith, nat_tests, r, less)) (none_below f k (f x + 1) xs y ys less rise.1)

pub rises_back : {A : Type 0} (f : A → ℕ) (n : ℕ) (xs : List A) (y : A) (ys : List A) → RisesBy f n (xs ++ y ∷ ys) → RisesBy f (f y) (y ∷ ys)
rises_back f n [] y ys rise = (omega arith, rise.1)
rises_back f n (x ∷ xs) y ys rise = rises_back f (f x + 1) xs y ys rise.1

pub rises_front : {A : Type 0} (f : A → ℕ) (n : ℕ) (xs ys : List A) → RisesBy f n (xs ++ ys) → RisesBy f n xs
rises_front f n [] ys rise = refl
rises_front f n (x ∷ xs) ys rise = (rise.0, rises_front f (f x + 1) xs ys rise.1)

or_none : {A : Type 0} (o : Option A) → option_or o None ≡ o
or_none None = refl
or_none (Some x) = refl

-- where the second half begins at the number or below
pub find_back : {A : Type 0} (f : A → ℕ) (k n : ℕ) (xs : List A) (y : A) (ys : List A) → f y ≤ k → RisesBy f n (xs ++ y ∷ ys) →
    find (has f k) (xs ++ y ∷ ys) ≡ find (has f k) (y ∷ ys)
find_back f k n xs y ys less rise =
    find-append (has f k) xs (y ∷ ys) ∙ ap (λ o. option_or o (find (has f k) (y ∷ ys))) (none_below f k n xs y ys less rise)

-- where it begins above it
pub find_front : {A : Type 0} (f : A → ℕ) (k n : ℕ) (xs : List A) (y : A) (ys : List A) → k < f y → RisesBy f n (xs ++ y ∷ ys) →
    find (has f k) (xs ++ y ∷ ys) ≡ find (has f k) xs
find_front f k n xs y ys less rise =
    find-append (has f k) xs (y ∷ ys) ∙ ap (option_or (find (has f k) xs)) (none_above f k (f y) (y ∷ ys) less (rises_back f n xs y ys rise)) ∙ or_none (find (has f k) xs)

-- the second half has what is sought, if anything has
pub half_back : {A : Type 0} (f : A → ℕ) (k n : ℕ) (all front back : List A) (y : A) (ys : List A) → front ++ back ≡ all → back ≡ y ∷ ys → f y ≤ k → RisesBy f n all →
    ((m : ℕ) × RisesBy f m back) × (find (has f k) back ≡ find (has f k) all)
half_back f k n all front back y ys whole cut less rise =
    let same = ap (λ b. front ++ b) (sym cut) ∙ whole in
    let rise' = subst (RisesBy f n) (sym same) rise in (
      (f y, subst (RisesBy f (f y)) (sym cut) (rises_back f n front y ys rise')),
      ap (find (has f k)) cut ∙ sym (find_back f k n front y ys less rise') ∙ ap (find (has f k)) same,
    )

-- the first half has it
pub half_front : {A : Type 0} (f : A → ℕ) (k n : ℕ) (all front back : List A) (y : A) (ys : List A) → front ++ back ≡ all → back ≡ y ∷ ys → k < f y → RisesBy f n all →
    ((m : ℕ) × RisesBy f m front) × (find (has f k) front ≡ find (has f k) all)
half_front f k n all front back y ys whole cut less rise =
    let same = ap (λ b. front ++ b) (sym cut) ∙ whole in
    let rise' = subst (RisesBy f n) (sym same) rise in (
      (n, rises_front f n front (y ∷ ys) rise'),
      sym (find_front f k n front y ys less rise') ∙ ap (find (has f k)) same,
    )

-- none passes a test that none passes
pub none_passes : {A : Type 0} (p : A → Bool) (xs : List A) → ((x : A) → p x ≡ false) → find p xs ≡ None
none_passes p [] fails = refl
none_passes {A = A} p (x ∷ xs) fails = ap (λ b. if b then Some x else find p xs) (fails x) ∙ none_passes p xs fails
