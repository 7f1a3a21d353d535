-- Stacks of slots, each of which stands there once.
use Rattle.std.proofs.Common.{◌≡◌, ◌∙◌, ℕ, zero, suc, ◌+◌, ◌<◌, ◌≤◌, Bool, true, false, ◌||◌, ◌&&◌, nat_eq, nat_lt, List, [], ◌∷◌, length, refl, sym, ap, arith}
use Rattle.std.specs.List.{IsDistinct, AllByRecursion, list_all}
use Rattle.std.proofs.lemmas.Bool.Decides.{nat_tests}
use Rattle.std.proofs.lemmas.Map.Keys.{IsDistinct-cons, IsDistinct-head, IsDistinct-tail}
use Rattle.std.proofs.lemmas.Map.Steps.{length-le_from_distinct_below}
use Rattle.caught_stack.specs.Slots.{below, is_in}
use Rattle.caught_stack.proofs.Bools.{or_false, and_true, both_true, eq_true}

apart : (s : ℕ) (xs : List ℕ) → is_in xs s ≡ false → AllByRecursion (λ y. nat_eq s y ≡ false) xs
apart s [] h = tt
apart s (x ∷ xs) h = let q = or_false (nat_eq s x) (is_in xs s) h in (q.0, apart s xs q.1)

not_in : (s : ℕ) (xs : List ℕ) → AllByRecursion (λ y. nat_eq s y ≡ false) xs → is_in xs s ≡ false
not_in s [] h = refl
not_in s (x ∷ xs) h = ap (λ b. b || is_in xs s) h.0 ∙ not_in s xs h.1

-- a slot goes on a stack that lacks it
pub once_more : (s : ℕ) (xs : List ℕ) → is_in xs s ≡ false → IsDistinct nat_eq xs → IsDistinct nat_eq (s ∷ xs)
once_more s xs h once = IsDistinct-cons nat_eq s xs (apart s xs h) once

-- the slot on top is not below
pub not_below_top : (s : ℕ) (xs : List ℕ) → IsDistinct nat_eq (s ∷ xs) → is_in xs s ≡ false
not_below_top s xs once = not_in s xs (IsDistinct-head nat_eq s xs once)

pub once_less : (s : ℕ) (xs : List ℕ) → IsDistinct nat_eq (s ∷ xs) → IsDistinct nat_eq xs
once_less s xs once = IsDistinct-tail nat_eq s xs once

-- what passes for all passes for one of them
pub all_at : (p : ℕ → Bool) (xs : List ℕ) (s : ℕ) → list_all p xs ≡ true → is_in xs s ≡ true → p s ≡ true
all_at p [] s all here = absurd (cc here)
all_at p (x ∷ xs) s all here = go (nat_eq s x) refl (all_at p xs s (and_true (p x) (list_all p xs) all).1)
  where
    go : (b : Bool) → nat_eq s x ≡ b → (is_in xs s ≡ true → p s ≡ true) → p s ≡ true
    go true e more = ap p (eq_true s x e) ∙ (and_true (p x) (list_all p xs) all).0
    go false e more = more (sym (ap (λ b. b || is_in xs s) e) ∙ here)

-- a slot that does not pass is none of those that do
pub not_in_by : (p : ℕ → Bool) (xs : List ℕ) (s : ℕ) → list_all p xs ≡ true → p s ≡ false → is_in xs s ≡ false
not_in_by p xs s all fails = go (is_in xs s) refl
  where
    go : (b : Bool) → is_in xs s ≡ b → is_in xs s ≡ false
    go true e = let passes = all_at p xs s all e in absurd (cc (passes, fails))
    go false e = e

-- what passes for all but s passes for a stack without s
pub all_but : (p q : ℕ → Bool) (xs : List ℕ) (s : ℕ) → is_in xs s ≡ false → ((t : ℕ) → nat_eq s t ≡ false → q t ≡ p t) → list_all q xs ≡ list_all p xs
all_but p q [] s out same = refl
all_but p q (x ∷ xs) s out same =
    let parts = or_false (nat_eq s x) (is_in xs s) out in
    ap (λ b. b && list_all q xs) (same x parts.0) ∙ ap (λ b. p x && b) (all_but p q xs s parts.1 same)

-- what passes for all is implied by what passes for all
pub all_also : (p q : ℕ → Bool) (xs : List ℕ) → list_all p xs ≡ true → ((t : ℕ) → p t ≡ true → q t ≡ true) → list_all q xs ≡ true
all_also p q [] all then_q = refl
all_also p q (x ∷ xs) all then_q =
    let parts = and_true (p x) (list_all p xs) all in
    both_true (q x) (list_all q xs) (then_q x parts.0) (all_also p q xs parts.1 then_q)

-- as many slots as there are numbers below a limit at most
pub length_within : (p : ℕ → Bool) (xs : List ℕ) (n : ℕ) → IsDistinct nat_eq xs → list_all p xs ≡ true → ((s : ℕ) → p s ≡ true → s < n) → length xs ≤ n
length_within p xs n once all low = length-le_from_distinct_below xs n once (λ s here. low s (all_at p xs s all here))

-- the slots below a number
pub length-below : (n : ℕ) → length (below n) ≡ n
unfolding below
length-below zero = refl
length-below (suc n) = ap suc (length-below n)

pub is_in-below : (n s : ℕ) → is_in (below n) s ≡ nat_lt s n
unfolding below
is_in-below zero s = grind (arith, nat_tests)
is_in-below (suc n) s = ap (λ b. nat_eq s n || b) (is_in-below n s) ∙ grind (arith, nat_tests)

pub below_once : (n : ℕ) → IsDistinct nat_eq (below n)
unfolding below IsDistinct
below_once zero = tt
below_once (suc n) = once_more n (below n) (is_in-below n n ∙ grind (arith, nat_tests)) (below_once n)

pub all_below : (p : ℕ → Bool) (n : ℕ) → ((s : ℕ) → s < n → p s ≡ true) → list_all p (below n) ≡ true
unfolding below
all_below p zero h = refl
all_below p (suc n) h =
    both_true (p n) (list_all p (below n)) (h n (omega arith)) (all_below p n (λ s low. h s (omega arith)))

-- one slot more below a number
pub below_more : (n : ℕ) → n ∷ below n ≡ below (n + 1)
unfolding below
below_more n = let next : suc n ≡ n + 1 = omega arith in ap below next
