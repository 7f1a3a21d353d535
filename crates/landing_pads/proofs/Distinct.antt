-- What is kept once, and where it stands.
use Rattle.std.proofs.Common.{◌≡◌, ◌∙◌, ◌≤◌, ℕ, ◌+◌, Bool, true, false, List, [], ◌∷◌, ◌++◌, length, map, refl, ap, sym, arith}
use Rattle.std.proofs.lemmas.List.{map-append}
use Rattle.std.specs.Prelude.{nat_eq, nat_lt, cond, not, Some, None, ◌||◌, if◌then◌else◌}
use Rattle.std.specs.List.{list_any, position, position_or_len}
use Rattle.std.proofs.lemmas.Bool.Decides.{nat_tests}
use Rattle.meaning_forms.specs.Class.{some_of}
use Rattle.linear_forms.specs.Distinct.{added, added_all, same_number}
use Rattle.linear_forms.specs.Filters.{index_of}

-- more, then others
pub then_added : {A : Type 0} (same : A → A → Bool) (ys xs zs : List A) → added_all same xs (ys ++ zs) ≡ added_all same (added_all same xs ys) zs
then_added same [] xs zs = refl
then_added same (y ∷ ys) xs zs = then_added same ys (added same xs y) zs

-- what is kept once so far, and what is left
pub kept_onward : {A : Type 0} (same : A → A → Bool) (xs ys a b ab total : List A) → ab ≡ a ++ b → ys ≡ added_all same xs a → added_all same xs ab ≡ total →
    added_all same ys b ≡ total
kept_onward same xs ys a b ab total e f h = ap (λ z. added_all same z b) f ∙ (sym (then_added same a xs b) ∙ (ap (added_all same xs) (sym e) ∙ h))

-- more of two parts, made of others
pub both_added : {A B : Type 0} (same : A → A → Bool) (f : B → A) (ys zs : List B) (xs : List A) →
    added_all same xs (map f (ys ++ zs)) ≡ added_all same (added_all same xs (map f ys)) (map f zs)
both_added same f ys zs xs = ap (added_all same xs) (map-append f ys zs) ∙ then_added same (map f ys) xs (map f zs)

-- some number is among others
pub some_any : (test : ℕ → Bool) (xs : List ℕ) → some_of test xs ≡ list_any test xs
some_any test [] = refl
some_any test (x ∷ xs) = ap (λ b. test x || b) (some_any test xs)

-- a number more, if it is new
pub key_added : (xs : List ℕ) (n : ℕ) → added same_number xs n ≡ (if list_any (nat_eq n) xs then xs else xs ++ n ∷ [])
key_added xs n = ap (λ b. if b then xs else xs ++ n ∷ []) (some_any (nat_eq n) xs)

-- the place of a number in a list, counted from 1
pub index_counted : (n : ℕ) (xs : List ℕ) → index_of n xs ≡ position_or_len (nat_eq n) xs + 1
index_counted n [] = refl
index_counted n (x ∷ xs) = go (nat_eq n x) (index_counted n xs) where
  go : (b : Bool) → index_of n xs ≡ position_or_len (nat_eq n) xs + 1 → (if b then 1 else index_of n xs + 1) ≡ cond (not b) (1 + position_or_len (nat_eq n) xs) 0 + 1
  go true h = refl
  go false h = omega (arith, h)

-- it is at most the length
pub place_within : (n : ℕ) (xs : List ℕ) → position_or_len (nat_eq n) xs ≤ length xs
place_within n [] = omega arith
place_within n (x ∷ xs) = go (nat_eq n x) (place_within n xs) where
  go : (b : Bool) → position_or_len (nat_eq n) xs ≤ length xs → cond (not b) (1 + position_or_len (nat_eq n) xs) 0 ≤ length (x ∷ xs)
  go true h = omega arith
  go false h = omega (arith, h)

-- the place of a number that is there
pub index_found : (n i : ℕ) (xs : List ℕ) → Some i ≡ position (nat_eq n) xs → index_of n xs ≡ i + 1
index_found n i xs e = index_counted n xs ∙ go (nat_lt (position_or_len (nat_eq n) xs) (length xs)) e where
  go : (b : Bool) → Some i ≡ cond b (Some (position_or_len (nat_eq n) xs)) None → position_or_len (nat_eq n) xs + 1 ≡ i + 1
  go true h = cc
  go false h = cc

-- the place of a number that is not there
pub index_missing : (n : ℕ) (xs : List ℕ) → None ≡ position (nat_eq n) xs → index_of n xs ≡ length xs + 1
index_missing n xs e = go (nat_lt (position_or_len (nat_eq n) xs) (length xs)) refl e where
  go : (b : Bool) → nat_lt (position_or_len (nat_eq n) xs) (length xs) ≡ b → None ≡ cond b (Some (position_or_len (nat_eq n) xs)) None → index_of n xs ≡ length xs + 1
  go true h k = absurd (cc k)
  go false h k = grind (arith, nat_tests, index_counted n xs, place_within n xs, h)
