-- The first place at which a test holds, by recursion and as a count.
use Rattle.std.proofs.Common.{◌≡◌, ◌++◌, ◌+◌, ◌≤◌, ◌||◌, ℕ, Bool, true, false, List, [], ◌∷◌, length, Option, Some, None, refl, ap, ◌∙◌, arith, if◌then◌else◌}
use Rattle.std.specs.Prelude.{cond, is_some, nat_lt, not}
use Rattle.std.specs.List.{list_any, position_from, position_or_len}
use Rattle.std.proofs.lemmas.Bool.Decides.{nat_tests}
use Rattle.std.proofs.lemmas.Iterator.Adapters.{position_from-zero}
use Rattle.std.proofs.lemmas.List.Sums.{prefix_len-le-length}

-- the place of an element, with one more behind the others
abbrev pub or_last : Option ℕ → Bool → ℕ → Option ℕ
or_last (Some p) b n = Some p
or_last None b n = if b then Some n else None

pub place_push : {X : Type 0} (p : X → Bool) (i : ℕ) (xs : List X) (y : X) → position_from p i (xs ++ y ∷ []) ≡ or_last (position_from p i xs) (p y) (i + length xs)
place_push p i [] y = by (p y)
  where
    by : (b : Bool) → cond b (Some i) None ≡ or_last None b (i + 0)
    by true = ap (λ n. Some n) (omega arith)
    by false = refl
place_push p i (x ∷ xs) y = by (p x) (place_push p (i + 1) xs y)
  where
    by : (b : Bool) → position_from p (i + 1) (xs ++ y ∷ []) ≡ or_last (position_from p (i + 1) xs) (p y) (i + 1 + length xs) →
        cond b (Some i) (position_from p (i + 1) (xs ++ y ∷ [])) ≡ or_last (cond b (Some i) (position_from p (i + 1) xs)) (p y) (i + length (x ∷ xs))
    by true rest = refl
    by false rest = rest ∙ ap (or_last (position_from p (i + 1) xs) (p y)) (omega arith)

-- there is one where the test holds of some
pub has_place : {X : Type 0} (p : X → Bool) (i : ℕ) (xs : List X) → is_some (position_from p i xs) ≡ list_any p xs
has_place p i [] = refl
has_place p i (x ∷ xs) = by (p x) (has_place p (i + 1) xs)
  where
    by : (b : Bool) → is_some (position_from p (i + 1) xs) ≡ list_any p xs → is_some (cond b (Some i) (position_from p (i + 1) xs)) ≡ (b || list_any p xs)
    by true rest = refl
    by false rest = rest

-- it is the count of those before it
pub place_is : {X : Type 0} (p : X → Bool) (xs : List X) (n : ℕ) → position_from p 0 xs ≡ Some n → n ≡ position_or_len p xs
place_is p xs n is = by (nat_lt (position_or_len p xs) (length xs)) (position_from-zero p xs ∙ is)
  where
    by : (b : Bool) → cond b (Some (position_or_len p xs)) None ≡ Some n → n ≡ position_or_len p xs
    by true e = cc
    by false e = absurd cc

pub place_none : {X : Type 0} (p : X → Bool) (xs : List X) → position_from p 0 xs ≡ None → length xs ≡ position_or_len p xs
place_none p xs is = by (nat_lt (position_or_len p xs) (length xs)) refl (position_from-zero p xs ∙ is)
  where
    by : (b : Bool) → nat_lt (position_or_len p xs) (length xs) ≡ b → cond b (Some (position_or_len p xs)) None ≡ None → length xs ≡ position_or_len p xs
    by true at e = absurd cc
    by false at e = let within : position_or_len p xs ≤ length xs = prefix_len-le-length (λ x. not (p x)) xs in grind (arith, nat_tests, within, at)
