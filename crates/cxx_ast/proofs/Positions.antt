-- The first place in a list where a test holds, by the list's first and the rest.
use Rattle.std.proofs.Common.{◌≡◌, ℕ, suc, ◌+◌, Bool, true, false, List, ◌∷◌, Option, Some, None, refl, cond, nat_lt, length, position, option_map, arith}
use Rattle.std.proofs.lemmas.Bool.Decides.{nat_tests}
use Rattle.std.specs.List.{position_or_len}

one_more : (n : ℕ) → 1 + n ≡ suc n
one_more n = omega arith

lt_one_more : (n m : ℕ) → nat_lt (suc n) (suc m) ≡ nat_lt n m
lt_one_more n m = grind (arith, nat_tests)

behind_first : (n m : ℕ) (b : Bool) → nat_lt n m ≡ b → cond (nat_lt (1 + n) (suc m)) (Some (1 + n)) None ≡ option_map suc (cond (nat_lt n m) (Some n) None)
behind_first n m true e = rw (one_more n) (rw (lt_one_more n m) (rw e refl))
behind_first n m false e = rw (one_more n) (rw (lt_one_more n m) (rw e refl))

first_within : (m : ℕ) → nat_lt 0 (suc m) ≡ true
first_within m = grind (arith, nat_tests)

pub position-cons : {X : Type 0} (p : X → Bool) (x : X) (xs : List X) → position p (x ∷ xs) ≡ cond (p x) (Some 0) (option_map suc (position p xs))
position-cons p x xs = by (p x) refl
  where
    by : (b : Bool) → p x ≡ b → position p (x ∷ xs) ≡ cond b (Some 0) (option_map suc (position p xs))
    by true e = rw e (rw (first_within (length xs)) refl)
    by false e = rw e (behind_first (position_or_len p xs) (length xs) (nat_lt (position_or_len p xs) (length xs)) refl)
