-- Sums over numbers in a row.
use Rattle.std.proofs.Common.{◌≡◌, ℕ, zero, suc, ◌+◌, ◌≤◌, ◌<◌, ◌==◌, Bool, true, false, if◌then◌else◌, refl, sym, subst, arith}
use Rattle.std.proofs.lemmas.Bool.Decides.{nat_tests}

-- the sum of n numbers, from that of j on
abbrev pub sum_from : (ℕ → ℕ) → (j n : ℕ) → ℕ
sum_from g j zero = 0
sum_from g j (suc n) = g j + sum_from g (j + 1) n

pub sum_plus : (g h : ℕ → ℕ) (j n : ℕ) → sum_from (λ k. g k + h k) j n ≡ sum_from g j n + sum_from h j n
sum_plus g h j zero = refl
sum_plus g h j (suc n) = omega (arith, sum_plus g h (j + 1) n)

-- each is 1 at most
pub sum_of_few : (g : ℕ → ℕ) (j n : ℕ) → ((k : ℕ) → g k ≤ 1) → sum_from g j n ≤ n
sum_of_few g j zero h = omega arith
sum_of_few g j (suc n) h = omega (arith, sum_of_few g (j + 1) n h, h j)

differ : (y j : ℕ) → y < j → (y == j) ≡ false
differ y j h = grind (arith, nat_tests, h)

-- one of the numbers is another, and the rest are the same
module _ (y c : ℕ) (h : ℕ → ℕ) where
  abbrev changed : ℕ → ℕ
  changed j = if y == j then c else h j

  behind_it : (j n : ℕ) → y < j → sum_from changed j n ≡ sum_from h j n
  behind_it j zero lt = refl
  behind_it j (suc n) lt =
      let same : changed j ≡ h j = subst (λ b. (if b then c else h j) ≡ h j) (sym (differ y j lt)) refl in
      omega (arith, same, behind_it (j + 1) n (omega (arith, lt)))

  is_same : (j : ℕ) → (y == j) ≡ true → y ≡ j
  is_same j e = grind (arith, nat_tests, e)

  pub one_changed : (j n : ℕ) → sum_from changed j n ≤ c + sum_from h j n
  one_changed j zero = omega arith
  one_changed j (suc n) = go (y == j) refl (one_changed (j + 1) n)
    where
      go : (b : Bool) → (y == j) ≡ b → sum_from changed (j + 1) n ≤ c + sum_from h (j + 1) n →
          (if b then c else h j) + sum_from changed (j + 1) n ≤ c + sum_from h j (suc n)
      go true e rest = omega (arith, behind_it (j + 1) n (omega (arith, is_same j e)))
      go false e rest = omega (arith, rest)

-- 1 where a test holds
abbrev pub flag : Bool → ℕ
flag true = 1
flag false = 0

is_other : (y j : ℕ) → j ≤ y → (y == j) ≡ false → j + 1 ≤ y
is_other y j le e = grind (arith, nat_tests, e, le)

-- a number is found where it stands
pub found_once : (y j n : ℕ) → j ≤ y → y < j + n → 1 ≤ sum_from (λ k. flag (y == k)) j n
found_once y j zero le lt = absurd (omega (arith, le, lt))
found_once y j (suc n) le lt = go (y == j) refl (λ h. found_once y (j + 1) n h (omega (arith, lt)))
  where
    go : (b : Bool) → (y == j) ≡ b → (j + 1 ≤ y → 1 ≤ sum_from (λ k. flag (y == k)) (j + 1) n) → 1 ≤ flag b + sum_from (λ k. flag (y == k)) (j + 1) n
    go true e rest = omega arith
    go false e rest = omega (arith, rest (is_other y j le e))
