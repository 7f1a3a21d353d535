-- Tests and their parts.
use Rattle.std.proofs.Common.{◌≡◌, ◌≢◌, ℕ, Bool, true, false, ◌||◌, ◌&&◌, not, nat_eq, refl, arith}
use Rattle.std.proofs.lemmas.Bool.Decides.{nat_tests}

pub or_false : (a b : Bool) → (a || b) ≡ false → (a ≡ false) × (b ≡ false)
or_false true b h = absurd (cc h)
or_false false b h = (refl, h)

pub and_true : (a b : Bool) → (a && b) ≡ true → (a ≡ true) × (b ≡ true)
and_true true b h = (refl, h)
and_true false b h = absurd (cc h)

pub both_true : (a b : Bool) → a ≡ true → b ≡ true → (a && b) ≡ true
both_true a b p q = grind arith

pub eq_same : (n : ℕ) → nat_eq n n ≡ true
eq_same n = grind arith

pub eq_true : (m n : ℕ) → nat_eq m n ≡ true → m ≡ n
eq_true m n h = grind (arith, nat_tests)

pub eq_false : (m n : ℕ) → nat_eq m n ≡ false → m ≢ n
eq_false m n h = grind (arith, nat_tests)

pub eq_flip : (m n : ℕ) → nat_eq m n ≡ nat_eq n m
eq_flip m n = grind (arith, nat_tests)

pub not_true : (b : Bool) → true ≡ not b → b ≡ false
not_true true h = absurd (cc h)
not_true false h = refl

pub not_false : (b : Bool) → false ≡ not b → b ≡ true
not_false true h = refl
not_false false h = absurd (cc h)
