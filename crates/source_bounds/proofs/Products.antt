-- The bytes of chains: so many chains, each of so many filters.
use Rattle.std.proofs.Common.{◌≡◌, ℕ, zero, suc, ◌+◌, ◌-◌, ◌*◌, ◌/◌, ◌≤◌, Bool, true, false, refl, subst, sym, arith}
use Rattle.std.specs.Prelude.{nat_le}
use Rattle.std.proofs.Math.Nat.{mul-le-mul_left}
use Rattle.std.proofs.lemmas.Bool.Decides.{nat_tests}

-- four times a product is at most the square of the sum
square_above : (a k : ℕ) → 4 * (a * (a + k)) ≤ (a + (a + k)) * (a + (a + k))
square_above a k = omega arith

square_of_sum : (a b : ℕ) → 4 * (a * b) ≤ (a + b) * (a + b)
square_of_sum a b = go (nat_le a b) refl
  where
    below : nat_le a b ≡ true → b ≡ a + (b - a)
    below e = grind (arith, nat_tests, e)

    above : nat_le a b ≡ false → a ≡ b + (a - b)
    above e = grind (arith, nat_tests, e)

    go : (c : Bool) → nat_le a b ≡ c → 4 * (a * b) ≤ (a + b) * (a + b)
    go true e = subst (λ x. 4 * (a * x) ≤ (a + x) * (a + x)) (sym (below e)) (square_above a (b - a))
    go false e =
        let turned : 4 * ((b + (a - b)) * b) ≤ (b + (a - b) + b) * (b + (a - b) + b) = omega (arith, square_above b (a - b)) in
        subst (λ x. 4 * (x * b) ≤ (x + b) * (x + b)) (sym (above e)) turned

-- how many bytes the chains of what weighs so much take at most
unfoldable pub chains_room : ℕ → ℕ
chains_room g = g * g / 12 + 2 * g + 3

pub chains_weigh : (p f g : ℕ) → 3 * p + 6 * f ≤ g → 3 * (f + 1) * (2 * p + 1) ≤ chains_room g
unfolding chains_room
chains_weigh p f g h =
    let a = 3 * p in
    let b = 6 * f in
    let first : (a + b) * (a + b) ≤ (a + b) * g = mul-le-mul_left (a + b) h in
    let second : g * (a + b) ≤ g * g = mul-le-mul_left g h in
    omega (arith, square_of_sum a b, first, second, h)

-- no chains but that of cleanups
pub no_chains : (g : ℕ) → g ≤ 0 → chains_room g ≤ 3
unfolding chains_room
no_chains zero h = omega arith
no_chains (suc g) h = absurd (omega (arith, h))

-- of a whole function
pub most_chains : (g : ℕ) → g ≤ 2010 → chains_room g ≤ 170 * g + 3
unfolding chains_room
most_chains g h = let square : g * g ≤ g * 2010 = mul-le-mul_left g h in omega (arith, square)

-- What guards a whole function weighs 9, and takes few bytes more, since it makes each chain longer by one alone.
pub outermost_chains : (g w : ℕ) → g ≤ w + 9 → w ≤ 2001 → chains_room g ≤ 171 * w + 28
unfolding chains_room
outermost_chains g w h k =
    let first : g * g ≤ g * (w + 9) = mul-le-mul_left g h in
    let second : (w + 9) * g ≤ (w + 9) * (w + 9) = mul-le-mul_left (w + 9) h in
    let third : w * w ≤ w * 2001 = mul-le-mul_left w k in
    omega (arith, first, second, third, h)
