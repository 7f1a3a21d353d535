-- Sums of an address and an offset, where they stay below 2^64.
use Rattle.std.proofs.Common.{◌≡◌, ◌∙◌, refl, ap, arith, ℕ, nat_lt, Bool, true, false, pos, negsuc, ◌+◌, ◌-◌, ◌^◌, ◌<◌, ◌≤◌}
use Rattle.std.specs.Prelude.{◌-ℤ◌}
use Rattle.std.proofs.lemmas.Bool.Decides.{nat_tests}
use Rattle.frame_walk.specs.Registers.{offset_by}

pub above : (a n : ℕ) → a + n < 2 ^ 64 → offset_by a (pos n) ≡ a + n
above a n small = grind (arith, nat_tests)

below_is : (k n : ℕ) → k < n → pos k -ℤ pos n ≡ negsuc (n - (k + 1))
below_is k n less = grind (arith, nat_tests)

under : (a m : ℕ) → m + 1 ≤ a → a < 2 ^ 64 → offset_by a (negsuc m) ≡ a - (m + 1)
under a m inside small = grind (arith, nat_tests)

-- k - n bytes behind an address, where n is the greater
pub before : (a k n : ℕ) → k < n → n ≤ a + k → n ≤ a → a < 2 ^ 64 → offset_by a (pos k -ℤ pos n) ≡ a + k - n
before a k n less inside far small = ap (offset_by a) (below_is k n less) ∙ under a (n - (k + 1)) (omega (arith, less, far)) small ∙ omega (arith, less, far)

-- a place inside a frame, by its distance from the upper end
pub offset_back : (sp n size : ℕ) → n ≤ size → sp + size < 2 ^ 64 → offset_by (sp + size) (pos n -ℤ pos size) ≡ sp + n
offset_back sp n size inside small = by (nat_lt n size) refl
  where
    by : (b : Bool) → nat_lt n size ≡ b → offset_by (sp + size) (pos n -ℤ pos size) ≡ sp + n
    by true e = let less : n < size = grind (arith, nat_tests, e) in before (sp + size) n size less (omega (arith, inside)) (omega arith) small ∙ omega arith
    by false e =
        let same : n ≡ size = grind (arith, nat_tests, e, inside) in
        let none : pos n -ℤ pos size ≡ pos 0 = grind (arith, nat_tests, same) in
        ap (offset_by (sp + size)) none ∙ above (sp + size) 0 (omega (arith, small)) ∙ omega (arith, same)
