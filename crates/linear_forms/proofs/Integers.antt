-- Tests of integers and of Booleans.
use Rattle.std.proofs.Common.{◌≡◌, Bool, true, false, refl, arith}
use Rattle.std.specs.Prelude.{ℤ, pos, negsuc, ◌&&◌}
use Rattle.std.proofs.lemmas.Bool.Decides.{nat_tests}
use Rattle.meaning_forms.specs.Arithmetic.{int_equal}

-- equal integers are the same
pub equal_is_same : (a b : ℤ) → int_equal a b ≡ true → a ≡ b
equal_is_same (pos a) (pos b) e = grind (arith, nat_tests)
equal_is_same (pos a) (negsuc b) e = grind (arith, nat_tests)
equal_is_same (negsuc a) (pos b) e = grind (arith, nat_tests)
equal_is_same (negsuc a) (negsuc b) e = grind (arith, nat_tests)

-- both sides hold
pub both_hold : (a b : Bool) → (a && b) ≡ true → (a ≡ true) × (b ≡ true)
both_hold true b e = (refl, e)
both_hold false b e = absurd (cc e)
