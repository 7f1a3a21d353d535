-- Numbers as they are kept.
use Rattle.std.proofs.Common.{◌≡◌, ◌∙◌, ℕ, ◌<◌, ◌≤◌, ◌&&◌, Bool, true, false, cond, Option, Some, None, nat_le, refl, sym, ap, arith}
use Rattle.std.specs.Prelude.{option_map, option_and_then, unwrap_or}
use Rattle.std.proofs.lemmas.Bool.Decides.{nat_tests}
use Rattle.hart_sched.specs.Decimal.{as_turns}
use Rattle.hart_sched.specs.Reads.{capped}

-- a number is kept, and the greatest for one that is greater
pub value_is_kept : (n : ℕ) → unwrap_or (cond (nat_le n 18446744073709551615) (Some n) None) 18446744073709551615 ≡ capped n
value_is_kept n = by (nat_le n 18446744073709551615) refl
  where
    by : (b : Bool) → nat_le n 18446744073709551615 ≡ b → unwrap_or (cond b (Some n) None) 18446744073709551615 ≡ capped n
    by true e = let low : n ≤ 18446744073709551615 = grind (arith, nat_tests, e) in omega (arith, low)
    by false e = let high : 18446744073709551615 < n = grind (arith, nat_tests, e) in omega (arith, high)

-- a number too great to be kept is none of turns either way
turns_kept : (n : ℕ) → as_turns (capped n) ≡ as_turns n
turns_kept n = by (nat_le n 18446744073709551615) refl
  where
    by : (b : Bool) → nat_le n 18446744073709551615 ≡ b → as_turns (capped n) ≡ as_turns n
    by true e = let low : n ≤ 18446744073709551615 = grind (arith, nat_tests, e) in let same : capped n ≡ n = omega (arith, low) in ap as_turns same
    by false e =
        let high : 18446744073709551615 < n = grind (arith, nat_tests, e) in
        let same : capped n ≡ 18446744073709551615 = omega (arith, high) in
        let less : nat_le n 4294967295 ≡ false = grind (arith, nat_tests, high) in
        let some : nat_le 1 n ≡ true = grind (arith, nat_tests, high) in
        ap as_turns same ∙ sym (ap (λ b. cond (b && nat_le n 4294967295) (Some n) None) some ∙ ap (λ b. cond b (Some n) None) less)

pub turns_are_kept : (o : Option ℕ) → option_and_then as_turns (option_map capped o) ≡ option_and_then as_turns o
turns_are_kept None = refl
turns_are_kept (Some n) = turns_kept n
