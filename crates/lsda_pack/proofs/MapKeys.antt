-- A number is found in a map under itself alone.
use Rattle.std.proofs.Common.{◌≡◌, ◌==◌, ℕ, Bool, true, false, refl, arith}
use Rattle.std.specs.Prelude.{cond, nat_lt}
use Rattle.std.specs.Ordering.{is_eq, nat_cmp}
use Rattle.std.specs.declared.cmp.Ordering.TheVariants.{Less, Equal, Greater}
use Rattle.std.proofs.lemmas.Bool.Decides.{nat_tests}

pub at_key : (x q : ℕ) → is_eq (nat_cmp x q) ≡ (x == q)
at_key x q = by (nat_lt x q) (x == q) refl refl
  where
    by : (a b : Bool) → nat_lt x q ≡ a → (x == q) ≡ b → is_eq (cond a Less (cond b Equal Greater)) ≡ b
    by true true ea eb = absurd (grind (arith, nat_tests, ea, eb))
    by true false ea eb = refl
    by false true ea eb = refl
    by false false ea eb = refl
