-- How many places are not in a map.
use Rattle.std.proofs.Common.{◌≡◌, ◌≤◌, ◌<◌, ◌+◌, ◌==◌, ℕ, zero, suc, Bool, true, false, Option, refl, ap, sym, ◌∙◌, arith, if◌then◌else◌}
use Rattle.std.specs.Prelude.{is_some}
use Rattle.std.proofs.lemmas.Bool.Decides.{nat_tests}
use Rattle.lsda_read.specs.Known.{unknown}

-- what is in the first map is in the second
abbrev pub Grows : {X : Type 0} → (ℕ → Option X) → (ℕ → Option X) → Type 0
Grows f g = (q : ℕ) → is_some (f q) ≡ true → is_some (g q) ≡ true

abbrev one_if : Bool → ℕ
one_if b = if b then 0 else 1

less_if : (a b : Bool) → (a ≡ true → b ≡ true) → one_if b ≤ one_if a
less_if true true h = omega arith
less_if true false h = let no : false ≡ true = h refl in absurd cc
less_if false true h = omega arith
less_if false false h = omega arith

pub unknown_below : {X : Type 0} (f : ℕ → Option X) (n : ℕ) → unknown f n ≤ n
unfolding unknown
unknown_below f zero = omega arith
unknown_below f (suc n) = at_most (is_some (f n)) (unknown_below f n)
  where
    at_most : (b : Bool) → unknown f n ≤ n → one_if b + unknown f n ≤ suc n
    at_most true e = omega (arith, e)
    at_most false e = omega (arith, e)

pub unknown_grows : {X : Type 0} (f g : ℕ → Option X) (n : ℕ) → Grows f g → unknown g n ≤ unknown f n
unfolding unknown
unknown_grows f g zero more = omega arith
unknown_grows f g (suc n) more = both (one_if (is_some (g n))) (one_if (is_some (f n))) (less_if (is_some (f n)) (is_some (g n)) (more n)) (unknown_grows f g n more)
  where
    both : (a b : ℕ) → a ≤ b → unknown g n ≤ unknown f n → a + unknown g n ≤ b + unknown f n
    both a b e h = omega (arith, e, h)

pub unknown_less : {X : Type 0} (f g : ℕ → Option X) (n p : ℕ) → p < n → is_some (f p) ≡ false → is_some (g p) ≡ true → Grows f g → unknown g n < unknown f n
unfolding unknown
unknown_less f g zero p inside was is more = absurd (omega (arith, inside))
unknown_less f g (suc n) p inside was is more = by (p == n) refl (λ below. unknown_less f g n p below was is more)
  where
    fewer : (a b : ℕ) → a ≤ b → unknown g n < unknown f n → a + unknown g n < b + unknown f n
    fewer a b e h = omega (arith, e, h)

    here : (a b : Bool) → a ≡ false → b ≡ true → unknown g n ≤ unknown f n → one_if b + unknown g n < one_if a + unknown f n
    here true b ea eb h = absurd cc
    here false true ea eb h = omega (arith, h)
    here false false ea eb h = absurd cc

    by : (b : Bool) → (p == n) ≡ b → (p < n → unknown g n < unknown f n) → one_if (is_some (g n)) + unknown g n < one_if (is_some (f n)) + unknown f n
    by true e rest =
        let same : p ≡ n = grind (arith, nat_tests, e) in
        here (is_some (f n)) (is_some (g n)) (ap (λ q. is_some (f q)) (sym same) ∙ was) (ap (λ q. is_some (g q)) (sym same) ∙ is) (unknown_grows f g n more)
    by false e rest =
        let below : p < n = grind (arith, nat_tests, e, inside) in
        fewer (one_if (is_some (g n))) (one_if (is_some (f n))) (less_if (is_some (f n)) (is_some (g n)) (more n)) (rest below)
