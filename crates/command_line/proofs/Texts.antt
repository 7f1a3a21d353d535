-- Tests of texts, as facts.
use Rattle.std.proofs.Common.{◌≡◌, ℕ, Bool, true, false, ◌&&◌, ◌||◌, List, [], ◌∷◌, nat_eq, bytes_eq, refl, eq-eqb}

pub or_false : (a : Bool) → (a || false) ≡ a
or_false true = refl
or_false false = refl

pub or_true : (a : Bool) → (a || true) ≡ true
or_true true = refl
or_true false = refl

pub and_false : (a : Bool) → (a && false) ≡ false
and_false true = refl
and_false false = refl

pub text_itself : (xs : List ℕ) → bytes_eq xs xs ≡ true
text_itself [] = refl
text_itself (x ∷ xs) = let same : nat_eq x x ≡ true = eq-eqb x x refl in rw same (text_itself xs)
