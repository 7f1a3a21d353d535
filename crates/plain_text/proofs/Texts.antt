-- Tests of texts, as facts.
use Rattle.std.proofs.Common.{◌≡◌, ℕ, Bool, true, false, ◌&&◌, List, [], ◌∷◌, length, nat_eq, bytes_eq, refl, arith}
use Rattle.std.proofs.lemmas.Bool.{eqb-true}

pub both : (a b : Bool) → (a && b) ≡ true → (a ≡ true) × (b ≡ true)
both true b e = (refl, e)
both false b e = cc

-- texts that the test finds equal are the same
pub same_text : (xs ys : List ℕ) → bytes_eq xs ys ≡ true → xs ≡ ys
same_text [] [] e = refl
same_text [] (y ∷ ys) e = cc
same_text (x ∷ xs) [] e = cc
same_text (x ∷ xs) (y ∷ ys) e =
    let parts = both (nat_eq x y) (bytes_eq xs ys) e in
    let head : x ≡ y = eqb-true x y parts.0 in
    let tail : xs ≡ ys = same_text xs ys parts.1 in
    cc

pub empty : (text : List ℕ) → length text ≡ 0 → text ≡ []
empty [] none = refl
empty (b ∷ bs) none = absurd (omega (arith, none))
