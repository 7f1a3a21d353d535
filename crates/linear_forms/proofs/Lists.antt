-- Where an item of a list stands.
use Rattle.std.proofs.Common.{◌≡◌, ℕ, zero, suc, ◌+◌, ◌<◌, List, [], ◌∷◌, ◌++◌, length, map, Some, None, refl, ap, arith}
use Rattle.std.specs.Prelude.{slice_get}

-- what stands in a list stands changed in the changed list
pub mapped : {A B : Type 0} (f : A → B) (xs : List A) (n : ℕ) (x : A) → slice_get xs n ≡ Some x → slice_get (map f xs) n ≡ Some (f x)
mapped f [] n x e = absurd (cc e)
mapped f (y ∷ xs) zero x e = ap (λ o. elim o [ None ↦ None | Some z ↦ Some (f z) ]) e
mapped f (y ∷ xs) (suc n) x e = mapped f xs n x e

-- the first of two lists stands in front
pub in_front : {A : Type 0} (a b : List A) (n : ℕ) → n < length a → slice_get (a ++ b) n ≡ slice_get a n
in_front [] b n lt = absurd (omega (arith, lt))
in_front (x ∷ a) b zero lt = refl
in_front (x ∷ a) b (suc n) lt = in_front a b n (omega (arith, lt))

pub found_in_front : {A : Type 0} (a b : List A) (n : ℕ) (x : A) → slice_get a n ≡ Some x → slice_get (a ++ b) n ≡ Some x
found_in_front [] b n x e = absurd (cc e)
found_in_front (y ∷ a) b zero x e = e
found_in_front (y ∷ a) b (suc n) x e = found_in_front a b n x e

-- the second stands behind it
pub behind : {A : Type 0} (a b : List A) (n k : ℕ) → n ≡ length a + k → slice_get (a ++ b) n ≡ slice_get b k
behind [] b n k e = ap (slice_get b) (omega (arith, e))
behind (x ∷ a) b zero k e = absurd (omega (arith, e))
behind (x ∷ a) b (suc n) k e = behind a b n k (omega (arith, e))
