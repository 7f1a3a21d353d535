-- What holds of each item of a list.
use Rattle.std.proofs.Common.{ℕ, zero, suc, List, [], ◌∷◌, ◌++◌}
use Rattle.std.specs.List.{AllByRecursion}
use Rattle.std.specs.Prelude.{slice_get, unwrap_or}

-- of two lists one behind the other
pub both_all : {A : Type 0} → (P : A → Type 0) (xs ys : List A) → AllByRecursion P xs → AllByRecursion P ys → AllByRecursion P (xs ++ ys)
both_all P [] ys h k = k
both_all P (x ∷ xs) ys h k = (h.0, both_all P xs ys h.1 k)

pub first_all : {A : Type 0} → (P : A → Type 0) (xs ys : List A) → AllByRecursion P (xs ++ ys) → AllByRecursion P xs
first_all P [] ys h = tt
first_all P (x ∷ xs) ys h = (h.0, first_all P xs ys h.1)

pub second_all : {A : Type 0} → (P : A → Type 0) (xs ys : List A) → AllByRecursion P (xs ++ ys) → AllByRecursion P ys
second_all P [] ys h = h
second_all P (x ∷ xs) ys h = second_all P xs ys h.1

-- of the item at a place, or of what stands for it
pub at_or : {A : Type 0} → (P : A → Type 0) (xs : List A) (i : ℕ) (other : A) → AllByRecursion P xs → P other → P (unwrap_or (slice_get xs i) other)
at_or P [] zero other h k = k
at_or P [] (suc i) other h k = k
at_or P (x ∷ xs) zero other h k = h.0
at_or P (x ∷ xs) (suc i) other h k = at_or P xs i other h.1 k
