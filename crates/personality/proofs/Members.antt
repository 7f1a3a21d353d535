-- Members of lists of numbers, and of what is kept under numbers.
use Rattle.std.proofs.Common.{◌==◌, ℕ, suc, List, [], ◌∷◌, ◌++◌, arith, inl, inr}
use Rattle.std.specs.Prelude.{Contains, flat_map}
use Rattle.std.specs.List.{AllByRecursion}
use Rattle.std.proofs.lemmas.Bool.{cond_both}
use Rattle.table_forms.specs.Keys.{value_at}
use Rattle.table_forms.proofs.Kept.{IsIn}
use Rattle.table_forms.proofs.Alls.{all_more, all_members}

pub contains : (k : ℕ) (ns : List ℕ) → IsIn k ns → Contains ns k
contains k [] is = absurd is
contains k (n ∷ ns) (inl e) = (0, omega arith, e)
contains k (n ∷ ns) (inr is) = let later = contains k ns is in let below = later.1 in (suc later.0, omega (arith, below), later.2)

pub in_left : (k : ℕ) (xs ys : List ℕ) → IsIn k xs → IsIn k (xs ++ ys)
in_left k [] ys is = absurd is
in_left k (x ∷ xs) ys (inl e) = inl e
in_left k (x ∷ xs) ys (inr is) = inr (in_left k xs ys is)

pub in_right : (k : ℕ) (xs ys : List ℕ) → IsIn k ys → IsIn k (xs ++ ys)
in_right k [] ys is = is
in_right k (x ∷ xs) ys is = inr (in_right k xs ys is)

-- what an item gives is among what all give
pub all_given : {X : Type 0} (f : X → List ℕ) (xs : List X) → AllByRecursion (λ x. AllByRecursion (λ n. IsIn n (flat_map f xs)) (f x)) xs
all_given f [] = tt
all_given f (x ∷ xs) = (
  all_more (λ n. IsIn n (f x)) (λ n. IsIn n (f x ++ flat_map f xs)) (λ n is. in_left n (f x) (flat_map f xs) is) (f x) (all_members (f x)),
  all_more (λ y. AllByRecursion (λ n. IsIn n (flat_map f xs)) (f y)) (λ y. AllByRecursion (λ n. IsIn n (f x ++ flat_map f xs)) (f y))
      (λ y holds. all_more (λ n. IsIn n (flat_map f xs)) (λ n. IsIn n (f x ++ flat_map f xs)) (λ n is. in_right n (f x) (flat_map f xs) is) (f y) holds)
      xs (all_given f xs),
)

pub all_front : {X : Type 0} (P : X → Type 0) (xs ys : List X) → AllByRecursion P (xs ++ ys) → AllByRecursion P xs
all_front P [] ys holds = tt
all_front P (x ∷ xs) ys holds = (holds.0, all_front P xs ys holds.1)

pub all_back : {X : Type 0} (P : X → Type 0) (xs ys : List X) → AllByRecursion P (xs ++ ys) → AllByRecursion P ys
all_back P [] ys holds = holds
all_back P (x ∷ xs) ys holds = all_back P xs ys holds.1

-- what holds of all that is kept holds of what is kept under a number
pub all_kept : {X : Type 0} (P : X → Type 0) (kept : List (ℕ × List X)) (k : ℕ) → AllByRecursion P (flat_map (λ e. e.1) kept) → AllByRecursion P (value_at [] kept k)
all_kept P [] k holds = tt
all_kept P ((n, xs) ∷ rest) k holds =
    cond_both (n == k) xs (value_at [] rest k) (AllByRecursion P) (λ _. all_front P xs (flat_map (λ e. e.1) rest) holds)
    (λ _. all_kept P rest k (all_back P xs (flat_map (λ e. e.1) rest) holds))
