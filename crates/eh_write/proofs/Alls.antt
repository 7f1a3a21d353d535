-- What holds of each item of a list.
use Rattle.std.proofs.Common.{◌≡◌, ℕ, zero, suc, Bool, true, nat_lt, ◌==◌, List, [], ◌∷◌, ◌++◌, map, subst, if◌then◌else◌}
use Rattle.std.specs.Prelude.{Some, slice_get, flat_map, filter}
use Rattle.std.specs.List.{AllByRecursion}
use Rattle.std.proofs.lemmas.Bool.{cond_both}
use Rattle.table_forms.specs.Keys.{add_key, keys}

pub all_append : {X : Type 0} (P : X → Type 0) (xs ys : List X) → AllByRecursion P xs → AllByRecursion P ys → AllByRecursion P (xs ++ ys)
all_append P [] ys holds others = others
all_append P (x ∷ xs) ys holds others = (holds.0, all_append P xs ys holds.1 others)

pub all_flat_map : {X Y : Type 0} (P : Y → Type 0) (f : X → List Y) (xs : List X) → AllByRecursion (λ x. AllByRecursion P (f x)) xs → AllByRecursion P (flat_map f xs)
all_flat_map P f [] holds = tt
all_flat_map P f (x ∷ xs) holds = all_append P (f x) (flat_map f xs) holds.0 (all_flat_map P f xs holds.1)

pub all_map : {X Y : Type 0} (P : Y → Type 0) (f : X → Y) (xs : List X) → AllByRecursion (λ x. P (f x)) xs → AllByRecursion P (map f xs)
all_map P f [] holds = tt
all_map P f (x ∷ xs) holds = (holds.0, all_map P f xs holds.1)

-- of the items that pass a test
pub all_filter : {X : Type 0} (P : X → Type 0) (test : X → Bool) (xs : List X) → AllByRecursion (λ x. test x ≡ true → P x) xs → AllByRecursion P (filter test xs)
all_filter P test [] holds = tt
all_filter P test (x ∷ xs) holds =
    let rest = all_filter P test xs holds.1 in
    cond_both (test x) (x ∷ filter test xs) (filter test xs) (AllByRecursion P) (λ e. (holds.0 e, rest)) (λ _. rest)

all_add : (P : ℕ → Type 0) (k : ℕ) (ns : List ℕ) → P k → AllByRecursion P ns → AllByRecursion P (add_key k ns)
all_add P k [] one holds = (one, tt)
all_add P k (n ∷ ns) one holds =
    cond_both (nat_lt k n) (k ∷ n ∷ ns) (if k == n then n ∷ ns else n ∷ add_key k ns) (AllByRecursion P) (λ _. (one, holds))
    (λ _. cond_both (k == n) (n ∷ ns) (n ∷ add_key k ns) (AllByRecursion P) (λ _. holds) (λ _. (holds.0, all_add P k ns one holds.1)))

pub all_keys : (P : ℕ → Type 0) (ns : List ℕ) → AllByRecursion P ns → AllByRecursion P (keys ns)
all_keys P [] holds = tt
all_keys P (n ∷ ns) holds = all_add P n (keys ns) holds.0 (all_keys P ns holds.1)

some_same : {X : Type 0} (x y : X) → Some x ≡ Some y → x ≡ y
some_same x y e = cc

-- of the item at an index
pub all_at : {X : Type 0} (P : X → Type 0) (xs : List X) (i : ℕ) (x : X) → AllByRecursion P xs → slice_get xs i ≡ Some x → P x
all_at P [] i x holds at = cc
all_at P (y ∷ xs) zero x holds at = subst P (some_same y x at) holds.0
all_at P (y ∷ xs) (suc i) x holds at = all_at P xs i x holds.1 at
