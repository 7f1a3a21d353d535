-- Numbers in lists and in rows.
use Rattle.std.proofs.Common.{◌≡◌, ℕ, zero, suc, ◌+◌, ◌<◌, ◌≤◌, List, [], ◌∷◌, ◌++◌, length, Some, refl, ap, arith}
use Rattle.std.specs.Prelude.{slice_get, unwrap_or}

abbrev pub item : List ℕ → ℕ → ℕ → ℕ
item ns other n = unwrap_or (slice_get ns n) other

pub item_behind : (a b : List ℕ) (other k n : ℕ) → n ≡ length a + k → item (a ++ b) other n ≡ item b other k
item_behind [] b other k n e = ap (item b other) (omega (arith, e))
item_behind (x ∷ a) b other k zero e = absurd (omega (arith, e))
item_behind (x ∷ a) b other k (suc n) e = item_behind a b other k n (omega (arith, e))

-- numbers in a row
abbrev pub row : ℕ → ℕ → List ℕ
row b zero = []
row b (suc n) = b ∷ row (b + 1) n

pub row_length : (b n : ℕ) → length (row b n) ≡ n
row_length b zero = refl
row_length b (suc n) = omega (arith, row_length (b + 1) n)

pub row_item : (b n other i : ℕ) (rest : List ℕ) → i < n → item (row b n ++ rest) other i ≡ b + i
row_item b zero other i rest lt = absurd (omega (arith, lt))
row_item b (suc n) other zero rest lt = omega arith
row_item b (suc n) other (suc i) rest lt = let next = row_item (b + 1) n other i rest (omega (arith, lt)) in omega (arith, next)

abbrev pub AllBelow : ℕ → List ℕ → Type 0
AllBelow e [] = Unit {0}
AllBelow e (n ∷ ns) = (n < e) × AllBelow e ns

pub both_below : (e : ℕ) (a b : List ℕ) → AllBelow e a → AllBelow e b → AllBelow e (a ++ b)
both_below e [] b h k = k
both_below e (n ∷ a) b h k = (h.0, both_below e a b h.1 k)

pub row_below : (e b n : ℕ) → b + n ≤ e → AllBelow e (row b n)
row_below e b zero le = tt
row_below e b (suc n) le = (omega (arith, le), row_below e (b + 1) n (omega (arith, le)))

pub item_below : (e : ℕ) (ns : List ℕ) (other n : ℕ) → AllBelow e ns → n < length ns → item ns other n < e
item_below e [] other n h lt = absurd (omega (arith, lt))
item_below e (x ∷ ns) other zero h lt = h.0
item_below e (x ∷ ns) other (suc n) h lt = item_below e ns other n h.1 (omega (arith, lt))

pub found_below : {A : Type 0} (xs : List A) (n : ℕ) (x : A) → slice_get xs n ≡ Some x → n < length xs
found_below [] n x e = absurd (cc e)
found_below (y ∷ xs) zero x e = omega arith
found_below (y ∷ xs) (suc n) x e = omega (arith, found_below xs n x e)
