-- What is kept under the numbers of a list, in rising order, each once.
use Rattle.std.proofs.Common.{◌≡◌, ◌<◌, ◌==◌, ℕ, zero, suc, true, false, nat_lt, List, [], ◌∷◌, map, length, slice_index_or, ap, sym, ◌∙◌, arith, ◌⊎◌, inl, inr, if◌then◌else◌}
use Rattle.std.specs.Prelude.{Contains}
use Rattle.std.proofs.lemmas.Bool.{cond_both}
use Rattle.std.proofs.lemmas.Bool.Decides.{nat_tests}
use Rattle.table_forms.specs.Keys.{add_key, keys, value_at}

-- membership by recursion
abbrev pub IsIn : ℕ → List ℕ → Type 0
IsIn k [] = ⊥
IsIn k (n ∷ ns) = (n ≡ k) ⊎ IsIn k ns

pub is_in : (k : ℕ) (ns : List ℕ) (i d : ℕ) → i < length ns → slice_index_or ns i d ≡ k → IsIn k ns
is_in k [] i d inside at = absurd (omega (arith, inside))
is_in k (n ∷ ns) zero d inside at = inl at
is_in k (n ∷ ns) (suc i) d inside at = inr (is_in k ns i d (omega (arith, inside)) at)

same : (a b : ℕ) → (a == b) ≡ true → a ≡ b
same a b e = grind (arith, nat_tests, e)

differs : (a b : ℕ) → (a == b) ≡ false → a ≡ b → ⊥
differs a b e f = grind (arith, nat_tests, e, f)

in_add : (k j : ℕ) (ns : List ℕ) → (j ≡ k) ⊎ IsIn k ns → IsIn k (add_key j ns)
in_add k j [] is = is
in_add k j (n ∷ ns) is =
    cond_both (nat_lt j n) (j ∷ n ∷ ns) (if j == n then n ∷ ns else n ∷ add_key j ns) (IsIn k) (λ _. is)
    (λ _. cond_both (j == n) (n ∷ ns) (n ∷ add_key j ns) (IsIn k) (λ e. equal (same j n e) is) (λ _. behind (in_add k j ns) is))
  where
    equal : j ≡ n → (j ≡ k) ⊎ IsIn k (n ∷ ns) → IsIn k (n ∷ ns)
    equal e (inl f) = inl (sym e ∙ f)
    equal e (inr f) = f

    behind : ((j ≡ k) ⊎ IsIn k ns → IsIn k (add_key j ns)) → (j ≡ k) ⊎ IsIn k (n ∷ ns) → IsIn k (n ∷ add_key j ns)
    behind more (inl f) = inr (more (inl f))
    behind more (inr (inl f)) = inl f
    behind more (inr (inr f)) = inr (more (inr f))

pub in_keys : (k : ℕ) (ns : List ℕ) → IsIn k ns → IsIn k (keys ns)
in_keys k [] is = is
in_keys k (n ∷ ns) (inl e) = in_add k n (keys ns) (inl e)
in_keys k (n ∷ ns) (inr is) = in_add k n (keys ns) (inr (in_keys k ns is))

pub value_in : {A : Type 0} (d : A) (f : ℕ → A) (k : ℕ) (ns : List ℕ) → IsIn k ns → value_at d (map (λ n. (n, f n)) ns) k ≡ f k
value_in d f k [] is = absurd is
value_in {A} d f k (n ∷ ns) is =
    cond_both (n == k) (f n) (value_at d (map (λ n. (n, f n)) ns) k) (λ x. x ≡ f k) (λ e. ap f (same n k e)) (λ e. value_in d f k ns (later e is))
  where
    later : (n == k) ≡ false → (n ≡ k) ⊎ IsIn k ns → IsIn k ns
    later e (inl g) = absurd (differs n k e g)
    later e (inr g) = g

-- under the keys of a list each of its numbers keeps its value
pub value_kept : {A : Type 0} (d : A) (f : ℕ → A) (ns : List ℕ) (k : ℕ) → Contains ns k → value_at d (map (λ n. (n, f n)) (keys ns)) k ≡ f k
value_kept d f ns k (i, inside, at) = value_in d f k (keys ns) (in_keys k ns (is_in k ns i k inside at))
