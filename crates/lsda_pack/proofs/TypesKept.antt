-- A type that a chain or a list names is kept under its index.
use Rattle.std.proofs.Common.{◌≡◌, ◌<◌, ◌≤◌, ℕ, Bool, true, false, List, [], ◌∷◌, refl, ap, sym, ◌∙◌, arith, ◌+◌, ◌-◌, ◌==◌, inl, inr, if◌then◌else◌}
use Rattle.std.specs.Prelude.{Some, None, fold, max, nat_lt, unwrap_or, ◌||◌}
use Rattle.std.proofs.lemmas.Bool.{cond_both}
use Rattle.std.proofs.lemmas.Bool.Decides.{nat_tests}
use Rattle.table_forms.specs.Keys.{value_at}
use Rattle.table_forms.specs.WrittenTable.{list_size, list_from}
use Rattle.table_forms.proofs.Kept.{IsIn}
use Rattle.lsda_pack.specs.KeptTypes.{is_among, greatest, kept_from}
use Rattle.lsda_pack.specs.ListedVerdict.{by_index, by_place}

same : (a b : ℕ) → (a == b) ≡ true → a ≡ b
same a b e = grind (arith, nat_tests, e)

among : (i : ℕ) (ns : List ℕ) → IsIn i ns → is_among ns i ≡ true
among i [] is = absurd is
among i (n ∷ ns) (inl e) = rw (equal n i e) refl
  where
    equal : (a b : ℕ) → a ≡ b → (a == b) ≡ true
    equal a b e' = grind (arith, nat_tests, e')
among i (n ∷ ns) (inr is) = rw (among i ns is) (either (n == i))
  where
    either : (b : Bool) → (b || true) ≡ true
    either true = refl
    either false = refl

above : (ns : List ℕ) (a : ℕ) → a ≤ fold max a ns
above [] a = omega arith
above (n ∷ ns) a = let rest = above ns (max a n) in omega (arith, rest)

pub below_greatest : (i : ℕ) (ns : List ℕ) (a : ℕ) → IsIn i ns → i ≤ fold max a ns
below_greatest i [] a is = absurd is
below_greatest i (n ∷ ns) a (inl e) = let rest = above ns (max a n) in omega (arith, rest, e)
below_greatest i (n ∷ ns) a (inr is) = below_greatest i ns (max a n) is

-- no type has an index before the first
none_before : (i n : ℕ) (ts : List ℕ) → i < n → value_at 0 (by_index n ts) i ≡ 0
none_before i n [] before = refl
none_before i n (t ∷ ts) before =
    cond_both (n == i) t (value_at 0 (by_index (n + 1) ts) i) (λ v. v ≡ 0) (λ e. let is = same n i e in absurd (omega (arith, is, before)))
    (λ e. none_before i (n + 1) ts (omega (arith, before)))

kept_within : (ns : List ℕ) (i : ℕ) → IsIn i ns → i ≤ greatest ns → (n : ℕ) (ts : List ℕ) →
    value_at 0 (by_index n (kept_from ns n ts)) i ≡ value_at 0 (by_index n ts) i
kept_within ns i is bound n [] = refl
kept_within ns i is bound n (t ∷ ts) =
    cond_both (nat_lt (greatest ns) n) [] ((if is_among ns n then t else 0) ∷ kept_from ns (n + 1) ts)
    (λ xs. value_at 0 (by_index n xs) i ≡ value_at 0 (by_index n (t ∷ ts)) i)
    (λ e. sym (none_before i n (t ∷ ts) (grind (arith, nat_tests, e, bound))))
    (λ e. step (n == i) refl (kept_within ns i is bound (n + 1) ts))
  where
    step : (b : Bool) → (n == i) ≡ b → value_at 0 (by_index (n + 1) (kept_from ns (n + 1) ts)) i ≡ value_at 0 (by_index (n + 1) ts) i →
        (if b then (if is_among ns n then t else 0) else value_at 0 (by_index (n + 1) (kept_from ns (n + 1) ts)) i) ≡
        (if b then t else value_at 0 (by_index (n + 1) ts) i)
    step true e rest = ap (λ b. if b then t else 0) (ap (is_among ns) (same n i e) ∙ among i ns is)
    step false e rest = rest

pub below : (i : ℕ) (ns : List ℕ) → IsIn i ns → i ≤ greatest ns
unfolding greatest
below i ns is = below_greatest i ns 0 is

-- one that is named keeps its value
pub type_kept : (ns : List ℕ) (i : ℕ) → IsIn i ns → (ts : List ℕ) → value_at 0 (by_index 1 (kept_from ns 1 ts)) i ≡ value_at 0 (by_index 1 ts) i
type_kept ns i is ts = kept_within ns i is (below i ns is) 1 ts

-- no list begins before the first
no_list_before : (i n : ℕ) (ls : List (List ℕ)) → i < n → value_at [] (by_place n ls) i ≡ []
no_list_before i n [] before = refl
no_list_before i n (l ∷ ls) before =
    cond_both (n == i) l (value_at [] (by_place (n + list_size l) ls) i) (λ v. v ≡ []) (λ e. let is = same n i e in absurd (omega (arith, is, before)))
    (λ e. no_list_before i (n + list_size l) ls (omega (arith, before)))

-- a list is found under the place of its first byte
pub list_found : (ls : List (List ℕ)) (m n : ℕ) → value_at [] (by_place m ls) (m + n) ≡ unwrap_or (list_from ls n) []
list_found [] m n = refl
list_found (l ∷ ls) m n = step (m == m + n) (n == 0) (nat_lt n (list_size l)) refl refl refl (list_found ls (m + list_size l) (n - list_size l))
  where
    step : (b c d : Bool) → (m == m + n) ≡ b → (n == 0) ≡ c → nat_lt n (list_size l) ≡ d →
        value_at [] (by_place (m + list_size l) ls) (m + list_size l + (n - list_size l)) ≡ unwrap_or (list_from ls (n - list_size l)) [] →
        (if b then l else value_at [] (by_place (m + list_size l) ls) (m + n)) ≡
        unwrap_or (if c then Some l else (if d then None else list_from ls (n - list_size l))) []
    step true true d lb lc ld rest = refl
    step true false d lb lc ld rest = absurd (grind (arith, nat_tests, lb, lc))
    step false true d lb lc ld rest = absurd (grind (arith, nat_tests, lb, lc))
    step false false true lb lc ld rest = no_list_before (m + n) (m + list_size l) ls (grind (arith, nat_tests, ld))
    step false false false lb lc ld rest =
        let behind : m + list_size l + (n - list_size l) ≡ m + n = grind (arith, nat_tests, ld) in
        ap (value_at [] (by_place (m + list_size l) ls)) (sym behind) ∙ rest
