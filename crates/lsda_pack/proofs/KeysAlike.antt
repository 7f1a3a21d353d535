-- Lists with the same numbers have the same keys.
use Rattle.std.proofs.Common.{◌≡◌, ◌<◌, ◌==◌, ℕ, nat_lt, List, [], ◌∷◌, refl, ap, sym, subst, ◌∙◌, arith, inl, inr, if◌then◌else◌}
use Rattle.std.specs.Prelude.{⊤}
use Rattle.std.specs.List.{AllByRecursion}
use Rattle.std.proofs.lemmas.Bool.{cond_both}
use Rattle.std.proofs.lemmas.Bool.Decides.{nat_tests}
use Rattle.table_forms.specs.Keys.{add_key, keys}
use Rattle.table_forms.proofs.Alls.{all_more, all_members}
use Rattle.table_forms.proofs.Kept.{IsIn, in_keys}
use Rattle.eh_write.proofs.Alls.{all_keys}

-- each number of the first list stands in the second
abbrev pub Within : List ℕ → List ℕ → Type 0
Within xs ys = AllByRecursion (λ k. IsIn k ys) xs

pub at_within : (xs ys : List ℕ) → Within xs ys → (k : ℕ) → IsIn k xs → IsIn k ys
at_within [] ys all k is = absurd is
at_within (x ∷ xs) ys all k (inl e) = subst (λ n. IsIn n ys) e all.0
at_within (x ∷ xs) ys all k (inr is) = at_within xs ys all.1 k is

pub within_trans : (xs ys zs : List ℕ) → Within xs ys → Within ys zs → Within xs zs
within_trans xs ys zs one two = all_more (λ k. IsIn k ys) (λ k. IsIn k zs) (λ k is. at_within ys zs two k is) xs one

-- ---- keys rise
abbrev Above : ℕ → List ℕ → Type 0
Above n ns = AllByRecursion (λ k. n < k) ns

abbrev Rise : List ℕ → Type 0
Rise [] = ⊤
Rise (n ∷ ns) = Above n ns × Rise ns

add_above : (m k : ℕ) (ns : List ℕ) → m < k → Above m ns → Above m (add_key k ns)
add_above m k [] low all = (low, tt)
add_above m k (n ∷ ns) low all =
    cond_both (nat_lt k n) (k ∷ n ∷ ns) (if k == n then n ∷ ns else n ∷ add_key k ns) (Above m) (λ _. (low, all))
    (λ _. cond_both (k == n) (n ∷ ns) (n ∷ add_key k ns) (Above m) (λ _. all) (λ _. (all.0, add_above m k ns low all.1)))

add_rises : (k : ℕ) (ns : List ℕ) → Rise ns → Rise (add_key k ns)
add_rises k [] up = (tt, tt)
add_rises k (n ∷ ns) up =
    cond_both (nat_lt k n) (k ∷ n ∷ ns) (if k == n then n ∷ ns else n ∷ add_key k ns) Rise
    (λ e. let low : k < n = grind (arith, nat_tests, e) in ((low, all_more (λ j. n < j) (λ j. k < j) (λ j over. omega (arith, low, over)) ns up.0), up))
    (λ e. cond_both (k == n) (n ∷ ns) (n ∷ add_key k ns) Rise (λ _. up) (λ f. (add_above n k ns (grind (arith, nat_tests, e, f)) up.0, add_rises k ns up.1)))

keys_rise : (ns : List ℕ) → Rise (keys ns)
keys_rise [] = tt
keys_rise (n ∷ ns) = add_rises n (keys ns) (keys_rise ns)

above_in : (n k : ℕ) (ns : List ℕ) → Above n ns → IsIn k ns → n < k
above_in n k [] all is = absurd is
above_in n k (m ∷ ms) all (inl e) = subst (λ j. n < j) e all.0
above_in n k (m ∷ ms) all (inr is) = above_in n k ms all.1 is

first_same : (x y : ℕ) (xs ys : List ℕ) → Above x xs → Above y ys → IsIn x (y ∷ ys) → IsIn y (x ∷ xs) → x ≡ y
first_same x y xs ys over under (inl e) two = sym e
first_same x y xs ys over under (inr is) (inl e) = e
first_same x y xs ys over under (inr is) (inr at) = let a = above_in y x ys under is in let b = above_in x y xs over at in absurd (omega (arith, a, b))

-- those above the first of the one are among the others of the other
others_within : (x : ℕ) (xs ys : List ℕ) → Above x xs → Within xs (x ∷ ys) → Within xs ys
others_within x [] ys over all = tt
others_within x (k ∷ ks) ys over all = (by over.0 all.0, others_within x ks ys over.1 all.1)
  where
    by : x < k → IsIn k (x ∷ ys) → IsIn k ys
    by low (inl e) = absurd (omega (arith, low, e))
    by low (inr is) = is

rising_same : (xs ys : List ℕ) → Rise xs → Rise ys → Within xs ys → Within ys xs → xs ≡ ys
rising_same [] [] up above one two = refl
rising_same [] (y ∷ ys) up above one two = absurd two.0
rising_same (x ∷ xs) [] up above one two = absurd one.0
rising_same (x ∷ xs) (y ∷ ys) up above one two =
    let same = first_same x y xs ys up.0 above.0 one.0 two.0 in
    let ahead = others_within x xs ys up.0 (subst (λ n. Within xs (n ∷ ys)) (sym same) one.1) in
    let back = others_within y ys xs above.0 (subst (λ n. Within ys (n ∷ xs)) same two.1) in
    ap (λ n. n ∷ xs) same ∙ ap (λ ns. y ∷ ns) (rising_same xs ys up.1 above.1 ahead back)

keys_within : (ns : List ℕ) → Within (keys ns) ns
keys_within ns = all_keys (λ k. IsIn k ns) ns (all_members ns)

within_keys : (ns : List ℕ) → Within ns (keys ns)
within_keys ns = all_more (λ k. IsIn k ns) (λ k. IsIn k (keys ns)) (λ k is. in_keys k ns is) ns (all_members ns)

pub keys_same : (xs ys : List ℕ) → Within xs ys → Within ys xs → keys xs ≡ keys ys
keys_same xs ys one two =
    rising_same (keys xs) (keys ys) (keys_rise xs) (keys_rise ys)
    (within_trans (keys xs) xs (keys ys) (keys_within xs) (within_trans xs ys (keys ys) one (within_keys ys)))
    (within_trans (keys ys) ys (keys xs) (keys_within ys) (within_trans ys xs (keys xs) two (within_keys xs)))
