-- Numbers put into a set, the last first.
use Rattle.std.proofs.Common.{◌≡◌, ◌==◌, ℕ, Bool, true, false, nat_lt, List, [], ◌∷◌, ◌++◌, refl, ap, if◌then◌else◌}
use Rattle.std.specs.Prelude.{cond}
use Rattle.std.specs.declared.cmp.Ordering.TheVariants.{Less, Equal, Greater}
use Rattle.std.specs.Ordering.{nat_cmp, match_ordering}
use Rattle.std.specs.BTreeSet.{insert_key}
use Rattle.table_forms.specs.Keys.{add_key, keys}

pub insert_adds : (ks : List ℕ) (k : ℕ) → insert_key nat_cmp ks k ≡ add_key k ks
insert_adds [] k = refl
insert_adds (n ∷ ns) k = by (nat_lt k n) (k == n) (insert_adds ns k)
  where
    by : (a b : Bool) → insert_key nat_cmp ns k ≡ add_key k ns →
        match_ordering (cond a Less (cond b Equal Greater)) (k ∷ n ∷ ns) (n ∷ ns) (n ∷ insert_key nat_cmp ns k) ≡ (if a then k ∷ n ∷ ns else if b then n ∷ ns else n ∷ add_key k ns)
    by true b more = refl
    by false true more = refl
    by false false more = ap (λ xs. n ∷ xs) more

-- these numbers with those that stand
abbrev pub keys_with : List ℕ → List ℕ → List ℕ
keys_with ks [] = ks
keys_with ks (n ∷ ns) = add_key n (keys_with ks ns)

pub keys_alone : (ns : List ℕ) → keys_with [] ns ≡ keys ns
keys_alone [] = refl
keys_alone (n ∷ ns) = ap (add_key n) (keys_alone ns)

pub keys_last : (ks ns : List ℕ) (n : ℕ) → keys_with ks (ns ++ n ∷ []) ≡ keys_with (add_key n ks) ns
keys_last ks [] n = refl
keys_last ks (m ∷ ns) n = ap (add_key m) (keys_last ks ns n)
