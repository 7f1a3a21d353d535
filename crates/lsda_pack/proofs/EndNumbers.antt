-- An end of a chain that has a number keeps it, and shares it with no other.
use Rattle.std.proofs.Common.{◌≡◌, ◌<◌, ◌≤◌, ◌+◌, ◌⊎◌, inl, inr, ℕ, ℤ, Bool, true, false, List, [], ◌∷◌, ◌++◌, map, append_assoc, Option, Some, None, refl, ap, sym, ◌∙◌, arith, if◌then◌else◌}
use Rattle.std.specs.Prelude.{is_some, option_and_then}
use Rattle.std.specs.BTreeMap.{BTreeMap, IsEmpty, btree_map_len, get, is_at}
use Rattle.std.specs.Map.{lookup}
use Rattle.std.specs.List.{AllByRecursion}
use Rattle.std.specs.declared.cmp.Ordering.{Ordering}
use Rattle.std.specs.Ordering.{int_cmp, nat_cmp, is_eq}
use Rattle.std.specs.declared.cmp.Ordering.TheVariants.{Less, Equal, Greater}
use Rattle.std.proofs.lemmas.Map.Lookups.{exact_pairs, exact_signed, exact_unsigned}
use Rattle.std.proofs.lemmas.List.{map-append}
use Rattle.lsda_pack.specs.EndNumbers.{AreNumbers, HaveNumbers, IsNumbered, Keeps, TellsApart, end_cmp, end_number, filters_of}
use Rattle.lsda_pack.specs.declared.numbers.NumberedChain.{NumberedChain}

some_same : {X : Type 0} (x y : X) → (λ (w : Option X). w) (Some x) ≡ Some y → x ≡ y
some_same x y e = cc

some_or_none : {X : Type 0} (x : X) → (λ (w : Option X). w) (Some x) ≡ None → ⊥
some_or_none x e = cc

no_last : {X : Type 0} (xs : List X) (x : X) → xs ++ x ∷ [] ≡ [] → ⊥
no_last [] x e = cc
no_last (y ∷ xs) x e = cc

heads_same : {X : Type 0} (x y : X) (xs ys : List X) → x ∷ xs ≡ y ∷ ys → x ≡ y
heads_same x y xs ys e = cc

rests_same : {X : Type 0} (x y : X) (xs ys : List X) → x ∷ xs ≡ y ∷ ys → xs ≡ ys
rests_same x y xs ys e = cc

-- lists of which each has one more behind it
pub both_same : {X : Type 0} (xs ys : List X) (x y : X) → xs ++ x ∷ [] ≡ ys ++ y ∷ [] → (xs ≡ ys) × (x ≡ y)
both_same [] [] x y e = (refl, heads_same x y [] [] e)
both_same [] (z ∷ ys) x y e = absurd (no_last ys y (sym (rests_same x z [] (ys ++ y ∷ []) e)))
both_same (z ∷ xs) [] x y e = absurd (no_last xs x (rests_same z y (xs ++ x ∷ []) [] e))
both_same (w ∷ xs) (z ∷ ys) x y e =
    let rest = both_same xs ys x y (rests_same w z (xs ++ x ∷ []) (ys ++ y ∷ []) e) in
    (ap (λ v. v ∷ xs) (heads_same w z (xs ++ x ∷ []) (ys ++ y ∷ []) e) ∙ ap (λ vs. z ∷ vs) rest.0, rest.1)

-- ---- one key
-- a key is found as itself alone
pub same_end : (d e : ℤ × ℕ) → is_at (end_cmp d) e ≡ true → d ≡ e
same_end d e at = exact_pairs int_cmp nat_cmp exact_signed exact_unsigned d e (is (end_cmp d e) at)
  where
    is : (o : Ordering) → is_eq o ≡ true → o ≡ Equal
    is Less at = absurd cc
    is Equal at = refl
    is Greater at = absurd cc

-- ---- numbers
-- one more end, whose number is that of none before
pub one_more : (known more : ℤ × ℕ → Option ℕ) (e : ℤ × ℕ) (n : ℕ) → known e ≡ None → ((d : ℤ × ℕ) → more d ≡ (if is_at (end_cmp e) d then Some n else known d)) → Keeps known more
one_more known more e n new says d m is = says d ∙ by (is_at (end_cmp e) d) refl
  where
    by : (b : Bool) → is_at (end_cmp e) d ≡ b → (if b then Some n else known d) ≡ Some m
    by true at = absurd (some_or_none m (sym is ∙ ap known (sym (same_end e d at)) ∙ new))
    by false at = is

-- what it has then
record HasNow (known : ℤ × ℕ → Option ℕ) (e : ℤ × ℕ) (n : ℕ) (d : ℤ × ℕ) (m : ℕ) : Type 0 where
  pub here : (d ≡ e) × (m ≡ n) ⊎ (known d ≡ Some m)

has_now : (known more : ℤ × ℕ → Option ℕ) (e : ℤ × ℕ) (n : ℕ) → ((d : ℤ × ℕ) → more d ≡ (if is_at (end_cmp e) d then Some n else known d)) →
    (d : ℤ × ℕ) (m : ℕ) → more d ≡ Some m → HasNow known e n d m
has_now known more e n says d m is = by (is_at (end_cmp e) d) refl (sym (says d) ∙ is)
  where
    by : (b : Bool) → is_at (end_cmp e) d ≡ b → (if b then Some n else known d) ≡ Some m → HasNow known e n d m
    by true at is' = record { here = inl (sym (same_end e d at), sym (some_same n m is')) }
    by false at is' = record { here = inr is' }

pub numbers_more : (known more : BTreeMap (ℤ × ℕ) ℕ) (e : ℤ × ℕ) (n : ℕ) (before : Option ℕ) → get end_cmp known e ≡ None → n ≡ btree_map_len known + 1 →
    ((d : ℤ × ℕ) → get end_cmp more d ≡ (if is_at (end_cmp e) d then Some n else get end_cmp known d)) → before ≡ get end_cmp known e →
    btree_map_len more ≡ btree_map_len known + (if is_some before then 0 else 1) → AreNumbers known → AreNumbers more
numbers_more known more e n before new next says was longer are = record {
  apart = record {
    above = λ d m is. above d m (has_now (get end_cmp known) (get end_cmp more) e n says d m is).here;
    apart = λ d d' m is is'. apart d d' m (has_now (get end_cmp known) (get end_cmp more) e n says d m is).here (has_now (get end_cmp known) (get end_cmp more) e n says d' m is').here;
  };
  few = λ d m is. few d m (has_now (get end_cmp known) (get end_cmp more) e n says d m is).here;
}
  where
    one : btree_map_len more ≡ btree_map_len known + 1
    one = longer ∙ ap (λ o. btree_map_len known + (if is_some o then 0 else 1)) (was ∙ new)

    above : (d : ℤ × ℕ) (m : ℕ) → (d ≡ e) × (m ≡ n) ⊎ (get end_cmp known d ≡ Some m) → 0 < m
    above d m (inl now) = let same = now.1 in omega (arith, same, next)
    above d m (inr before) = are.apart.above d m before

    few : (d : ℤ × ℕ) (m : ℕ) → (d ≡ e) × (m ≡ n) ⊎ (get end_cmp known d ≡ Some m) → m ≤ btree_map_len more
    few d m (inl now) = let same = now.1 in omega (arith, same, next, one)
    few d m (inr before) = let fits = are.few d m before in omega (arith, fits, one)

    apart : (d d' : ℤ × ℕ) (m : ℕ) → (d ≡ e) × (m ≡ n) ⊎ (get end_cmp known d ≡ Some m) → (d' ≡ e) × (m ≡ n) ⊎ (get end_cmp known d' ≡ Some m) → d ≡ d'
    apart d d' m (inl now) (inl now') = now.0 ∙ sym now'.0
    apart d d' m (inl now) (inr before') = let same = now.1 in let fits = are.few d' m before' in absurd (omega (arith, same, next, fits))
    apart d d' m (inr before) (inl now') = let same = now'.1 in let fits = are.few d m before in absurd (omega (arith, same, next, fits))
    apart d d' m (inr before) (inr before') = are.apart.apart d d' m before before'

pub end_stays : (known more : ℤ × ℕ → Option ℕ) (fs : List ℤ) (n : ℕ) → Keeps known more → end_number known fs ≡ Some n → end_number more fs ≡ Some n
end_stays known more [] n keeps is = is
end_stays known more (f ∷ fs) n keeps is = by (end_number known fs) refl is (λ m at. end_stays known more fs m keeps at)
  where
    by : (o : Option ℕ) → end_number known fs ≡ o → option_and_then (λ m. known (f, m)) o ≡ Some n → ((m : ℕ) → end_number known fs ≡ Some m → end_number more fs ≡ Some m) →
        option_and_then (λ m. more (f, m)) (end_number more fs) ≡ Some n
    by None at is' rest = absurd (some_or_none n (sym is'))
    by (Some m) at is' rest = ap (option_and_then (λ k. more (f, k))) (rest m at) ∙ keeps (f, m) n is'

pub numbers_stay : (known more : ℤ × ℕ → Option ℕ) (fs : List ℤ) (ns : List ℕ) → Keeps known more → HaveNumbers known fs ns → HaveNumbers more fs ns
numbers_stay known more [] ns keeps have = have
numbers_stay known more (f ∷ fs) ns keeps have =
    (have.0, have.1, have.2, end_stays known more (f ∷ fs) have.1 keeps have.3, numbers_stay known more fs have.0 keeps have.4)

-- the number of filters that are some, by that of those behind the first
pub record HasEnd (known : ℤ × ℕ → Option ℕ) (f : ℤ) (fs : List ℤ) (n : ℕ) : Type 0 where
  pub behind : ℕ
  pub number : end_number known fs ≡ Some behind
  pub here : known (f, behind) ≡ Some n

pub has_end : (known : ℤ × ℕ → Option ℕ) (f : ℤ) (fs : List ℤ) (n : ℕ) → end_number known (f ∷ fs) ≡ Some n → HasEnd known f fs n
has_end known f fs n is = by (end_number known fs) refl is
  where
    by : (o : Option ℕ) → end_number known fs ≡ o → option_and_then (λ m. known (f, m)) o ≡ Some n → HasEnd known f fs n
    by None at is' = absurd (some_or_none n (sym is'))
    by (Some m) at is' = record { behind = m; number = at; here = is' }

-- one number is that of one end
pub ends_apart : (known : ℤ × ℕ → Option ℕ) (fs gs : List ℤ) (n : ℕ) → TellsApart known → end_number known fs ≡ Some n → end_number known gs ≡ Some n → fs ≡ gs
ends_apart known [] [] n tells is at = refl
ends_apart known [] (g ∷ gs) n tells is at =
    let above = tells.above _ n (has_end known g gs n at).here in
    let zero : 0 ≡ n = some_same 0 n is in absurd (omega (arith, above, zero))
ends_apart known (f ∷ fs) [] n tells is at =
    let above = tells.above _ n (has_end known f fs n is).here in
    let zero : 0 ≡ n = some_same 0 n at in absurd (omega (arith, above, zero))
ends_apart known (f ∷ fs) (g ∷ gs) n tells is at =
    let x = has_end known f fs n is in let y = has_end known g gs n at in
    let key = tells.apart (f, x.behind) (g, y.behind) n x.here y.here in
    let behind = ap (λ (e : ℤ × ℕ). e.1) key in
    let rest = ends_apart known fs gs x.behind tells x.number (y.number ∙ ap (λ m. Some m) (sym behind)) in
    ap (λ (e : ℤ × ℕ). e.0 ∷ fs) key ∙ ap (λ xs. g ∷ xs) rest

-- the longest of the numbers is that of the whole chain
pub whole_number : (known : ℤ × ℕ → Option ℕ) (fs : List ℤ) (ns shorter : List ℕ) (n : ℕ) → ns ≡ shorter ++ n ∷ [] → HaveNumbers known fs ns → end_number known fs ≡ Some n
whole_number known [] ns shorter n is have = absurd (no_last shorter n (sym is ∙ have))
whole_number known (f ∷ fs) ns shorter n is have = have.3 ∙ ap (λ m. Some m) (both_same have.0 shorter have.1 n (sym have.2 ∙ is)).1

pub no_number : (known : ℤ × ℕ → Option ℕ) (fs : List ℤ) (ns : List ℕ) → ns ≡ [] → HaveNumbers known fs ns → end_number known fs ≡ Some 0
no_number known [] ns is have = refl
no_number known (f ∷ fs) ns is have = absurd (no_last have.0 have.1 (sym have.2 ∙ is))

-- none is numbered yet
pub none_numbered : (known : BTreeMap (ℤ × ℕ) ℕ) → IsEmpty known → AreNumbers known
none_numbered known empty = record {
  apart = record { above = λ e n is. absurd (none e n is); apart = λ d e n is at. absurd (none d n is) };
  few = λ e n is. absurd (none e n is);
}
  where
    none : (e : ℤ × ℕ) (n : ℕ) → get end_cmp known e ≡ Some n → ⊥
    none e n is = some_or_none n (sym is ∙ ap (lookup (is_at (end_cmp e))) empty)

-- the numbers of a chain with one more filter in front
pub front_number : (known : ℤ × ℕ → Option ℕ) (f : ℤ) (fs : List ℤ) (behind n : ℕ) → end_number known fs ≡ Some behind → known (f, behind) ≡ Some n → end_number known (f ∷ fs) ≡ Some n
front_number known f fs behind n is at = ap (option_and_then (λ m. known (f, m))) is ∙ at

-- one more chain is numbered
pub all_numbered : (known more : ℤ × ℕ → Option ℕ) (chains : List NumberedChain) (c : NumberedChain) → Keeps known more → AllByRecursion (IsNumbered known) chains → IsNumbered more c →
    AllByRecursion (IsNumbered more) (chains ++ c ∷ [])
all_numbered known more [] c keeps all one = (one, tt)
all_numbered known more (d ∷ chains) c keeps all one = (numbers_stay known more d.filters.now d.ends.items keeps all.0, all_numbered known more chains c keeps all.1 one)

-- a chain goes from those that are left to those that are numbered
pub chain_onward : {X : Type 0} (f : X → List ℤ) (chains more : List NumberedChain) (c : NumberedChain) (rest others : List X) (x : X) → rest ≡ x ∷ others → more ≡ chains ++ c ∷ [] → c.filters.now ≡ f x →
    filters_of chains ++ map f rest ≡ filters_of more ++ map f others
chain_onward f chains more c rest others x left pushed same =
    ap (λ xs. filters_of chains ++ map f xs) left ∙ ap (λ y. filters_of chains ++ (y ∷ map f others)) (sym same) ∙ sym (append_assoc (filters_of chains) (c.filters.now ∷ []) (map f others)) ∙
    ap (λ xs. xs ++ map f others) (sym (map-append (λ (n : NumberedChain). n.filters.now) chains (c ∷ []))) ∙ ap (λ ns. filters_of ns ++ map f others) (sym pushed)
