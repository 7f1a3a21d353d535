-- Each type and list that a packed chain names is there, and each chain has a filter.
use Rattle.std.proofs.Common.{◌≡◌, ◌≢◌, ◌+◌, ◌-◌, ◌<◌, ◌≤◌, ◌==◌, ℕ, ℤ, pos, negsuc, zero, suc, Bool, true, false, List, [], ◌∷◌, ◌++◌, length, map, refl, ap, sym, subst, ◌∙◌, arith, inl, inr}
use Rattle.std.specs.Prelude.{Option, Some, None, IfSome, slice_get, flat_map, filter_map, fold, option_map, option_and_then, unwrap_or, nat_lt, if◌then◌else◌}
use Rattle.std.specs.List.{AllByRecursion, cons_option, position_or_len}
use Rattle.std.proofs.lemmas.Bool.{cond_both}
use Rattle.std.proofs.lemmas.Bool.Decides.{nat_tests}
use Rattle.std.proofs.lemmas.List.Folds.{find_at}
use Rattle.std.proofs.lemmas.Option.{slice_get-map}
use Rattle.eh_bytes.specs.declared.table.ListSite.{ListSite}
use Rattle.table_forms.specs.declared.found.Site.{Site}
use Rattle.table_forms.specs.Keys.{value_at}
use Rattle.table_forms.specs.Lsda.{lists_named}
use Rattle.table_forms.specs.WrittenTable.{list_from}
use Rattle.table_forms.proofs.Alls.{all_more}
use Rattle.table_forms.proofs.Kept.{IsIn}
use Rattle.eh_write.proofs.Alls.{all_append, all_at, all_flat_map}
use Rattle.personality.proofs.Members.{all_given, all_front, all_back}
use Rattle.lsda_pack.specs.Chains.{chain_of, add_chain, distinct, number_in}
use Rattle.lsda_pack.specs.KeptTypes.{is_among, greatest, kept_from, kept_types, indices_by, indices_reached}
use Rattle.lsda_pack.specs.ReadLists.{number_of, site_listed, values_from}
use Rattle.lsda_pack.proofs.ChainsKept.{HasKept, is_kept, found_at}
use Rattle.lsda_pack.proofs.ListsRead.{chain_there}
use Rattle.lsda_pack.proofs.TypesKept.{below}

-- a chain is kept that a site has by its action
pub action_chain : (chains : List (List ℤ)) (es : List (ℕ × List ℤ)) (a : ℕ) → chains ≡ map (λ (e : ℕ × List ℤ). e.1) es → (a == 0) ≡ false → IsIn a (map (λ e. e.0) es) →
    option_and_then (slice_get chains) (number_of es a) ≡ Some (value_at [] es a)
action_chain chains es a is some named =
    let k = position_or_len (λ (e : ℕ × List ℤ). e.0 == a) es in
    ap (λ b. option_and_then (slice_get chains) (if b then None else Some k)) some ∙
    ap (λ cs. slice_get cs k) is ∙ slice_get-map (λ (e : ℕ × List ℤ). e.1) es k ∙
    ap (option_map (λ (e : ℕ × List ℤ). e.1)) (sym (find_at (λ (e : ℕ × List ℤ). e.0 == a) es)) ∙ chain_there a es named

pub site_kept : (chains kept : List (List ℤ)) (start : ℕ) (es : List (ℕ × List ℤ)) → chains ≡ map (λ (e : ℕ × List ℤ). e.1) es → (ss : List Site) →
    AllByRecursion (HasKept chains kept) (map (site_listed start es) ss) → (a : ℕ) → (a == 0) ≡ false → IsIn a (map (λ e. e.0) es) → IsIn a (map (λ s. s.action) ss) →
    is_kept kept (value_at [] es a) ≡ true
site_kept chains kept start es is [] has a some named at = absurd at
site_kept chains kept start es is (s ∷ ss) has a some named (inr at) = site_kept chains kept start es is ss has.1 a some named at
site_kept chains kept start es is (s ∷ ss) has a some named (inl same) =
    let there : option_and_then (slice_get chains) (number_of es s.action) ≡ Some (value_at [] es a) =
    ap (λ n. option_and_then (slice_get chains) (number_of es n)) same ∙ action_chain chains es a is some named in
    subst (λ o. IfSome o (λ c. is_kept kept c ≡ true)) there has.0

-- all that a kept chain names is reached
chain_reached : (lists : List (List ℕ)) (kept : List (List ℤ)) (c : List ℤ) → is_kept kept c ≡ true → AllByRecursion (λ i. IsIn i (indices_reached lists kept)) (flat_map (indices_by lists) c)
chain_reached lists kept c e =
    all_at (λ d. AllByRecursion (λ i. IsIn i (indices_reached lists kept)) (flat_map (indices_by lists) d)) kept (number_in kept c) c
    (all_given (flat_map (indices_by lists)) kept) (found_at c kept e)

pub each_of : {X : Type 0} (P : ℕ → Type 0) (f : X → List ℕ) (xs : List X) → AllByRecursion P (flat_map f xs) → AllByRecursion (λ x. AllByRecursion P (f x)) xs
each_of P f [] all = tt
each_of P f (x ∷ xs) all = (all_front P (f x) (flat_map f xs) all, each_of P f xs (all_back P (f x) (flat_map f xs) all))

-- what holds of a list holds of each number in it
pub at_member : (P : ℕ → Type 0) (ns : List ℕ) → AllByRecursion P ns → (n : ℕ) → IsIn n ns → P n
at_member P [] all n is = absurd is
at_member P (m ∷ ms) all n (inl e) = subst P e all.0
at_member P (m ∷ ms) all n (inr is) = at_member P ms all.1 n is

-- a type that is reached is kept
kept_long : (ns : List ℕ) (i : ℕ) → i ≤ greatest ns → (ts : List ℕ) (n : ℕ) → n ≤ i → i < n + length ts → i < n + length (kept_from ns n ts)
kept_long ns i bound [] n low high = absurd (omega (arith, low, high))
kept_long ns i bound (t ∷ ts) n low high =
    cond_both (nat_lt (greatest ns) n) [] ((if is_among ns n then t else 0) ∷ kept_from ns (n + 1) ts) (λ xs. i < n + length xs)
    (λ e. let over : greatest ns < n = grind (arith, nat_tests, e) in absurd (omega (arith, over, bound, low)))
    (λ e. step (nat_lt n i) refl (λ less. kept_long ns i bound ts (n + 1) (omega (arith, less)) (omega (arith, high))))
  where
    step : (b : Bool) → nat_lt n i ≡ b → (n < i → i < n + 1 + length (kept_from ns (n + 1) ts)) → i < n + length ((if is_among ns n then t else 0) ∷ kept_from ns (n + 1) ts)
    step true e later =
        let less : n < i = grind (arith, nat_tests, e) in
        let more = later less in
        omega (arith, more)
    step false e later = let is : i ≤ n = grind (arith, nat_tests, e) in omega (arith, is)

pub type_there : (ns ts : List ℕ) (i : ℕ) → IsIn i ns → 0 < i → i ≤ length ts → i ≤ length (kept_types ns ts)
type_there ns ts i is some few =
    let more = kept_long ns i (below i ns is) ts 1 (omega (arith, some)) (omega (arith, few)) in
    omega (arith, more)

pub values_long : (n i : ℕ) (types : List (ℕ × ℕ)) → length (values_from n i types) ≡ n
values_long zero i types = refl
values_long (suc n) i types = let more = values_long n (i + 1) types in omega (arith, more)

-- what holds of chains holds of those that sites have, and of these each once
pub chains_named : (P : List ℤ → Type 0) (chains : List (List ℤ)) → AllByRecursion P chains → (ss : List ListSite) → AllByRecursion P (filter_map (chain_of chains) ss)
chains_named P chains all [] = tt
chains_named P chains all (s ∷ ss) = by s.chain (chains_named P chains all ss)
  where
    found : (o : Option (List ℤ)) → ((c : List ℤ) → o ≡ Some c → P c) → AllByRecursion P (filter_map (chain_of chains) ss) → AllByRecursion P (cons_option o (filter_map (chain_of chains) ss))
    found None each more = more
    found (Some c) each more = (each c refl, more)

    by : (o : Option ℕ) → AllByRecursion P (filter_map (chain_of chains) ss) → AllByRecursion P (cons_option (option_and_then (slice_get chains) o) (filter_map (chain_of chains) ss))
    by None more = more
    by (Some k) more = found (slice_get chains k) (λ c at. all_at P chains k c all at) more

pub chains_added : (P : List ℤ → Type 0) (cs kept : List (List ℤ)) → AllByRecursion P cs → AllByRecursion P kept → AllByRecursion P (fold add_chain kept cs)
chains_added P [] kept all own = own
chains_added P (c ∷ cs) kept all own =
    chains_added P cs (add_chain kept c) all.1
    (cond_both (is_kept kept c) kept (kept ++ c ∷ []) (AllByRecursion P) (λ _. own) (λ _. all_append P kept (c ∷ []) own (all.0, tt)))

pub all_distinct : (P : List ℤ → Type 0) (chains : List (List ℤ)) (ss : List ListSite) → AllByRecursion P chains → AllByRecursion P (distinct (filter_map (chain_of chains) ss))
unfolding distinct
all_distinct P chains ss all = chains_added P (filter_map (chain_of chains) ss) [] (chains_named P chains all ss) tt

-- what each filter of an action names is reached, where each action is a site's
pub actions_reached : (lists : List (List ℕ)) (chains kept : List (List ℤ)) (start : ℕ) (es : List (ℕ × List ℤ)) → chains ≡ map (λ (e : ℕ × List ℤ). e.1) es → (ss : List Site) →
    AllByRecursion (HasKept chains kept) (map (site_listed start es) ss) → (some : List (ℕ × List ℤ)) →
    AllByRecursion (λ e. IsIn e.0 (map (λ s. s.action) ss) × (e.0 ≢ 0)) some → AllByRecursion (λ e. IsIn e.0 (map (λ e. e.0) es) × (value_at [] es e.0 ≡ e.1)) some →
    AllByRecursion (λ e. AllByRecursion (λ i. IsIn i (indices_reached lists kept)) (flat_map (indices_by lists) e.1)) some
actions_reached lists chains kept start es is ss has [] sited values = tt
actions_reached lists chains kept start es is ss has (e ∷ more) sited values =
    let other = sited.0.1 in
    let keeps = site_kept chains kept start es is ss has e.0 (not_zero e.0 other) values.0.0 sited.0.0 in
    (chain_reached lists kept e.1 (ap (is_kept kept) (sym values.0.1) ∙ keeps), actions_reached lists chains kept start es is ss has more sited.1 values.1)
  where
    not_zero : (a : ℕ) → a ≢ 0 → (a == 0) ≡ false
    not_zero a other = grind (arith, nat_tests, other)

-- what a filter names is among these
abbrev pub FilterReached : List (List ℕ) → List ℕ → ℤ → Type 0
FilterReached lists reached f = AllByRecursion (λ i. IsIn i reached) (indices_by lists f)

pub filters_reached : (lists : List (List ℕ)) (reached : List ℕ) (some : List (ℕ × List ℤ)) → AllByRecursion (λ e. AllByRecursion (λ i. IsIn i reached) (flat_map (indices_by lists) e.1)) some →
    AllByRecursion (FilterReached lists reached) (flat_map (λ (e : ℕ × List ℤ). e.1) some)
filters_reached lists reached some all =
    let R : ℕ → Type 0 = λ i. IsIn i reached in
    all_flat_map (FilterReached lists reached) (λ (e : ℕ × List ℤ). e.1) some
    (all_more (λ (e : ℕ × List ℤ). AllByRecursion R (flat_map (indices_by lists) e.1)) (λ (e : ℕ × List ℤ). AllByRecursion (FilterReached lists reached) e.1)
    (λ e own. each_of R (indices_by lists) e.1 own) some all)

-- and the indices of a list
abbrev pub ListReached : List (List ℕ) → List ℕ → ℕ → Type 0
ListReached lists reached j = (l : List ℕ) → list_from lists (j - 1) ≡ Some l → AllByRecursion (λ i. IsIn i reached) l

list_reached : (lists : List (List ℕ)) (reached : List ℕ) (n : ℕ) → FilterReached lists reached (negsuc n) → ListReached lists reached (suc n)
list_reached lists reached n all l found =
    let place : suc n - 1 ≡ n = omega arith in
    subst (λ o. AllByRecursion (λ i. IsIn i reached) (unwrap_or o [])) (sym (ap (list_from lists) place) ∙ found) all

pub lists_reached : (lists : List (List ℕ)) (reached : List ℕ) (fs : List ℤ) → AllByRecursion (FilterReached lists reached) fs → AllByRecursion (ListReached lists reached) (flat_map lists_named fs)
lists_reached lists reached [] all = tt
lists_reached lists reached (pos i ∷ fs) all = lists_reached lists reached fs all.1
lists_reached lists reached (negsuc n ∷ fs) all = (list_reached lists reached n all.0, lists_reached lists reached fs all.1)
