-- Packed lists are as short as packing makes them: packed again they stay.
use Rattle.std.proofs.Common.{◌≡◌, ◌+◌, ℕ, ℤ, Bool, true, false, nat_lt, List, [], ◌∷◌, ◌++◌, map, refl, ap, sym, ◌∙◌, ◌||◌, if◌then◌else◌}
use Rattle.std.specs.Prelude.{Option, Some, None, IfSome, filter_map, fold, option_map}
use Rattle.std.specs.List.{AllByRecursion, cons_option}
use Rattle.std.proofs.lemmas.Bool.{cond_both}
use Rattle.eh_bytes.specs.declared.table.ListSite.{ListSite}
use Rattle.eh_bytes.specs.Listed.{ListedTable}
use Rattle.lsda_pack.specs.Chains.{add_chain, chain_of, chains_of, distinct, is_chain, number_in, numbered}
use Rattle.lsda_pack.specs.Joined.{goes_on, both, joined_from, joined}
use Rattle.lsda_pack.specs.KeptTypes.{is_among, greatest, kept_from, indices_reached, kept_types}
use Rattle.lsda_pack.specs.PackedLists.{packed_lists}
use Rattle.lsda_pack.proofs.ChainsKept.{HasKept, is_kept, all_kept, found_at, added, itself}
use Rattle.lsda_pack.proofs.SitesJoined.{says_same}
use Rattle.lsda_pack.proofs.SitesPacked.{all_joined}

-- ---- chains by their numbers
chain_numbered : (chains kept : List (List ℤ)) (s : ListSite) → HasKept chains kept s → chain_of kept (numbered chains kept s) ≡ chain_of chains s
chain_numbered chains kept s has = by (chain_of chains s) has
  where
    by : (o : Option (List ℤ)) → IfSome o (λ c. is_kept kept c ≡ true) → chain_of kept (record { start = s.start; length = s.length; pad = s.pad; chain = option_map (number_in kept) o }) ≡ o
    by None has = refl
    by (Some c) has = found_at c kept has

named_alike : (chains kept : List (List ℤ)) (ss : List ListSite) → AllByRecursion (HasKept chains kept) ss → filter_map (chain_of kept) (map (numbered chains kept) ss) ≡ filter_map (chain_of chains) ss
named_alike chains kept [] has = refl
named_alike chains kept (s ∷ ss) has =
    ap (λ o. cons_option o (filter_map (chain_of kept) (map (numbered chains kept) ss))) (chain_numbered chains kept s has.0) ∙
    ap (cons_option (chain_of chains s)) (named_alike chains kept ss has.1)

-- a site that has its number stays
abbrev IsNumbered : List (List ℤ) → ListSite → Type 0
IsNumbered kept s = option_map (number_in kept) (chain_of kept s) ≡ s.chain

all_numbered : (chains kept : List (List ℤ)) (ss : List ListSite) → AllByRecursion (HasKept chains kept) ss → AllByRecursion (IsNumbered kept) (map (numbered chains kept) ss)
all_numbered chains kept [] has = tt
all_numbered chains kept (s ∷ ss) has = (ap (option_map (number_in kept)) (chain_numbered chains kept s has.0), all_numbered chains kept ss has.1)

numbered_stay : (kept : List (List ℤ)) (ss : List ListSite) → AllByRecursion (IsNumbered kept) ss → map (numbered kept kept) ss ≡ ss
numbered_stay kept [] all = refl
numbered_stay kept (s ∷ ss) all =
    ap (λ (o : Option ℕ). record { start = s.start; length = s.length; pad = s.pad; chain = o } ∷ map (numbered kept kept) ss) all.0 ∙ ap (λ xs. s ∷ xs) (numbered_stay kept ss all.1)

-- ---- joined sites name the same chains
added_twice : (c : List ℤ) (kept : List (List ℤ)) → add_chain (add_chain kept c) c ≡ add_chain kept c
added_twice c kept = ap (λ b. if b then add_chain kept c else add_chain kept c ++ c ∷ []) (added c c kept (either (is_kept kept c) (itself c)))
  where
    either : (b : Bool) → is_chain c c ≡ true → (b || is_chain c c) ≡ true
    either true e = refl
    either false e = e

from_alike : (kept : List (List ℤ)) (ts : List ListSite) (s : ListSite) (before : List (List ℤ)) →
    fold add_chain before (filter_map (chain_of kept) (joined_from s ts)) ≡ fold add_chain before (filter_map (chain_of kept) (s ∷ ts))
from_alike kept [] s before = refl
from_alike kept (t ∷ ts) s before =
    cond_both (goes_on s t) (joined_from (both s t) ts) (s ∷ joined_from t ts)
    (λ xs. fold add_chain before (filter_map (chain_of kept) xs) ≡ fold add_chain before (filter_map (chain_of kept) (s ∷ t ∷ ts)))
    (λ e. from_alike kept ts (both s t) before ∙ twice (chain_of kept s) (chain_of kept t) (ap (λ (x : ℕ × Option ℕ). named x.1) (sym (says_same s t e))))
    (λ e. later (λ ks. from_alike kept ts t ks) (chain_of kept s))
  where
    rest : List (List ℤ)
    rest = filter_map (chain_of kept) ts

    named : Option ℕ → Option (List ℤ)
    named o = chain_of kept (record { start = 0; length = 0; pad = 0; chain = o })

    twice : (o p : Option (List ℤ)) → o ≡ p → fold add_chain before (cons_option o rest) ≡ fold add_chain before (cons_option o (cons_option p rest))
    twice None None e = refl
    twice None (Some d) e = absurd cc
    twice (Some c) None e = absurd cc
    twice (Some c) (Some d) e = ap (λ ks. fold add_chain ks rest) (sym (added_twice c before)) ∙ ap (λ x. fold add_chain (add_chain (add_chain before c) x) rest) (same c d e)
      where
        same : (x y : List ℤ) → Some x ≡ Some y → x ≡ y
        same x y e' = cc

    later : ((ks : List (List ℤ)) → fold add_chain ks (filter_map (chain_of kept) (joined_from t ts)) ≡ fold add_chain ks (filter_map (chain_of kept) (t ∷ ts))) → (o : Option (List ℤ)) →
        fold add_chain before (cons_option o (filter_map (chain_of kept) (joined_from t ts))) ≡ fold add_chain before (cons_option o (filter_map (chain_of kept) (t ∷ ts)))
    later more None = more before
    later more (Some c) = more (add_chain before c)

distinct_alike : (kept : List (List ℤ)) (ss : List ListSite) → distinct (filter_map (chain_of kept) (joined ss)) ≡ distinct (filter_map (chain_of kept) ss)
unfolding distinct
distinct_alike kept [] = refl
distinct_alike kept (s ∷ ss) = from_alike kept ss s []

-- ---- joined sites have no neighbours that say the same
apart_first : (ts : List ListSite) (x s : ListSite) → goes_on x s ≡ false → joined_from x (joined_from s ts) ≡ x ∷ joined (joined_from s ts)
apart_first [] x s apart = ap (λ b. if b then joined_from (both x s) [] else x ∷ s ∷ []) apart
apart_first (t ∷ ts) x s apart =
    cond_both (goes_on s t) (joined_from (both s t) ts) (s ∷ joined_from t ts) (λ xs. joined_from x xs ≡ x ∷ joined xs) (λ e. apart_first ts x (both s t) apart)
    (λ e. ap (λ b. if b then joined_from (both x s) (joined_from t ts) else x ∷ joined_from s (joined_from t ts)) apart)

joined_once : (ts : List ListSite) (s : ListSite) → joined (joined_from s ts) ≡ joined_from s ts
joined_once [] s = refl
joined_once (t ∷ ts) s =
    cond_both (goes_on s t) (joined_from (both s t) ts) (s ∷ joined_from t ts) (λ xs. joined xs ≡ xs) (λ e. joined_once ts (both s t))
    (λ e. apart_first ts s t e ∙ ap (λ xs. s ∷ xs) (joined_once ts t))

joined_twice : (ss : List ListSite) → joined (joined ss) ≡ joined ss
joined_twice [] = refl
joined_twice (s ∷ ss) = joined_once ss s

-- ---- types that are kept stay
kept_twice : (indices : List ℕ) (n : ℕ) (ts : List ℕ) → kept_from indices n (kept_from indices n ts) ≡ kept_from indices n ts
kept_twice indices n [] = refl
kept_twice indices n (t ∷ ts) = by (kept_twice indices (n + 1) ts) (nat_lt (greatest indices) n) refl (is_among indices n) refl
  where
    one : Bool → ℕ
    one c = if c then t else 0

    by : kept_from indices (n + 1) (kept_from indices (n + 1) ts) ≡ kept_from indices (n + 1) ts → (b : Bool) → nat_lt (greatest indices) n ≡ b → (c : Bool) → is_among indices n ≡ c →
        kept_from indices n (if b then [] else one c ∷ kept_from indices (n + 1) ts) ≡ (if b then [] else one c ∷ kept_from indices (n + 1) ts)
    by more true e c f = refl
    by more false e c f =
        ap (λ b. if b then [] else (if is_among indices n then one c else 0) ∷ kept_from indices (n + 1) (kept_from indices (n + 1) ts)) e ∙
        ap (λ b. (if b then one c else 0) ∷ kept_from indices (n + 1) (kept_from indices (n + 1) ts)) f ∙
        ap (λ v. v ∷ kept_from indices (n + 1) (kept_from indices (n + 1) ts)) (same c) ∙ ap (λ xs. one c ∷ xs) more
      where
        same : (d : Bool) → (if d then one d else 0) ≡ one d
        same true = refl
        same false = refl

-- ---- all together
pub packed_twice : (list : ListedTable) → packed_lists (packed_lists list) ≡ packed_lists list
unfolding packed_lists
packed_twice list =
    let kept = distinct (chains_of list) in
    let has = all_kept list in
    let ss = map (numbered list.chains kept) list.sites in
    let sites = joined ss in
    let reached = indices_reached list.lists kept in
    let types = kept_types reached list.types in
    let chains : distinct (filter_map (chain_of kept) sites) ≡ kept = distinct_alike kept ss ∙ ap distinct (named_alike list.chains kept list.sites has) in
    let numbers = all_joined (IsNumbered kept) (λ s t e one two. one) ss (all_numbered list.chains kept list.sites has) in
    let again : joined (map (numbered kept kept) sites) ≡ sites = ap joined (numbered_stay kept sites numbers) ∙ joined_twice ss in
    ap (λ ks. record { sites = joined (map (numbered kept ks) sites); chains = ks; types = kept_types (indices_reached list.lists ks) types; lists = list.lists }) chains ∙
    ap (λ (xs : List ListSite). record { sites = xs; chains = kept; types = kept_types reached types; lists = list.lists }) again ∙
    ap (λ (ts : List ℕ). record { sites = sites; chains = kept; types = ts; lists = list.lists }) (kept_twice reached 1 list.types)
