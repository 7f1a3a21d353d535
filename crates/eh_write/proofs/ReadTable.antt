-- A table whose parts are read as those of its lists stands for the lists.
use Rattle.std.proofs.Common.{◌≡◌, ◌≢◌, ◌+◌, ◌-◌, ◌<◌, ◌==◌, ℕ, ℤ, pos, negsuc, zero, suc, Bool, true, false, List, [], ◌∷◌, ◌++◌, length, Ok, map, refl, ap, sym, subst, ◌∙◌, arith, ◌⊎◌, inl, inr, if◌then◌else◌}
use Rattle.std.specs.Prelude.{Option, Some, None, IsSome, slice_get, flat_map, filter, not, unwrap_or}
use Rattle.std.specs.List.{AllByRecursion, AllZip}
use Rattle.std.proofs.lemmas.Bool.{cond_both}
use Rattle.std.proofs.lemmas.Bool.Decides.{nat_tests}
use Rattle.eh_bytes.specs.declared.frames.Region64.{Region64}
use Rattle.eh_bytes.specs.declared.table.ListSite.{ListSite}
use Rattle.eh_bytes.specs.Memory.{Part, Memory}
use Rattle.eh_bytes.specs.Listed.{ListedTable}
use Rattle.table_forms.specs.Fault.{least, answer, ◌>>=◌}
use Rattle.table_forms.specs.Keys.{keys, value_at}
use Rattle.table_forms.specs.LsdaHead.{Head, Types, head_at}
use Rattle.table_forms.specs.LsdaSites.{SiteRecords, site_of, site_records}
use Rattle.table_forms.specs.LsdaTypes.{list_at}
use Rattle.table_forms.specs.Lsda.{Table, records_faults, table_faults, filters_of, entries_named, lists_named, value_of, entry_value, list_value, table_of, lsda_in}
use Rattle.table_forms.specs.WrittenTable.{list_from, SiteStands, ChainStands, TableStands, SiteFits}
use Rattle.table_forms.proofs.Kept.{IsIn, in_keys, value_in}
use Rattle.eh_write.specs.Written.{action_of, site_bytes}
use Rattle.eh_write.specs.CanWrite.{AreInOrder, ChainIsThere, TypeIsThere, FilterIsThere, ChainIsGood}
use Rattle.table_forms.proofs.Alls.{all_more, all_members}
use Rattle.eh_write.proofs.Alls.{all_append, all_flat_map, all_map, all_filter, all_keys, all_at}
use Rattle.eh_write.proofs.SitesRead.{record_of, records_of}
use Rattle.eh_write.proofs.ListsFound.{all_from}
use Rattle.eh_write.proofs.Readable.{IsRead, TypeRead, ListRead, item_at, records_clean}

-- the filters of an action are those of a chain of the list, or there is no chain
abbrev IsChain : ListedTable → Part → Head → ℕ → Type 0
IsChain list part h a = (a ≡ 0) ⊎ AllByRecursion (FilterIsThere list) (filters_of part h a)

abbrev actions_of : List ℕ → List ListSite → List ℕ
actions_of actions sites = map (λ s. action_of actions s.chain) sites

-- the actions of the sites that are read
actions_read : (actions : List ℕ) (region : Region64) (h : Head) (q : ℕ) (sites : List ListSite) →
    map (λ s. s.action) (map (site_of h region) (records_of q actions sites)) ≡ actions_of actions sites
actions_read actions region h q [] = refl
actions_read actions region h q (s ∷ ss) =
    ap (λ x. action_of actions s.chain ∷ x) (actions_read actions region h (q + length (site_bytes actions s)) ss)

-- the chain that a site names is read as it stands in the list
chain_is : (list : ListedTable) (actions : List ℕ) (memory : Memory) (part : Part) (region : Region64) (h : Head) (c : ℕ) → IsRead list actions memory part region h → c < length list.chains →
    (chain : List ℤ) × (slice_get list.chains c ≡ Some chain) × (action_of actions (Some c) ≢ 0) ×
    (filters_of part h (action_of actions (Some c)) ≡ chain)
chain_is list actions memory part region h c good few =
    let item = item_at list.chains c few in
    let found = good.chain_read c item.0 item.1 in
    let action : action_of actions (Some c) ≡ found.action = ap (λ o. unwrap_or o 0) found.is in (
      item.0,
      item.1,
      (λ e. found.some (sym action ∙ e)),
      ap (filters_of part h) action ∙ found.filters,
    )

action_is_chain : (list : ListedTable) (actions : List ℕ) (memory : Memory) (part : Part) (region : Region64) (h : Head) (chain : Option ℕ) → IsRead list actions memory part region h →
    ChainIsThere list chain → IsChain list part h (action_of actions chain)
action_is_chain list actions memory part region h None good there = inl refl
action_is_chain list actions memory part region h (Some c) good there =
    let is = chain_is list actions memory part region h c good there in
    inr (subst (AllByRecursion (FilterIsThere list)) (sym is.3) (all_at (ChainIsGood list) list.chains c is.0 good.chains is.1).1)

actions_are_chains : (list : ListedTable) (actions : List ℕ) (memory : Memory) (part : Part) (region : Region64) (h : Head) (sites : List ListSite) → IsRead list actions memory part region h →
    AllByRecursion (λ s. ChainIsThere list s.chain) sites → AllByRecursion (IsChain list part h) (actions_of actions sites)
actions_are_chains list actions memory part region h [] good there = tt
actions_are_chains list actions memory part region h (s ∷ ss) good there =
    (action_is_chain list actions memory part region h s.chain good there.0, actions_are_chains list actions memory part region h ss good there.1)

-- what is kept of some actions, and what their filters name
abbrev kept_actions : Part → Head → List ℕ → List (ℕ × List ℤ)
kept_actions part h named = map (λ a. (a, filters_of part h a)) (keys (filter (λ a. not (a == 0)) named))

abbrev kept_filters : Part → Head → List ℕ → List ℤ
kept_filters part h named = flat_map (λ a. a.1) (kept_actions part h named)

abbrev kept_lists : Part → Head → List ℕ → List (ℕ × List ℕ)
kept_lists part h named = map (λ j. (j, list_value part h.types j)) (keys (flat_map lists_named (kept_filters part h named)))

abbrev kept_types : Memory → Part → Head → List ℕ → List (ℕ × ℕ)
kept_types memory part h named =
    map (λ i. (i, entry_value memory part h h.types i)) (keys (flat_map entries_named (kept_filters part h named) ++ flat_map (λ l. l.1) (kept_lists part h named)))

table_is : (memory : Memory) (part : Part) (region : Region64) (h : Head) (records : SiteRecords) (named : List ℕ) → site_records part h ≡ records →
    map (λ s. s.action) (map (site_of h region) records.records) ≡ named →
    table_of memory part region h ≡ record { sites = map (site_of h region) records.records; actions = kept_actions part h named; types = kept_types memory part h named; lists = kept_lists part h named }
unfolding table_of
table_is memory part region h records named read actions =
    ap (λ r. let n = map (λ s. s.action) (map (site_of h region) r.records) in
    record { sites = map (site_of h region) r.records; actions = kept_actions part h n; types = kept_types memory part h n; lists = kept_lists part h n }) read ∙
    ap (λ n. record { sites = map (site_of h region) records.records; actions = kept_actions part h n; types = kept_types memory part h n; lists = kept_lists part h n }) actions

not_zero : (a : ℕ) → not (a == 0) ≡ true → a ≡ 0 → ⊥
not_zero zero e z = absurd cc
not_zero (suc a) e z = absurd cc

filters_there : (list : ListedTable) (part : Part) (h : Head) (named : List ℕ) → AllByRecursion (IsChain list part h) named →
    AllByRecursion (FilterIsThere list) (kept_filters part h named)
filters_there list part h named chains =
    let F = FilterIsThere list in
    let some = all_more (IsChain list part h) (λ a. not (a == 0) ≡ true → AllByRecursion F (filters_of part h a)) chosen named chains in
    all_flat_map F (λ a. a.1) (kept_actions part h named)
    (all_map (λ x. AllByRecursion F x.1) (λ a. (a, filters_of part h a)) (keys (filter (λ a. not (a == 0)) named))
    (all_keys (λ a. AllByRecursion F (filters_of part h a)) (filter (λ a. not (a == 0)) named)
    (all_filter (λ a. AllByRecursion F (filters_of part h a)) (λ a. not (a == 0)) named some)))
  where
    chosen : (a : ℕ) → (a ≡ 0) ⊎ AllByRecursion (FilterIsThere list) (filters_of part h a) → not (a == 0) ≡ true → AllByRecursion (FilterIsThere list) (filters_of part h a)
    chosen a (inl z) e = absurd (not_zero a e z)
    chosen a (inr holds) e = holds

lists_stand : (list : ListedTable) (actions : List ℕ) (memory : Memory) (part : Part) (region : Region64) (h : Head) (named : List ℕ) → IsRead list actions memory part region h →
    AllByRecursion (FilterIsThere list) (kept_filters part h named) →
    AllByRecursion (λ l. list_from list.lists (l.0 - 1) ≡ Some l.1) (kept_lists part h named)
lists_stand list actions memory part region h named good there =
    let P : ℕ → Type 0 = λ j. list_from list.lists (j - 1) ≡ Some (list_value part h.types j) in
    let fs = kept_filters part h named in
    all_map (λ l. list_from list.lists (l.0 - 1) ≡ Some l.1) (λ j. (j, list_value part h.types j)) (keys (flat_map lists_named fs))
    (all_keys P (flat_map lists_named fs) (all_flat_map P lists_named fs (all_more (FilterIsThere list) (λ f. AllByRecursion P (lists_named f)) of_filter fs there)))
  where
    by_types : (types : Option Types) (n : ℕ) (l : List ℕ) → ListRead part types n l → l ≡ list_value part types (suc n)
    by_types None n l read = absurd read
    by_types (Some types) n l read = let same : suc n - 1 ≡ n = omega arith in sym (ap (λ m. (list_at part types m).indices) same ∙ ap (λ x. x.indices) read)

    by_list : (n : ℕ) (found : Option (List ℕ)) → list_from list.lists n ≡ found → IsSome found →
        list_from list.lists (suc n - 1) ≡ Some (list_value part h.types (suc n))
    by_list n None is some = cc
    by_list n (Some l) is some =
        let same : suc n - 1 ≡ n = omega arith in
        ap (list_from list.lists) same ∙ is ∙ ap Some (by_types h.types n l (good.list_read n l is))

    of_filter : (f : ℤ) → FilterIsThere list f → AllByRecursion (λ j. list_from list.lists (j - 1) ≡ Some (list_value part h.types j)) (lists_named f)
    of_filter (pos i) some = tt
    of_filter (negsuc n) some = (by_list n (list_from list.lists n) refl some, tt)

types_stand : (list : ListedTable) (actions : List ℕ) (memory : Memory) (part : Part) (region : Region64) (h : Head) (named : List ℕ) → IsRead list actions memory part region h →
    AllByRecursion (FilterIsThere list) (kept_filters part h named) →
    AllByRecursion (λ l. list_from list.lists (l.0 - 1) ≡ Some l.1) (kept_lists part h named) →
    AllByRecursion (λ t. slice_get list.types (t.0 - 1) ≡ Some t.1) (kept_types memory part h named)
types_stand list actions memory part region h named good there lists =
    let T = TypeIsThere list in
    let P : ℕ → Type 0 = λ i. slice_get list.types (i - 1) ≡ Some (entry_value memory part h h.types i) in
    let fs = kept_filters part h named in
    let ls = kept_lists part h named in
    let all : List ℕ = flat_map entries_named fs ++ flat_map (λ l. l.1) ls in
    let there_too : AllByRecursion T all =
    all_append T (flat_map entries_named fs) (flat_map (λ l. l.1) ls)
    (all_flat_map T entries_named fs (all_more (FilterIsThere list) (λ f. AllByRecursion T (entries_named f)) of_filter fs there))
    (all_flat_map T (λ l. l.1) ls (all_more (λ l. list_from list.lists (l.0 - 1) ≡ Some l.1) (λ l. AllByRecursion T l.1) of_list ls lists)) in
    all_map (λ t. slice_get list.types (t.0 - 1) ≡ Some t.1) (λ i. (i, entry_value memory part h h.types i)) (keys all)
    (all_keys P all (all_more T P read all there_too))
  where
    of_filter : (f : ℤ) → FilterIsThere list f → AllByRecursion (TypeIsThere list) (entries_named f)
    of_filter (pos zero) some = tt
    of_filter (pos (suc i)) some = (some, tt)
    of_filter (negsuc n) some = tt

    of_list : (l : ℕ × List ℕ) → list_from list.lists (l.0 - 1) ≡ Some l.1 → AllByRecursion (TypeIsThere list) l.1
    of_list l found = all_from (AllByRecursion (TypeIsThere list)) list.lists (l.0 - 1) l.1 good.indices found

    by_types : (types : Option Types) (i : ℕ) → TypeRead list memory part h types 0 i → slice_get list.types (i - 1) ≡ Some (entry_value memory part h types i)
    by_types None i t = absurd t
    by_types (Some types) i t = t.1 ∙ ap Some (sym (ap value_of t.2))

    read : (i : ℕ) → TypeIsThere list i → slice_get list.types (i - 1) ≡ Some (entry_value memory part h h.types i)
    read i some = by_types h.types i (good.type_read 0 i some)

in_filter : (k : ℕ) (ns : List ℕ) → (k ≡ 0 → ⊥) → IsIn k ns → IsIn k (filter (λ a. not (a == 0)) ns)
in_filter k [] some is = is
in_filter k (n ∷ ns) some is =
    let rest = filter (λ a. not (a == 0)) ns in
    cond_both (not (n == 0)) (n ∷ rest) rest (λ l. IsIn k l) (λ _. kept is (λ i. in_filter k ns some i)) (λ e. left e is (λ i. in_filter k ns some i))
  where
    kept : (n ≡ k) ⊎ IsIn k ns → (IsIn k ns → IsIn k (filter (λ a. not (a == 0)) ns)) → (n ≡ k) ⊎ IsIn k (filter (λ a. not (a == 0)) ns)
    kept (inl e) later = inl e
    kept (inr i) later = inr (later i)

    zero_is : (m : ℕ) (b : Bool) → (m == 0) ≡ b → not b ≡ false → m ≡ 0
    zero_is m true is e = grind (arith, nat_tests, is)
    zero_is m false is e = cc

    left : not (n == 0) ≡ false → (n ≡ k) ⊎ IsIn k ns → (IsIn k ns → IsIn k (filter (λ a. not (a == 0)) ns)) → IsIn k (filter (λ a. not (a == 0)) ns)
    left e (inl f) later = absurd (some (sym f ∙ zero_is n (n == 0) refl e))
    left e (inr i) later = later i

-- a site of the list is the one that is read
site_stands : (list : ListedTable) (actions : List ℕ) (memory : Memory) (part : Part) (region : Region64) (h : Head) (q : ℕ) (table : Table) (named : List ℕ) (s : ListSite) →
    IsRead list actions memory part region h → ChainIsThere list s.chain → table.actions ≡ kept_actions part h named →
    IsIn (action_of actions s.chain) named →
    SiteStands list region table s (site_of h region (record_of q actions s))
site_stands list actions memory part region h q table named s good there kept is =
    record { start = refl; end = refl; pad = ap (λ from. if s.pad == 0 then 0 else from + s.pad) good.pads; chain = by_chain s.chain there is }
  where
    by_chain : (chain : Option ℕ) → ChainIsThere list chain → IsIn (action_of actions chain) named →
        ChainStands list table chain (action_of actions chain)
    by_chain None some at = refl
    by_chain (Some c) some at =
        let a = action_of actions (Some c) in
        let chain = chain_is list actions memory part region h c good some in
        let others = filter (λ b. not (b == 0)) named in
        let value : value_at [] table.actions a ≡ filters_of part h a =
        ap (λ x. value_at [] x a) kept ∙ value_in [] (filters_of part h) a (keys others) (in_keys a others (in_filter a named chain.2 at)) in
        (chain.2, chain.1 ∙ ap Some (sym (value ∙ chain.3)))

sites_stand_for : (list : ListedTable) (actions : List ℕ) (memory : Memory) (part : Part) (region : Region64) (h : Head) (q : ℕ) (table : Table) (named : List ℕ) (sites : List ListSite) →
    IsRead list actions memory part region h → AllByRecursion (λ s. ChainIsThere list s.chain) sites → table.actions ≡ kept_actions part h named →
    AllByRecursion (λ a. IsIn a named) (actions_of actions sites) →
    AllZip (SiteStands list region table) sites (map (site_of h region) (records_of q actions sites))
sites_stand_for list actions memory part region h q table named [] good there kept are = tt
sites_stand_for list actions memory part region h q table named (s ∷ ss) good there kept are = (
  site_stands list actions memory part region h q table named s good there.0 kept are.0,
  sites_stand_for list actions memory part region h (q + length (site_bytes actions s)) table named ss good there.1 kept are.1,
)

-- what is read behind a head: the sites of the lists, in order
pub record SitesAre (list : ListedTable) (actions : List ℕ) (part : Part) (h : Head) : Type 0 where
  pub order : AreInOrder 0 list.sites
  pub first : ℕ
  pub records : site_records part h ≡ record { records = records_of first actions list.sites; cut = [] }

nothing_refused : (list : ListedTable) (actions : List ℕ) (memory : Memory) (part : Part) (region : Region64) (h : Head) → IsRead list actions memory part region h →
    SitesAre list actions part h → AllByRecursion (SiteFits memory region) list.sites → least (table_faults memory part region h) ≡ None
unfolding table_faults least
nothing_refused list actions memory part region h good sites fits =
    let clean = records_clean list actions memory part region h sites.first 0 0 list.sites good good.sites fits sites.order (omega arith) in
    ap (λ r. least (records_faults memory part region h 0 r.records ++ r.cut)) sites.records ∙ ap (λ fs. least (fs ++ [])) clean

pub table_stands : (list : ListedTable) (actions : List ℕ) (memory : Memory) (part : Part) (region : Region64) (h : Head) → IsRead list actions memory part region h →
    SitesAre list actions part h → TableStands list region (table_of memory part region h)
table_stands list actions memory part region h good sites =
    let named = actions_of actions list.sites in
    let records : SiteRecords = record { records = records_of sites.first actions list.sites; cut = [] } in
    let table : Table = record {
      sites = map (site_of h region) records.records;
      actions = kept_actions part h named;
      types = kept_types memory part h named;
      lists = kept_lists part h named;
    } in
    let is : table_of memory part region h ≡ table = table_is memory part region h records named sites.records (actions_read actions region h sites.first list.sites) in
    let filters = filters_there list part h named (actions_are_chains list actions memory part region h list.sites good good.sites) in
    let lists = lists_stand list actions memory part region h named good filters in
    subst (TableStands list region) (sym is) (record {
      sites = sites_stand_for list actions memory part region h sites.first table named list.sites good good.sites refl (all_members named);
      types = types_stand list actions memory part region h named good filters lists;
      lists = lists;
    })

pub table_read : (list : ListedTable) (actions : List ℕ) (memory : Memory) (part : Part) (region : Region64) (h : Head) (p : ℕ) → IsRead list actions memory part region h →
    SitesAre list actions part h → AllByRecursion (SiteFits memory region) list.sites → head_at part region p ≡ Ok h →
    lsda_in memory region p part ≡ Ok (table_of memory part region h)
unfolding lsda_in
table_read list actions memory part region h p good sites fits head =
    ap (λ r. r >>= (λ x. answer (least (table_faults memory part region x)) (table_of memory part region x))) head ∙
    ap (λ f. answer f (table_of memory part region h)) (nothing_refused list actions memory part region h good sites fits)
