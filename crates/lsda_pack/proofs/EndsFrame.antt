-- Where a table ends depends on its own bytes alone.
use Rattle.std.proofs.Common.{◌≡◌, ◌≢◌, ◌+◌, ◌-◌, ◌==◌, ◌≤◌, ◌<◌, ℕ, ℤ, pos, negsuc, zero, suc, Bool, true, false, nat_lt, List, [], ◌∷◌, ◌++◌, length, take, map, Result, Ok, Err, refl, ap, sym, subst, ◌∙◌, arith, if◌then◌else◌}
use Rattle.std.specs.Prelude.{⊤, Option, Some, None, ◌&&◌, flat_map, fold, filter, max}
use Rattle.std.specs.List.{AllByRecursion}
use Rattle.std.proofs.lemmas.Bool.Decides.{nat_tests}
use Rattle.std.proofs.lemmas.List.{length-take}
use Rattle.eh_bytes.specs.declared.error.ByteError.{ByteError}
use Rattle.eh_bytes.specs.declared.error.ByteError.TheVariants.{Truncated, LebRange, Encoding}
use Rattle.eh_bytes.specs.declared.frames.Region64.{Region64}
use Rattle.eh_bytes.specs.Field.{at}
use Rattle.eh_bytes.specs.Leb128.{sleb, uleb}
use Rattle.eh_bytes.specs.Memory.{Part, Memory}
use Rattle.table_forms.specs.declared.found.Next.{Next}
use Rattle.table_forms.specs.declared.found.Next.TheVariants.{Ends, Leaves, Goes}
use Rattle.table_forms.specs.declared.found.Action.{Action}
use Rattle.table_forms.specs.declared.found.Action.TheVariants.{Record, Outside, Ranged}
use Rattle.table_forms.specs.Fault.{Fault, ◌>>=◌, least}
use Rattle.table_forms.specs.LsdaHead.{Head, Types, head_at}
use Rattle.table_forms.specs.LsdaSites.{SiteRecord, SiteRecords, site_records, records_within}
use Rattle.table_forms.specs.LsdaChain.{Link, Chain, ended, with_displacement, with_filter, action_in, action_at, next_links, links_from, links_within, chain_of, first_record}
use Rattle.table_forms.specs.LsdaTypes.{cut_by, index_at, indices_from, indices_within, list_at, filter_faults, entry_at}
use Rattle.table_forms.specs.Fault.{refusal_of}
use Rattle.table_forms.specs.WrittenTable.{list_size}
use Rattle.table_forms.specs.Lsda.{Table, records_faults, table_faults, lists_named, table_of, lsda_in}
use Rattle.table_forms.proofs.Alls.{all_more}
use Rattle.table_forms.proofs.Kept.{IsIn}
use Rattle.personality.proofs.Members.{all_back}
use Rattle.lsda_pack.specs.Rule.{are_listed, lists_stand}
use Rattle.lsda_pack.specs.TableEnd.{behind, record_end, chain_ends, action_ends, name_ends, end_from, list_end_within, list_end, table_end}
use Rattle.lsda_pack.proofs.ChainsFrame.{actions_of, SameRecord, links_same}
use Rattle.lsda_pack.proofs.FieldFrame.{reads_at, front_sleb, front_uleb}
use Rattle.lsda_pack.proofs.FiltersRead.{filters_good}
use Rattle.lsda_pack.proofs.Fronts.{Same, same_inside, same_cut}
use Rattle.lsda_pack.proofs.HeadFrame.{with_bytes, head_reads, TypesFound, head_types}
use Rattle.lsda_pack.proofs.LsdaFrame.{RecordKept, TableKept, none_refused, both_none, answer_ok, answered, faults_are, in_steps}
use Rattle.lsda_pack.proofs.NamesFrame.{index_ok}
use Rattle.lsda_pack.proofs.NamesPacked.{at_member}
use Rattle.lsda_pack.proofs.SitesFrame.{records_same}
use Rattle.lsda_pack.proofs.TableEnds.{ends_before}
use Rattle.lsda_pack.proofs.TableHas.{table_has}
use Rattle.lsda_pack.proofs.TableStays.{EndsWell, chains_end}

-- ---- records
record_end_same : (xs ys : List ℕ) (first p : ℕ) (filter : ℤ) (next : Next) → action_in xs first p ≡ Record filter next → Same p (record_end xs p) xs ys → record_end ys p ≡ record_end xs p
unfolding action_in
record_end_same xs ys first p filter next e same = step (nat_lt p first) e
  where
    by_second : (f : ℤ) (q : ℕ) → at sleb xs p ≡ Ok (f, q) → (r : Result (ℤ × ℕ) ByteError) → at sleb xs q ≡ r → with_displacement f q r ≡ Record filter next → record_end ys p ≡ record_end xs p
    by_second f q is (Err LebRange) is' e = absurd cc
    by_second f q is (Err Truncated) is' e = absurd cc
    by_second f q is (Err Encoding) is' e = absurd cc
    by_second f q is (Ok (d, s)) is' e =
        let one = reads_at sleb front_sleb xs p f q is in
        let two = reads_at sleb front_sleb xs q d s is' in
        let end : record_end xs p ≡ s = ap (λ r. behind (behind p r) (at sleb xs (behind p r))) is ∙ ap (behind q) is' in
        let whole : Same p s xs ys = subst (λ n. Same p n xs ys) end same in
        let first_same = one.same ys (same_inside p s p q xs ys (omega arith) two.forward whole) in
        let second_same = two.same ys (same_inside p s q s xs ys one.forward (omega arith) whole) in
        ap (λ r. behind (behind p r) (at sleb ys (behind p r))) first_same ∙ ap (behind q) second_same ∙ sym end

    by_first : (r : Result (ℤ × ℕ) ByteError) → at sleb xs p ≡ r → with_filter xs p r ≡ Record filter next → record_end ys p ≡ record_end xs p
    by_first (Err LebRange) is e = absurd cc
    by_first (Err Truncated) is e = absurd cc
    by_first (Err Encoding) is e = absurd cc
    by_first (Ok (f, q)) is e = by_second f q is (at sleb xs q) refl e

    step : (b : Bool) → (if b then Outside else with_filter xs p (at sleb xs p)) ≡ Record filter next → record_end ys p ≡ record_end xs p
    step true r = absurd cc
    step false r = by_first (at sleb xs p) refl r

-- the links of a chain are records
abbrev IsRecord : Part → Head → Link → Type 0
IsRecord part h l = (f : ℤ) × ((next : Next) × (action_at part h l.at ≡ Record f next))

links_are : (n : ℕ) (part : Part) (h : Head) (p : ℕ) → AllByRecursion (IsRecord part h) (links_within n part h p).links
unfolding links_within
links_are zero part h p = tt
links_are (suc n) part h p = by (action_at part h p) refl (λ q. links_are n part h q)
  where
    by_next : (next : Next) → ((q : ℕ) → AllByRecursion (IsRecord part h) (links_within n part h q).links) → AllByRecursion (IsRecord part h) (next_links next (links_within n part h)).links
    by_next Ends more = tt
    by_next Leaves more = tt
    by_next (Goes q) more = more q

    by : (a : Action) → action_at part h p ≡ a → ((q : ℕ) → AllByRecursion (IsRecord part h) (links_within n part h q).links) → AllByRecursion (IsRecord part h) (links_from p a (links_within n part h)).links
    by Outside is more = tt
    by (Ranged q) is more = tt
    by (Record filter next) is more = ((filter, (next, is)), by_next next more)

ends_of : (part : Part) (ys : List ℕ) (h : Head) (ls : List Link) → AllByRecursion (IsRecord part h) ls → AllByRecursion (SameRecord (actions_of part h) (actions_of (with_bytes part ys) h)) ls →
    map (λ l. record_end (actions_of (with_bytes part ys) h) l.at) ls ≡ map (λ l. record_end (actions_of part h) l.at) ls
ends_of part ys h [] are same = refl
ends_of part ys h (l ∷ ls) are same =
    let one = record_end_same (actions_of part h) (actions_of (with_bytes part ys) h) h.actions_at l.at are.0.0 are.0.1.0 are.0.1.1 same.0 in
    ap (λ n. n ∷ map (λ (k : Link). record_end (actions_of (with_bytes part ys) h) k.at) ls) one ∙ ap (λ ns. record_end (actions_of part h) l.at ∷ ns) (ends_of part ys h ls are.1 same.1)

chain_ends_same : (part : Part) (ys : List ℕ) (h : Head) (a : ℕ) → length ys ≡ length part.bytes → (chain_of part h a).ending ≡ ended →
    AllByRecursion (SameRecord (actions_of part h) (actions_of (with_bytes part ys) h)) (chain_of part h a).links → chain_ends (with_bytes part ys) h a ≡ chain_ends part h a
chain_ends_same part ys h a long ends same =
    let chain : chain_of (with_bytes part ys) h a ≡ chain_of part h a =
    ap (λ n. links_within (1 + n) (with_bytes part ys) h (first_record h a)) long ∙ links_same (1 + length part.bytes) part ys h (first_record h a) ends same in
    ap (λ (c : Chain). map (λ (l : Link). record_end (actions_of (with_bytes part ys) h) l.at) c.links) chain ∙
    ends_of part ys h (chain_of part h a).links (links_are (1 + length part.bytes) part h (first_record h a)) same

all_ends : (memory other : Memory) (part : Part) (ys : List ℕ) (h : Head) (rs : List SiteRecord) → length ys ≡ length part.bytes → AllByRecursion (EndsWell part h) rs →
    AllByRecursion (RecordKept memory other part ys h) rs →
    flat_map (λ r. if r.action == 0 then [] else chain_ends (with_bytes part ys) h r.action) rs ≡ flat_map (λ r. if r.action == 0 then [] else chain_ends part h r.action) rs
all_ends memory other part ys h [] long well kept = refl
all_ends memory other part ys h (r ∷ rs) long well kept =
    let new = with_bytes part ys in
    let one = by (r.action == 0) refl in
    let own : List ℕ = if r.action == 0 then [] else chain_ends part h r.action in
    ap (λ ns. ns ++ flat_map (λ (x : SiteRecord). if x.action == 0 then [] else chain_ends new h x.action) rs) one ∙ ap (λ ns. own ++ ns) (all_ends memory other part ys h rs long well.1 kept.1)
  where
    by : (b : Bool) → (r.action == 0) ≡ b → (if b then [] else chain_ends (with_bytes part ys) h r.action) ≡ (if b then [] else chain_ends part h r.action)
    by true e = refl
    by false e =
        let some : r.action ≢ 0 = λ z. absurd (grind (arith, nat_tests, e, z)) in
        let same = all_more (λ l. SameRecord (actions_of part h) (actions_of (with_bytes part ys) h) l × _) (SameRecord (actions_of part h) (actions_of (with_bytes part ys) h)) (λ l both. both.0)
        (chain_of part h r.action).links (kept.0 some) in
        chain_ends_same part ys h r.action long (well.0 some) same

-- ---- lists
list_end_same : (n : ℕ) (part : Part) (ys : List ℕ) (first p : ℕ) → (indices_within n part first p).cut ≡ [] → Same p (list_end_within n part first p) part.bytes ys →
    (p ≤ list_end_within n part first p) × (list_end_within n (with_bytes part ys) first p ≡ list_end_within n part first p)
unfolding indices_within list_end_within
list_end_same zero part ys first p cut same = (omega arith, refl)
list_end_same (suc n) part ys first p cut same = by_index (index_at part first p) refl cut same (λ q c s. list_end_same n part ys first q c s)
  where
    other : Part
    other = with_bytes part ys

    Later : Type 0
    Later = (q : ℕ) → (indices_within n part first q).cut ≡ [] → Same q (list_end_within n part first q) part.bytes ys →
        (q ≤ list_end_within n part first q) × (list_end_within n other first q ≡ list_end_within n part first q)

    read : (k next : ℕ) → index_at part first p ≡ Ok (k, next) → (p ≤ next) × (Same p next part.bytes ys → index_at other first p ≡ Ok (k, next))
    read k next is =
        let r = reads_at uleb front_uleb part.bytes p k next (index_ok part first p (at uleb part.bytes p) (k, next) is) in
        (r.forward, (λ s. ap (cut_by other first p) (r.same ys s)))

    by_index : (r : Result (ℕ × ℕ) Fault) → index_at part first p ≡ r → (indices_from r (indices_within n part first)).cut ≡ [] →
        Same p (end_from r p (list_end_within n part first)) part.bytes ys → Later →
        (p ≤ end_from r p (list_end_within n part first)) × (end_from (index_at other first p) p (list_end_within n other first) ≡ end_from r p (list_end_within n part first))
    by_index (Err f) is c s later = absurd cc
    by_index (Ok (zero, next)) is c s later =
        let r = read zero next is in
        (r.0, ap (λ x. end_from x p (list_end_within n other first)) (r.1 s))
    by_index (Ok (suc k, next)) is c s later =
        let r = read (suc k) next is in
        let end = list_end_within n part first next in
        let from = r.0 in
        let more = later next c (same_inside p end next end part.bytes ys from (omega arith) s) in
        let forward = more.0 in (
          omega (arith, from, forward),
          ap (λ x. end_from x p (list_end_within n other first)) (r.1 (same_inside p end p next part.bytes ys (omega arith) forward s)) ∙ more.1,
        )

-- ---- lists that are named are not cut
abbrev IsUncut : Part → Option Types → ℤ → Type 0
IsUncut part None f = ⊤
IsUncut part (Some types) (pos i) = ⊤
IsUncut part (Some types) (negsuc n) = (list_at part types n).cut ≡ []

filter_uncut : (memory : Memory) (part : Part) (h : Head) (types : Option Types) (named_at : ℕ) (f : ℤ) → filter_faults memory part h types named_at f ≡ [] → IsUncut part types f
filter_uncut memory part h None named_at f none = tt
filter_uncut memory part h (Some types) named_at (pos zero) none = tt
filter_uncut memory part h (Some types) named_at (pos (suc i)) none = tt
filter_uncut memory part h (Some types) named_at (negsuc n) none =
    (both_none (flat_map (λ i. refusal_of (entry_at memory part h types named_at i)) (list_at part types n).indices) (list_at part types n).cut none).1

table_uncut : (memory : Memory) (part : Part) (region : Region64) (h : Head) → records_faults memory part region h 0 (site_records part h).records ≡ [] →
    AllByRecursion (IsUncut part h.types) (flat_map (λ e. e.1) (table_of memory part region h).actions)
table_uncut memory part region h none = filters_good memory part region h (IsUncut part h.types) (λ at f clean. filter_uncut memory part h h.types at f clean) none

abbrev pub ListUncut : Part → Types → ℕ → Type 0
ListUncut part types j = (indices_within (1 + length part.bytes) part (types.base + j - 1) (types.base + j - 1)).cut ≡ []

lists_uncut : (part : Part) (types : Types) (fs : List ℤ) → AllByRecursion (IsUncut part (Some types)) fs → AllByRecursion (λ j. ListUncut part types j × (0 < j)) (flat_map lists_named fs)
lists_uncut part types [] all = tt
lists_uncut part types (pos i ∷ fs) all = lists_uncut part types fs all.1
lists_uncut part types (negsuc n ∷ fs) all =
    let first : types.base + suc n - 1 ≡ types.base + n = omega arith in
    ((ap (λ q. (indices_within (1 + length part.bytes) part q q).cut) first ∙ all.0, omega arith), lists_uncut part types fs all.1)

list_ends_same : (part : Part) (ys : List ℕ) (types : Types) (p stop : ℕ) (ls : List (ℕ × List ℕ)) → p ≤ types.base → length ys ≡ length part.bytes → Same p stop part.bytes ys →
    AllByRecursion (λ l. ListUncut part types l.0 × (0 < l.0)) ls → AllByRecursion (λ n. n ≤ stop) (map (λ l. list_end part types l.0) ls) →
    AllByRecursion (λ l. list_end (with_bytes part ys) types l.0 ≡ list_end part types l.0) ls
list_ends_same part ys types p stop [] from long same uncut ends = tt
list_ends_same part ys types p stop (l ∷ ls) from long same uncut ends =
    let q = types.base + l.0 - 1 in
    let some = uncut.0.1 in
    let inside = same_inside p stop q (list_end part types l.0) part.bytes ys (omega (arith, from, some)) ends.0 same in (
      ap (λ n. list_end_within (1 + n) (with_bytes part ys) q q) long ∙ (list_end_same (1 + length part.bytes) part ys q q uncut.0.0 inside).1,
      list_ends_same part ys types p stop ls from long same uncut.1 ends.1,
    )

ends_mapped : (f g : ℕ → ℕ) (ls : List (ℕ × List ℕ)) → AllByRecursion (λ l. f l.0 ≡ g l.0) ls → map (λ (l : ℕ × List ℕ). f l.0) ls ≡ map (λ (l : ℕ × List ℕ). g l.0) ls
ends_mapped f g [] all = refl
ends_mapped f g (l ∷ ls) all = ap (λ n. n ∷ map (λ (k : ℕ × List ℕ). f k.0) ls) all.0 ∙ ap (λ ns. g l.0 ∷ ns) (ends_mapped f g ls all.1)

listed_same : (part new : Part) (types : Types) (n : ℕ) (ls : List (ℕ × List ℕ)) → AllByRecursion (λ l. list_end new types l.0 ≡ list_end part types l.0) ls →
    are_listed new types n ls ≡ are_listed part types n ls
listed_same part new types n [] all = refl
listed_same part new types n ((j, l) ∷ ls) all =
    ap (λ e. j == n + 1 && e == types.base + n + list_size l && are_listed new types (n + list_size l) ls) all.0 ∙
    ap (λ b. j == n + 1 && list_end part types j == types.base + n + list_size l && b) (listed_same part new types (n + list_size l) ls all.1)

-- ---- the table
pub record EndsSame (part : Part) (ys : List ℕ) (h : Head) (t : Table) : Type 0 where
  pub end : table_end (with_bytes part ys) h t ≡ table_end part h t
  pub lists : lists_stand (with_bytes part ys) h.types t.lists ≡ lists_stand part h.types t.lists

names_same : (part : Part) (ys : List ℕ) (types : Option Types) (p stop : ℕ) (t : Table) → TypesFound p types → length ys ≡ length part.bytes → Same p stop part.bytes ys →
    AllByRecursion (IsUncut part types) (flat_map (λ e. e.1) t.actions) → AllByRecursion (λ l. IsIn l.0 (flat_map lists_named (flat_map (λ e. e.1) t.actions))) t.lists →
    AllByRecursion (λ n. n ≤ stop) (name_ends part types t) →
    (name_ends (with_bytes part ys) types t ≡ name_ends part types t) × (lists_stand (with_bytes part ys) types t.lists ≡ lists_stand part types t.lists)
names_same part ys None p stop t found long same uncut named ends = (refl, refl)
names_same part ys (Some types) p stop t found long same uncut named ends =
    let own : List ℕ = if length t.types == 0 then [] else types.base ∷ [] in
    let new = with_bytes part ys in
    let fs = flat_map (λ (e : ℕ × List ℤ). e.1) t.actions in
    let cuts = all_more (λ (l : ℕ × List ℕ). IsIn l.0 (flat_map lists_named fs)) (λ (l : ℕ × List ℕ). ListUncut part types l.0 × (0 < l.0))
    (λ l is. at_member (λ j. ListUncut part types j × (0 < j)) (flat_map lists_named fs) (lists_uncut part types fs uncut) l.0 is) t.lists named in
    let all = list_ends_same part ys types p stop t.lists found.1 long same cuts (all_back (λ n. n ≤ stop) own (map (λ (l : ℕ × List ℕ). list_end part types l.0) t.lists) ends) in
    (ap (λ ns. own ++ ns) (ends_mapped (list_end new types) (list_end part types) t.lists all), listed_same part new types 0 t.lists all)

pub ends_same : (memory other : Memory) (part : Part) (ys : List ℕ) (region : Region64) (p : ℕ) (h : Head) (t : Table) → head_at part region p ≡ Ok h →
    lsda_in memory region p part ≡ Ok t → TableKept memory other part ys p h → Same p (table_end part h t) part.bytes ys → EndsSame part ys h t
unfolding table_end
ends_same memory other part ys region p h t head read kept same =
    let new = with_bytes part ys in
    let r = head_reads part region p h head in
    let order = r.order in
    let forward = r.forward in
    let stop = table_end part h t in
    let given = answer_ok (least (table_faults memory part region h)) (table_of memory part region h) t
    (sym (ap (λ x. x >>= answered memory region part) head) ∙ sym (in_steps memory region p part) ∙ read) in
    let S = site_records part h in
    let none = both_none (records_faults memory part region h 0 S.records) S.cut (sym (faults_are memory part region h) ∙ none_refused (table_faults memory part region h) given.0) in
    let xs = take h.actions_at part.bytes in
    let zs = take h.actions_at ys in
    let inside = same_cut h.sites_at h.actions_at h.actions_at part.bytes ys order (omega arith)
    (same_inside p h.actions_at h.sites_at h.actions_at part.bytes ys forward (omega arith) kept.front) in
    let sites : site_records new h ≡ S =
    ap (λ m. records_within (1 + m) zs part.file_at h h.sites_at) kept.long ∙
    records_same (1 + length part.bytes) xs zs part.file_at h h.sites_at (omega (arith, length-take h.actions_at part.bytes)) none.1 inside in
    let actions : action_ends new h ≡ action_ends part h =
    ap (λ (x : SiteRecords). flat_map (λ r. if r.action == 0 then [] else chain_ends new h r.action) x.records) sites ∙
    all_ends memory other part ys h S.records kept.long (chains_end memory part region h 0 S.records none.0) kept.chains in
    let has = table_has memory part region p h t head read in
    let uncut = subst (λ x. AllByRecursion (IsUncut part h.types) (flat_map (λ (e : ℕ × List ℤ). e.1) x.actions)) given.1 (table_uncut memory part region h none.0) in
    let names = names_same part ys h.types p stop t (head_types part region p h head) kept.long same uncut has.lists (ends_before part h t).names in
    record { end = ap (λ ns. fold max h.actions_at (ns ++ name_ends new h.types t)) actions ∙ ap (λ ns. fold max h.actions_at (action_ends part h ++ ns)) names.0; lists = names.1 }
