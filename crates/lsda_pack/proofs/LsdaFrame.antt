-- What is read of an exception table depends only on the bytes that are read.
use Rattle.std.proofs.Common.{◌≡◌, ◌≢◌, ◌+◌, ◌-◌, ◌*◌, ◌==◌, ℕ, ℤ, pos, negsuc, zero, suc, Bool, true, false, nat_le, List, [], ◌∷◌, ◌++◌, length, take, map, Result, Ok, Err, refl, ap, sym, subst, ◌∙◌, arith}
use Rattle.std.specs.Prelude.{Option, Some, None, ⊤, ◌||◌, flat_map, filter, not, if◌then◌else◌}
use Rattle.std.specs.List.{AllByRecursion}
use Rattle.std.proofs.lemmas.Bool.Decides.{nat_tests}
use Rattle.std.proofs.lemmas.List.{length-take}
use Rattle.eh_bytes.specs.declared.frames.Region64.{Region64}
use Rattle.eh_bytes.specs.Memory.{Part, Memory, part_with, is_code}
use Rattle.table_forms.specs.declared.found.Site.{Site}
use Rattle.table_forms.specs.declared.reason.Reason.TheVariants.{SiteOrder, SiteOutside, PadOutside}
use Rattle.table_forms.specs.Fault.{Fault, ◌>>=◌, least, lesser, is_before, answer, unless, refusal_of}
use Rattle.table_forms.specs.Keys.{keys}
use Rattle.table_forms.specs.LsdaHead.{Head, Types, head_at}
use Rattle.table_forms.specs.LsdaSites.{SiteRecord, site_of, site_records, site_faults, records_within}
use Rattle.table_forms.specs.LsdaChain.{Link, Chain, Ending, ended, outside, repeated, ranged, chain_of, first_record, links_within, ending_faults}
use Rattle.table_forms.specs.LsdaTypes.{entry_at, indices_within, list_at, list_faults, filter_faults}
use Rattle.table_forms.specs.Lsda.{Table, chain_faults, action_faults, records_faults, table_faults, filters_of, entries_named, lists_named, value_of, entry_value, list_value, table_of, lsda_in, lsda_from, lsda}
use Rattle.table_forms.proofs.Alls.{all_more}
use Rattle.eh_write.proofs.Alls.{all_append, all_flat_map, all_map, all_filter, all_keys}
use Rattle.lsda_pack.specs.TableEnd.{list_end_within}
use Rattle.lsda_pack.proofs.Fronts.{Same, same_inside, same_cut}
use Rattle.lsda_pack.proofs.HeadFrame.{with_bytes, head_reads}
use Rattle.lsda_pack.proofs.SitesFrame.{records_same}
use Rattle.lsda_pack.proofs.ChainsFrame.{SameRecord, actions_of, links_same}
use Rattle.lsda_pack.proofs.NamesFrame.{SameWord, entry_field, field_end, entry_same, entry_elsewhere, indices_same}
use Rattle.lsda_pack.proofs.TablesBy.{table_by, table_same, numbers_in, actions_by, filters_by, lists_by, indices_by}

-- the bytes of an entry stay, and the word that it names
abbrev pub EntryKept : Memory → Memory → Part → List ℕ → Types → ℕ → Type 0
EntryKept memory other part ys types i =
    Same (types.base - i * types.size) (field_end (types.base - i * types.size) (entry_field part types i)) part.bytes ys × SameWord memory other (entry_field part types i)

-- what a filter names stays
abbrev pub FilterKept : Memory → Memory → Part → List ℕ → Option Types → ℤ → Type 0
FilterKept memory other part ys None f = ⊤
FilterKept memory other part ys (Some types) (pos zero) = ⊤
FilterKept memory other part ys (Some types) (pos (suc i)) = EntryKept memory other part ys types (suc i)
FilterKept memory other part ys (Some types) (negsuc n) =
    Same (types.base + n) (list_end_within (1 + length part.bytes) part (types.base + n) (types.base + n)) part.bytes ys ×
    AllByRecursion (EntryKept memory other part ys types) (list_at part types n).indices

abbrev pub LinkKept : Memory → Memory → Part → List ℕ → Head → Link → Type 0
LinkKept memory other part ys h l = SameRecord (actions_of part h) (actions_of (with_bytes part ys) h) l × FilterKept memory other part ys h.types l.filter

abbrev pub RecordKept : Memory → Memory → Part → List ℕ → Head → SiteRecord → Type 0
RecordKept memory other part ys h r = r.action ≢ 0 → AllByRecursion (LinkKept memory other part ys h) (chain_of part h r.action).links

-- each byte that is read of a table stays; the part keeps its length, and code stays code
pub record TableKept (memory other : Memory) (part : Part) (ys : List ℕ) (p : ℕ) (h : Head) : Type 0 where
  pub long : length ys ≡ length part.bytes
  pub code : (a : ℕ) → is_code other a ≡ is_code memory a
  pub front : Same p h.actions_at part.bytes ys
  pub chains : AllByRecursion (RecordKept memory other part ys h) (site_records part h).records

-- lists without refusals
pub none_refused : (fs : List Fault) → least fs ≡ None → fs ≡ []
unfolding least
none_refused [] e = refl
none_refused (f ∷ fs) e = step (least fs) e
  where
    step : (o : Option Fault) → lesser f o ≡ None → f ∷ fs ≡ []
    step None e = absurd cc
    step (Some g) e = by_order (is_before f g) e
      where
        by_order : (b : Bool) → (if b then Some f else Some g) ≡ None → f ∷ fs ≡ []
        by_order true e = absurd cc
        by_order false e = absurd cc

pub both_none : {X : Type 0} (xs ys : List X) → xs ++ ys ≡ [] → (xs ≡ []) × (ys ≡ [])
both_none [] ys e = (refl, e)
both_none (x ∷ xs) ys e = absurd cc

pub refusal_none : (r : Result ℕ Fault) → refusal_of r ≡ [] → (v : ℕ) × (r ≡ Ok v)
refusal_none (Ok v) e = (v, refl)
refusal_none (Err f) e = absurd cc

pub ending_none : (part : Part) (h : Head) (site a : ℕ) (e : Ending) → ending_faults part h site a e ≡ [] → e ≡ ended
ending_none part h site a ended none = refl
ending_none part h site a outside none = absurd cc
ending_none part h site a repeated none = absurd cc
ending_none part h site a (ranged q) none = absurd cc

module _ (memory other : Memory) (part : Part) (ys : List ℕ) (h : Head) (long : length ys ≡ length part.bytes) where
  abbrev new : Part
  new = with_bytes part ys

  abbrev ValueSame : Option Types → ℕ → Type 0
  ValueSame types i = entry_value memory part h types i ≡ entry_value other new h types i

  -- what a filter names is read the same
  record FilterSame (types : Option Types) (f : ℤ) : Type 0 where
    entries : AllByRecursion (ValueSame types) (entries_named f)
    lists : AllByRecursion (λ j. list_value part types j ≡ list_value new types j) (lists_named f)
    indices : AllByRecursion (λ j. AllByRecursion (ValueSame types) (list_value part types j)) (lists_named f)

  value_same : (types : Types) (named_at i v : ℕ) → entry_at memory part h types named_at i ≡ Ok v → EntryKept memory other part ys types i →
      (entry_at other new h types named_at i ≡ Ok v) × ValueSame (Some types) i
  value_same types named_at i v read kept = (
    entry_same memory other part ys h types named_at i v read kept.0 kept.1,
    ap value_of (entry_elsewhere memory part h types named_at 0 i v read) ∙
        sym (ap value_of (entry_same memory other part ys h types 0 i v (entry_elsewhere memory part h types named_at 0 i v read) kept.0 kept.1)),
  )

  values_same : (types : Types) (named_at : ℕ) (is : List ℕ) → flat_map (λ i. refusal_of (entry_at memory part h types named_at i)) is ≡ [] →
      AllByRecursion (EntryKept memory other part ys types) is →
      (flat_map (λ i. refusal_of (entry_at other new h types named_at i)) is ≡ []) × AllByRecursion (ValueSame (Some types)) is
  values_same types named_at [] none kept = (refl, tt)
  values_same types named_at (i ∷ is) none kept =
      let two = both_none (refusal_of (entry_at memory part h types named_at i)) (flat_map (λ k. refusal_of (entry_at memory part h types named_at k)) is) none in
      let v = refusal_none (entry_at memory part h types named_at i) two.0 in
      let same = value_same types named_at i v.0 v.1 kept.0 in
      let more = values_same types named_at is two.1 kept.1 in
      (ap (λ r. refusal_of r ++ flat_map (λ k. refusal_of (entry_at other new h types named_at k)) is) same.0 ∙ more.0, (same.1, more.1))

  list_same : (types : Types) (n : ℕ) → (list_at part types n).cut ≡ [] →
      Same (types.base + n) (list_end_within (1 + length part.bytes) part (types.base + n) (types.base + n)) part.bytes ys → list_at new types n ≡ list_at part types n
  list_same types n cut same =
      ap (λ m. indices_within (1 + m) new (types.base + n) (types.base + n)) long ∙
      (indices_same (1 + length part.bytes) part ys (types.base + n) (types.base + n) cut same).1

  filter_same : (types : Option Types) (named_at : ℕ) (f : ℤ) → filter_faults memory part h types named_at f ≡ [] → FilterKept memory other part ys types f →
      (filter_faults other new h types named_at f ≡ []) × FilterSame types f
  filter_same None named_at (pos zero) none kept = (refl, record { entries = tt; lists = tt; indices = tt })
  filter_same (Some types) named_at (pos zero) none kept = (refl, record { entries = tt; lists = tt; indices = tt })
  filter_same None named_at (pos (suc i)) none kept = absurd cc
  filter_same None named_at (negsuc n) none kept = absurd cc
  filter_same (Some types) named_at (pos (suc i)) none kept =
      let v = refusal_none (entry_at memory part h types named_at (suc i)) none in
      let same = value_same types named_at (suc i) v.0 v.1 kept in
      (ap refusal_of same.0, record { entries = (same.1, tt); lists = tt; indices = tt })
  filter_same (Some types) named_at (negsuc n) none kept =
      let list = list_at part types n in
      let two = both_none (flat_map (λ i. refusal_of (entry_at memory part h types named_at i)) list.indices) list.cut none in
      let values = values_same types named_at list.indices two.0 kept.1 in
      let same = list_same types n two.1 kept.0 in
      let place : suc n - 1 ≡ n = omega arith in
      let here : list_value part (Some types) (suc n) ≡ list.indices = ap (λ m. (list_at part types m).indices) place in
      let there : list_value new (Some types) (suc n) ≡ list.indices = ap (λ m. (list_at new types m).indices) place ∙ ap (λ x. x.indices) same in (
        ap (list_faults other new h types named_at) same ∙ ap (λ x. x ++ list.cut) values.0 ∙ two.1,
        record { entries = tt; lists = (here ∙ sym there, tt); indices = (subst (AllByRecursion (ValueSame (Some types))) (sym here) values.1, tt) },
      )

  links_clean : (ls : List Link) → flat_map (λ l. filter_faults memory part h h.types l.at l.filter) ls ≡ [] → AllByRecursion (LinkKept memory other part ys h) ls →
      (flat_map (λ l. filter_faults other new h h.types l.at l.filter) ls ≡ []) × AllByRecursion (FilterSame h.types) (map (λ l. l.filter) ls)
  links_clean [] none kept = (refl, tt)
  links_clean (l ∷ ls) none kept =
      let two = both_none (filter_faults memory part h h.types l.at l.filter) (flat_map (λ x. filter_faults memory part h h.types x.at x.filter) ls) none in
      let kept0 = kept.0 in
      let same = filter_same h.types l.at l.filter two.0 kept0.1 in
      let more = links_clean ls two.1 kept.1 in
      (ap (λ x. x ++ flat_map (λ y. filter_faults other new h h.types y.at y.filter) ls) same.0 ∙ more.0, (same.1, more.1))

  chain_same : (a : ℕ) → (chain_of part h a).ending ≡ ended → AllByRecursion (LinkKept memory other part ys h) (chain_of part h a).links → chain_of new h a ≡ chain_of part h a
  chain_same a ends kept =
      ap (λ m. links_within (1 + m) new h (first_record h a)) long ∙
      links_same (1 + length part.bytes) part ys h (first_record h a) ends
      (all_more (LinkKept memory other part ys h) (SameRecord (actions_of part h) (actions_of new h)) (λ l is. is.0) (chain_of part h a).links kept)

  -- an action that is not 0 has the same filters
  abbrev ActionSame : ℕ → Type 0
  ActionSame a = a ≢ 0 → (filters_of part h a ≡ filters_of new h a) × AllByRecursion (FilterSame h.types) (filters_of part h a)

  action_same : (r : SiteRecord) → action_faults memory part h r ≡ [] → RecordKept memory other part ys h r → (action_faults other new h r ≡ []) × ActionSame r.action
  action_same r none kept = step (r.action == 0) refl none
    where
      C : Chain
      C = chain_of part h r.action

      step : (b : Bool) → (r.action == 0) ≡ b → (if b then [] else chain_faults memory part h r C) ≡ [] →
          ((if b then [] else chain_faults other new h r (chain_of new h r.action)) ≡ []) × ActionSame r.action
      step true is e = let zero_is : r.action ≡ 0 = grind (arith, nat_tests, is) in (refl, (λ some. absurd (some zero_is)))
      step false is e =
          let some : r.action ≢ 0 = λ z. let yes : (r.action == 0) ≡ true = grind (arith, nat_tests, z) in let f : true ≡ false = sym yes ∙ is in absurd cc in
          let two = both_none (flat_map (λ l. filter_faults memory part h h.types l.at l.filter) C.links) (ending_faults part h r.at r.action C.ending) e in
          let links = links_clean C.links two.0 (kept some) in
          let chain = chain_same r.action (ending_none part h r.at r.action C.ending two.1) (kept some) in (
            ap (chain_faults other new h r) chain ∙ ap (λ x. x ++ ending_faults new h r.at r.action C.ending) links.0 ∙ two.1,
            (λ _. (ap (λ c. map (λ l. l.filter) c.links) (sym chain), links.1)),
          )

  records_clean : (region : Region64) (before : ℕ) (rs : List SiteRecord) → ((a : ℕ) → is_code other a ≡ is_code memory a) → records_faults memory part region h before rs ≡ [] →
      AllByRecursion (RecordKept memory other part ys h) rs → (records_faults other new region h before rs ≡ []) × AllByRecursion (λ r. ActionSame r.action) rs
  records_clean region before [] code none kept = (refl, tt)
  records_clean region before (r ∷ rs) code none kept =
      let s = site_of h region r in
      let A = site_faults memory (part.file_at + r.at) region before s in
      let B = action_faults memory part h r in
      let C = records_faults memory part region h s.end rs in
      let outer = both_none (A ++ B) C none in
      let inner = both_none A B outer.0 in
      let action = action_same r inner.1 kept.0 in
      let more = records_clean region s.end rs code outer.1 kept.1 in
      let site : site_faults other (part.file_at + r.at) region before s ≡ [] =
      ap (λ c. unless (nat_le before s.start) SiteOrder (part.file_at + r.at) ++ unless (nat_le s.end (region.start + region.length)) SiteOutside (part.file_at + r.at) ++
      unless (s.pad == 0 || c) PadOutside (part.file_at + r.at)) (code s.pad) ∙ inner.0 in (
        ap (λ x. x ++ action_faults other new h r ++ records_faults other new region h s.end rs) site ∙ ap (λ x. x ++ records_faults other new region h s.end rs) action.0 ∙ more.0,
        (action.1, more.1),
      )

  -- the table is made of the same
  abbrev Both : ℕ → Type 0
  Both a = (filters_of part h a ≡ filters_of new h a) × AllByRecursion (FilterSame h.types) (filters_of part h a)

  not_zero : (a : ℕ) → not (a == 0) ≡ true → a ≢ 0
  not_zero zero e z = absurd cc
  not_zero (suc a) e z = absurd cc

  made_same : (sites : List Site) → AllByRecursion ActionSame (map (λ s. s.action) sites) →
      table_by (filters_of part h) (list_value part h.types) (entry_value memory part h h.types) sites ≡
      table_by (filters_of new h) (list_value new h.types) (entry_value other new h h.types) sites
  made_same sites actions =
      let named = map (λ s. s.action) sites in
      let F = filters_of part h in
      let L = list_value part h.types in
      let VS = ValueSame h.types in
      let FS = FilterSame h.types in
      let some = all_more ActionSame (λ a. not (a == 0) ≡ true → Both a) (λ a is e. is (not_zero a e)) named actions in
      let both = all_keys Both (filter (λ a. not (a == 0)) named) (all_filter Both (λ a. not (a == 0)) named some) in
      let one = all_more Both (λ a. F a ≡ filters_of new h a) (λ a is. is.0) (numbers_in sites) both in
      let fs = filters_by F sites in
      let filters : AllByRecursion FS fs =
      all_flat_map FS (λ a. a.1) (actions_by F sites)
      (all_map (λ x. AllByRecursion FS x.1) (λ a. (a, F a)) (numbers_in sites) (all_more Both (λ a. AllByRecursion FS (F a)) (λ a is. is.1) (numbers_in sites) both)) in
      let LS : ℕ → Type 0 = λ j. L j ≡ list_value new h.types j in
      let IS : ℕ → Type 0 = λ j. AllByRecursion VS (L j) in
      let js = flat_map lists_named fs in
      let two = all_keys LS js (all_flat_map LS lists_named fs (all_more FS (λ f. AllByRecursion LS (lists_named f)) (λ f is. is.lists) fs filters)) in
      let inner = all_keys IS js (all_flat_map IS lists_named fs (all_more FS (λ f. AllByRecursion IS (lists_named f)) (λ f is. is.indices) fs filters)) in
      let ls = lists_by L fs in
      let three = all_keys VS (indices_by fs ls)
      (all_append VS (flat_map entries_named fs) (flat_map (λ l. l.1) ls)
      (all_flat_map VS entries_named fs (all_more FS (λ f. AllByRecursion VS (entries_named f)) (λ f is. is.entries) fs filters))
      (all_flat_map VS (λ l. l.1) ls (all_map (λ l. AllByRecursion VS l.1) (λ j. (j, L j)) (keys js) inner))) in
      table_same F (filters_of new h) L (list_value new h.types) (entry_value memory part h h.types) (entry_value other new h h.types) sites one two three

-- the whole table
by_parts : (memory : Memory) (part : Part) (region : Region64) (h : Head) →
    table_of memory part region h ≡ table_by (filters_of part h) (list_value part h.types) (entry_value memory part h h.types) (map (site_of h region) (site_records part h).records)
unfolding table_of
by_parts memory part region h = refl

abbrev pub answered : Memory → Region64 → Part → Head → Result Table Fault
answered memory region part h = answer (least (table_faults memory part region h)) (table_of memory part region h)

pub in_steps : (memory : Memory) (region : Region64) (p : ℕ) (part : Part) → lsda_in memory region p part ≡ (head_at part region p >>= answered memory region part)
unfolding lsda_in
in_steps memory region p part = refl

pub faults_are : (memory : Memory) (part : Part) (region : Region64) (h : Head) →
    table_faults memory part region h ≡ records_faults memory part region h 0 (site_records part h).records ++ (site_records part h).cut
unfolding table_faults
faults_are memory part region h = refl

pub answer_ok : (f : Option Fault) (x t : Table) → answer f x ≡ Ok t → (f ≡ None) × (x ≡ t)
answer_ok None x t e = (refl, cc)
answer_ok (Some f) x t e = absurd cc

pub none_least : least [] ≡ None
unfolding least
none_least = refl

pub table_in_same : (memory other : Memory) (part : Part) (ys : List ℕ) (region : Region64) (p : ℕ) (h : Head) (t : Table) → head_at part region p ≡ Ok h →
    TableKept memory other part ys p h → lsda_in memory region p part ≡ Ok t → lsda_in other region p (with_bytes part ys) ≡ Ok t
table_in_same memory other part ys region p h t head kept read =
    let new' = with_bytes part ys in
    let r = head_reads part region p h head in
    let order = r.order in
    let forward = r.forward in
    let head' : head_at new' region p ≡ Ok h = r.same ys (same_inside p h.actions_at p h.sites_at part.bytes ys (omega arith) order kept.front) in
    let given = answer_ok (least (table_faults memory part region h)) (table_of memory part region h) t
    (sym (ap (λ x. x >>= answered memory region part) head) ∙ sym (in_steps memory region p part) ∙ read) in
    let S = site_records part h in
    let none = both_none (records_faults memory part region h 0 S.records) S.cut (sym (faults_are memory part region h) ∙ none_refused (table_faults memory part region h) given.0) in
    let xs = take h.actions_at part.bytes in
    let zs = take h.actions_at ys in
    let inside = same_cut h.sites_at h.actions_at h.actions_at part.bytes ys order (omega arith)
    (same_inside p h.actions_at h.sites_at h.actions_at part.bytes ys forward (omega arith) kept.front) in
    let sites : site_records new' h ≡ S =
    ap (λ m. records_within (1 + m) zs part.file_at h h.sites_at) kept.long ∙
    records_same (1 + length part.bytes) xs zs part.file_at h h.sites_at (omega (arith, length-take h.actions_at part.bytes)) none.1 inside in
    let clean = records_clean memory other part ys h kept.long region 0 S.records kept.code none.0 kept.chains in
    let faults : table_faults other new' region h ≡ [] =
    faults_are other new' region h ∙ ap (λ x. records_faults other new' region h 0 x.records ++ x.cut) sites ∙ ap (λ x. x ++ S.cut) clean.0 ∙ none.1 in
    let AS : ℕ → Type 0 = λ a. a ≢ 0 → Both memory other part ys h kept.long a in
    let rows = map (site_of h region) S.records in
    let actions = all_map AS (λ s. s.action) rows (all_map (λ s. AS s.action) (site_of h region) S.records clean.1) in
    let table : table_of other new' region h ≡ t =
    by_parts other new' region h ∙
    ap (λ x. table_by (filters_of new' h) (list_value new' h.types) (entry_value other new' h h.types) (map (site_of h region) x.records)) sites ∙
    sym (made_same memory other part ys h kept.long rows actions) ∙ sym (by_parts memory part region h) ∙ given.1 in
    in_steps other region p new' ∙ ap (λ x. x >>= answered other region new') head' ∙
    ap (λ fs. answer (least fs) (table_of other new' region h)) faults ∙ ap (λ f. answer f (table_of other new' region h)) none_least ∙ ap Ok table

-- in a memory, where the part that has the table is the same but for other bytes
pub lsda_same : (memory other : Memory) (address : ℕ) (region : Region64) (part : Part) (ys : List ℕ) (h : Head) (t : Table) →
    part_with memory address ≡ Some part → part_with other address ≡ Some (with_bytes part ys) → head_at part region (address - part.address) ≡ Ok h →
    TableKept memory other part ys (address - part.address) h → lsda memory address region ≡ Ok t → lsda other address region ≡ Ok t
unfolding lsda
lsda_same memory other address region part ys h t here there head kept read =
    ap (lsda_from other address region) there ∙
    table_in_same memory other part ys region (address - part.address) h t head kept (sym (ap (lsda_from memory address region) here) ∙ read)
