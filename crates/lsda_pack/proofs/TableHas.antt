-- What a table keeps to that is read of a memory: of its sites, its chains and its lists.
use Rattle.std.proofs.Common.{◌≡◌, ◌≢◌, ◌+◌, ◌<◌, ◌≤◌, ◌==◌, ℕ, ℤ, zero, suc, Bool, true, false, nat_le, List, [], ◌∷◌, ◌++◌, length, map, not, Ok, refl, ap, sym, subst, ◌∙◌, arith}
use Rattle.std.specs.Prelude.{Option, ⊤, flat_map, filter, ◌||◌}
use Rattle.std.specs.List.{AllByRecursion}
use Rattle.std.proofs.lemmas.Bool.Decides.{nat_tests}
use Rattle.eh_bytes.specs.declared.frames.Region64.{Region64}
use Rattle.eh_bytes.specs.Memory.{Part, Memory, is_code}
use Rattle.table_forms.specs.declared.found.Action.{Action}
use Rattle.table_forms.specs.declared.found.Action.TheVariants.{Record, Outside, Ranged}
use Rattle.table_forms.specs.declared.found.Site.{Site}
use Rattle.table_forms.specs.declared.reason.Reason.{Reason}
use Rattle.table_forms.specs.declared.reason.Reason.TheVariants.{SiteOrder, SiteOutside, PadOutside}
use Rattle.table_forms.specs.Fault.{◌>>=◌, least, unless}
use Rattle.table_forms.specs.Keys.{keys, value_at}
use Rattle.table_forms.specs.LsdaHead.{Head, Types, head_at}
use Rattle.table_forms.specs.LsdaSites.{SiteRecord, site_of, site_records, site_faults}
use Rattle.table_forms.specs.LsdaChain.{ended, action_at, chain_of, first_record, links_from, links_within}
use Rattle.table_forms.specs.Lsda.{Table, action_faults, records_faults, table_faults, filters_of, entries_named, lists_named, list_value, entry_value, table_of, lsda_in}
use Rattle.table_forms.proofs.Alls.{all_more, all_members}
use Rattle.table_forms.proofs.Kept.{IsIn, in_keys, value_in}
use Rattle.eh_write.proofs.Alls.{all_map, all_filter, all_keys}
use Rattle.personality.proofs.Members.{in_right, all_given}
use Rattle.lsda_pack.proofs.LsdaFrame.{none_refused, both_none, answer_ok, answered, faults_are, in_steps}
use Rattle.lsda_pack.proofs.TableStays.{chains_end}
use Rattle.lsda_pack.proofs.ListsRead.{first_names}
use Rattle.lsda_pack.proofs.NamesStay.{NamedIn, numbers, under, made_all}

-- each site begins at or behind the end of the one before
abbrev pub RisesFrom : ℕ → List Site → Type 0
RisesFrom before [] = ⊤
RisesFrom before (s ∷ ss) = (before ≤ s.start) × RisesFrom s.end ss

-- a site ends in its region, and its pad is code
abbrev pub SiteLies : Memory → Region64 → Site → Type 0
SiteLies memory region s = (s.end ≤ region.start + region.length) × ((s.pad == 0 || is_code memory s.pad) ≡ true)

pub record TableHas (memory : Memory) (part : Part) (types : Option Types) (region : Region64) (t : Table) : Type 0 where
  pub rises : RisesFrom 0 t.sites
  pub lie : AllByRecursion (SiteLies memory region) t.sites
  pub chains : AllByRecursion (λ e. 0 < length e.1) t.actions
  pub sited : AllByRecursion (λ e. IsIn e.0 (map (λ s. s.action) t.sites) × (e.0 ≢ 0)) t.actions
  pub values : AllByRecursion (λ e. value_at [] t.actions e.0 ≡ e.1) t.actions
  pub named : AllByRecursion (NamedIn part types (numbers t.types) (numbers t.lists)) (flat_map (λ e. e.1) t.actions)
  pub lists : AllByRecursion (λ l. IsIn l.0 (flat_map lists_named (flat_map (λ e. e.1) t.actions))) t.lists
  pub indices : AllByRecursion (λ l. AllByRecursion (λ i. IsIn i (numbers t.types)) l.1) t.lists

-- a condition that is not refused holds
kept : (b : Bool) (reason : Reason) (place : ℕ) → unless b reason place ≡ [] → b ≡ true
kept true reason place e = refl
kept false reason place e = absurd cc

le_true : (a b : ℕ) → nat_le a b ≡ true → a ≤ b
le_true a b e = grind (arith, nat_tests, e)

sites_lie : (memory : Memory) (part : Part) (region : Region64) (h : Head) (before : ℕ) (rs : List SiteRecord) → records_faults memory part region h before rs ≡ [] →
    RisesFrom before (map (site_of h region) rs) × AllByRecursion (SiteLies memory region) (map (site_of h region) rs)
sites_lie memory part region h before [] none = (tt, tt)
sites_lie memory part region h before (r ∷ rs) none =
    let s = site_of h region r in
    let place = part.file_at + r.at in
    let A = site_faults memory place region before s in
    let B = action_faults memory part h r in
    let outer = both_none (A ++ B) (records_faults memory part region h s.end rs) none in
    let own = (both_none A B outer.0).0 in
    let order = nat_le before s.start in
    let inside = nat_le s.end (region.start + region.length) in
    let code = s.pad == 0 || is_code memory s.pad in
    let two = both_none (unless order SiteOrder place ++ unless inside SiteOutside place) (unless code PadOutside place) own in
    let one = both_none (unless order SiteOrder place) (unless inside SiteOutside place) two.0 in
    let more = sites_lie memory part region h s.end rs outer.1 in (
      (le_true before s.start (kept order SiteOrder place one.0), more.0),
      ((le_true s.end (region.start + region.length) (kept inside SiteOutside place one.1), kept code PadOutside place two.1), more.1),
    )

-- a chain that ends has a record
links_some : (n : ℕ) (part : Part) (h : Head) (p : ℕ) → (links_within n part h p).ending ≡ ended → 0 < length (map (λ l. l.filter) (links_within n part h p).links)
unfolding links_within
links_some zero part h p ends = absurd cc
links_some (suc n) part h p ends = by (action_at part h p) ends
  where
    by : (a : Action) → (links_from p a (links_within n part h)).ending ≡ ended → 0 < length (map (λ l. l.filter) (links_from p a (links_within n part h)).links)
    by Outside e = absurd cc
    by (Ranged q) e = absurd cc
    by (Record filter next) e = omega arith

pub not_zero : (a : ℕ) → not (a == 0) ≡ true → a ≢ 0
not_zero zero e z = absurd cc
not_zero (suc a) e z = absurd cc

-- all that passes a test stands in the list
pub filtered_in : (test : ℕ → Bool) (ns : List ℕ) → AllByRecursion (λ n. IsIn n ns × (test n ≡ true)) (filter test ns)
filtered_in test ns = all_filter (λ n. IsIn n ns × (test n ≡ true)) test ns (all_more (λ n. IsIn n ns) (λ n. test n ≡ true → IsIn n ns × (test n ≡ true)) (λ n is e. (is, e)) ns (all_members ns))

values_are : (f : ℕ → List ℤ) (all ns : List ℕ) → AllByRecursion (λ n. IsIn n all) ns → AllByRecursion (λ (e : ℕ × List ℤ). value_at [] (under f all) e.0 ≡ e.1) (under f ns)
values_are f all [] are = tt
values_are f all (n ∷ ns) are = (value_in [] f n all are.0, values_are f all ns are.1)

made_has : (memory : Memory) (part : Part) (region : Region64) (h : Head) → records_faults memory part region h 0 (site_records part h).records ≡ [] →
    TableHas memory part h.types region (table_of memory part region h)
unfolding table_of
made_has memory part region h none =
    let rs = (site_records part h).records in
    let sites = map (site_of h region) rs in
    let named = map (λ s. s.action) sites in
    let test = λ (a : ℕ). not (a == 0) in
    let ks = keys (filter test named) in
    let F = filters_of part h in
    let fs = flat_map (λ (e : ℕ × List ℤ). e.1) (under F ks) in
    let L = list_value part h.types in
    let js = keys (flat_map lists_named fs) in
    let ls = under L js in
    let own = flat_map entries_named fs in
    let others = flat_map (λ (e : ℕ × List ℕ). e.1) ls in
    let is = keys (own ++ others) in
    let lies = sites_lie memory part region h 0 rs none in
    let E : ℕ → Type 0 = λ a. a ≢ 0 → (chain_of part h a).ending ≡ ended in
    let G : ℕ → Type 0 = λ a. 0 < length (F a) in
    let ends : AllByRecursion E named = all_map E (λ s. s.action) sites (all_map (λ s. E s.action) (site_of h region) rs (chains_end memory part region h 0 rs none)) in
    let good = all_keys G (filter test named) (all_filter G test named (all_more E (λ a. test a ≡ true → G a) (λ a well e. links_some (1 + length part.bytes) part h (first_record h a) (well (not_zero a e))) named ends)) in
    let S : ℕ → Type 0 = λ a. IsIn a named × (a ≢ 0) in
    let sited = all_keys S (filter test named) (all_more (λ a. IsIn a named × (test a ≡ true)) S (λ a is'. (is'.0, not_zero a is'.1)) (filter test named) (filtered_in test named)) in
    let J : ℕ → Type 0 = λ j. IsIn j (flat_map lists_named fs) in
    record {
      rises = lies.0;
      lie = lies.1;
      chains = all_map (λ (e : ℕ × List ℤ). 0 < length e.1) (λ a. (a, F a)) ks good;
      sited = all_map (λ (e : ℕ × List ℤ). S e.0) (λ a. (a, F a)) ks sited;
      values = values_are F ks ks (all_members ks);
      named = made_all memory part region h;
      lists = all_map (λ (l : ℕ × List ℕ). J l.0) (λ j. (j, L j)) js (all_keys J (flat_map lists_named fs) (all_members (flat_map lists_named fs)));
      indices = all_more (λ (l : ℕ × List ℕ). AllByRecursion (λ i. IsIn i others) l.1) (λ (l : ℕ × List ℕ). AllByRecursion (λ i. IsIn i (numbers (under (entry_value memory part h h.types) is))) l.1)
          (λ l all. all_more (λ i. IsIn i others) (λ i. IsIn i (numbers (under (entry_value memory part h h.types) is)))
          (λ i at. subst (IsIn i) (sym (first_names (entry_value memory part h h.types) is)) (in_keys i (own ++ others) (in_right i own others at))) l.1 all)
          ls (all_given (λ (e : ℕ × List ℕ). e.1) ls);
    }

pub table_has : (memory : Memory) (part : Part) (region : Region64) (p : ℕ) (h : Head) (t : Table) → head_at part region p ≡ Ok h → lsda_in memory region p part ≡ Ok t →
    TableHas memory part h.types region t
table_has memory part region p h t head read =
    let given = answer_ok (least (table_faults memory part region h)) (table_of memory part region h) t
    (sym (ap (λ x. x >>= answered memory region part) head) ∙ sym (in_steps memory region p part) ∙ read) in
    let S = site_records part h in
    let none = both_none (records_faults memory part region h 0 S.records) S.cut (sym (faults_are memory part region h) ∙ none_refused (table_faults memory part region h) given.0) in
    subst (TableHas memory part h.types region) given.1 (made_has memory part region h none.0)
