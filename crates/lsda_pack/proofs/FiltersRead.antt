-- What holds of each filter of which nothing is refused holds of all filters of a table that is read.
use Rattle.std.proofs.Common.{◌≡◌, ◌≢◌, ◌+◌, ◌==◌, ℕ, ℤ, Bool, true, false, not, List, [], ◌∷◌, ◌++◌, map, refl, arith, if◌then◌else◌}
use Rattle.std.specs.Prelude.{flat_map, filter}
use Rattle.std.specs.List.{AllByRecursion}
use Rattle.std.proofs.lemmas.Bool.Decides.{nat_tests}
use Rattle.eh_bytes.specs.declared.frames.Region64.{Region64}
use Rattle.eh_bytes.specs.Memory.{Part, Memory}
use Rattle.table_forms.specs.Keys.{keys}
use Rattle.table_forms.specs.LsdaHead.{Head}
use Rattle.table_forms.specs.LsdaSites.{SiteRecord, site_of, site_records, site_faults}
use Rattle.table_forms.specs.LsdaChain.{Link, chain_of, ending_faults}
use Rattle.table_forms.specs.LsdaTypes.{filter_faults}
use Rattle.table_forms.specs.Lsda.{action_faults, records_faults, chain_faults, filters_of, table_of}
use Rattle.table_forms.proofs.Alls.{all_more}
use Rattle.eh_write.proofs.Alls.{all_filter, all_flat_map, all_keys, all_map}
use Rattle.lsda_pack.proofs.LsdaFrame.{both_none}
use Rattle.lsda_pack.proofs.NamesStay.{under}
use Rattle.lsda_pack.proofs.TableHas.{not_zero}

module _ (memory : Memory) (part : Part) (region : Region64) (h : Head) (Q : ℤ → Type 0) (good : (named_at : ℕ) (f : ℤ) → filter_faults memory part h h.types named_at f ≡ [] → Q f) where
  links_good : (ls : List Link) → flat_map (λ l. filter_faults memory part h h.types l.at l.filter) ls ≡ [] → AllByRecursion Q (map (λ l. l.filter) ls)
  links_good [] none = tt
  links_good (l ∷ ls) none =
      let two = both_none (filter_faults memory part h h.types l.at l.filter) (flat_map (λ k. filter_faults memory part h h.types k.at k.filter) ls) none in
      (good l.at l.filter two.0, links_good ls two.1)

  abbrev AreGood : ℕ → Type 0
  AreGood a = a ≢ 0 → AllByRecursion Q (filters_of part h a)

  records_good : (before : ℕ) (rs : List SiteRecord) → records_faults memory part region h before rs ≡ [] → AllByRecursion (λ r. AreGood r.action) rs
  records_good before [] none = tt
  records_good before (r ∷ rs) none =
      let s = site_of h region r in
      let A = site_faults memory (part.file_at + r.at) region before s in
      let B = action_faults memory part h r in
      let outer = both_none (A ++ B) (records_faults memory part region h s.end rs) none in
      (λ some. by some (r.action == 0) refl (both_none A B outer.0).1, records_good s.end rs outer.1)
    where
      by : r.action ≢ 0 → (b : Bool) → (r.action == 0) ≡ b → (if b then [] else chain_faults memory part h r (chain_of part h r.action)) ≡ [] → AllByRecursion Q (filters_of part h r.action)
      by some true e none' = absurd (some (grind (arith, nat_tests, e)))
      by some false e none' =
          let C = chain_of part h r.action in
          links_good C.links (both_none (flat_map (λ l. filter_faults memory part h h.types l.at l.filter) C.links) (ending_faults part h r.at r.action C.ending) none').0

  pub filters_good : records_faults memory part region h 0 (site_records part h).records ≡ [] → AllByRecursion Q (flat_map (λ e. e.1) (table_of memory part region h).actions)
  unfolding table_of
  filters_good none =
      let rs = (site_records part h).records in
      let sites = map (site_of h region) rs in
      let named = map (λ s. s.action) sites in
      let test = λ (a : ℕ). not (a == 0) in
      let ks = keys (filter test named) in
      let F = filters_of part h in
      let U : ℕ → Type 0 = λ a. AllByRecursion Q (F a) in
      let all = all_map AreGood (λ s. s.action) sites (all_map (λ s. AreGood s.action) (site_of h region) rs (records_good 0 rs none)) in
      let each = all_keys U (filter test named) (all_filter U test named (all_more AreGood (λ a. test a ≡ true → U a) (λ a well e. well (not_zero a e)) named all)) in
      all_flat_map Q (λ (e : ℕ × List ℤ). e.1) (under F ks) (all_map (λ (e : ℕ × List ℤ). AllByRecursion Q e.1) (λ a. (a, F a)) ks each)
