-- A table is read the same where all its bytes stay, and what its filters name.
use Rattle.std.proofs.Common.{◌≡◌, ◌≢◌, ◌+◌, ◌==◌, ◌≤◌, ℕ, Bool, true, false, List, [], ◌∷◌, ◌++◌, length, Ok, refl, ap, sym, ◌∙◌, arith}
use Rattle.std.specs.Prelude.{Option, Some, None, flat_map, if◌then◌else◌}
use Rattle.std.specs.List.{AllByRecursion}
use Rattle.std.proofs.lemmas.Bool.Decides.{nat_tests}
use Rattle.eh_bytes.specs.declared.frames.Region64.{Region64}
use Rattle.eh_bytes.specs.Memory.{Part, Memory, is_code}
use Rattle.table_forms.specs.Fault.{◌>>=◌, least}
use Rattle.table_forms.specs.LsdaHead.{Head, Types, head_at}
use Rattle.table_forms.specs.LsdaSites.{SiteRecord, site_of, site_records, site_faults}
use Rattle.table_forms.specs.LsdaChain.{Link, Chain, ended, chain_of, first_record, ending_faults}
use Rattle.table_forms.specs.LsdaTypes.{filter_faults}
use Rattle.table_forms.specs.Lsda.{Table, chain_faults, action_faults, records_faults, table_faults, table_of, lsda_in}
use Rattle.lsda_pack.specs.TableEnd.{record_end, table_end}
use Rattle.lsda_pack.proofs.Fronts.{Same, same_inside}
use Rattle.lsda_pack.proofs.HeadFrame.{with_bytes, head_reads}
use Rattle.lsda_pack.proofs.ChainsFrame.{SameRecord, actions_of}
use Rattle.lsda_pack.proofs.LsdaFrame.{FilterKept, LinkKept, RecordKept, TableKept, none_refused, both_none, ending_none, answer_ok, answered, faults_are, in_steps, table_in_same}
use Rattle.lsda_pack.proofs.TableEnds.{ends_before}
use Rattle.lsda_pack.proofs.ChainExtent.{links_lie, records_stay}

-- what the filters of a chain name stays
abbrev pub NamesKept : Memory → Memory → Part → List ℕ → Head → SiteRecord → Type 0
NamesKept memory other part ys h r = r.action ≢ 0 → AllByRecursion (λ l. FilterKept memory other part ys h.types l.filter) (chain_of part h r.action).links

abbrev pub EndsWell : Part → Head → SiteRecord → Type 0
EndsWell part h r = r.action ≢ 0 → (chain_of part h r.action).ending ≡ ended

chain_ends : (memory : Memory) (part : Part) (h : Head) (r : SiteRecord) → action_faults memory part h r ≡ [] → EndsWell part h r
chain_ends memory part h r none some = step (r.action == 0) refl none
  where
    C : Chain
    C = chain_of part h r.action

    step : (b : Bool) → (r.action == 0) ≡ b → (if b then [] else chain_faults memory part h r C) ≡ [] → C.ending ≡ ended
    step true is e = let zero_is : r.action ≡ 0 = grind (arith, nat_tests, is) in absurd (some zero_is)
    step false is e =
        ending_none part h r.at r.action C.ending (both_none (flat_map (λ l. filter_faults memory part h h.types l.at l.filter) C.links) (ending_faults part h r.at r.action C.ending) e).1

pub chains_end : (memory : Memory) (part : Part) (region : Region64) (h : Head) (before : ℕ) (rs : List SiteRecord) → records_faults memory part region h before rs ≡ [] →
    AllByRecursion (EndsWell part h) rs
chains_end memory part region h before [] none = tt
chains_end memory part region h before (r ∷ rs) none =
    let s = site_of h region r in
    let A = site_faults memory (part.file_at + r.at) region before s in
    let B = action_faults memory part h r in
    let C = records_faults memory part region h s.end rs in
    let outer = both_none (A ++ B) C none in
    (chain_ends memory part h r (both_none A B outer.0).1, chains_end memory part region h s.end rs outer.1)

both_kept : (memory other : Memory) (part : Part) (ys : List ℕ) (h : Head) (ls : List Link) → AllByRecursion (SameRecord (actions_of part h) (actions_of (with_bytes part ys) h)) ls →
    AllByRecursion (λ l. FilterKept memory other part ys h.types l.filter) ls → AllByRecursion (LinkKept memory other part ys h) ls
both_kept memory other part ys h [] same kept = tt
both_kept memory other part ys h (l ∷ ls) same kept = ((same.0, kept.0), both_kept memory other part ys h ls same.1 kept.1)

records_kept : (memory other : Memory) (part : Part) (ys : List ℕ) (h : Head) (p stop : ℕ) (rs : List SiteRecord) → length ys ≡ length part.bytes → Same p stop part.bytes ys →
    p ≤ h.actions_at → AllByRecursion (EndsWell part h) rs →
    AllByRecursion (λ r. r.action ≢ 0 → AllByRecursion (λ l. record_end (actions_of part h) l.at ≤ stop) (chain_of part h r.action).links) rs →
    AllByRecursion (NamesKept memory other part ys h) rs → AllByRecursion (RecordKept memory other part ys h) rs
records_kept memory other part ys h p stop [] long same from well ends names = tt
records_kept memory other part ys h p stop (r ∷ rs) long same from well ends names = (
  (λ some. let links = (chain_of part h r.action).links in
      both_kept memory other part ys h links
      (records_stay part ys h p stop links long same from (links_lie (1 + length part.bytes) part h (first_record h r.action) (well.0 some)) (ends.0 some)) (names.0 some)),
  records_kept memory other part ys h p stop rs long same from well.1 ends.1 names.1,
)

pub table_kept : (memory other : Memory) (part : Part) (ys : List ℕ) (region : Region64) (p : ℕ) (h : Head) (t : Table) → head_at part region p ≡ Ok h →
    lsda_in memory region p part ≡ Ok t → length ys ≡ length part.bytes → ((a : ℕ) → is_code other a ≡ is_code memory a) → Same p (table_end part h t) part.bytes ys →
    AllByRecursion (NamesKept memory other part ys h) (site_records part h).records → TableKept memory other part ys p h
table_kept memory other part ys region p h t head read long code same names =
    let r = head_reads part region p h head in
    let order = r.order in
    let forward = r.forward in
    let stop = table_end part h t in
    let ends = ends_before part h t in
    let given = answer_ok (least (table_faults memory part region h)) (table_of memory part region h) t
    (sym (ap (λ x. x >>= answered memory region part) head) ∙ sym (in_steps memory region p part) ∙ read) in
    let S = site_records part h in
    let none = both_none (records_faults memory part region h 0 S.records) S.cut (sym (faults_are memory part region h) ∙ none_refused (table_faults memory part region h) given.0) in
    record {
      long = long;
      code = code;
      front = same_inside p stop p h.actions_at part.bytes ys (omega arith) ends.sites same;
      chains = records_kept memory other part ys h p stop S.records long same (omega (arith, order, forward)) (chains_end memory part region h 0 S.records none.0) ends.chains names;
    }

-- a table without a base names nothing
nothing_named : (memory other : Memory) (part : Part) (ys : List ℕ) (types : Option Types) → types ≡ None → (ls : List Link) → AllByRecursion (λ l. FilterKept memory other part ys types l.filter) ls
nothing_named memory other part ys None is [] = tt
nothing_named memory other part ys None is (l ∷ ls) = (tt, nothing_named memory other part ys None is ls)
nothing_named memory other part ys (Some types) is ls = absurd cc

no_names : (memory other : Memory) (part : Part) (ys : List ℕ) (h : Head) → h.types ≡ None → (rs : List SiteRecord) → AllByRecursion (NamesKept memory other part ys h) rs
no_names memory other part ys h is [] = tt
no_names memory other part ys h is (r ∷ rs) = ((λ some. nothing_named memory other part ys h.types is (chain_of part h r.action).links), no_names memory other part ys h is rs)

-- so such a table is read the same wherever all its bytes stay
pub plain_same : (memory other : Memory) (part : Part) (ys : List ℕ) (region : Region64) (p : ℕ) (h : Head) (t : Table) → head_at part region p ≡ Ok h → h.types ≡ None →
    lsda_in memory region p part ≡ Ok t → length ys ≡ length part.bytes → ((a : ℕ) → is_code other a ≡ is_code memory a) → Same p (table_end part h t) part.bytes ys →
    lsda_in other region p (with_bytes part ys) ≡ Ok t
plain_same memory other part ys region p h t head none read long code same =
    table_in_same memory other part ys region p h t head
    (table_kept memory other part ys region p h t head read long code same (no_names memory other part ys h none (site_records part h).records)) read
