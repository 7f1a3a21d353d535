-- A table of which nothing is refused for one function, for another whose region suits it.
use Rattle.std.proofs.Common.{◌≡◌, ◌≤◌, ◌+◌, ◌-◌, ◌==◌, ◌||◌, ℕ, Bool, true, false, nat_le, List, [], ◌∷◌, ◌++◌, length, take, Option, Some, None, Ok, Err, Result, refl, ap, sym, subst, ◌∙◌, arith, if◌then◌else◌}
use Rattle.std.specs.Prelude.{IsOkAnd}
use Rattle.std.proofs.lemmas.Bool.Decides.{nat_tests}
use Rattle.std.proofs.lemmas.List.{length-map}
use Rattle.eh_bytes.specs.declared.frames.Region64.{Region64}
use Rattle.eh_bytes.specs.Memory.{Part, Memory, is_code, part_with}
use Rattle.eh_bytes.specs.Field.{byte}
use Rattle.table_forms.specs.declared.found.Site.{Site}
use Rattle.table_forms.specs.declared.reason.Reason.TheVariants.{SiteOrder, SiteOutside, PadOutside, TableTruncated}
use Rattle.table_forms.specs.Fault.{Fault, fault, ◌>>=◌, answer, joined, least, unless}
use Rattle.table_forms.specs.LsdaHead.{Head, head_at, in_table, pads_start}
use Rattle.table_forms.specs.LsdaSites.{SiteRecord, SiteRecords, site_faults, site_of, site_records}
use Rattle.table_forms.specs.Lsda.{Table, action_faults, lsda, lsda_from, lsda_in, records_faults, table_faults, table_of}
use Rattle.table_forms.proofs.Least.{holds, least-append, none_first, none_second}
use Rattle.lsda_read.specs.declared.demands.Demands.{Demands}
use Rattle.lsda_read.specs.Demands.{AreCode, AreDemands, Asks, Covers, IsRising, Suits, asks_pad}
use Rattle.lsda_read.proofs.Moved.{action_moved, head_moves, moved, ok_same, records_moved, rest_of_head}

both_none : (xs ys : List Fault) → least xs ≡ None → least ys ≡ None → least (xs ++ ys) ≡ None
both_none xs ys e f = least-append xs ys ∙ ap (λ o. joined o (least ys)) e ∙ f

met : (b : Bool) (place : ℕ) → b ≡ true → least (unless b SiteOrder place) ≡ None
unfolding least
met b place e = ap (λ t. least (unless t SiteOrder place)) e

site_suits : (memory : Memory) (place : ℕ) (region : Region64) (before : ℕ) (s : Site) → nat_le before s.start ≡ true → nat_le s.end (region.start + region.length) ≡ true →
    (s.pad == 0 || is_code memory s.pad) ≡ true → least (site_faults memory place region before s) ≡ None
unfolding least
site_suits memory place region before s order inside code =
    ap (λ b. least (unless b SiteOrder place ++ unless (nat_le s.end (region.start + region.length)) SiteOutside place ++ unless (s.pad == 0 || is_code memory s.pad) PadOutside place)) order ∙
    ap (λ b. least (unless b SiteOutside place ++ unless (s.pad == 0 || is_code memory s.pad) PadOutside place)) inside ∙
    ap (λ b. least (unless b PadOutside place)) code

or_last : (a b : Bool) → b ≡ true → (a || b) ≡ true
or_last true b e = refl
or_last false b e = e

-- a pad passes elsewhere too
pad_suits : (memory : Memory) (from start pad : ℕ) (moves : Bool) → ((if pad == 0 then 0 else from + pad) == 0 || is_code memory (if pad == 0 then 0 else from + pad)) ≡ true →
    asks_pad moves (λ p. is_code memory (start + p)) pad ≡ true →
    ((if pad == 0 then 0 else (if moves then start else from) + pad) == 0 || is_code memory (if pad == 0 then 0 else (if moves then start else from) + pad)) ≡ true
pad_suits memory from start pad false here asks = here
pad_suits memory from start pad true here asks = by (pad == 0) asks
  where
    by : (z : Bool) → (z || is_code memory (start + pad)) ≡ true → ((if z then 0 else start + pad) == 0 || is_code memory (if z then 0 else start + pad)) ≡ true
    by true asks = refl
    by false asks = or_last ((start + pad) == 0) (is_code memory (start + pad)) asks

records_suit : (memory : Memory) (part : Part) (region other : Region64) (h : Head) (moves : Bool) (before before' : ℕ) (rs : List SiteRecord) →
    least (records_faults memory part region h before rs) ≡ None → ((s : ℕ) → before ≤ region.start + s → before' ≤ other.start + s) →
    Asks moves (λ p. is_code memory (other.start + p)) other.length rs →
    least (records_faults memory part other (moved h (if moves then other.start else h.pads_from)) before' rs) ≡ None
unfolding least
records_suit memory part region other h moves before before' [] clean shift asks = refl
records_suit memory part region other h moves before before' (r ∷ rs) clean shift asks =
    let h' = moved h (if moves then other.start else h.pads_from) in
    let s = site_of h region r in let s' = site_of h' other r in
    let place = part.file_at + r.at in
    let A = site_faults memory place region before s in
    let B = action_faults memory part h r in
    let C = records_faults memory part region h s.end rs in
    let order = unless (nat_le before s.start) SiteOrder place in
    let inside = unless (nat_le s.end (region.start + region.length)) SiteOutside place in
    let code = unless (s.pad == 0 || is_code memory s.pad) PadOutside place in
    let site : least A ≡ None = none_first A B (none_first (A ++ B) C clean) in
    let o = holds (nat_le before s.start) SiteOrder place (none_first order inside (none_first (order ++ inside) code site)) in
    let first : before ≤ region.start + r.start = grind (arith, nat_tests, o) in
    let later = shift r.start first in
    let end : r.start + r.length ≤ other.length = asks.0.0 in
    let o' : nat_le before' s'.start ≡ true = grind (arith, nat_tests, later) in
    let i' : nat_le s'.end (other.start + other.length) ≡ true = grind (arith, nat_tests, end) in
    let p' = pad_suits memory h.pads_from other.start r.pad moves (holds (s.pad == 0 || is_code memory s.pad) PadOutside place (none_second (order ++ inside) code site)) asks.0.1 in
    let A' = site_faults memory place other before' s' in
    let B' = action_faults memory part h' r in
    let C' = records_faults memory part other h' s'.end rs in
    both_none (A' ++ B') C' (both_none A' B' (site_suits memory place other before' s' o' i' p')
    (ap least (action_moved memory part h (if moves then other.start else h.pads_from) r) ∙ none_second A B (none_first (A ++ B) C clean)))
    (records_suit memory part region other h moves s.end s'.end rs (none_second (A ++ B) C clean) (λ k e. omega (arith, e)) asks.1)

sites_moved : (part : Part) (h : Head) (x : ℕ) → site_records part (moved h x) ≡ site_records part h
sites_moved part h x = records_moved (1 + length part.bytes) (take h.actions_at part.bytes) part.file_at h x h.sites_at

table_suits : (memory : Memory) (part : Part) (region other : Region64) (h : Head) (moves : Bool) → least (table_faults memory part region h) ≡ None →
    Asks moves (λ p. is_code memory (other.start + p)) other.length (site_records part h).records →
    least (table_faults memory part other (moved h (if moves then other.start else h.pads_from))) ≡ None
unfolding table_faults
table_suits memory part region other h moves clean asks =
    let x = if moves then other.start else h.pads_from in
    let sites = site_records part h in
    ap (λ (s : SiteRecords). least (records_faults memory part other (moved h x) 0 s.records ++ s.cut)) (sites_moved part h x) ∙
    both_none (records_faults memory part other (moved h x) 0 sites.records) sites.cut
    (records_suit memory part region other h moves 0 0 sites.records (none_first (records_faults memory part region h 0 sites.records) sites.cut clean) (λ k e. omega arith) asks)
    (none_second (records_faults memory part region h 0 sites.records) sites.cut clean)

sites_count : (memory : Memory) (part : Part) (region : Region64) (h : Head) → length (table_of memory part region h).sites ≡ length (site_records part h).records
unfolding table_of
sites_count memory part region h = length-map (site_records part h).records (site_of h region)

pub suited : (memory : Memory) (part : Part) (region other : Region64) (p b q reach : ℕ) (h : Head) (pads : List ℕ) (t : Table) → in_table byte part p ≡ Ok (b, q) → head_at part region p ≡ Ok h →
    Covers (b == 255) reach pads (site_records part h).records → lsda_in memory region p part ≡ Ok t → reach ≤ other.length → AreCode memory other.start pads →
    IsOkAnd (lsda_in memory other p part) (λ u. length u.sites ≡ length t.sites)
unfolding lsda_in
suited memory part region other p b q reach h pads t read head covers given far code =
    let moves = b == 255 in
    let x = if moves then other.start else h.pads_from in
    let h' = moved h x in
    let was : answer (least (table_faults memory part region h)) (table_of memory part region h) ≡ Ok t =
    sym (ap (λ r. r >>= λ k. answer (least (table_faults memory part region k)) (table_of memory part region k)) head) ∙ given in
    let clean = answered (least (table_faults memory part region h)) (table_of memory part region h) was in
    let now : lsda_in memory other p part ≡ Ok (table_of memory part other h') =
    ap (λ r. r >>= λ k. answer (least (table_faults memory part other k)) (table_of memory part other k)) (head_moves part region other p b q h read head) ∙
    ap (λ o. answer o (table_of memory part other h')) (table_suits memory part region other h moves clean.0 (covers (λ pad. is_code memory (other.start + pad)) other.length far code)) in
    let P : Result Table Fault → Type 0 = λ r. IsOkAnd r (λ u. length u.sites ≡ length t.sites) in
    subst P (sym now) (sites_count memory part other h' ∙ ap (λ (s : SiteRecords). length s.records) (sites_moved part h x) ∙ sym (sites_count memory part region h) ∙ ap (λ (u : Table). length u.sites) clean.1)
  where
    answered : (o : Option Fault) (u : Table) → answer o u ≡ Ok t → (o ≡ None) × (u ≡ t)
    answered None u e = (refl, ok_same u t e)
    answered (Some f) u e = absurd cc

-- a table without a head, or without its first byte, is refused
pub no_head : (memory : Memory) (part : Part) (region : Region64) (p : ℕ) (f : Fault) (t : Table) → head_at part region p ≡ Err f → lsda_in memory region p part ≡ Ok t → ⊥
unfolding lsda_in
no_head memory part region p f t none given =
    differ (sym (ap (λ r. r >>= λ k. answer (least (table_faults memory part region k)) (table_of memory part region k)) none) ∙ given)
  where
    differ : Err f ≡ Ok t → ⊥
    differ e = cc

pub no_byte : (part : Part) (region : Region64) (p : ℕ) (f : Fault) → in_table byte part p ≡ Err f → head_at part region p ≡ Err f
unfolding head_at
no_byte part region p f none = ap (λ s. s >>= λ start. pads_start part region start.0 p >>= λ pads. rest_of_head part pads.0 pads.1) none

-- ---- by its address
pub no_part : (memory : Memory) (address : ℕ) (region : Region64) (t : Table) → part_with memory address ≡ None → lsda memory address region ≡ Ok t → ⊥
unfolding lsda
no_part memory address region t none given = differ (sym (ap (lsda_from memory address region) none) ∙ given)
  where
    differ : ◌≡◌ {A = Result Table Fault} (Err (fault TableTruncated 0)) (Ok t) → ⊥
    differ e = cc

pub in_part : (memory : Memory) (address : ℕ) (region : Region64) (part : Part) → part_with memory address ≡ Some part →
    lsda memory address region ≡ lsda_in memory region (address - part.address) part
unfolding lsda
in_part memory address region part found = ap (lsda_from memory address region) found

pub demands_serve : (memory : Memory) (address : ℕ) (region : Region64) (part : Part) (d : Demands) (t : Table) → part_with memory address ≡ Some part → IsRising d.pads.items →
    ((m : Memory) (t : Table) (other : Region64) → lsda_in m region (address - part.address) part ≡ Ok t → Suits m d other →
    IsOkAnd (lsda_in m other (address - part.address) part) (λ u. length u.sites ≡ length t.sites)) →
    lsda memory address region ≡ Ok t → AreDemands memory address (length t.sites) d
demands_serve memory address region part d t found rising serve given =
    record {
      rising = rising;
      serve = λ other suits.
          let P : Result Table Fault → Type 0 = λ r. IsOkAnd r (λ u. length u.sites ≡ length t.sites) in
          subst P (sym (in_part memory address other part found)) (serve memory t other (sym (in_part memory address region part found) ∙ given) suits);
    }
