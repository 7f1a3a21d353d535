-- The call-site table that is written is read as its sites.
use Rattle.std.proofs.Common.{◌≡◌, ◌+◌, ◌<◌, ◌^◌, ℕ, zero, suc, true, false, nat_lt, List, [], ◌∷◌, ◌++◌, length, Ok, ap, sym, ◌∙◌, arith, append_assoc, length-append}
use Rattle.std.specs.Prelude.{flat_map}
use Rattle.std.specs.List.{AllByRecursion}
use Rattle.std.proofs.lemmas.Bool.Decides.{nat_tests}
use Rattle.eh_bytes.specs.Spelling.{uleb_spelling}
use Rattle.eh_bytes.specs.declared.table.ListSite.{ListSite}
use Rattle.table_forms.specs.LsdaHead.{Head}
use Rattle.table_forms.specs.LsdaSites.{SiteRecord, record_at, records_from, records_within}
use Rattle.eh_write.specs.Written.{action_of, site_bytes}
use Rattle.eh_write.specs.Fits.{HasWords}
use Rattle.eh_write.proofs.Reading.{Stands, next_stands, record_stands}

abbrev pub record_of : ℕ → List ℕ → ListSite → SiteRecord
record_of p actions s = record { at = p; start = s.start; length = s.length; pad = s.pad; action = action_of actions s.chain }

abbrev pub records_of : ℕ → List ℕ → List ListSite → List SiteRecord
records_of p actions [] = []
records_of p actions (s ∷ ss) = record_of p actions s ∷ records_of (p + length (site_bytes actions s)) actions ss

-- the four numbers of a site, and what stands behind them
four : (a b c d rest : List ℕ) → a ++ b ++ c ++ d ++ rest ≡ a ++ (b ++ (c ++ (d ++ rest)))
four a b c d rest = append_assoc (a ++ b ++ c) d rest ∙ append_assoc (a ++ b) c (d ++ rest) ∙ append_assoc a b (c ++ (d ++ rest))

four_lengths : (p : ℕ) (a b c d : List ℕ) → p + length (a ++ b ++ c ++ d) ≡ p + length a + length b + length c + length d
four_lengths p a b c d = omega (arith, length-append (a ++ b ++ c) d, length-append (a ++ b) c, length-append a b)

pub site_stands : (bytes : List ℕ) (file_at : ℕ) (h : Head) (p : ℕ) (actions : List ℕ) (s : ListSite) (rest : List ℕ) → h.site_encoding ≡ 1 →
    HasWords s → action_of actions s.chain < 2 ^ 64 → Stands bytes p (site_bytes actions s) rest →
    record_at bytes file_at h p ≡ Ok (record_of p actions s, p + length (site_bytes actions s))
site_stands bytes file_at h p actions s rest plain fits named here =
    let a = uleb_spelling s.start in let b = uleb_spelling s.length in let c = uleb_spelling s.pad in let d = uleb_spelling (action_of actions s.chain) in
    record_stands bytes file_at h p s.start s.length s.pad (action_of actions s.chain) rest plain fits.start fits.length fits.pad named (here ∙ four a b c d rest) ∙
    ap (λ q. Ok (record_of p actions s, q)) (sym (four_lengths p a b c d))

-- up to the end of the table, where the actions begin
pub sites_stand : (bytes : List ℕ) (file_at : ℕ) (h : Head) (p n : ℕ) (actions : List ℕ) (sites : List ListSite) (rest : List ℕ) → h.site_encoding ≡ 1 →
    AllByRecursion HasWords sites → AllByRecursion (λ s. action_of actions s.chain < 2 ^ 64) sites → h.actions_at ≡ p + length (flat_map (site_bytes actions) sites) → length sites < n →
    (some : (s : ListSite) → 0 < length (site_bytes actions s)) →
    Stands bytes p (flat_map (site_bytes actions) sites) rest →
    records_within n bytes file_at h p ≡ record { records = records_of p actions sites; cut = [] }
unfolding records_within
sites_stand bytes file_at h p zero actions sites rest plain fits named ends enough some here = absurd (omega (arith, enough))
sites_stand bytes file_at h p (suc n) actions [] rest plain fits named ends enough some here =
    let done : nat_lt p h.actions_at ≡ false = grind (arith, nat_tests, ends) in
    ap (λ b. records_from b (record_at bytes file_at h p) (records_within n bytes file_at h)) done
sites_stand bytes file_at h p (suc n) actions (s ∷ ss) rest plain fits named ends enough some here =
    let x = site_bytes actions s in
    let xs = flat_map (site_bytes actions) ss in
    let q = p + length x in
    let more : nat_lt p h.actions_at ≡ true = grind (arith, nat_tests, ends, length-append x xs, some s) in
    let first : Stands bytes p x (xs ++ rest) = here ∙ append_assoc x xs rest in
    ap (λ b. records_from b (record_at bytes file_at h p) (records_within n bytes file_at h)) more ∙
    ap (λ r. records_from true r (records_within n bytes file_at h)) (site_stands bytes file_at h p actions s (xs ++ rest) plain fits.0 named.0 first) ∙
    ap (λ r. record { records = record_of p actions s ∷ r.records; cut = r.cut })
    (sites_stand bytes file_at h q n actions ss rest plain fits.1 named.1 (omega (arith, ends, length-append x xs)) (omega (arith, enough)) some (next_stands bytes p x (xs ++ rest) first))
