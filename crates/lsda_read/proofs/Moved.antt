-- The same table for a function elsewhere: what a head says but for the start from which pads count.
use Rattle.std.proofs.Common.{◌≡◌, ◌+◌, ◌==◌, ◌&&◌, ℕ, zero, suc, ℤ, pos, negsuc, Bool, true, false, nat_lt, List, [], ◌∷◌, ◌++◌, length, Option, Some, None, Ok, Err, Result, refl, ap, sym, ◌∙◌, if◌then◌else◌}
use Rattle.std.specs.Prelude.{flat_map, is_some}
use Rattle.eh_bytes.specs.declared.frames.Region64.{Region64}
use Rattle.eh_bytes.specs.Memory.{Part, Memory}
use Rattle.eh_bytes.specs.Field.{byte}
use Rattle.eh_bytes.specs.Leb128.{uleb}
use Rattle.eh_bytes.specs.Encoded.{encoding_format, is_direct, encoded}
use Rattle.table_forms.specs.declared.found.Next.TheVariants.{Ends, Leaves, Goes}
use Rattle.table_forms.specs.declared.found.Action.{Action}
use Rattle.table_forms.specs.declared.found.Action.TheVariants.{Record, Outside, Ranged}
use Rattle.table_forms.specs.declared.reason.Reason.TheVariants.{Encoding}
use Rattle.table_forms.specs.Fault.{Fault, ◌>>=◌, demand}
use Rattle.table_forms.specs.LsdaHead.{Head, Types, head_at, in_table, pads_start, type_table}
use Rattle.table_forms.specs.LsdaSites.{SiteRecord, record_at, records_from, records_within}
use Rattle.table_forms.specs.LsdaChain.{Chain, Ending, Link, action_at, chain_of, ended, ending_faults, first_record, links_from, links_within, outside, ranged, repeated}
use Rattle.table_forms.specs.LsdaTypes.{entry_at, filter_faults}
use Rattle.table_forms.specs.Lsda.{action_faults, chain_faults}

abbrev pub moved : Head → ℕ → Head
moved h x = record { pads_from = x; types = h.types; site_encoding = h.site_encoding; sites_at = h.sites_at; actions_at = h.actions_at }

-- ---- the head
pub ok_same : {A : Type 0} (x y : A) → ◌≡◌ {A = Result A Fault} (Ok x) (Ok y) → x ≡ y
ok_same x y e = cc

bind_moves : {A : Type 0} (r : Result A Fault) (f g : A → Result Head Fault) (h h' : Head) → ((v : A) → f v ≡ Ok h → g v ≡ Ok h') → (r >>= f) ≡ Ok h → (r >>= g) ≡ Ok h'
bind_moves (Ok v) f g h h' k e = k v e
bind_moves (Err x) f g h h' k e = absurd cc

-- what follows LPStart
abbrev pub rest_of_head : Part → ℕ → ℕ → Result Head Fault
rest_of_head part x q = do
  types ← in_table byte part q
  table ← type_table part types.0 q
  sites ← in_table byte part table.1
  plain ← demand (nat_lt sites.0 16 && is_some (encoding_format sites.0)) Encoding (part.file_at + table.1)
  size ← in_table uleb part sites.1
  Ok (record { pads_from = x; types = table.0; site_encoding = sites.0; sites_at = size.1; actions_at = size.1 + size.0 })

rest_moves : (part : Part) (x y q : ℕ) (h : Head) → rest_of_head part x q ≡ Ok h → rest_of_head part y q ≡ Ok (moved h y)
rest_moves part x y q h e =
    bind_moves (in_table byte part q) _ _ h (moved h y) (λ types.
    bind_moves (type_table part types.0 q) _ _ h (moved h y) (λ table.
    bind_moves (in_table byte part table.1) _ _ h (moved h y) (λ sites.
    bind_moves (demand (nat_lt sites.0 16 && is_some (encoding_format sites.0)) Encoding (part.file_at + table.1)) _ _ h (moved h y) (λ plain.
    bind_moves (in_table uleb part sites.1) _ _ h (moved h y) (λ size e.
    ap (λ k. Ok (moved k y)) (ok_same (record { pads_from = x; types = table.0; site_encoding = sites.0; sites_at = size.1; actions_at = size.1 + size.0 }) h e)))))) e

pub head_moves : (part : Part) (region other : Region64) (p b q : ℕ) (h : Head) → in_table byte part p ≡ Ok (b, q) → head_at part region p ≡ Ok h →
    head_at part other p ≡ Ok (moved h (if b == 255 then other.start else h.pads_from))
unfolding head_at pads_start
head_moves part region other p b q h read head = by (b == 255) refl
  where
    fixed : Result (ℕ × ℕ) Fault
    fixed = do
      direct ← demand (is_direct b) Encoding (part.file_at + p)
      value ← in_table (encoded b (part.address + p + 1)) part (p + 1)
      Ok (value.0.value, value.1)

    value : (t : Bool) (r : Region64) → (b == 255) ≡ t → head_at part r p ≡ ((if t then Ok (r.start, p + 1) else fixed) >>= λ pads. rest_of_head part pads.0 pads.1)
    value t r e = ap (λ s. s >>= λ start. pads_start part r start.0 p >>= λ pads. rest_of_head part pads.0 pads.1) read ∙
        ap (λ c. (if c then Ok (r.start, p + 1) else fixed) >>= λ pads. rest_of_head part pads.0 pads.1) e

    by : (t : Bool) → (b == 255) ≡ t → head_at part other p ≡ Ok (moved h (if t then other.start else h.pads_from))
    by true e = value true other e ∙ rest_moves part region.start other.start (p + 1) h (sym (value true region e) ∙ head)
    by false e = value false other e ∙ sym (value false region e) ∙ head

-- ---- the sites
pub records_moved : (n : ℕ) (bytes : List ℕ) (file_at : ℕ) (h : Head) (x p : ℕ) → records_within n bytes file_at (moved h x) p ≡ records_within n bytes file_at h p
unfolding records_within record_at
records_moved zero bytes file_at h x p = refl
records_moved (suc n) bytes file_at h x p = by (nat_lt p h.actions_at) (record_at bytes file_at h p) (records_moved n bytes file_at h x)
  where
    by : (b : Bool) (r : Result (SiteRecord × ℕ) Fault) → ((q : ℕ) → records_within n bytes file_at (moved h x) q ≡ records_within n bytes file_at h q) →
        records_from b r (records_within n bytes file_at (moved h x)) ≡ records_from b r (records_within n bytes file_at h)
    by false r rest = refl
    by true (Err f) rest = refl
    by true (Ok (row, next)) rest = ap (λ s. record { records = row ∷ s.records; cut = s.cut }) (rest next)

-- ---- chains
links_moved : (n : ℕ) (part : Part) (h : Head) (x p : ℕ) → links_within n part (moved h x) p ≡ links_within n part h p
unfolding links_within
links_moved zero part h x p = refl
links_moved (suc n) part h x p = by (action_at part h p) (links_moved n part h x)
  where
    by : (a : Action) → ((q : ℕ) → links_within n part (moved h x) q ≡ links_within n part h q) → links_from p a (links_within n part (moved h x)) ≡ links_from p a (links_within n part h)
    by Outside rest = refl
    by (Ranged q) rest = refl
    by (Record filter Ends) rest = refl
    by (Record filter Leaves) rest = refl
    by (Record filter (Goes q)) rest = ap (λ c. record { links = record { at = p; filter = filter } ∷ c.links; ending = c.ending }) (rest q)

filter_moved : (memory : Memory) (part : Part) (h : Head) (x : ℕ) (types : Option Types) (named_at : ℕ) (f : ℤ) →
    filter_faults memory part (moved h x) types named_at f ≡ filter_faults memory part h types named_at f
unfolding entry_at
filter_moved memory part h x types named_at (pos zero) = refl
filter_moved memory part h x None named_at (pos (suc i)) = refl
filter_moved memory part h x None named_at (negsuc n) = refl
filter_moved memory part h x (Some types) named_at (pos (suc i)) = refl
filter_moved memory part h x (Some types) named_at (negsuc n) = refl

filters_moved : (memory : Memory) (part : Part) (h : Head) (x : ℕ) (ls : List Link) →
    flat_map (λ l. filter_faults memory part (moved h x) h.types l.at l.filter) ls ≡ flat_map (λ l. filter_faults memory part h h.types l.at l.filter) ls
filters_moved memory part h x [] = refl
filters_moved memory part h x (l ∷ ls) =
    ap (λ fs. fs ++ flat_map (λ l. filter_faults memory part (moved h x) h.types l.at l.filter) ls) (filter_moved memory part h x h.types l.at l.filter) ∙
    ap (λ fs. filter_faults memory part h h.types l.at l.filter ++ fs) (filters_moved memory part h x ls)

ending_moved : (part : Part) (h : Head) (x site a : ℕ) (e : Ending) → ending_faults part (moved h x) site a e ≡ ending_faults part h site a e
ending_moved part h x site a ended = refl
ending_moved part h x site a outside = refl
ending_moved part h x site a repeated = refl
ending_moved part h x site a (ranged p) = refl

chain_moved : (memory : Memory) (part : Part) (h : Head) (x : ℕ) (r : SiteRecord) (c : Chain) → chain_faults memory part (moved h x) r c ≡ chain_faults memory part h r c
chain_moved memory part h x r c =
    ap (λ fs. fs ++ ending_faults part (moved h x) r.at r.action c.ending) (filters_moved memory part h x c.links) ∙
    ap (λ fs. flat_map (λ l. filter_faults memory part h h.types l.at l.filter) c.links ++ fs) (ending_moved part h x r.at r.action c.ending)

pub action_moved : (memory : Memory) (part : Part) (h : Head) (x : ℕ) (r : SiteRecord) → action_faults memory part (moved h x) r ≡ action_faults memory part h r
action_moved memory part h x r =
    ap (λ c. if r.action == 0 then [] else chain_faults memory part (moved h x) r c) (links_moved (1 + length part.bytes) part h x (first_record h r.action)) ∙
    ap (λ fs. if r.action == 0 then [] else fs) (chain_moved memory part h x r (chain_of part h r.action))
