-- Exception tables that no program writes can be read whatever is written elsewhere.
use Rattle.std.proofs.Common.{◌≡◌, ◌∙◌, refl, ap, ℕ, zero, suc, ℤ, pos, negsuc, ◌+◌, ◌-◌, ◌*◌, ◌==◌, ◌||◌, nat_le, Bool, true, false, cond, List, [], ◌∷◌, ◌++◌, flat_map, Option, Some, None, Result, Ok, Err}
use Rattle.std.specs.Prelude.{is_some, is_ok}
use Rattle.eh_bytes.specs.declared.encoded.Pointer.{Pointer}
use Rattle.eh_bytes.specs.declared.frames.Region64.{Region64}
use Rattle.eh_bytes.specs.Encoded.{encoded}
use Rattle.eh_bytes.specs.Memory.{Part, Memory, part_with, word_at}
use Rattle.table_forms.specs.declared.reason.Reason.TheVariants.{SiteOrder, SiteOutside, PadOutside, FilterOutside}
use Rattle.table_forms.specs.Fault.{Fault, demand, refusal_of, least, answer, unless, ◌>>=◌}
use Rattle.table_forms.specs.LsdaHead.{Head, Types, head_at, in_table}
use Rattle.table_forms.specs.LsdaSites.{SiteRecord, site_records, site_of, site_faults}
use Rattle.table_forms.specs.LsdaChain.{Link, Chain, chain_of, ending_faults}
use Rattle.table_forms.specs.LsdaTypes.{stored, followed, entry_at, list_at, filter_faults}
use Rattle.table_forms.specs.Lsda.{Table, chain_faults, action_faults, records_faults, table_faults, table_of, lsda_in, lsda_from, lsda}
use Rattle.eh_run.proofs.Alike.{AreAlike, IsFixed, same_found, code_alike, word_alike}

same_flat : {A B : Type 0} (f g : A → List B) → ((x : A) → f x ≡ g x) → (xs : List A) → flat_map f xs ≡ flat_map g xs
same_flat f g same [] = refl
same_flat f g same (x ∷ xs) = ap (λ y. y ++ flat_map f xs) (same x) ∙ ap (λ y. g x ++ y) (same_flat f g same xs)

-- a word that is stored is refused or not, whatever it is
same_stored : (place : ℕ) (x y : Option ℕ) → is_some x ≡ is_some y → refusal_of (stored place x) ≡ refusal_of (stored place y)
same_stored place None None e = refl
same_stored place (Some a) (Some b) e = refl
same_stored place None (Some b) e = absurd cc
same_stored place (Some a) None e = absurd cc

same_followed : (ms ns : Memory) (place : ℕ) (indirect : Bool) (value : ℕ) → AreAlike ms ns →
    refusal_of (followed ms place indirect value) ≡ refusal_of (followed ns place indirect value)
same_followed ms ns place false value h = refl
same_followed ms ns place true value h = same_stored place (word_at ms value) (word_at ns value) (word_alike ms ns value h)

same_entry : (ms ns : Memory) (part : Part) (head : Head) (types : Types) (named_at i : ℕ) → AreAlike ms ns →
    refusal_of (entry_at ms part head types named_at i) ≡ refusal_of (entry_at ns part head types named_at i)
unfolding entry_at
same_entry ms ns part head types named_at i h =
    inside (demand (nat_le (head.actions_at + i * types.size) types.base) FilterOutside (part.file_at + named_at))
  where
    place : ℕ
    place = types.base - i * types.size

    entry : (r : Result (Pointer × ℕ) Fault) →
        refusal_of (r >>= λ (e : Pointer × ℕ). followed ms (part.file_at + place) e.0.indirect e.0.value) ≡
        refusal_of (r >>= λ (e : Pointer × ℕ). followed ns (part.file_at + place) e.0.indirect e.0.value)
    entry (Err f) = refl
    entry (Ok e) = same_followed ms ns (part.file_at + place) e.0.indirect e.0.value h

    inside : (r : Result Bool Fault) →
        refusal_of (r >>= λ (b : Bool). in_table (encoded types.encoding (part.address + place)) part place >>= λ (e : Pointer × ℕ). followed ms (part.file_at + place) e.0.indirect e.0.value) ≡
        refusal_of (r >>= λ (b : Bool). in_table (encoded types.encoding (part.address + place)) part place >>= λ (e : Pointer × ℕ). followed ns (part.file_at + place) e.0.indirect e.0.value)
    inside (Err f) = refl
    inside (Ok b) = entry (in_table (encoded types.encoding (part.address + place)) part place)

same_filter : (ms ns : Memory) (part : Part) (head : Head) (types : Option Types) (named_at : ℕ) (filter : ℤ) → AreAlike ms ns →
    filter_faults ms part head types named_at filter ≡ filter_faults ns part head types named_at filter
same_filter ms ns part head types named_at (pos zero) h = refl
same_filter ms ns part head None named_at (pos (suc i)) h = refl
same_filter ms ns part head None named_at (negsuc n) h = refl
same_filter ms ns part head (Some types) named_at (pos (suc i)) h = same_entry ms ns part head types named_at (suc i) h
same_filter ms ns part head (Some types) named_at (negsuc n) h =
    ap (λ (fs : List Fault). fs ++ (list_at part types n).cut)
    (same_flat (λ i. refusal_of (entry_at ms part head types named_at i)) (λ i. refusal_of (entry_at ns part head types named_at i))
    (λ i. same_entry ms ns part head types named_at i h) (list_at part types n).indices)

same_chain : (ms ns : Memory) (part : Part) (head : Head) (r : SiteRecord) (chain : Chain) → AreAlike ms ns →
    chain_faults ms part head r chain ≡ chain_faults ns part head r chain
same_chain ms ns part head r chain h =
    ap (λ (fs : List Fault). fs ++ ending_faults part head r.at r.action chain.ending)
    (same_flat (λ (l : Link). filter_faults ms part head head.types l.at l.filter) (λ (l : Link). filter_faults ns part head head.types l.at l.filter)
    (λ l. same_filter ms ns part head head.types l.at l.filter h) chain.links)

same_records : (ms ns : Memory) (part : Part) (region : Region64) (head : Head) (before : ℕ) (rs : List SiteRecord) → AreAlike ms ns →
    records_faults ms part region head before rs ≡ records_faults ns part region head before rs
same_records ms ns part region head before [] h = refl
same_records ms ns part region head before (r ∷ rs) h =
    let s = site_of head region r in
    let place = part.file_at + r.at in
    let begins : List Fault = unless (nat_le before s.start) SiteOrder place in
    let ends : List Fault = unless (nat_le s.end (region.start + region.length)) SiteOutside place in
    let pad = ap (λ (b : Bool). (begins ++ ends) ++ unless (s.pad == 0 || b) PadOutside place) (code_alike ms ns s.pad h) in
    let chain = ap (λ (fs : List Fault). cond (r.action == 0) [] fs) (same_chain ms ns part head r (chain_of part head r.action) h) in
    let rest = same_records ms ns part region head s.end rs h in
    ap (λ (fs : List Fault). (fs ++ action_faults ms part head r) ++ records_faults ms part region head s.end rs) pad ∙
    ap (λ (fs : List Fault). (site_faults ns place region before s ++ fs) ++ records_faults ms part region head s.end rs) chain ∙
    ap (λ (fs : List Fault). (site_faults ns place region before s ++ action_faults ns part head r) ++ fs) rest

same_table : (ms ns : Memory) (part : Part) (region : Region64) (head : Head) → AreAlike ms ns → table_faults ms part region head ≡ table_faults ns part region head
unfolding table_faults
same_table ms ns part region head h =
    ap (λ (fs : List Fault). fs ++ (site_records part head).cut) (same_records ms ns part region head 0 (site_records part head).records h)

same_in : (ms ns : Memory) (region : Region64) (p : ℕ) (part : Part) → AreAlike ms ns → is_ok (lsda_in ms region p part) ≡ is_ok (lsda_in ns region p part)
unfolding lsda_in
same_in ms ns region p part h = by (head_at part region p)
  where
    answered : (o : Option Fault) (x y : Table) → is_ok (answer o x) ≡ is_ok (answer o y)
    answered None x y = refl
    answered (Some f) x y = refl

    by : (r : Result Head Fault) →
        is_ok (r >>= λ head. answer (least (table_faults ms part region head)) (table_of ms part region head)) ≡
        is_ok (r >>= λ head. answer (least (table_faults ns part region head)) (table_of ns part region head))
    by (Err f) = refl
    by (Ok head) =
        ap (λ (fs : List Fault). is_ok (answer (least fs) (table_of ms part region head))) (same_table ms ns part region head h) ∙
        answered (least (table_faults ns part region head)) (table_of ms part region head) (table_of ns part region head)

-- a table that may not be written is refused or not, whatever is written elsewhere
pub same_readable : (ms ns : Memory) (address : ℕ) (region : Region64) → AreAlike ms ns → IsFixed (part_with ns address) →
    is_ok (lsda ms address region) ≡ is_ok (lsda ns address region)
unfolding lsda
same_readable ms ns address region h fixed =
    ap (λ (o : Option Part). is_ok (lsda_from ms address region o)) (same_found ms ns address h fixed) ∙ by (part_with ns address)
  where
    by : (o : Option Part) → is_ok (lsda_from ms address region o) ≡ is_ok (lsda_from ns address region o)
    by None = refl
    by (Some part) = same_in ms ns region (address - part.address) part h
