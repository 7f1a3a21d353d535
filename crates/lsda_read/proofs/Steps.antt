-- A step of an iterator gives the first of what is left, and leaves the others.
use Rattle.std.proofs.Common.{◌≡◌, ◌≤◌, ◌+◌, ℕ, ℤ, zero, suc, Bool, true, false, List, [], ◌∷◌, map, length, Option, Some, None, Result, Ok, Err, refl, ap, sym, ◌∙◌, arith, nat_lt, ◌==◌, if◌then◌else◌}
use Rattle.std.proofs.lemmas.Bool.Decides.{nat_tests}
use Rattle.std.specs.Iterator.{YieldsFirst}
use Rattle.eh_bytes.specs.Memory.{Part}
use Rattle.table_forms.specs.declared.found.Next.{Next}
use Rattle.table_forms.specs.declared.found.Next.TheVariants.{Ends, Leaves, Goes}
use Rattle.table_forms.specs.declared.found.Action.TheVariants.{Record, Outside, Ranged}
use Rattle.table_forms.specs.Fault.{Fault}
use Rattle.table_forms.specs.LsdaHead.{Head, Types}
use Rattle.table_forms.specs.LsdaSites.{SiteRecord, record_at, records_from, records_within}
use Rattle.table_forms.specs.LsdaChain.{action_at, links_from, next_links, links_within}
use Rattle.table_forms.specs.LsdaTypes.{index_at, indices_from, indices_within, list_at, cut_by}
use Rattle.table_forms.proofs.Beyond.{uleb_behind}
use Rattle.lsda_read.specs.Left.{records_left, filters_left, indices_left, next_place, index_read, record_read, and_records, and_indices}

-- an iterator that gives nothing, of which nothing was and is left
pub ends : {A : Type 0} (old new : List A) (r : Option A) → r ≡ None → old ≡ [] → new ≡ [] → YieldsFirst (λ rest. rest) old r new
ends old new None none before after = (before, after)
ends old new (Some x) none before after = absurd cc

-- ---- chains
pub no_filter_left : (part : Part) (h : Head) (o : Option ℕ) → filters_left part h 0 o ≡ []
unfolding links_within
no_filter_left part h None = refl
no_filter_left part h (Some p) = refl

next_filters : (part : Part) (h : Head) (n : ℕ) (next : Next) →
    map (λ l. l.filter) (next_links next (links_within n part h)).links ≡ filters_left part h n (next_place next)
next_filters part h n Ends = refl
next_filters part h n Leaves = refl
next_filters part h n (Goes p) = refl

pub filter_first : (part : Part) (h : Head) (p n : ℕ) (filter : ℤ) (next : Next) → action_at part h p ≡ Record filter next →
    filters_left part h (suc n) (Some p) ≡ filter ∷ filters_left part h n (next_place next)
unfolding links_within
filter_first part h p n filter next read =
    ap (λ a. map (λ l. l.filter) (links_from p a (links_within n part h)).links) read ∙ ap (λ fs. filter ∷ fs) (next_filters part h n next)

pub filter_outside : (part : Part) (h : Head) (p n : ℕ) → action_at part h p ≡ Outside → filters_left part h (suc n) (Some p) ≡ []
unfolding links_within
filter_outside part h p n read = ap (λ a. map (λ l. l.filter) (links_from p a (links_within n part h)).links) read

pub filter_ranged : (part : Part) (h : Head) (p n q : ℕ) → action_at part h p ≡ Ranged q → filters_left part h (suc n) (Some p) ≡ []
unfolding links_within
filter_ranged part h p n q read = ap (λ a. map (λ l. l.filter) (links_from p a (links_within n part h)).links) read

-- ---- lists
pub no_index_left : (part : Part) (first : ℕ) (o : Option ℕ) → indices_left part first 0 o ≡ []
unfolding indices_within
no_index_left part first None = refl
no_index_left part first (Some p) = refl

by_index : (part : Part) (first n : ℕ) (r : Result (ℕ × ℕ) Fault) →
    (indices_from r (indices_within n part first)).indices ≡ and_indices (index_read r) (indices_left part first n)
by_index part first n (Err f) = refl
by_index part first n (Ok (zero, next)) = refl
by_index part first n (Ok (suc k, next)) =
    let some : (suc k == 0) ≡ false = grind (arith, nat_tests) in
    ap (λ b. and_indices (if b then None else Some (suc k, next)) (indices_left part first n)) (sym some)

pub index_first : (part : Part) (first n p : ℕ) → indices_left part first (suc n) (Some p) ≡ and_indices (index_read (index_at part first p)) (indices_left part first n)
unfolding indices_within
index_first part first n p = by_index part first n (index_at part first p)

-- a list behind the end of the bytes has no index
pub no_index_behind : (part : Part) (types : Types) (n : ℕ) → length part.bytes ≤ types.base + n → (list_at part types n).indices ≡ []
unfolding indices_within
no_index_behind part types n short =
    let first = types.base + n in
    ap (λ m. (indices_within m part first first).indices) (let e : 1 + length part.bytes ≡ suc (length part.bytes) = omega arith in e) ∙
    ap (λ r. (indices_from (cut_by part first first r) (indices_within (length part.bytes) part first)).indices) (uleb_behind first part.bytes short)

-- ---- sites
pub no_record_left : (bytes : List ℕ) (file_at : ℕ) (h : Head) (o : Option ℕ) → records_left bytes file_at h 0 o ≡ []
unfolding records_within
no_record_left bytes file_at h None = refl
no_record_left bytes file_at h (Some p) = refl

by_record : (bytes : List ℕ) (file_at : ℕ) (h : Head) (n : ℕ) (inside : Bool) (r : Result (SiteRecord × ℕ) Fault) →
    (records_from inside r (records_within n bytes file_at h)).records ≡ and_records (record_read inside r) (records_left bytes file_at h n)
by_record bytes file_at h n false r = refl
by_record bytes file_at h n true (Err f) = refl
by_record bytes file_at h n true (Ok (r, next)) = refl

pub record_first : (bytes : List ℕ) (file_at : ℕ) (h : Head) (n p : ℕ) →
    records_left bytes file_at h (suc n) (Some p) ≡ and_records (record_read (nat_lt p h.actions_at) (record_at bytes file_at h p)) (records_left bytes file_at h n)
unfolding records_within
record_first bytes file_at h n p = by_record bytes file_at h n (nat_lt p h.actions_at) (record_at bytes file_at h p)
