-- A chain of filters decides of an exception what its verdict says, and of a forced unwind whether it has a cleanup.
use Rattle.std.proofs.Common.{◌≡◌, ◌∙◌, refl, sym, ap, ℕ, zero, suc, ◌+◌, ◌==◌, ◌||◌, ℤ, pos, negsuc, Bool, true, false, List, [], ◌∷◌, map, Option, Some, None, if◌then◌else◌}
use Rattle.std.specs.Prelude.{find, not, slice_get}
use Rattle.std.specs.List.{AllByRecursion, list_any}
use Rattle.table_forms.specs.declared.found.Verdict.TheVariants.{Nothing, Cleanup}
use Rattle.table_forms.specs.Lsda.{Table}
use Rattle.table_forms.specs.Verdict.{Thrown, native, foreign, forced, stops, is_cleanup, decided}
use Rattle.region_forms.specs.Form.{TypeRow}
use Rattle.region_forms.specs.Guard.{matches, allows}
use Rattle.linear_forms.specs.Tables.{Sense, list_of, clause_sense, list_sense, list_bytes, type_at_index, sense_in}
use Rattle.linear_forms.specs.Verdict as linear
use Rattle.linear_forms.specs.Verdict.{target, no_way, clean, nothing_here, or_clean, judged, verdict, has_cleanup, some_cleanup}
use Rattle.personality.specs.Decided.{first_stops, decided_by}
use Rattle.table_verdicts.specs.Verdicts.{in_words, forced_judge}
use Rattle.table_verdicts.specs.Types.{thrown_as}
use Rattle.table_verdicts.proofs.Filters.{FilterMeans}

-- where a cleanup stands before
abbrev behind_clean : Bool → linear.Verdict → linear.Verdict
behind_clean true v = or_clean v
behind_clean false v = v

-- ---- a filter at the head of a chain
cleanup_first : (thrown : Thrown) (pad : ℕ) (c : Bool) (fs : List ℤ) (o : Option ℤ) → first_stops thrown pad c (pos 0 ∷ fs) o ≡ first_stops thrown pad true fs o
cleanup_first thrown pad true fs None = refl
cleanup_first thrown pad false fs None = refl
cleanup_first thrown pad c fs (Some f) = refl

clause_first : (thrown : Thrown) (pad i : ℕ) (c : Bool) (fs : List ℤ) (o : Option ℤ) → first_stops thrown pad c (pos (suc i) ∷ fs) o ≡ first_stops thrown pad c fs o
clause_first thrown pad i c fs None = refl
clause_first thrown pad i c fs (Some f) = refl

list_first : (thrown : Thrown) (pad n : ℕ) (c : Bool) (fs : List ℤ) (o : Option ℤ) → first_stops thrown pad c (negsuc n ∷ fs) o ≡ first_stops thrown pad c fs o
list_first thrown pad n c fs None = refl
list_first thrown pad n c fs (Some f) = refl

twice_clean : (c : Bool) (v : linear.Verdict) → or_clean v ≡ behind_clean c (or_clean v)
twice_clean false v = refl
twice_clean true nothing_here = refl
twice_clean true clean = refl
twice_clean true no_way = refl
twice_clean true (target n) = refl

kept_target : (c : Bool) (n : ℤ) → target n ≡ behind_clean c (target n)
kept_target true n = refl
kept_target false n = refl

kept_no_way : (c : Bool) → no_way ≡ behind_clean c no_way
kept_no_way true = refl
kept_no_way false = refl

nothing_left : (thrown : Thrown) (pad : ℕ) (c : Bool) → first_stops thrown pad c [] None ≡ in_words pad (behind_clean c nothing_here)
nothing_left thrown pad true = refl
nothing_left thrown pad false = refl

-- ---- chains
-- what is decided of an exception, where a cleanup stands before or not
abbrev Decides : Table → List TypeRow → ℕ → Option ℕ → (ℤ → Sense) → ℕ → List ℤ → Type 0
Decides table rows end t senses pad fs = (c : Bool) → decided_by table (thrown_as end rows t) pad c fs ≡ in_words pad (behind_clean c (verdict rows senses fs t))

-- the first filter, which stops the exception or not
after_first : (table : Table) (rows : List TypeRow) (end : ℕ) (t : Option ℕ) (pad : ℕ) (c b : Bool) (f : ℤ) (fs : List ℤ) → stops table (thrown_as end rows t) f ≡ b →
    decided_by table (thrown_as end rows t) pad c (f ∷ fs) ≡ first_stops (thrown_as end rows t) pad c (f ∷ fs) (if b then Some f else find (stops table (thrown_as end rows t)) fs)
after_first table rows end t pad c b f fs e = ap (λ x. first_stops (thrown_as end rows t) pad c (f ∷ fs) (if x then Some f else find (stops table (thrown_as end rows t)) fs)) e

clause_decides : (table : Table) (rows : List TypeRow) (end : ℕ) (t u : Option ℕ) (senses : ℤ → Sense) (pad i : ℕ) (fs : List ℤ) (b : Bool) → Decides table rows end t senses pad fs → (c : Bool) →
    first_stops (thrown_as end rows t) pad c (pos (suc i) ∷ fs) (if b then Some (pos (suc i)) else find (stops table (thrown_as end rows t)) fs) ≡
    in_words pad (behind_clean c (if b then target (pos (suc i)) else verdict rows senses fs t))
clause_decides table rows end t u senses pad i fs true more c = ap (in_words pad) (kept_target c (pos (suc i)))
clause_decides table rows end t u senses pad i fs false more c = clause_first (thrown_as end rows t) pad i c fs (find (stops table (thrown_as end rows t)) fs) ∙ more c

list_decides : (table : Table) (rows : List TypeRow) (end ty : ℕ) (senses : ℤ → Sense) (pad n : ℕ) (fs : List ℤ) (b : Bool) → Decides table rows end (Some ty) senses pad fs → (c : Bool) →
    first_stops (thrown_as end rows (Some ty)) pad c (negsuc n ∷ fs) (if not b then Some (negsuc n) else find (stops table (thrown_as end rows (Some ty))) fs) ≡
    in_words pad (behind_clean c (if b then verdict rows senses fs (Some ty) else target (negsuc n)))
list_decides table rows end ty senses pad n fs false more c = ap (in_words pad) (kept_target c (negsuc n))
list_decides table rows end ty senses pad n fs true more c = list_first (thrown_as end rows (Some ty)) pad n c fs (find (stops table (thrown_as end rows (Some ty))) fs) ∙ more c

chain_decides : (table : Table) (rows : List TypeRow) (end : ℕ) (t : Option ℕ) (senses : ℤ → Sense) (pad : ℕ) (fs : List ℤ) → AllByRecursion (FilterMeans table (thrown_as end rows t) rows t senses) fs →
    Decides table rows end t senses pad fs
chain_decides table rows end t senses pad [] all c = nothing_left (thrown_as end rows t) pad c
chain_decides table rows end t senses pad (pos zero ∷ fs) all c =
    let v = verdict rows senses fs t in
    after_first table rows end t pad c false (pos 0) fs all.0.0
    ∙ (cleanup_first (thrown_as end rows t) pad c fs (find (stops table (thrown_as end rows t)) fs) ∙ (chain_decides table rows end t senses pad fs all.1 true
    ∙ (ap (in_words pad) (twice_clean c v) ∙ ap (λ s. in_words pad (behind_clean c (judged rows t (pos 0) s v))) (sym all.0.1))))
chain_decides table rows end t senses pad (pos (suc i) ∷ fs) all c =
    let means = all.0 in
    let v = verdict rows senses fs t in
    after_first table rows end t pad c (matches rows t means.0) (pos (suc i)) fs means.2
    ∙ (clause_decides table rows end t means.0 senses pad i fs (matches rows t means.0) (chain_decides table rows end t senses pad fs all.1) c
    ∙ ap (λ s. in_words pad (behind_clean c (judged rows t (pos (suc i)) s v))) (sym means.1))
chain_decides table rows end None senses pad (negsuc n ∷ fs) all c =
    let means = all.0 in
    let v = verdict rows senses fs None in
    ap (in_words pad) (kept_no_way c) ∙ ap (λ s. in_words pad (behind_clean c (judged rows None (negsuc n) s v))) (sym means.1)
chain_decides table rows end (Some ty) senses pad (negsuc n ∷ fs) all c =
    let means = all.0 in
    let v = verdict rows senses fs (Some ty) in
    after_first table rows end (Some ty) pad c (not (allows rows means.0 (Some ty))) (negsuc n) fs means.2
    ∙ (list_decides table rows end ty senses pad n fs (allows rows means.0 (Some ty)) (chain_decides table rows end (Some ty) senses pad fs all.1) c
    ∙ ap (λ s. in_words pad (behind_clean c (judged rows (Some ty) (negsuc n) s v))) (sym means.1))

-- nothing stands before a chain
as_decided : (thrown : Thrown) (pad : ℕ) (fs : List ℤ) (o : Option ℤ) → decided thrown pad fs o ≡ first_stops thrown pad false fs o
as_decided (native ts) pad fs None = refl
as_decided foreign pad fs None = refl
as_decided forced pad fs None = refl
as_decided (native ts) pad fs (Some (pos i)) = refl
as_decided foreign pad fs (Some (pos i)) = refl
as_decided forced pad fs (Some (pos i)) = refl
as_decided (native ts) pad fs (Some (negsuc n)) = refl
as_decided foreign pad fs (Some (negsuc n)) = refl
as_decided forced pad fs (Some (negsuc n)) = refl

pub raised_decides : (table : Table) (rows : List TypeRow) (end : ℕ) (t : Option ℕ) (senses : ℤ → Sense) (pad : ℕ) (fs : List ℤ) → AllByRecursion (FilterMeans table (thrown_as end rows t) rows t senses) fs →
    decided (thrown_as end rows t) pad fs (find (stops table (thrown_as end rows t)) fs) ≡ in_words pad (verdict rows senses fs t)
raised_decides table rows end t senses pad fs all =
    as_decided (thrown_as end rows t) pad fs (find (stops table (thrown_as end rows t)) fs) ∙ chain_decides table rows end t senses pad fs all false

-- a pad without filters
pub alone_decides : (table : Table) (rows : List TypeRow) (end : ℕ) (t : Option ℕ) (pad : ℕ) →
    decided (thrown_as end rows t) pad (pos 0 ∷ []) (find (stops table (thrown_as end rows t)) (pos 0 ∷ [])) ≡ Cleanup pad
alone_decides table rows end None pad = refl
alone_decides table rows end (Some ty) pad = refl

-- ---- forced unwinds
none_stops : (table : Table) (fs : List ℤ) → find (stops table forced) fs ≡ None
none_stops table [] = refl
none_stops table (f ∷ fs) = none_stops table fs

no_cleanup_list : (types : List ℕ) (lists : List (List ℕ)) (at n : ℕ) → linear.is_cleanup (list_sense types lists at n) ≡ false
no_cleanup_list types [] at n = refl
no_cleanup_list types (l ∷ lists) at n = by (at == n) (no_cleanup_list types lists (at + list_bytes l) n)
  where
    by : (b : Bool) → linear.is_cleanup (list_sense types lists (at + list_bytes l) n) ≡ false → linear.is_cleanup (if b then list_of (map (type_at_index types) l) else list_sense types lists (at + list_bytes l) n) ≡ false
    by true more = refl
    by false more = more

no_cleanup_clause : (o : Option ℕ) → linear.is_cleanup (clause_sense o) ≡ false
no_cleanup_clause None = refl
no_cleanup_clause (Some zero) = refl
no_cleanup_clause (Some (suc t)) = refl

cleanup_is : (types : List ℕ) (lists : List (List ℕ)) (f : ℤ) → linear.is_cleanup (sense_in types lists f) ≡ is_cleanup f
cleanup_is types lists (pos zero) = refl
cleanup_is types lists (pos (suc i)) = no_cleanup_clause (slice_get types i)
cleanup_is types lists (negsuc n) = no_cleanup_list types lists 0 n

as_or : (a b : Bool) → (if a then true else b) ≡ (a || b)
as_or true b = refl
as_or false b = refl

some_cleanup_is : (types : List ℕ) (lists : List (List ℕ)) (fs : List ℤ) → some_cleanup (sense_in types lists) fs ≡ list_any is_cleanup fs
some_cleanup_is types lists [] = refl
some_cleanup_is types lists (f ∷ fs) =
    ap (λ b. if b then true else some_cleanup (sense_in types lists) fs) (cleanup_is types lists f)
    ∙ (as_or (is_cleanup f) (some_cleanup (sense_in types lists) fs) ∙ ap (λ b. is_cleanup f || b) (some_cleanup_is types lists fs))

clean_words : (pad : ℕ) (b : Bool) → (if b then Cleanup pad else Nothing) ≡ in_words pad (if b then clean else nothing_here)
clean_words pad true = refl
clean_words pad false = refl

pub forced_decides : (table : Table) (types : List ℕ) (lists : List (List ℕ)) (pad : ℕ) (n : ℤ) (ns : List ℤ) →
    decided forced pad (n ∷ ns) (find (stops table forced) (n ∷ ns)) ≡ in_words pad (forced_judge (sense_in types lists) (n ∷ ns))
forced_decides table types lists pad n ns =
    ap (decided forced pad (n ∷ ns)) (none_stops table (n ∷ ns))
    ∙ (clean_words pad (list_any is_cleanup (n ∷ ns)) ∙ ap (λ b. in_words pad (if b then clean else nothing_here)) (sym (some_cleanup_is types lists (n ∷ ns))))
