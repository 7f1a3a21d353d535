-- The tables of the runtime's own functions say of their operations what is said of these.
use Rattle.std.proofs.Common.{◌≡◌, ◌∙◌, refl, ap, ℕ, zero, suc, ◌+◌, ℤ, true, List, [], ◌∷◌, ◌++◌, map, Option, Some, None, if◌then◌else◌}
use Rattle.std.specs.Prelude.{slice_get}
use Rattle.std.specs.List.{AllByRecursion}
use Rattle.region_forms.specs.Form.{TypeRow}
use Rattle.linear_forms.specs.Linear.{label}
use Rattle.linear_forms.specs.Tables.{Cover, bare, unpadded, padded, Sense, look_up, sense_in}
use Rattle.linear_forms.specs.Sites.{Placed, cover_in, site_at, single_sites, merged}
use Rattle.linear_forms.specs.Stub.{Function, compiled, end_catch, terminating, call_unexpected, StubRow, stub_rows, stub_cover, stub_sense}
use Rattle.linear_forms.specs.Verdict.{judged, verdict, pad_verdict, is_cleanup, some_cleanup, clean, nothing_here}
use Rattle.linear_forms.proofs.Merging.{sites_are_right}
use Rattle.machine_forms.specs.StubCode.{stub_types, row_sites, stub_sites}
use Rattle.table_verdicts.specs.Verdicts.{told_of, in_words, forced_judge}

-- ---- sites
-- rows as operations with their covers; which these are does not matter
abbrev as_placed : StubRow → Placed
as_placed row = record { op = label 0; cover = row.cover }

same_sites : (p : ℕ) (rows : List StubRow) → row_sites p rows ≡ single_sites p (map as_placed rows)
same_sites p [] = refl
same_sites p (row ∷ rows) = ap (λ sites. site_at p row.cover ++ sites) (same_sites (p + 1) rows)

cover_at : List StubRow → ℕ → Cover
cover_at rows p = elim (slice_get rows p) [ None ↦ bare | Some x ↦ x.cover ]

same_covers : (rows : List StubRow) (p : ℕ) → cover_in (map as_placed rows) p ≡ cover_at rows p
unfolding cover_at
same_covers [] p = refl
same_covers (row ∷ rows) zero = refl
same_covers (row ∷ rows) (suc p) = same_covers rows p

pub stub_look : (g : Function) (p : ℕ) → look_up (stub_sites (stub_rows g)) p ≡ stub_cover g p
unfolding cover_at
stub_look g p =
    let rows = stub_rows g in
    ap (λ sites. look_up (merged sites) p) (same_sites 0 rows) ∙ (sites_are_right.said (map as_placed rows) p ∙ same_covers rows p)

-- ---- filters
-- two meanings of filters are the same in a cover
abbrev AgreeIn : (ℤ → Sense) → (ℤ → Sense) → Cover → Type 0
AgreeIn one two bare = Unit {0}
AgreeIn one two unpadded = Unit {0}
AgreeIn one two (padded q chain) = AllByRecursion (λ n. one n ≡ two n) chain

agree_at : (one two : ℤ → Sense) (rows : List StubRow) (p : ℕ) → AllByRecursion (λ x. AgreeIn one two x.cover) rows → AgreeIn one two (cover_at rows p)
unfolding cover_at
agree_at one two [] p all = tt
agree_at one two (row ∷ rows) zero all = all.0
agree_at one two (row ∷ rows) (suc p) all = agree_at one two rows p all.1

stubs_agree : (g : Function) → AllByRecursion (λ x. AgreeIn (sense_in (stub_types g) []) stub_sense x.cover) (stub_rows g)
stubs_agree (compiled n) = tt
stubs_agree terminating = (tt, (tt, tt))
stubs_agree end_catch = (tt, ((refl, tt), (tt, (tt, (tt, (tt, (tt, tt)))))))
stubs_agree call_unexpected = (tt, ((refl, (refl, tt)), (tt, (tt, (tt, (tt, (tt, (tt, (tt, (tt, ((refl, tt), (tt, (tt, ((refl, tt), (tt, (tt, (tt, (tt, tt))))))))))))))))))

same_verdict : (rows : List TypeRow) (one two : ℤ → Sense) (chain : List ℤ) (t : Option ℕ) → AllByRecursion (λ n. one n ≡ two n) chain → verdict rows one chain t ≡ verdict rows two chain t
same_verdict rows one two [] t all = refl
same_verdict rows one two (n ∷ chain) t all =
    ap (λ s. judged rows t n s (verdict rows one chain t)) all.0 ∙ ap (judged rows t n (two n)) (same_verdict rows one two chain t all.1)

same_pad : (rows : List TypeRow) (one two : ℤ → Sense) (chain : List ℤ) (t : Option ℕ) → AllByRecursion (λ n. one n ≡ two n) chain → pad_verdict rows one chain t ≡ pad_verdict rows two chain t
same_pad rows one two [] t all = refl
same_pad rows one two (n ∷ chain) t all = same_verdict rows one two (n ∷ chain) t all

same_some : (one two : ℤ → Sense) (chain : List ℤ) → AllByRecursion (λ n. one n ≡ two n) chain → some_cleanup one chain ≡ some_cleanup two chain
same_some one two [] all = refl
same_some one two (n ∷ chain) all =
    ap (λ s. if is_cleanup s then true else some_cleanup one chain) all.0 ∙ ap (λ b. if is_cleanup (two n) then true else b) (same_some one two chain all.1)

same_forced : (one two : ℤ → Sense) (chain : List ℤ) → AllByRecursion (λ n. one n ≡ two n) chain → forced_judge one chain ≡ forced_judge two chain
same_forced one two [] all = refl
same_forced one two (n ∷ chain) all = ap (λ b. if b then clean else nothing_here) (same_some one two (n ∷ chain) all)

-- ---- what is told
told_raised : (at : ℕ → ℕ) (rows : List TypeRow) (one two : ℤ → Sense) (t : Option ℕ) (c : Cover) → AgreeIn one two c →
    told_of at c (λ chain. pad_verdict rows one chain t) ≡ told_of at c (λ chain. pad_verdict rows two chain t)
told_raised at rows one two t bare agree = refl
told_raised at rows one two t unpadded agree = refl
told_raised at rows one two t (padded q chain) agree = ap (in_words (at q)) (same_pad rows one two chain t agree)

told_forced : (at : ℕ → ℕ) (one two : ℤ → Sense) (c : Cover) → AgreeIn one two c → told_of at c (forced_judge one) ≡ told_of at c (forced_judge two)
told_forced at one two bare agree = refl
told_forced at one two unpadded agree = refl
told_forced at one two (padded q chain) agree = ap (in_words (at q)) (same_forced one two chain agree)

pub stub_raised : (at : ℕ → ℕ) (rows : List TypeRow) (g : Function) (p : ℕ) (t : Option ℕ) →
    told_of at (look_up (stub_sites (stub_rows g)) p) (λ chain. pad_verdict rows (sense_in (stub_types g) []) chain t) ≡ told_of at (stub_cover g p) (λ chain. pad_verdict rows stub_sense chain t)
unfolding cover_at
stub_raised at rows g p t =
    ap (λ c. told_of at c (λ chain. pad_verdict rows (sense_in (stub_types g) []) chain t)) (stub_look g p)
    ∙ told_raised at rows (sense_in (stub_types g) []) stub_sense t (stub_cover g p) (agree_at (sense_in (stub_types g) []) stub_sense (stub_rows g) p (stubs_agree g))

pub stub_forced : (at : ℕ → ℕ) (g : Function) (p : ℕ) →
    told_of at (look_up (stub_sites (stub_rows g)) p) (forced_judge (sense_in (stub_types g) [])) ≡ told_of at (stub_cover g p) (forced_judge stub_sense)
unfolding cover_at
stub_forced at g p =
    ap (λ c. told_of at c (forced_judge (sense_in (stub_types g) []))) (stub_look g p)
    ∙ told_forced at (sense_in (stub_types g) []) stub_sense (stub_cover g p) (agree_at (sense_in (stub_types g) []) stub_sense (stub_rows g) p (stubs_agree g))
