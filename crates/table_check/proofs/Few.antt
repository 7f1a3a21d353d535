-- There are no more FDEs, and no more sites of one table, than bytes.
use Rattle.std.proofs.Common.{◌≡◌, ◌+◌, ◌≤◌, ◌^◌, ◌-◌, ℕ, zero, suc, Bool, true, false, List, [], ◌∷◌, length, Option, Some, None, Result, Ok, Err, refl, ap, subst, ◌∙◌, ◌++◌, arith, nat_lt, nat_le, take, if◌then◌else◌}
use Rattle.std.proofs.lemmas.List.{length-map}
use Rattle.std.specs.Prelude.{find, IsOkAnd}
use Rattle.std.specs.List.{AllByRecursion}
use Rattle.std.specs.Int.{w32}
use Rattle.eh_bytes.specs.declared.frames.Region64.{Region64}
use Rattle.eh_bytes.specs.Field.{fixed}
use Rattle.eh_bytes.specs.Memory.{Part, Memory, part_with, covers}
use Rattle.table_forms.specs.declared.reason.Reason.TheVariants.{TableTruncated, FrameTruncated}
use Rattle.table_forms.specs.Fault.{Fault, fault, least, answer}
use Rattle.table_forms.specs.Instruction.{in_frames}
use Rattle.table_forms.specs.Fde.{Fde}
use Rattle.table_forms.specs.Spans.{spans_after, spans_from, spans_within}
use Rattle.table_forms.specs.Parts.{cies_of, parts_at}
use Rattle.table_forms.specs.Header.{header_at}
use Rattle.table_forms.specs.Frames.{Frames, is_earlier, put_in, sorted, parts_in, parts_behind, table_disagreement, frames_in, frames_from, frames}
use Rattle.table_forms.specs.LsdaHead.{Head, head_at}
use Rattle.table_forms.specs.LsdaSites.{SiteRecord, record_at, records_from, records_within, site_records, site_of}
use Rattle.table_forms.specs.Lsda.{Table, table_faults, table_of, lsda_in, lsda_from, lsda}
use Rattle.elf_image.specs.Loads.{IsSmall}
use Rattle.table_check.proofs.Read.{IfRead, bind, read_at, answered, unread}
use Rattle.table_check.proofs.Bounds.{Ends, fdes_end, fdes_few}

-- ---- FDEs
spans_few : (n : ℕ) (part : Part) (p : ℕ) → length (spans_within n part p).list ≤ n
unfolding spans_within
spans_few zero part p = omega arith
spans_few (suc n) part p = by (λ q. spans_few n part q) (nat_lt p (length part.bytes)) (in_frames (fixed w32) part (length part.bytes) p)
  where
    after : ((q : ℕ) → length (spans_within n part q).list ≤ n) → (b : Bool) (at stop : ℕ) → length (spans_after part p b (record { at = at; stop = stop }) (spans_within n part)).list ≤ suc n
    after few true at stop = let here = few stop in omega (arith, here)
    after few false at stop = omega arith

    by : ((q : ℕ) → length (spans_within n part q).list ≤ n) → (b : Bool) (r : Result (ℕ × ℕ) Fault) → length (spans_from part p b r (spans_within n part)).list ≤ suc n
    by few false r = omega arith
    by few true (Err f) = omega arith
    by few true (Ok (zero, next)) = omega arith
    by few true (Ok (suc m, next)) = after few (nat_le (next + suc m) (length part.bytes)) p (next + suc m)

-- what holds of the FDEs of a memory of small parts
pub record AreSound (fdes : List Fde) : Type 0 where
  pub end : AllByRecursion Ends fdes
  pub few : length fdes ≤ 2 ^ 30

none_sound : AreSound []
none_sound = record { end = tt; few = omega arith }

parts_sound : (part : Part) (p : ℕ) → IsSmall part → AreSound (parts_at part p).fdes
unfolding parts_at
parts_sound part p small =
    let spans = spans_within (length part.bytes) part p in
    let few = fdes_few part (cies_of part spans.list) spans.list in
    let all = spans_few (length part.bytes) part p in
    record { end = fdes_end part (cies_of part spans.list) spans.list; few = omega (arith, few, all, small) }

found : (P : Part → Type 0) (test : Part → Bool) (parts : List Part) (part : Part) → AllByRecursion P parts → find test parts ≡ Some part → P part
found P test [] part all is = absurd cc
found P test (q ∷ parts) part all is = by (found P test parts part all.1) (test q) is
  where
    same : (x y : Part) → Some x ≡ Some y → x ≡ y
    same x y e = cc

    by : (find test parts ≡ Some part → P part) → (b : Bool) → (if b then Some q else find test parts) ≡ Some part → P part
    by later true is = subst P (same q part is) all.0
    by later false is = later is

pub part_small : (memory : Memory) (a : ℕ) (part : Part) → AllByRecursion IsSmall memory → part_with memory a ≡ Some part → IsSmall part
part_small memory a part small is = found IsSmall (λ q. covers q a) memory part small is

behind_sound : (memory : Memory) (pointer_place : ℕ) (o : Option ℕ) → AllByRecursion IsSmall memory → AreSound (parts_behind memory pointer_place o).fdes
behind_sound memory pointer_place None small = none_sound
behind_sound memory pointer_place (Some a) small = by (part_with memory a) refl
  where
    by : (o : Option Part) → part_with memory a ≡ o → AreSound (parts_in pointer_place o a).fdes
    by None is = none_sound
    by (Some part) is = parts_sound part (a - part.address) (part_small memory a part small is)

frames_sound : (memory : Memory) (header : ℕ) → AllByRecursion IsSmall memory → IfRead (λ d. AreSound d.fdes) (frames memory header)
unfolding frames frames_in
frames_sound memory header small = by (part_with memory header)
  where
    by : (o : Option Part) → IfRead (λ d. AreSound d.fdes) (frames_from memory header o)
    by None = unread {A = Frames} (λ d. AreSound d.fdes) (fault FrameTruncated 0)
    by (Some part) =
        let p = header - part.address in
        let h = header_at part p in
        let parts = parts_behind memory (part.file_at + (p + 4)) h.frames_at in
        bind {A = Bool} {B = Frames} (λ d. AreSound d.fdes) (answer (least (h.faults ++ parts.faults)) true) _
        (λ whole _. answered {A = Frames} (λ d. AreSound d.fdes) (table_disagreement (part.file_at + (p + 12)) h.rows parts.fdes) (record { cies = parts.cies; fdes = parts.fdes })
        (behind_sound memory (part.file_at + (p + 4)) h.frames_at small))

-- ---- the order
put_sound : (P : Fde → Type 0) (f : Fde) (fs : List Fde) → P f → AllByRecursion P fs → AllByRecursion P (put_in f fs)
put_sound P f [] one all = (one, tt)
put_sound P f (g ∷ fs) one all = by (is_earlier f g) (put_sound P f fs one all.1)
  where
    by : (b : Bool) → AllByRecursion P (put_in f fs) → AllByRecursion P (if b then f ∷ g ∷ fs else g ∷ put_in f fs)
    by true more = (one, all)
    by false more = (all.0, more)

put_length : (f : Fde) (fs : List Fde) → length (put_in f fs) ≡ suc (length fs)
put_length f [] = refl
put_length f (g ∷ fs) = by (is_earlier f g) (put_length f fs)
  where
    by : (b : Bool) → length (put_in f fs) ≡ suc (length fs) → length (if b then f ∷ g ∷ fs else g ∷ put_in f fs) ≡ suc (suc (length fs))
    by true more = refl
    by false more = ap suc more

pub sorted_all : (P : Fde → Type 0) (fs : List Fde) → AllByRecursion P fs → AllByRecursion P (sorted fs)
sorted_all P [] all = tt
sorted_all P (f ∷ fs) all = put_sound P f (sorted fs) all.0 (sorted_all P fs all.1)

pub sorted_length : (fs : List Fde) → length (sorted fs) ≡ length fs
sorted_length [] = refl
sorted_length (f ∷ fs) = put_length f (sorted fs) ∙ ap suc (sorted_length fs)

pub order_sound : (memory : Memory) (header : ℕ) (d : Frames) → AllByRecursion IsSmall memory → frames memory header ≡ Ok d → AreSound (sorted d.fdes)
order_sound memory header d small is =
    let s = read_at {A = Frames} (λ x. AreSound x.fdes) (frames memory header) d is (frames_sound memory header small) in
    let few = s.few in
    record { end = sorted_all Ends d.fdes s.end; few = omega (arith, few, sorted_length d.fdes) }

-- ---- sites
records_few : (n : ℕ) (bytes : List ℕ) (file_at : ℕ) (h : Head) (p : ℕ) → length (records_within n bytes file_at h p).records ≤ n
unfolding records_within
records_few zero bytes file_at h p = omega arith
records_few (suc n) bytes file_at h p = by (λ q. records_few n bytes file_at h q) (nat_lt p h.actions_at) (record_at bytes file_at h p)
  where
    by : ((q : ℕ) → length (records_within n bytes file_at h q).records ≤ n) → (b : Bool) (r : Result (SiteRecord × ℕ) Fault) → length (records_from b r (records_within n bytes file_at h)).records ≤ suc n
    by few false r = omega arith
    by few true (Err f) = omega arith
    by few true (Ok (row, next)) = let here = few next in omega (arith, here)

-- at most one more than the bytes of 1 GiB
abbrev pub HasFew : Table → Type 0
HasFew t = length t.sites ≤ 2 ^ 30 + 1

table_few : (memory : Memory) (part : Part) (region : Region64) (h : Head) → IsSmall part → HasFew (table_of memory part region h)
unfolding table_of
table_few memory part region h small =
    let few = records_few (1 + length part.bytes) (take h.actions_at part.bytes) part.file_at h h.sites_at in
    omega (arith, few, small, length-map (site_records part h).records (site_of h region))

lsda_few : (memory : Memory) (address : ℕ) (region : Region64) → AllByRecursion IsSmall memory → IfRead HasFew (lsda memory address region)
unfolding lsda lsda_in
lsda_few memory address region small = by (part_with memory address) refl
  where
    by : (o : Option Part) → part_with memory address ≡ o → IfRead HasFew (lsda_from memory address region o)
    by None is = unread {A = Table} HasFew (fault TableTruncated 0)
    by (Some part) is =
        bind {A = Head} {B = Table} HasFew (head_at part region (address - part.address)) _
        (λ h _. answered {A = Table} HasFew (least (table_faults memory part region h)) (table_of memory part region h) (table_few memory part region h (part_small memory address part small is)))

pub sites_few : (memory : Memory) (address : ℕ) (region : Region64) (t : Table) → AllByRecursion IsSmall memory → lsda memory address region ≡ Ok t → HasFew t
sites_few memory address region t small is = read_at {A = Table} HasFew (lsda memory address region) t is (lsda_few memory address region small)

pub counted_few : (memory : Memory) (address : ℕ) (region : Region64) (n : ℕ) → AllByRecursion IsSmall memory → IsOkAnd (lsda memory address region) (λ t. length t.sites ≡ n) → n ≤ 2 ^ 30 + 1
counted_few memory address region n small counted = by (lsda memory address region) refl counted
  where
    by : (r : Result Table Fault) → lsda memory address region ≡ r → IsOkAnd r (λ t. length t.sites ≡ n) → n ≤ 2 ^ 30 + 1
    by (Ok t) read count = let few = sites_few memory address region t small read in omega (arith, few, count)
    by (Err f) read count = absurd count
