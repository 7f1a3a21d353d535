-- A packed table shares no byte with another table or with anything else that is read.
use Rattle.std.proofs.Common.{◌≡◌, ◌+◌, ◌-◌, ◌<◌, ◌≤◌, ℕ, Bool, true, false, not, nat_lt, nat_le, List, [], ◌∷◌, ◌++◌, length, refl, ap, sym, subst, ◌∙◌, arith, ◌⊎◌, inl, inr}
use Rattle.std.specs.Prelude.{⊤, Some, max, min, find, fold, flat_map, ◌||◌, if◌then◌else◌}
use Rattle.std.specs.List.{AllByRecursion, list_any}
use Rattle.std.proofs.lemmas.Bool.Decides.{nat_tests}
use Rattle.table_forms.specs.declared.reason.Reason.TheVariants.{TableShared, FileShared}
use Rattle.table_forms.specs.Fault.{fault, unless}
use Rattle.table_forms.proofs.Alls.{all_more}
use Rattle.elf_image.specs.declared.program.ProgramHeader.{ProgramHeader}
use Rattle.elf_image.specs.Runtime.{has_address}
use Rattle.lsda_pack.specs.PackedImage.{rewritten}
use Rattle.lsda_pack.specs.Placed.{Placed}
use Rattle.lsda_pack.specs.SharedFile.{meet_in_file, file_faults}
use Rattle.lsda_pack.specs.SharedTables.{Extent, with_table, with_extent, with_file, among_tables}
use Rattle.lsda_pack.proofs.LsdaFrame.{both_none}
use Rattle.lsda_pack.proofs.Rewrites.{IsOutside, all_outside}
use Rattle.lsda_pack.proofs.Segments.{FileStays}
use Rattle.lsda_pack.proofs.Sizes.{FitsIn}

-- segments of which no two have one byte of the file
abbrev pub NoneMeet : List ProgramHeader → Type 0
NoneMeet [] = ⊤
NoneMeet (h ∷ hs) = AllByRecursion (λ k. meet_in_file k h ≡ false) hs × NoneMeet hs

none_of : (test : ProgramHeader → Bool) (hs : List ProgramHeader) → list_any test hs ≡ false → AllByRecursion (λ h. test h ≡ false) hs
none_of test [] none = tt
none_of test (h ∷ hs) none = by (test h) (list_any test hs) refl refl none (λ f. none_of test hs f)
  where
    by : (b c : Bool) → test h ≡ b → list_any test hs ≡ c → (b || c) ≡ false → (list_any test hs ≡ false → AllByRecursion (λ k. test k ≡ false) hs) → (test h ≡ false) × AllByRecursion (λ k. test k ≡ false) hs
    by true c e f n later = absurd cc
    by false true e f n later = absurd cc
    by false false e f n later = (e, later f)

no_fault : (b : Bool) (place : ℕ) → unless (not b) FileShared place ≡ [] → b ≡ false
no_fault true place e = absurd cc
no_fault false place e = refl

joined_all : (h : ProgramHeader) (rest earlier : List ProgramHeader) → AllByRecursion (λ e. meet_in_file h e ≡ false) earlier →
    AllByRecursion (λ e. AllByRecursion (λ k. meet_in_file k e ≡ false) rest) earlier → AllByRecursion (λ e. AllByRecursion (λ k. meet_in_file k e ≡ false) (h ∷ rest)) earlier
joined_all h rest [] one more = tt
joined_all h rest (e ∷ es) one more = ((one.0, more.0), joined_all h rest es one.1 more.1)

files_apart : (earlier hs : List ProgramHeader) → file_faults earlier hs ≡ [] → AllByRecursion (λ e. AllByRecursion (λ k. meet_in_file k e ≡ false) hs) earlier × NoneMeet hs
files_apart earlier [] none = (nothing earlier, tt)
  where
    nothing : (es : List ProgramHeader) → AllByRecursion (λ e. AllByRecursion (λ k. meet_in_file k e ≡ false) []) es
    nothing [] = tt
    nothing (e ∷ es) = (tt, nothing es)
files_apart earlier (h ∷ hs) none =
    let two = both_none (unless (not (list_any (meet_in_file h) earlier)) FileShared h.place) (file_faults (h ∷ earlier) hs) none in
    let own = none_of (meet_in_file h) earlier (no_fault (list_any (meet_in_file h) earlier) h.place two.0) in
    let more = files_apart (h ∷ earlier) hs two.1 in
    (joined_all h hs earlier own more.0.1, (more.0.0, more.1))

pub none_meet : (hs : List ProgramHeader) → file_faults [] hs ≡ [] → NoneMeet hs
none_meet hs none = (files_apart [] hs none).1

found_holds : (P : ProgramHeader → Type 0) (test : ProgramHeader → Bool) (hs : List ProgramHeader) (h : ProgramHeader) → AllByRecursion P hs → find test hs ≡ Some h → P h
found_holds P test [] h all found = absurd cc
found_holds P test (x ∷ hs) h all found = by (test x) found (λ f. found_holds P test hs h all.1 f)
  where
    by : (b : Bool) → (if b then Some x else find test hs) ≡ Some h → (find test hs ≡ Some h → P h) → P h
    by true e later = let same : x ≡ h = cc in subst P same all.0
    by false e later = later e

-- two segments that are found are one, or have no common byte
abbrev pub OneOrApart : ProgramHeader → ProgramHeader → Type 0
OneOrApart h k = (h ≡ k) ⊎ ((meet_in_file h k ≡ false) ⊎ (meet_in_file k h ≡ false))

pub one_or_apart : (hs : List ProgramHeader) (a b : ℕ) (h k : ProgramHeader) → NoneMeet hs → find (has_address a) hs ≡ Some h → find (has_address b) hs ≡ Some k → OneOrApart h k
one_or_apart [] a b h k apart found found' = absurd cc
one_or_apart (x ∷ hs) a b h k apart found found' = by (has_address a x) (has_address b x) found found' (λ e f. one_or_apart hs a b h k apart.1 e f)
  where
    by : (p q : Bool) → (if p then Some x else find (has_address a) hs) ≡ Some h → (if q then Some x else find (has_address b) hs) ≡ Some k →
        (find (has_address a) hs ≡ Some h → find (has_address b) hs ≡ Some k → OneOrApart h k) → OneOrApart h k
    by true true e f later = inl (let one : x ≡ h = cc in let two : x ≡ k = cc in sym one ∙ two)
    by true false e f later =
        let one : x ≡ h = cc in
        inr (inr (subst (λ y. meet_in_file k y ≡ false) one (found_holds (λ y. meet_in_file y x ≡ false) (has_address b) hs k apart.0 f)))
    by false true e f later =
        let two : x ≡ k = cc in
        inr (inl (subst (λ y. meet_in_file h y ≡ false) two (found_holds (λ y. meet_in_file y x ≡ false) (has_address a) hs h apart.0 e)))
    by false false e f later = later e f

both_have : (h k : ProgramHeader) (n : ℕ) → meet_in_file h k ≡ false → h.offset ≤ n → n < h.offset + h.file_size → k.offset ≤ n → n < k.offset + k.file_size → ⊥
both_have h k n none a b c d =
    let yes : meet_in_file h k ≡ true = grind (arith, nat_tests, a, b, c, d) in
    let f : true ≡ false = sym yes ∙ none in cc

-- a table that is written, in a segment of the file
pub record Lies (size : ℕ) (hs : List ProgramHeader) (t : Placed) : Type 0 where
  pub load : ProgramHeader
  pub found : find (has_address t.first) hs ≡ Some load
  pub low : load.address ≤ t.first
  pub place : t.place ≡ load.offset + (t.first - load.address)
  pub inside : t.place + (t.end - t.first) ≤ load.offset + load.file_size
  pub fits : FitsIn size t

-- an address that a table does not have is no place of it in the file
pub outside : (size : ℕ) (hs : List ProgramHeader) (t : Placed) (q : ProgramHeader) (b k : ℕ) → NoneMeet hs → Lies size hs t → find (has_address b) hs ≡ Some q → k < q.file_size →
    (q.address + k < t.first) ⊎ (t.end ≤ q.address + k) → IsOutside (q.offset + k) t
outside size hs t q b k apart lies found less other = by (nat_lt n t.place) (nat_le (t.place + (t.end - t.first)) n) refl refl
  where
    n : ℕ
    n = q.offset + k

    by : (x y : Bool) → nat_lt (q.offset + k) t.place ≡ x → nat_le (t.place + (t.end - t.first)) (q.offset + k) ≡ y → IsOutside (q.offset + k) t
    by true y e f = inl (grind (arith, nat_tests, e))
    by false true e f = inr (grind (arith, nat_tests, f))
    by false false e f =
        let from : t.place ≤ q.offset + k = grind (arith, nat_tests, e) in
        let to : q.offset + k < t.place + (t.end - t.first) = grind (arith, nat_tests, f) in
        absurd (cases from to (one_or_apart hs t.first b lies.load q apart lies.found found))
      where
        same_load : t.place ≤ q.offset + k → q.offset + k < t.place + (t.end - t.first) → q.offset ≡ lies.load.offset → q.address ≡ lies.load.address →
            (q.address + k < t.first) ⊎ (t.end ≤ q.address + k) → ⊥
        same_load from to offset address (inl before) = let low = lies.low in let place = lies.place in omega (arith, from, to, offset, address, before, low, place)
        same_load from to offset address (inr behind) = let low = lies.low in let place = lies.place in omega (arith, from, to, offset, address, behind, low, place)

        cases : t.place ≤ q.offset + k → q.offset + k < t.place + (t.end - t.first) → OneOrApart lies.load q → ⊥
        cases from to (inl one) = same_load from to (sym (ap (λ h. h.offset) one)) (sym (ap (λ h. h.address) one)) other
        cases from to (inr (inl none)) =
            let place = lies.place in
            let inside = lies.inside in
            both_have lies.load q (q.offset + k) none (omega (arith, from, place)) (omega (arith, to, inside)) (omega arith) (omega (arith, less))
        cases from to (inr (inr none)) =
            let place = lies.place in
            let inside = lies.inside in
            both_have q lies.load (q.offset + k) none (omega arith) (omega (arith, less)) (omega (arith, from, place)) (omega (arith, to, inside))

-- what has no common address
pub apart_second : (f1 e1 f2 e2 a : ℕ) → nat_lt (max f1 f2) (min e1 e2) ≡ false → f2 ≤ a → a < e2 → (a < f1) ⊎ (e1 ≤ a)
apart_second f1 e1 f2 e2 a none low high = by (nat_lt a f1) refl
  where
    by : (b : Bool) → nat_lt a f1 ≡ b → (a < f1) ⊎ (e1 ≤ a)
    by true e = inl (grind (arith, nat_tests, e))
    by false e =
        let from : f1 ≤ a = grind (arith, nat_tests, e) in
        let over : min e1 e2 ≤ max f1 f2 = grind (arith, nat_tests, none) in
        inr (omega (arith, over, from, low, high))

pub apart_first : (f1 e1 f2 e2 a : ℕ) → nat_lt (max f1 f2) (min e1 e2) ≡ false → f1 ≤ a → a < e1 → (a < f2) ⊎ (e2 ≤ a)
apart_first f1 e1 f2 e2 a none low high = by (nat_lt a f2) refl
  where
    by : (b : Bool) → nat_lt a f2 ≡ b → (a < f2) ⊎ (e2 ≤ a)
    by true e = inl (grind (arith, nat_tests, e))
    by false e =
        let from : f2 ≤ a = grind (arith, nat_tests, e) in
        let over : min e1 e2 ≤ max f1 f2 = grind (arith, nat_tests, none) in
        inr (omega (arith, over, from, low, high))

pub none_shared : (b : Bool) (place : ℕ) → (if b then fault TableShared place ∷ [] else []) ≡ [] → b ≡ false
none_shared true place e = absurd cc
none_shared false place e = refl

pub extent_apart : (t : Placed) (e : Extent) (a : ℕ) → with_extent t e ≡ [] → e.first ≤ a → a < e.end → (a < t.first) ⊎ (t.end ≤ a)
extent_apart t e a none low high =
    apart_second t.first t.end e.first e.end a (none_shared (nat_lt (max t.first e.first) (min t.end e.end)) (max t.place e.place) none) low high

pub table_behind : (t u : Placed) (a : ℕ) → with_table t u ≡ [] → t.first ≤ a → a < t.end → (a < u.first) ⊎ (u.end ≤ a)
table_behind t u a none low high =
    apart_first t.first t.end u.first u.end a (none_shared (nat_lt (max t.first u.first) (min t.end u.end)) (max t.place u.place) none) low high

pub table_before : (t u : Placed) (a : ℕ) → with_table u t ≡ [] → t.first ≤ a → a < t.end → (a < u.first) ⊎ (u.end ≤ a)
table_before t u a none low high =
    apart_second u.first u.end t.first t.end a (none_shared (nat_lt (max u.first t.first) (min u.end t.end)) (max u.place t.place) none) low high

pub file_apart : (t : Placed) (first end n : ℕ) → t.place + (t.end - t.first) ≤ t.file_end → with_file t (first, end) ≡ [] → first ≤ n → n < end → IsOutside n t
file_apart t first end n inside none low high =
    let size = t.place + (t.end - t.first) in
    let no = none_shared (nat_lt (max t.place first) (min (min size t.file_end) end)) (max t.place first) none in
    let whole : min size t.file_end ≡ size = omega (arith, inside) in
    apart_second t.place size first end n (subst (λ m. nat_lt (max t.place first) (min m end) ≡ false) whole no) low high

-- where no table has an address of a range the file stays
pub range_stays : (file : List ℕ) (hs : List ProgramHeader) (chosen : List Placed) (q : ProgramHeader) (b from end : ℕ) → NoneMeet hs → AllByRecursion (Lies (length file) hs) chosen →
    find (has_address b) hs ≡ Some q → AllByRecursion (λ t. (a : ℕ) → from ≤ a → a < end → (a < t.first) ⊎ (t.end ≤ a)) chosen →
    FileStays q (from - q.address) (end - q.address) file (fold rewritten file chosen)
range_stays file hs chosen q b from end apart lies found free k low high less =
    all_outside chosen file (q.offset + k) (all_more (Lies (length file) hs) (FitsIn (length file)) (λ t l. l.fits) chosen lies)
    (each chosen lies free)
  where
    each : (ts : List Placed) → AllByRecursion (Lies (length file) hs) ts → AllByRecursion (λ t. (a : ℕ) → from ≤ a → a < end → (a < t.first) ⊎ (t.end ≤ a)) ts →
        AllByRecursion (IsOutside (q.offset + k)) ts
    each [] ls fs = tt
    each (t ∷ ts) ls fs = (outside (length file) hs t q b k apart ls.0 found less (fs.0 (q.address + k) (omega (arith, low)) (omega (arith, high))), each ts ls.1 fs.1)

-- tables of which no two share an address
pub flat_none : {X Y : Type 0} (f : X → List Y) (xs : List X) → flat_map f xs ≡ [] → AllByRecursion (λ x. f x ≡ []) xs
flat_none f [] none = tt
flat_none f (x ∷ xs) none = let two = none_both (f x) (flat_map f xs) none in (two.0, flat_none f xs two.1)
  where
    none_both : {Z : Type 0} (ys zs : List Z) → ys ++ zs ≡ [] → (ys ≡ []) × (zs ≡ [])
    none_both [] zs e = (refl, e)
    none_both (y ∷ ys) zs e = absurd cc

pub split_apart : (before after : List Placed) (t : Placed) → among_tables (before ++ t ∷ after) ≡ [] →
    AllByRecursion (λ u. with_table u t ≡ []) before × AllByRecursion (λ u. with_table t u ≡ []) after
split_apart [] after t none = let two = both_none (flat_map (with_table t) after) (among_tables after) none in (tt, flat_none (with_table t) after two.0)
split_apart (u ∷ before) after t none =
    let two = both_none (flat_map (with_table u) (before ++ t ∷ after)) (among_tables (before ++ t ∷ after)) none in
    let rest = split_apart before after t two.1 in
    ((middle before (flat_none (with_table u) (before ++ t ∷ after) two.0), rest.0), rest.1)
  where
    middle : (bs : List Placed) → AllByRecursion (λ v. with_table u v ≡ []) (bs ++ t ∷ after) → with_table u t ≡ []
    middle [] all = all.0
    middle (v ∷ bs) all = middle bs all.1
