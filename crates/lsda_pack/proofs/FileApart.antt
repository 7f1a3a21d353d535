-- Segments that a sweep finds apart share no bytes of the file; and what is refused of them is what is defined.
use Rattle.std.proofs.Common.{◌≡◌, ◌+◌, ℕ, Bool, true, false, nat_lt, List, [], ◌∷◌, ◌++◌, map, not, None, refl, ap, sym, ◌∙◌, arith}
use Rattle.std.specs.Prelude.{max, min, ◌&&◌, ◌||◌}
use Rattle.std.specs.List.{AllByRecursion, list_any}
use Rattle.std.proofs.lemmas.Bool.Decides.{nat_tests}
use Rattle.table_forms.specs.declared.reason.Reason.TheVariants.{FileShared}
use Rattle.table_forms.specs.Fault.{least, unless}
use Rattle.elf_image.specs.declared.program.ProgramHeader.{ProgramHeader}
use Rattle.lsda_pack.specs.declared.reach.Taken.{Taken}
use Rattle.lsda_pack.specs.SharedFile.{meet_in_file, file_faults}
use Rattle.lsda_pack.specs.Reaches.{meet, AreApart, meet_taken, file_taken, header_taken, part_reach}

any_both : (p : Taken → Bool) (xs ys : List Taken) → list_any p (xs ++ ys) ≡ (list_any p xs || list_any p ys)
any_both p [] ys = refl
any_both p (x ∷ xs) ys = by (p x) (any_both p xs ys)
  where
    by : (b : Bool) → list_any p (xs ++ ys) ≡ (list_any p xs || list_any p ys) → (b || list_any p (xs ++ ys)) ≡ ((b || list_any p xs) || list_any p ys)
    by true more = refl
    by false more = more

apart_not : (t u : Taken) → meet (part_reach t) (part_reach u) ≡ false → meet_taken u t ≡ false
apart_not t u apart =
    by (nat_lt u.first u.end) (nat_lt t.first t.end) (nat_lt u.first t.end) (nat_lt t.first u.end) refl refl refl refl
  where
    by : (a b c d : Bool) → nat_lt u.first u.end ≡ a → nat_lt t.first t.end ≡ b → nat_lt u.first t.end ≡ c → nat_lt t.first u.end ≡ d → (a && b && c && d) ≡ false
    by true true true true ea eb ec ed = let yes : nat_lt (max t.first u.first) (min t.end u.end) ≡ true = grind (arith, nat_tests, ea, eb, ec, ed) in absurd (let wrong : true ≡ false = sym yes ∙ apart in cc)
    by false b c d ea eb ec ed = refl
    by true false c d ea eb ec ed = refl
    by true true false d ea eb ec ed = refl
    by true true true false ea eb ec ed = refl

added : (t : Taken) (before ts : List Taken) → AllByRecursion (λ u. list_any (meet_taken u) before ≡ false) ts → AllByRecursion (λ r. meet (part_reach t) r ≡ false) (map part_reach ts) →
    AllByRecursion (λ u. list_any (meet_taken u) (before ++ t ∷ []) ≡ false) ts
added t before [] all apart = tt
added t before (u ∷ us) all apart =
    (any_both (meet_taken u) before (t ∷ []) ∙ ap (λ b. b || list_any (meet_taken u) (t ∷ [])) all.0 ∙ ap (λ b. b || false) (apart_not t u apart.0), added t before us all.1 apart.1)

none_from : (before ts : List Taken) → AllByRecursion (λ u. list_any (meet_taken u) before ≡ false) ts → AreApart (map part_reach ts) → file_taken before ts ≡ []
none_from before [] all apart = refl
none_from before (t ∷ ts) all apart =
    ap (λ b. unless (not b) FileShared t.place ++ file_taken (before ++ t ∷ []) ts) all.0 ∙ none_from (before ++ t ∷ []) ts (added t before ts all.1 apart.0) apart.1

no_before : (ts : List Taken) → AllByRecursion (λ u. list_any (meet_taken u) [] ≡ false) ts
no_before [] = tt
no_before (t ∷ ts) = (refl, no_before ts)

pub none_in_file : (ts : List Taken) → AreApart (map part_reach ts) → None ≡ least (file_taken [] ts)
unfolding least
none_in_file ts apart = sym (ap least (none_from [] ts (no_before ts) apart))

-- those before a header, in whatever order
some_size : (a n : ℕ) → nat_lt a (a + n) ≡ nat_lt 0 n
some_size a n = grind (arith, nat_tests)

header_meets : (h k : ProgramHeader) → meet_taken (header_taken h) (header_taken k) ≡ meet_in_file h k
header_meets h k =
    let a = nat_lt h.offset (k.offset + k.file_size) in
    let b = nat_lt k.offset (h.offset + h.file_size) in
    ap (λ x. x && nat_lt k.offset (k.offset + k.file_size) && a && b) (some_size h.offset h.file_size) ∙ ap (λ x. nat_lt 0 h.file_size && x && a && b) (some_size k.offset k.file_size)

abbrev AlikeBefore : List Taken → List ProgramHeader → Type 0
AlikeBefore before earlier = (h : ProgramHeader) → list_any (meet_taken (header_taken h)) before ≡ list_any (meet_in_file h) earlier

swapped : (a b : Bool) → (a || (b || false)) ≡ (b || a)
swapped true true = refl
swapped true false = refl
swapped false true = refl
swapped false false = refl

files_from : (before : List Taken) (earlier hs : List ProgramHeader) → AlikeBefore before earlier → file_taken before (map header_taken hs) ≡ file_faults earlier hs
files_from before earlier [] alike = refl
files_from before earlier (h ∷ hs) alike =
    ap (λ b. unless (not b) FileShared h.place ++ file_taken (before ++ header_taken h ∷ []) (map header_taken hs)) (alike h) ∙
    ap (λ fs. unless (not (list_any (meet_in_file h) earlier)) FileShared h.place ++ fs)
    (files_from (before ++ header_taken h ∷ []) (h ∷ earlier) hs
    (λ k. any_both (meet_taken (header_taken k)) before (header_taken h ∷ []) ∙ ap (λ b. b || (meet_taken (header_taken k) (header_taken h) || false)) (alike k) ∙
    ap (λ b. list_any (meet_in_file k) earlier || (b || false)) (header_meets k h) ∙ swapped (list_any (meet_in_file k) earlier) (meet_in_file k h)))

pub files_are : (hs : List ProgramHeader) → file_taken [] (map header_taken hs) ≡ file_faults [] hs
files_are hs = files_from [] [] hs (λ h. refl)
