-- The memories of two files of one length with the same program headers.
use Rattle.std.proofs.Common.{◌≡◌, ◌+◌, ◌-◌, ◌<◌, ◌≤◌, ◌^◌, ℕ, zero, suc, Bool, true, false, nat_lt, nat_le, List, [], ◌∷◌, ◌++◌, length, take, drop, map, replicate, refl, ap, sym, subst, ◌∙◌, arith}
use Rattle.std.specs.Prelude.{Option, Some, None, slice_get, find, option_map, ◌&&◌, ◌||◌, if◌then◌else◌}
use Rattle.std.specs.List.{AllByRecursion}
use Rattle.std.proofs.lemmas.Bool.Decides.{nat_tests}
use Rattle.std.proofs.lemmas.List.{length-take, length-drop}
use Rattle.eh_bytes.specs.Memory.{Part, covers, part_with, is_code}
use Rattle.elf_image.specs.declared.program.ProgramHeader.{ProgramHeader}
use Rattle.elf_image.specs.Loads.{Placed, part_of}
use Rattle.elf_image.specs.Runtime.{has_address}
use Rattle.lsda_pack.proofs.FilesFrame.{Stays, get_taken, get_dropped, same_stays}
use Rattle.lsda_pack.proofs.Fronts.{Same}
use Rattle.elf_image.proofs.Sound.{size_seen}
use Rattle.lsda_pack.proofs.HeadFrame.{with_bytes}

-- a segment has an address where its header says so
one_covers : (first size len a : ℕ) → len ≡ size → (nat_le first a && nat_lt (a - first) len) ≡ (nat_le first a && nat_lt a (first + size))
one_covers first size len a is = step (nat_le first a) (nat_lt (a - first) len) (nat_lt a (first + size)) refl refl refl
  where
    step : (b c d : Bool) → nat_le first a ≡ b → nat_lt (a - first) len ≡ c → nat_lt a (first + size) ≡ d → (b && c) ≡ (b && d)
    step b c d lb lc ld = grind (arith, nat_tests, lb, lc, ld, is)

pub covers_is : (file : List ℕ) (h : ProgramHeader) (a : ℕ) → Placed (length file) h → covers (part_of file h) a ≡ has_address a h
covers_is file h a placed = one_covers h.address h.memory_size (length (part_of file h).bytes) a (size_seen file h placed)

pub part_is : (file : List ℕ) (hs : List ProgramHeader) (a : ℕ) → AllByRecursion (Placed (length file)) hs → part_with (map (part_of file) hs) a ≡ option_map (part_of file) (find (has_address a) hs)
part_is file [] a placed = refl
part_is file (h ∷ hs) a placed =
    ap (λ b. if b then Some (part_of file h) else part_with (map (part_of file) hs) a) (covers_is file h a placed.0) ∙
    step (has_address a h) (part_is file hs a placed.1)
  where
    step : (b : Bool) → part_with (map (part_of file) hs) a ≡ option_map (part_of file) (find (has_address a) hs) →
        (if b then Some (part_of file h) else part_with (map (part_of file) hs) a) ≡ option_map (part_of file) (if b then Some h else find (has_address a) hs)
    step true rest = refl
    step false rest = rest

pub placed_too : (file other : List ℕ) (hs : List ProgramHeader) → length other ≡ length file → AllByRecursion (Placed (length file)) hs → AllByRecursion (Placed (length other)) hs
placed_too file other hs long placed = subst (λ n. AllByRecursion (Placed n) hs) (sym long) placed

-- what is code stays code
pub code_stays : (file other : List ℕ) (hs : List ProgramHeader) → length other ≡ length file → AllByRecursion (Placed (length file)) hs → (a : ℕ) →
    is_code (map (part_of other) hs) a ≡ is_code (map (part_of file) hs) a
code_stays file other [] long placed a = refl
code_stays file other (h ∷ hs) long placed a =
    let there = placed_too file other (h ∷ hs) long placed in
    let part = part_of file h in
    ap (λ c. part.exec && c || is_code (map (part_of other) hs) a) (covers_is other h a there.0 ∙ sym (covers_is file h a placed.0)) ∙
    ap (λ c. part.exec && covers part a || c) (code_stays file other hs long placed.1 a)

-- code lies in the address space
pub code_below : (file : List ℕ) (hs : List ProgramHeader) → AllByRecursion (Placed (length file)) hs → (a : ℕ) → is_code (map (part_of file) hs) a ≡ true → a < 2 ^ 64
code_below file [] placed a code = absurd cc
code_below file (h ∷ hs) placed a code = by (part_of file h).exec (covers (part_of file h) a) refl code (λ c. code_below file hs placed.1 a c)
  where
    inside : covers (part_of file h) a ≡ true → a < 2 ^ 64
    inside c =
        let is : has_address a h ≡ true = sym (covers_is file h a placed.0) ∙ c in
        let ends = placed.0.ends in
        grind (arith, nat_tests, is, ends)

    by : (x c : Bool) → covers (part_of file h) a ≡ c → (x && c || is_code (map (part_of file) hs) a) ≡ true → (is_code (map (part_of file) hs) a ≡ true → a < 2 ^ 64) → a < 2 ^ 64
    by true true is e later = inside is
    by true false is e later = later e
    by false c is e later = later e

-- bytes of a part
get_front : (xs ys zs : List ℕ) (k : ℕ) → length ys ≡ length xs → (k < length xs → slice_get ys k ≡ slice_get xs k) → slice_get (ys ++ zs) k ≡ slice_get (xs ++ zs) k
get_front [] [] zs k long each = refl
get_front [] (y ∷ ys) zs k long each = absurd (omega (arith, long))
get_front (x ∷ xs) [] zs k long each = absurd (omega (arith, long))
get_front (x ∷ xs) (y ∷ ys) zs zero long each = each (omega arith)
get_front (x ∷ xs) (y ∷ ys) zs (suc k) long each = get_front xs ys zs k (omega (arith, long)) (λ less. each (omega (arith, less)))

-- the bytes that a segment has of the file stay from a place of the segment up to another
abbrev pub FileStays : ProgramHeader → ℕ → ℕ → List ℕ → List ℕ → Type 0
FileStays h from end file other = (k : ℕ) → from ≤ k → k < end → k < h.file_size → slice_get other (h.offset + k) ≡ slice_get file (h.offset + k)

pub part_stays : (file other : List ℕ) (h : ProgramHeader) (from end : ℕ) → length other ≡ length file → FileStays h from end file other → Stays from end (part_of file h).bytes (part_of other h).bytes
part_stays file other h from end long stays k low high =
    let own = take h.file_size (drop h.offset file) in
    let new = take h.file_size (drop h.offset other) in
    let same : length new ≡ length own =
    omega (arith, length-take h.file_size (drop h.offset file), length-take h.file_size (drop h.offset other), length-drop h.offset file, length-drop h.offset other, long) in
    get_front own new (replicate (h.memory_size - h.file_size) 0) k same
    (λ less. let inside : k < h.file_size = omega (arith, less, length-take h.file_size (drop h.offset file)) in
    get_taken h.file_size (drop h.offset other) k inside ∙ get_dropped h.offset other k ∙ stays k low high inside ∙
    sym (get_taken h.file_size (drop h.offset file) k inside ∙ get_dropped h.offset file k))

pub part_same : (file other : List ℕ) (h : ProgramHeader) (from end : ℕ) → length other ≡ length file → FileStays h from end file other → Same from end (part_of file h).bytes (part_of other h).bytes
part_same file other h from end long stays = same_stays from end (part_of file h).bytes (part_of other h).bytes (part_stays file other h from end long stays)

pub part_long : (file other : List ℕ) (h : ProgramHeader) → length other ≡ length file → Placed (length file) h → length (part_of other h).bytes ≡ length (part_of file h).bytes
part_long file other h long placed = size_seen other h (subst (λ n. Placed n h) (sym long) placed) ∙ sym (size_seen file h placed)

pub other_part : (file other : List ℕ) (h : ProgramHeader) → part_of other h ≡ with_bytes (part_of file h) (part_of other h).bytes
other_part file other h = refl

-- the part with an address in both
pub record InBoth (file other : List ℕ) (hs : List ProgramHeader) (a : ℕ) (h : ProgramHeader) : Type 0 where
  pub found : find (has_address a) hs ≡ Some h
  pub placed : Placed (length file) h
  pub low : h.address ≤ a
  pub high : a < h.address + h.memory_size
  pub here : part_with (map (part_of file) hs) a ≡ Some (part_of file h)
  pub there : part_with (map (part_of other) hs) a ≡ Some (part_of other h)

found_holds : (P : ProgramHeader → Type 0) (test : ProgramHeader → Bool) (hs : List ProgramHeader) (h : ProgramHeader) → AllByRecursion P hs → find test hs ≡ Some h → P h × (test h ≡ true)
found_holds P test [] h all found = absurd cc
found_holds P test (x ∷ hs) h all found = by (test x) refl found (λ f. found_holds P test hs h all.1 f)
  where
    by : (b : Bool) → test x ≡ b → (if b then Some x else find test hs) ≡ Some h → (find test hs ≡ Some h → P h × (test h ≡ true)) → P h × (test h ≡ true)
    by true is e later = let same : x ≡ h = cc in subst (λ y. P y × (test y ≡ true)) same (all.0, is)
    by false is e later = later e

pub in_both : (file other : List ℕ) (hs : List ProgramHeader) (a : ℕ) (h : ProgramHeader) → length other ≡ length file → AllByRecursion (Placed (length file)) hs → find (has_address a) hs ≡ Some h →
    InBoth file other hs a h
in_both file other hs a h long placed found =
    let holds = found_holds (Placed (length file)) (has_address a) hs h placed found in
    let test = holds.1 in
    record {
      found = found;
      placed = holds.0;
      low = grind (arith, nat_tests, test);
      high = grind (arith, nat_tests, test);
      here = part_is file hs a placed ∙ ap (option_map (part_of file)) found;
      there = part_is other hs a (placed_too file other hs long placed) ∙ ap (option_map (part_of other)) found;
    }

-- a part that is found is a segment's
pub found_part : (file : List ℕ) (hs : List ProgramHeader) (a : ℕ) (part : Part) → AllByRecursion (Placed (length file)) hs → part_with (map (part_of file) hs) a ≡ Some part →
    (h : ProgramHeader) × (find (has_address a) hs ≡ Some h) × (part_of file h ≡ part)
found_part file hs a part placed found = by (find (has_address a) hs) refl
  where
    by : (o : Option ProgramHeader) → find (has_address a) hs ≡ o → (h : ProgramHeader) × (find (has_address a) hs ≡ Some h) × (part_of file h ≡ part)
    by None is = absurd (let none : Some part ≡ None = sym found ∙ part_is file hs a placed ∙ ap (option_map (part_of file)) is in cc)
    by (Some h) is =
        let same : Some (part_of file h) ≡ Some part = sym (part_is file hs a placed ∙ ap (option_map (part_of file)) is) ∙ found in
        (h, is, some_part (part_of file h) part same)
      where
        some_part : (x y : Part) → Some x ≡ Some y → x ≡ y
        some_part x y e = cc

-- no part has an address in one memory alone
pub no_part : (file other : List ℕ) (hs : List ProgramHeader) (a : ℕ) → length other ≡ length file → AllByRecursion (Placed (length file)) hs → part_with (map (part_of file) hs) a ≡ None →
    part_with (map (part_of other) hs) a ≡ None
no_part file other hs a long placed none = by (find (has_address a) hs) refl
  where
    by : (o : Option ProgramHeader) → find (has_address a) hs ≡ o → part_with (map (part_of other) hs) a ≡ None
    by None is = part_is other hs a (placed_too file other hs long placed) ∙ ap (option_map (part_of other)) is
    by (Some h) is = absurd (let no : Some (part_of file h) ≡ None = sym (part_is file hs a placed ∙ ap (option_map (part_of file)) is) ∙ none in cc)
