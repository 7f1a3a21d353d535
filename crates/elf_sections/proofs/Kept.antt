-- A file with sections has the bytes of the file wherever that is read by its program headers.
use Rattle.std.proofs.Common.{◌≡◌, ◌+◌, ◌-◌, ◌*◌, ◌<◌, ◌≤◌, ℕ, zero, suc, Bool, List, [], ◌∷◌, ◌++◌, length, take, drop, Result, Ok, refl, ap, sym, subst, ◌∙◌, arith, append_assoc, append-nil, length-append, length-drop, length-take-le, take_all}
use Rattle.std.specs.Prelude.{Option, Some, None, slice_get, ◌==◌, ◌&&◌}
use Rattle.std.specs.Int.{w16, w64, to_le_bytes}
use Rattle.std.specs.List.{AllByRecursion}
use Rattle.std.proofs.lemmas.Bool.Decides.{nat_tests}
use Rattle.table_forms.specs.Fault.{least}
use Rattle.elf_image.specs.declared.program.ProgramHeader.{ProgramHeader}
use Rattle.elf_image.specs.Numbers.{field}
use Rattle.elf_image.specs.Header.{header_faults}
use Rattle.elf_image.specs.Programs.{headers_of, loaded, runtime_header}
use Rattle.elf_image.specs.Loads.{Placed}
use Rattle.elf_image.specs.Elf.{Image, elf}
use Rattle.elf_image.specs.Behind.{StandBehind}
use Rattle.elf_image.proofs.Stays.{Stays, stays_inside, get_dropped}
use Rattle.elf_image.proofs.Longer.{Reads}
use Rattle.elf_image.proofs.LongerImage.{Inside, inside_of, elf_same}
use Rattle.elf_sections.specs.declared.section.Places.{Places}
use Rattle.elf_sections.specs.declared.symbol.Symbol.{Symbol}
use Rattle.elf_sections.specs.Written.{headed, front_of, behind, with_sections}
use Rattle.elf_sections.specs.Laws.{SectionsChangeNoReading}

get_taken : (n : ℕ) (xs : List ℕ) (k : ℕ) → k < n → slice_get (take n xs) k ≡ slice_get xs k
get_taken zero xs k less = absurd (omega (arith, less))
get_taken (suc n) [] k less = refl
get_taken (suc n) (x ∷ xs) zero less = refl
get_taken (suc n) (x ∷ xs) (suc k) less = get_taken n xs k (omega (arith, less))

get_front : (xs ys : List ℕ) (k : ℕ) → k < length xs → slice_get (xs ++ ys) k ≡ slice_get xs k
get_front [] ys k less = absurd (omega (arith, less))
get_front (x ∷ xs) ys zero less = refl
get_front (x ∷ xs) ys (suc k) less = get_front xs ys k (omega (arith, less))

get_behind : (xs ys : List ℕ) (k : ℕ) → slice_get (xs ++ ys) (length xs + k) ≡ slice_get ys k
get_behind [] ys k = let none : length {A = ℕ} [] + k ≡ k = omega arith in ap (slice_get ys) none
get_behind (x ∷ xs) ys k = let one : length (x ∷ xs) + k ≡ suc (length xs + k) = omega arith in ap (slice_get (x ∷ (xs ++ ys))) one ∙ get_behind xs ys k

-- bytes of the file that stand behind as many others as before
piece_stays : (file before rest : List ℕ) (at m : ℕ) → length before ≡ at → at + m ≤ length file → Stays at (at + m) file (before ++ (take m (drop at file) ++ rest))
piece_stays file before rest at m long room n low high =
    let k = n - at in
    let place : n ≡ length before + k = omega (arith, long, low) in
    let left : m ≤ length (drop at file) = omega (arith, length-drop at file, room) in
    let size : length (take m (drop at file)) ≡ m = length-take-le m (drop at file) left in
    let back : at + k ≡ n = omega (arith, low) in
    ap (slice_get (before ++ (take m (drop at file) ++ rest))) place ∙ get_behind before (take m (drop at file) ++ rest) k ∙
    get_front (take m (drop at file)) rest k (omega (arith, size, high, low)) ∙ get_taken m (drop at file) k (omega (arith, high, low)) ∙
    get_dropped at file k ∙ ap (slice_get file) back

more_stays : (file xs ys : List ℕ) (from end : ℕ) → end ≤ length xs → Stays from end file xs → Stays from end file (xs ++ ys)
more_stays file xs ys from end room stays n low high = get_front xs ys n (omega (arith, room, high)) ∙ stays n low high

-- the header as it is written, around what stays
module _ (file : List ℕ) (place count : ℕ) (whole : 64 ≤ length file) where
  abbrev first : List ℕ
  first = take 40 file

  abbrev kept : List ℕ
  kept = take 10 (drop 48 file)

  abbrev numbers : List ℕ
  numbers = to_le_bytes w16 64 ++ to_le_bytes w16 count ++ to_le_bytes w16 (count - 1)

  abbrev fore : List ℕ
  fore = first ++ to_le_bytes w64 place ++ kept ++ to_le_bytes w16 64 ++ to_le_bytes w16 count ++ to_le_bytes w16 (count - 1)

  abbrev rest : List ℕ
  rest = take (length file - 64) (drop 64 file) ++ []

  first_long : length first ≡ 40
  first_long = length-take-le 40 file (omega (arith, whole))

  before_long : length (first ++ to_le_bytes w64 place) ≡ 48
  before_long =
      let words : length (to_le_bytes w64 place) ≡ 8 = refl in
      omega (arith, length-append first (to_le_bytes w64 place), first_long, words)

  -- around what stands behind 48 bytes
  grouped : (xs d : List ℕ) → xs ++ to_le_bytes w16 64 ++ to_le_bytes w16 count ++ to_le_bytes w16 (count - 1) ++ d ≡ xs ++ (numbers ++ d)
  grouped xs d =
      append_assoc (xs ++ to_le_bytes w16 64 ++ to_le_bytes w16 count) (to_le_bytes w16 (count - 1)) d ∙
      append_assoc (xs ++ to_le_bytes w16 64) (to_le_bytes w16 count) (to_le_bytes w16 (count - 1) ++ d) ∙
      append_assoc xs (to_le_bytes w16 64) (to_le_bytes w16 count ++ (to_le_bytes w16 (count - 1) ++ d))

  fore_long : length fore ≡ 64
  fore_long =
      let few : length numbers ≡ 6 = refl in
      let ten : length kept ≡ 10 = length-take-le 10 (drop 48 file) (omega (arith, whole, length-drop 48 file)) in
      ap length (sym (append-nil fore) ∙ grouped (first ++ to_le_bytes w64 place ++ kept) []) ∙
      omega (
        arith,
        length-append (first ++ to_le_bytes w64 place ++ kept) (numbers ++ []),
        length-append (first ++ to_le_bytes w64 place) kept,
        length-append numbers [],
        before_long,
        ten,
        few,
      )

  rest_is : rest ≡ drop 64 file
  rest_is = append-nil (take (length file - 64) (drop 64 file)) ∙ take_all (length file - 64) (drop 64 file) (omega (arith, length-drop 64 file))

  -- cut behind 40 bytes, behind 48, and behind the whole header
  at_kept : headed file place count ≡ (first ++ to_le_bytes w64 place) ++ (kept ++ (numbers ++ drop 64 file))
  unfolding headed
  at_kept =
      grouped (first ++ to_le_bytes w64 place ++ kept) (drop 64 file) ∙ append_assoc (first ++ to_le_bytes w64 place) kept (numbers ++ drop 64 file)

  at_first : headed file place count ≡ [] ++ (take 40 (drop 0 file) ++ (to_le_bytes w64 place ++ (kept ++ (numbers ++ drop 64 file))))
  at_first = at_kept ∙ append_assoc first (to_le_bytes w64 place) (kept ++ (numbers ++ drop 64 file))

  at_rest : headed file place count ≡ fore ++ rest
  unfolding headed
  at_rest = ap (λ d. fore ++ d) (sym rest_is)

  pub headed_long : length (headed file place count) ≡ length file
  headed_long = ap length at_rest ∙ omega (arith, length-append fore rest, fore_long, ap length rest_is, length-drop 64 file, whole)

  front_stays : Stays 0 40 file (headed file place count)
  front_stays = subst (Stays 0 40 file) (sym at_first) (piece_stays file [] (to_le_bytes w64 place ++ (kept ++ (numbers ++ drop 64 file))) 0 40 refl (omega (arith, whole)))

  counts_stay : Stays 48 58 file (headed file place count)
  counts_stay = subst (Stays 48 58 file) (sym at_kept) (piece_stays file (first ++ to_le_bytes w64 place) (numbers ++ drop 64 file) 48 10 before_long (omega (arith, whole)))

  rest_stays : Stays 64 (length file) file (headed file place count)
  rest_stays =
      let all : 64 + (length file - 64) ≡ length file = omega (arith, whole) in
      subst (λ n. Stays 64 n file (headed file place count)) all
      (subst (Stays 64 (64 + (length file - 64)) file) (sym at_rest) (piece_stays file fore [] 64 (length file - 64) fore_long (omega (arith, whole))))

segments_stay : (file other : List ℕ) (hs : List ProgramHeader) → Stays 64 (length file) file other → AllByRecursion (λ h. 64 ≤ h.offset) hs → AllByRecursion (Placed (length file)) hs →
    AllByRecursion (λ h. Stays h.offset (h.offset + h.file_size) file other) hs
segments_stay file other [] stays above placed = tt
segments_stay file other (h ∷ hs) stays above placed =
    let p = placed.0 in let i = p.inside in (
      stays_inside 64 (length file) h.offset (h.offset + h.file_size) file other above.0 i stays,
      segments_stay file other hs stays above.1 placed.1,
    )

-- whatever stands behind it
reads : (file more : List ℕ) (place count : ℕ) (run : Bool) (i : Image) → StandBehind file → elf file run ≡ Ok i → Reads file (headed file place count ++ more)
reads file more place count run i s read =
    let inside = inside_of file run i read in
    let whole : 64 ≤ length file = omega (arith, s.headers, inside.headers) in
    let long = headed_long file place count whole in
    let stays : Stays 64 (length file) file (headed file place count ++ more) =
    more_stays file (headed file place count) more 64 (length file) (omega (arith, long)) (rest_stays file place count whole) in
    let counts : Stays 48 58 file (headed file place count ++ more) =
    more_stays file (headed file place count) more 48 58 (omega (arith, long, whole)) (counts_stay file place count whole) in
    record {
      whole = whole;
      longer = omega (arith, long, length-append (headed file place count) more);
      front = more_stays file (headed file place count) more 0 40 (omega (arith, long, whole)) (front_stays file place count whole);
      counts = stays_inside 48 58 54 58 file (headed file place count ++ more) (omega arith) (omega arith) counts;
      headers = stays_inside 64 (length file) (field w64 file 32) (field w64 file 32 + 56 * field w16 file 56) file (headed file place count ++ more) s.headers inside.headers stays;
      segments = segments_stay file (headed file place count ++ more) (loaded (headers_of file)) stays s.segments inside.segments;
      runtime = λ h is. stays_inside 64 (length file) h.offset (h.offset + h.file_size) file (headed file place count ++ more) (s.runtime h is) (inside.runtime h is) stays;
    }

pub sections_change_no_reading : SectionsChangeNoReading
unfolding with_sections
sections_change_no_reading file places symbols run i s read =
    elf_same file (with_sections file places symbols) run i
    (reads file (behind file places symbols) (length file + length (front_of (length file) symbols)) 11 run i s read) read
