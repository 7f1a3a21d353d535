-- The segment of an address, in a memory and by the headers of a file that is written of it.
use Rattle.std.proofs.Common.{◌≡◌, ◌+◌, ◌-◌, ◌<◌, ◌&&◌, ◌==◌, ℕ, Bool, true, false, nat_lt, List, [], ◌∷◌, ◌++◌, length, drop, refl, ap, sym, ◌∙◌, arith, if◌then◌else◌}
use Rattle.std.specs.Prelude.{⊤, Option, Some, None, IsSomeAnd, find, option_map, unwrap_or, slice_index, ◌||◌}
use Rattle.std.specs.Int.{w8}
use Rattle.std.specs.List.{AllZip, list_any}
use Rattle.std.proofs.lemmas.Bool.Decides.{nat_tests}
use Rattle.eh_bytes.specs.Memory.{Part, Memory, covers, part_with, is_code}
use Rattle.elf_image.specs.declared.program.ProgramHeader.{ProgramHeader}
use Rattle.elf_image.specs.Numbers.{field}
use Rattle.elf_image.specs.Programs.{end_of}
use Rattle.elf_image.specs.Loads as loads
use Rattle.elf_image.specs.Loads.{is_within}
use Rattle.elf_image.specs.Runtime.{has_address, byte_in, byte_at, is_bare_at, is_stub}
use Rattle.elf_image.specs.Laid.{stands_at, frames_for}
use Rattle.elf_image.specs.CanWrite.{byte_of, is_bare}
use Rattle.elf_image.proofs.FieldsRead.{later, byte_read}
use Rattle.elf_image.proofs.Turns.{drop_turn}
use Rattle.std.proofs.lemmas.List.{take-append-drop, drop-append-le}
use Rattle.elf_image.proofs.Standing.{IsLaid}

same_test : (a b : Bool) → (a ≡ true → b ≡ true) → (b ≡ true → a ≡ true) → a ≡ b
same_test true true f g = refl
same_test false false f g = refl
same_test true false f g = absurd (let e = f refl in cc)
same_test false true f g = absurd (let e = g refl in cc)

pub has_same : (file : List ℕ) (part : Part) (h : ProgramHeader) (a : ℕ) → IsLaid file part h → has_address a h ≡ covers part a
has_same file part h a l =
    let la = l.address in let ls = l.memory_size in
    same_test (has_address a h) (covers part a) (λ e. grind (arith, nat_tests, la, ls, e)) (λ e. grind (arith, nat_tests, la, ls, e))

-- both are found, or none is
abbrev pub FoundBoth : List ℕ → ℕ → Option Part → Option ProgramHeader → Type 0
FoundBoth file a None None = ⊤
FoundBoth file a (Some part) (Some h) = IsLaid file part h × (covers part a ≡ true)
FoundBoth file a None (Some h) = ⊥
FoundBoth file a (Some part) None = ⊥

pub found_both : (file : List ℕ) (memory : Memory) (hs : List ProgramHeader) (a : ℕ) → AllZip (IsLaid file) memory hs → FoundBoth file a (part_with memory a) (find (has_address a) hs)
found_both file [] [] a laid = tt
found_both file [] (h ∷ hs) a laid = absurd laid
found_both file (part ∷ memory) [] a laid = absurd laid
found_both file (part ∷ memory) (h ∷ hs) a laid = by (covers part a) (has_address a h) refl (has_same file part h a laid.0) (found_both file memory hs a laid.1)
  where
    by : (b c : Bool) → covers part a ≡ b → c ≡ covers part a → FoundBoth file a (part_with memory a) (find (has_address a) hs) →
        FoundBoth file a (if b then Some part else part_with memory a) (if c then Some h else find (has_address a) hs)
    by true true e f rest = (laid.0, e)
    by false false e f rest = rest
    by true false e f rest = absurd (let g : false ≡ true = f ∙ e in cc)
    by false true e f rest = absurd (let g : true ≡ false = f ∙ e in cc)

-- an address of code
pub code_same : (file : List ℕ) (memory : Memory) (hs : List ProgramHeader) (a : ℕ) → AllZip (IsLaid file) memory hs → list_any (is_stub a) hs ≡ is_code memory a
code_same file [] [] a laid = refl
code_same file [] (h ∷ hs) a laid = absurd laid
code_same file (part ∷ memory) [] a laid = absurd laid
code_same file (part ∷ memory) (h ∷ hs) a laid =
    ap (λ b. (b && has_address a h) || list_any (is_stub a) hs) laid.0.exec ∙ ap (λ b. (part.exec && b) || list_any (is_stub a) hs) (has_same file part h a laid.0) ∙
    ap (λ b. (part.exec && covers part a) || b) (code_same file memory hs a laid.1)

-- a header from an address to the end of its segment lies inside
within_one : (f : ProgramHeader → Bool) (g : ProgramHeader → Bool) (hs : List ProgramHeader) (l : ProgramHeader) → find g hs ≡ Some l → f l ≡ true → list_any f hs ≡ true
within_one f g [] l found holds = cc
within_one f g (h ∷ hs) l found holds = by (g h) refl found (λ is. within_one f g hs l is holds)
  where
    some_same : (x y : ProgramHeader) → Some x ≡ Some y → x ≡ y
    some_same x y e = cc

    or_second : (a b : Bool) → b ≡ true → (a || b) ≡ true
    or_second true b e = refl
    or_second false b e = e

    by : (b : Bool) → g h ≡ b → (if b then Some h else find g hs) ≡ Some l → (find g hs ≡ Some l → list_any f hs ≡ true) → (f h || list_any f hs) ≡ true
    by true e is rest = ap (λ x. f x || list_any f hs) (some_same h l is) ∙ ap (λ b. b || list_any f hs) holds
    by false e is rest = or_second (f h) (list_any f hs) (rest is)

pub frames_within : (file : List ℕ) (place : ℕ) (memory : Memory) (hs : List ProgramHeader) (a : ℕ) → AllZip (IsLaid file) memory hs → IsSomeAnd (part_with memory a) (λ _. ⊤) →
    is_within hs (Some (frames_for place hs a)) ≡ true
frames_within file place memory hs a laid some = by (part_with memory a) (find (has_address a) hs) refl some (found_both file memory hs a laid)
  where
    by : (p : Option Part) (f : Option ProgramHeader) → find (has_address a) hs ≡ f → IsSomeAnd p (λ _. ⊤) → FoundBoth file a p f → is_within hs (Some (frames_for place hs a)) ≡ true
    by None f is some both = absurd some
    by (Some part) None is some both = absurd both
    by (Some part) (Some l) is some both =
        let has : has_address a l ≡ true = has_same file part l a both.0 ∙ both.1 in
        let size : (stands_at hs a).1 ≡ end_of l - a = ap (λ (o : Option ProgramHeader). (unwrap_or {T = ℕ × ℕ} (option_map (λ load. (load.offset + (a - load.address), end_of load - a)) o) (0, 0)).1) is in
        let inside : loads.covers (frames_for place hs a) l ≡ true = grind (arith, nat_tests, has, size) in
        within_one (loads.covers (frames_for place hs a)) (has_address a) hs l is inside

-- the byte of a segment
byte_same : (file : List ℕ) (part : Part) (h : ProgramHeader) (a : ℕ) → IsLaid file part h → covers part a ≡ true → byte_in file a h ≡ slice_index part.bytes (a - part.address)
byte_same file part h a l has =
    let k = a - part.address in
    let n = length part.bytes in
    let lf = l.file_size in
    let inside : k < n = grind (arith, nat_tests, has) in
    let there : nat_lt k h.file_size ≡ true = grind (arith, nat_tests, lf, inside) in
    let whole : drop h.offset file ≡ part.bytes ++ drop n (drop h.offset file) = sym (take-append-drop n (drop h.offset file)) ∙ ap (λ x. x ++ drop n (drop h.offset file)) l.bytes in
    let rest = drop (k + 1) part.bytes ++ drop n (drop h.offset file) in
    let here : drop (h.offset + k) file ≡ slice_index part.bytes k ∷ rest =
    later file h.offset k (part.bytes ++ drop n (drop h.offset file)) whole ∙ drop-append-le k part.bytes (drop n (drop h.offset file)) (omega (arith, inside)) ∙
    ap (λ x. x ++ drop n (drop h.offset file)) (drop_turn part.bytes k 0 inside) in
    ap (λ m. if nat_lt (a - m) h.file_size then field w8 file (h.offset + (a - m)) else 0) l.address ∙ ap (λ b. if b then field w8 file (h.offset + k) else 0) there ∙
    ap (λ o. unwrap_or o 0) (byte_read file (h.offset + k) (slice_index part.bytes k) rest here)

bytes_same : (file : List ℕ) (memory : Memory) (hs : List ProgramHeader) (a : ℕ) → AllZip (IsLaid file) memory hs → byte_at file hs a ≡ byte_of memory a
bytes_same file memory hs a laid = by (part_with memory a) (find (has_address a) hs) (found_both file memory hs a laid)
  where
    by : (p : Option Part) (f : Option ProgramHeader) → FoundBoth file a p f →
        unwrap_or (option_map (byte_in file a) f) 0 ≡ unwrap_or (option_map (λ part. slice_index part.bytes (a - part.address)) p) 0
    by None None both = refl
    by (Some part) (Some h) both = byte_same file part h a both.0 both.1
    by None (Some h) both = absurd both
    by (Some part) None both = absurd both

-- whether the frames' header says that it has no table
pub bare_same : (file : List ℕ) (memory : Memory) (hs : List ProgramHeader) (a : ℕ) → AllZip (IsLaid file) memory hs → is_bare_at file hs a ≡ is_bare memory a
bare_same file memory hs a laid =
    ap (λ b. b == 0xff && byte_at file hs (a + 3) == 0xff) (bytes_same file memory hs (a + 2) laid) ∙
    ap (λ b. byte_of memory (a + 2) == 0xff && b == 0xff) (bytes_same file memory hs (a + 3) laid)
