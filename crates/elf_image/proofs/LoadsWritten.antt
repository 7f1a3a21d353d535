-- Nothing is refused of the segments of an image that is written, and they make its memory.
use Rattle.std.proofs.Common.{◌≡◌, ◌+◌, ◌-◌, ◌<◌, ◌≤◌, ◌^◌, ℕ, zero, suc, Bool, true, false, nat_le, List, [], ◌∷◌, ◌++◌, length, take, map, refl, ap, sym, subst, ◌∙◌, arith, append_assoc, append-nil}
use Rattle.std.specs.Prelude.{Some, None, slice_get, ◌||◌}
use Rattle.std.specs.List.{AllByRecursion, AllZip, list_any}
use Rattle.std.proofs.lemmas.Bool.Decides.{nat_tests}
use Rattle.std.proofs.lemmas.List.Sums.{sum_by-cons}
use Rattle.eh_bytes.specs.Memory.{Part, Memory}
use Rattle.eh_bytes.specs.Extent.{Holds, AreApart}
use Rattle.table_forms.specs.declared.reason.Reason.TheVariants.{SegmentRange}
use Rattle.table_forms.specs.Fault.{least, unless}
use Rattle.elf_image.specs.declared.program.ProgramHeader.{ProgramHeader}
use Rattle.elf_image.specs.Loads.{part_of, is_placed, meet, one_faults, load_faults, is_low, low_faults}
use Rattle.elf_image.specs.CanWrite.{size_of, IsLow}
use Rattle.elf_image.specs.Stands.{unplaced, IsPaged}
use Rattle.elf_image.proofs.Sound.{extent_in}
use Rattle.elf_image.proofs.Standing.{IsLaid}

-- the memory that is read is what was written, and its places are those of pages
part_read : (file : List ℕ) (part : Part) (h : ProgramHeader) → IsLaid file part h → unplaced (part_of file h) ≡ unplaced part
part_read file part h l =
    let none : h.memory_size - h.file_size ≡ 0 = let a = l.file_size in let b = l.memory_size in omega (arith, a, b) in
    rw l.address (rw l.write (rw l.exec (rw none (rw l.file_size (rw l.bytes (rw (append-nil part.bytes) refl))))))

pub memory_read : (file : List ℕ) (memory : Memory) (hs : List ProgramHeader) → AllZip (IsLaid file) memory hs → map unplaced (map (part_of file) hs) ≡ map unplaced memory
memory_read file [] [] laid = refl
memory_read file [] (h ∷ hs) laid = absurd laid
memory_read file (part ∷ memory) [] laid = absurd laid
memory_read file (part ∷ memory) (h ∷ hs) laid = ap (λ x. x ∷ map unplaced (map (part_of file) hs)) (part_read file part h laid.0) ∙ ap (λ x. unplaced part ∷ x) (memory_read file memory hs laid.1)

pub pages_read : (file : List ℕ) (memory : Memory) (hs : List ProgramHeader) → AllZip (IsLaid file) memory hs → AllByRecursion IsPaged (map (part_of file) hs)
pages_read file [] [] laid = tt
pages_read file [] (h ∷ hs) laid = absurd laid
pages_read file (part ∷ memory) [] laid = absurd laid
pages_read file (part ∷ memory) (h ∷ hs) laid = (laid.0.page, pages_read file memory hs laid.1)

-- the segment of a header
pub laid_at : (file : List ℕ) (memory : Memory) (hs : List ProgramHeader) (i : ℕ) (h : ProgramHeader) → AllZip (IsLaid file) memory hs → slice_get hs i ≡ Some h →
    (part : Part) × (slice_get memory i ≡ Some part) × IsLaid file part h
laid_at file [] [] i h laid at = cc
laid_at file [] (k ∷ hs) i h laid at = absurd laid
laid_at file (part ∷ memory) [] i h laid at = absurd laid
laid_at file (part ∷ memory) (k ∷ hs) zero h laid at = (part, refl, subst (IsLaid file part) (some_same k h at) laid.0)
  where
    some_same : (x y : ProgramHeader) → Some x ≡ Some y → x ≡ y
    some_same x y e = cc
laid_at file (part ∷ memory) (k ∷ hs) (suc i) h laid at = laid_at file memory hs i h laid.1 at

extent_at : (memory : Memory) (i : ℕ) (part : Part) → slice_get memory i ≡ Some part → slice_get (map extent_in memory) i ≡ Some (extent_in part)
extent_at [] i part at = cc
extent_at (p ∷ memory) zero part at = ap (λ x. Some (extent_in x)) (some_same p part at)
  where
    some_same : (x y : Part) → Some x ≡ Some y → x ≡ y
    some_same x y e = cc
extent_at (p ∷ memory) (suc i) part at = extent_at memory i part at

-- of two segments that are apart none overlaps the other
not_met : (file : List ℕ) (memory : Memory) (hs : List ProgramHeader) (i j : ℕ) (h k : ProgramHeader) → AllZip (IsLaid file) memory hs → AreApart (map extent_in memory) → i < j →
    slice_get hs i ≡ Some h → slice_get hs j ≡ Some k → meet k h ≡ false
not_met file memory hs i j h k laid apart less at_i at_j = by (meet k h) refl
  where
    one : (part : Part) × (slice_get memory i ≡ Some part) × IsLaid file part h
    one = laid_at file memory hs i h laid at_i

    other : (part : Part) × (slice_get memory j ≡ Some part) × IsLaid file part k
    other = laid_at file memory hs j k laid at_j

    same : (a : ℕ) → Holds (extent_in one.0) a → Holds (extent_in other.0) a → i ≡ j
    same a in_one in_other = apart i j a (extent_in one.0) (extent_in other.0) (extent_at memory i one.0 one.1) (extent_at memory j other.0 other.1) in_one in_other

    by : (b : Bool) → meet k h ≡ b → b ≡ false
    by false e = refl
    by true e =
        let l : IsLaid file one.0 h = one.2 in
        let m : IsLaid file other.0 k = other.2 in
        let la = l.address in let ls = l.memory_size in let ma = m.address in let ms = m.memory_size in
        let ks : 0 < k.memory_size = grind (arith, nat_tests, e) in
        let hs_some : 0 < h.memory_size = grind (arith, nat_tests, e) in
        let kh : k.address < h.address + h.memory_size = grind (arith, nat_tests, e) in
        let hk : h.address < k.address + k.memory_size = grind (arith, nat_tests, e) in
        absurd (by_order (nat_le h.address k.address) refl la ls ma ms ks hs_some kh hk)
      where
        by_order : (b : Bool) → nat_le h.address k.address ≡ b → h.address ≡ one.0.address → h.memory_size ≡ length one.0.bytes → k.address ≡ other.0.address → k.memory_size ≡ length other.0.bytes →
            0 < k.memory_size → 0 < h.memory_size → k.address < h.address + h.memory_size → h.address < k.address + k.memory_size → ⊥
        by_order true e la ls ma ms ks hs_some kh hk =
            let le : h.address ≤ k.address = grind (arith, nat_tests, e) in
            let equal = same k.address (omega (arith, la, le), omega (arith, la, ls, kh)) (omega (arith, ma), omega (arith, ma, ms, ks)) in
            omega (arith, less, equal)
        by_order false e la ls ma ms ks hs_some kh hk =
            let gt : k.address ≤ h.address = grind (arith, nat_tests, e) in
            let equal = same h.address (omega (arith, la), omega (arith, la, ls, hs_some)) (omega (arith, ma, gt), omega (arith, ma, ms, hk)) in
            omega (arith, less, equal)

any_none : (f : ProgramHeader → Bool) (hs : List ProgramHeader) → ((j : ℕ) (h : ProgramHeader) → slice_get hs j ≡ Some h → f h ≡ false) → list_any f hs ≡ false
any_none f [] none = refl
any_none f (h ∷ hs) none = ap (λ b. b || list_any f hs) (none 0 h refl) ∙ any_none f hs (λ j k at. none (suc j) k at)

taken_at : (hs : List ProgramHeader) (i j : ℕ) (h : ProgramHeader) → slice_get (take i hs) j ≡ Some h → (j < i) × (slice_get hs j ≡ Some h)
taken_at hs zero j h at = absurd cc
taken_at [] (suc i) j h at = absurd cc
taken_at (k ∷ hs) (suc i) zero h at = (omega arith, at)
taken_at (k ∷ hs) (suc i) (suc j) h at = let r = taken_at hs i j h at in (omega (arith, r.0), r.1)

-- no segment meets one before it
met_by_none : (file : List ℕ) (memory : Memory) (hs : List ProgramHeader) (i : ℕ) (h : ProgramHeader) → AllZip (IsLaid file) memory hs → AreApart (map extent_in memory) →
    slice_get hs i ≡ Some h → list_any (meet h) (take i hs) ≡ false
met_by_none file memory hs i h laid apart at =
    any_none (meet h) (take i hs) (λ j k at_j. let r = taken_at hs i j k at_j in not_met file memory hs j i k h laid apart r.0 r.1 at)

-- none of a list is refused, the items before which are known
faultless : (file : List ℕ) (memory : Memory) (hs : List ProgramHeader) (before : ℕ) (earlier : List ProgramHeader) → AllZip (IsLaid file) memory hs →
    AllByRecursion (λ part. part.address + length part.bytes ≤ 2 ^ 64) memory → before + size_of memory ≤ 2 ^ 30 →
    ((i : ℕ) (h : ProgramHeader) → slice_get hs i ≡ Some h → list_any (meet h) (earlier ++ take i hs) ≡ false) → least (load_faults (length file) before earlier hs) ≡ None
unfolding least
faultless file [] [] before earlier laid ends small none = refl
faultless file [] (h ∷ hs) before earlier laid ends small none = absurd laid
faultless file (part ∷ memory) [] before earlier laid ends small none = absurd laid
faultless file (part ∷ memory) (h ∷ hs) before earlier laid ends small none =
    let l = laid.0 in
    let la = l.address in let lf = l.file_size in let ls = l.memory_size in let li = l.inside in
    let end = ends.0 in
    let sum = sum_by-cons (λ (p : Part). length p.bytes) part memory in
    let placed : is_placed (length file) before h ≡ true = grind (arith, nat_tests, la, lf, ls, li, end, sum, small) in
    let alone : list_any (meet h) earlier ≡ false = ap (list_any (meet h)) (sym (append-nil earlier)) ∙ none 0 h refl in
    let rest = load_faults (length file) (before + h.memory_size) (earlier ++ h ∷ []) hs in
    let one : one_faults (length file) before earlier h ≡ [] = rw placed (rw alone refl) in
    ap (λ x. least (x ++ rest)) one ∙
    faultless file memory hs (before + h.memory_size) (earlier ++ h ∷ []) laid.1 ends.1 (omega (arith, ls, sum, small))
    (λ i k at. ap (list_any (meet k)) (append_assoc earlier (h ∷ []) (take i hs)) ∙ none (suc i) k at)

pub loads_faultless : (file : List ℕ) (memory : Memory) (hs : List ProgramHeader) → AllZip (IsLaid file) memory hs → AllByRecursion (λ part. part.address + length part.bytes ≤ 2 ^ 64) memory →
    AreApart (map extent_in memory) → size_of memory ≤ 2 ^ 30 → least (load_faults (length file) 0 [] hs) ≡ None
loads_faultless file memory hs laid ends apart small = faultless file memory hs 0 [] laid ends (omega (arith, small)) (λ i h at. met_by_none file memory hs i h laid apart at)

-- and none to run
pub low_faultless : (file : List ℕ) (memory : Memory) (hs : List ProgramHeader) (before : ℕ) → AllZip (IsLaid file) memory hs → AllByRecursion IsLow memory → before + size_of memory ≤ 2 ^ 26 →
    low_faults before hs ≡ []
low_faultless file [] [] before laid low small = refl
low_faultless file [] (h ∷ hs) before laid low small = absurd laid
low_faultless file (part ∷ memory) [] before laid low small = absurd laid
low_faultless file (part ∷ memory) (h ∷ hs) before laid low small =
    let l = laid.0 in
    let la = l.address in let ls = l.memory_size in
    let first = low.0.0 in let last = low.0.1 in
    let sum = sum_by-cons (λ (p : Part). length p.bytes) part memory in
    let is : is_low before h ≡ true = grind (arith, nat_tests, la, ls, first, last, sum, small) in
    ap (λ b. unless b SegmentRange h.place ++ low_faults (before + h.memory_size) hs) is ∙ low_faultless file memory hs (before + h.memory_size) laid.1 low.1 (omega (arith, ls, sum, small))
