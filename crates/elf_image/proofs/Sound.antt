-- Segments of which nothing is refused.
use Rattle.std.proofs.Common.{◌≡◌, ◌+◌, ◌-◌, ◌<◌, ◌≤◌, ◌^◌, ℕ, zero, suc, Bool, true, false, nat_lt, List, [], ◌∷◌, ◌++◌, length, take, drop, map, refl, ap, sym, subst, ◌∙◌, arith, append_assoc, append-nil, length-append}
use Rattle.std.specs.Prelude.{Some, None, slice_get, replicate, not, ◌||◌}
use Rattle.std.specs.List.{list_any, AllByRecursion}
use Rattle.std.proofs.lemmas.Bool.Decides.{nat_tests}
use Rattle.std.proofs.lemmas.List.{length-take-le, length-drop, length-replicate}
use Rattle.eh_bytes.specs.declared.segment.Segment.{Segment}
use Rattle.eh_bytes.specs.Extent.{Extent, extent_of, extents_of, Holds, AreApart, AreInRange}
use Rattle.eh_bytes.specs.Memory as memories
use Rattle.table_forms.specs.declared.reason.Reason.TheVariants.{SegmentRange, SegmentOverlap}
use Rattle.table_forms.specs.Fault.{least, unless}
use Rattle.table_forms.proofs.Least.{least-append, none_left, none_right, holds}
use Rattle.elf_image.specs.declared.program.ProgramHeader.{ProgramHeader}
use Rattle.elf_image.specs.Loads.{part_of, is_placed, meet, one_faults, load_faults, AreSound, Placed}

no_more : (b : Bool) → not b ≡ true → b ≡ false
no_more true e = cc
no_more false e = refl

pub sound : (len before : ℕ) (earlier hs : List ProgramHeader) → least (load_faults len before earlier hs) ≡ None → AreSound len before earlier hs
sound len before earlier [] e = tt
sound len before earlier (h ∷ hs) e =
    let a = one_faults len before earlier h in
    let x = unless (is_placed len before h) SegmentRange h.place in
    let y = unless (not (list_any (meet h) earlier)) SegmentOverlap h.place in
    let rest = load_faults len (before + h.memory_size) (earlier ++ h ∷ []) hs in
    let whole = sym (least-append a rest) ∙ e in
    let one = sym (least-append x y) ∙ none_left (least a) (least rest) whole in (
      holds (is_placed len before h) SegmentRange h.place (none_left (least x) (least y) one),
      no_more (list_any (meet h) earlier) (holds (not (list_any (meet h) earlier)) SegmentOverlap h.place (none_right (least x) (least y) one)),
      sound len (before + h.memory_size) (earlier ++ h ∷ []) hs (none_right (least a) (least rest) whole),
    )

pub placed : (len before : ℕ) (h : ProgramHeader) → is_placed len before h ≡ true → Placed len h
placed len before h e =
    record { inside = grind (arith, nat_tests, e); ends = grind (arith, nat_tests, e); room = grind (arith, nat_tests, e); small = grind (arith, nat_tests, e) }

pub all_placed : (len before : ℕ) (earlier hs : List ProgramHeader) → AreSound len before earlier hs → AllByRecursion (Placed len) hs
all_placed len before earlier [] s = tt
all_placed len before earlier (h ∷ hs) s = (placed len before h s.0, all_placed len (before + h.memory_size) (earlier ++ h ∷ []) hs s.2)

-- no segment meets one before it
sound_at : (len before : ℕ) (earlier hs : List ProgramHeader) (j : ℕ) (k : ProgramHeader) → AreSound len before earlier hs → slice_get hs j ≡ Some k →
    list_any (meet k) (earlier ++ take j hs) ≡ false
sound_at len before earlier [] j k s at = cc
sound_at len before earlier (h ∷ hs) zero k s at =
    let same : h ≡ k = some_same h k at in
    ap (list_any (meet k)) (append-nil earlier) ∙ subst (λ x. list_any (meet x) earlier ≡ false) same s.1
  where
    some_same : (x y : ProgramHeader) → Some x ≡ Some y → x ≡ y
    some_same x y e = cc
sound_at len before earlier (h ∷ hs) (suc j) k s at =
    ap (list_any (meet k)) (sym (append_assoc earlier (h ∷ []) (take j hs))) ∙ sound_at len (before + h.memory_size) (earlier ++ h ∷ []) hs j k s.2 at

any_at : (f : ProgramHeader → Bool) (hs : List ProgramHeader) (i : ℕ) (h : ProgramHeader) → list_any f hs ≡ false → slice_get hs i ≡ Some h → f h ≡ false
any_at f [] i h none at = cc
any_at f (x ∷ hs) zero h none at = subst (λ y. f y ≡ false) (some_same x h at) (first (f x) (list_any f hs) none)
  where
    some_same : (y z : ProgramHeader) → Some y ≡ Some z → y ≡ z
    some_same y z e = cc

    first : (a b : Bool) → (a || b) ≡ false → a ≡ false
    first true b e = e
    first false b e = refl
any_at f (x ∷ hs) (suc i) h none at = any_at f hs i h (second (f x) (list_any f hs) none) at
  where
    second : (a b : Bool) → (a || b) ≡ false → b ≡ false
    second true b e = absurd cc
    second false b e = e

take_get : (hs : List ProgramHeader) (i j : ℕ) (h : ProgramHeader) → i < j → slice_get hs i ≡ Some h → slice_get (take j hs) i ≡ Some h
take_get [] i j h less at = cc
take_get (x ∷ hs) i zero h less at = absurd (omega (arith, less))
take_get (x ∷ hs) zero (suc j) h less at = at
take_get (x ∷ hs) (suc i) (suc j) h less at = take_get hs i j h (omega (arith, less)) at

-- the extent of the segment that a header makes
abbrev pub extent_seen : ProgramHeader → Extent
extent_seen h = record { address = h.address; size = h.memory_size; file_at = h.offset }

seen_at : (hs : List ProgramHeader) (i : ℕ) (s : Extent) → slice_get (map extent_seen hs) i ≡ Some s → (h : ProgramHeader) × (slice_get hs i ≡ Some h) × (extent_seen h ≡ s)
seen_at [] i s at = cc
seen_at (h ∷ hs) zero s at = (h, refl, some_same (extent_seen h) s at)
  where
    some_same : (x y : Extent) → Some x ≡ Some y → x ≡ y
    some_same x y e = cc
seen_at (h ∷ hs) (suc i) s at = seen_at hs i s at

-- no address lies in an earlier one and a later one
not_both : (len : ℕ) (hs : List ProgramHeader) (i j a : ℕ) (h k : ProgramHeader) → AreSound len 0 [] hs → i < j → slice_get hs i ≡ Some h → slice_get hs j ≡ Some k →
    Holds (extent_seen h) a → Holds (extent_seen k) a → ⊥
not_both len hs i j a h k s less at_i at_j in_h in_k =
    let none : meet k h ≡ false = any_at (meet k) (take j hs) i h (sound_at len 0 [] hs j k s at_j) (take_get hs i j h less at_i) in
    let h0 = in_h.0 in let h1 = in_h.1 in let k0 = in_k.0 in let k1 = in_k.1 in
    let some : meet k h ≡ true = grind (arith, nat_tests, h0, h1, k0, k1) in
    absurd (let f : true ≡ false = sym some ∙ none in cc)

apart_seen : (len : ℕ) (hs : List ProgramHeader) → AreSound len 0 [] hs → AreApart (map extent_seen hs)
apart_seen len hs s i j a x y at_i at_j in_x in_y =
    let hi = seen_at hs i x at_i in
    let hj = seen_at hs j y at_j in
    let in_h : Holds (extent_seen hi.0) a = subst (λ e. Holds e a) (sym hi.2) in_x in
    let in_k : Holds (extent_seen hj.0) a = subst (λ e. Holds e a) (sym hj.2) in_y in
    by_order hi.0 hj.0 hi.1 hj.1 in_h in_k (nat_lt i j) (nat_lt j i) refl refl
  where
    by_order : (h k : ProgramHeader) → slice_get hs i ≡ Some h → slice_get hs j ≡ Some k → Holds (extent_seen h) a → Holds (extent_seen k) a →
        (p q : Bool) → nat_lt i j ≡ p → nat_lt j i ≡ q → i ≡ j
    by_order h k hi hj in_h in_k true q e f = absurd (not_both len hs i j a h k s (grind (arith, nat_tests, e)) hi hj in_h in_k)
    by_order h k hi hj in_h in_k false true e f = absurd (not_both len hs j i a k h s (grind (arith, nat_tests, f)) hj hi in_k in_h)
    by_order h k hi hj in_h in_k false false e f = grind (arith, nat_tests, e, f)

range_seen : (len : ℕ) (hs : List ProgramHeader) → len < 2 ^ 63 → AllByRecursion (Placed len) hs → AreInRange (map extent_seen hs)
range_seen len [] short all i x at = cc
range_seen len (h ∷ hs) short all zero x at =
    let same : extent_seen h ≡ x = some_same (extent_seen h) x at in
    let p = all.0 in let a = p.inside in let b = p.ends in let c = p.small in
    subst (λ e. (e.address + e.size ≤ 2 ^ 64) × (e.file_at + e.size < 2 ^ 64)) same (b, omega (arith, a, c, short))
  where
    some_same : (y z : Extent) → Some y ≡ Some z → y ≡ z
    some_same y z e = cc
range_seen len (h ∷ hs) short all (suc i) x at = range_seen len hs short all.1 i x at

-- the bytes of a segment are as many as its memory size
pub size_seen : (file : List ℕ) (h : ProgramHeader) → Placed (length file) h → length (part_of file h).bytes ≡ h.memory_size
size_seen file h p =
    let inside = p.inside in
    let room = p.room in
    let zeros : List ℕ = replicate (h.memory_size - h.file_size) 0 in
    let long : length {A = ℕ} zeros ≡ h.memory_size - h.file_size = length-replicate (h.memory_size - h.file_size) 0 in
    let left = length-drop h.offset file in
    let taken : length (take h.file_size (drop h.offset file)) ≡ h.file_size = length-take-le h.file_size (drop h.offset file) (omega (arith, inside, left)) in
    omega (arith, room, long, taken, length-append (take h.file_size (drop h.offset file)) zeros)

-- the extent of what a memory has
abbrev pub extent_in : memories.Part → Extent
extent_in part = record { address = part.address; size = length part.bytes; file_at = part.file_at }

pub extents_in : (parts : List Segment) → extents_of parts ≡ map extent_in (map memories.part_of parts)
extents_in [] = refl
extents_in (s ∷ parts) = ap (λ x. extent_of s ∷ x) (extents_in parts)

extents_seen : (file : List ℕ) (hs : List ProgramHeader) → AllByRecursion (Placed (length file)) hs → map extent_in (map (part_of file) hs) ≡ map extent_seen hs
extents_seen file [] all = refl
extents_seen file (h ∷ hs) all =
    ap (λ n. record { address = h.address; size = n; file_at = h.offset } ∷ map extent_in (map (part_of file) hs)) (size_seen file h all.0) ∙
    ap (λ x. extent_seen h ∷ x) (extents_seen file hs all.1)

extents_are : (file : List ℕ) (hs : List ProgramHeader) (parts : List Segment) → AllByRecursion (Placed (length file)) hs → map memories.part_of parts ≡ map (part_of file) hs →
    map extent_seen hs ≡ extents_of parts
extents_are file hs parts all made = sym (extents_in parts ∙ ap (map extent_in) made ∙ extents_seen file hs all)

-- the segments that are made are apart and in range
pub parts_apart : (file : List ℕ) (hs : List ProgramHeader) (parts : List Segment) → AreSound (length file) 0 [] hs → map memories.part_of parts ≡ map (part_of file) hs →
    AreApart (extents_of parts)
parts_apart file hs parts s made = subst AreApart (extents_are file hs parts (all_placed (length file) 0 [] hs s) made) (apart_seen (length file) hs s)

pub parts_in_range : (file : List ℕ) (hs : List ProgramHeader) (parts : List Segment) → length file < 2 ^ 63 → AreSound (length file) 0 [] hs →
    map memories.part_of parts ≡ map (part_of file) hs → AreInRange (extents_of parts)
parts_in_range file hs parts short s made =
    let all = all_placed (length file) 0 [] hs s in
    subst AreInRange (extents_are file hs parts all made) (range_seen (length file) hs short all)
