-- The row of an FDE of the list is read again at its address.
use Rattle.std.proofs.Common.{◌≡◌, ◌+◌, ◌-◌, ◌≤◌, ℕ, suc, Bool, true, false, List, [], ◌∷◌, map, length, option_and_then, Option, Some, None, Result, Ok, Err, refl, ap, sym, subst, ◌∙◌, arith, if◌then◌else◌, Contains, slice_get, IsOkAnd}
use Rattle.std.proofs.lemmas.Bool.Decides.{nat_tests}
use Rattle.eh_bytes.specs.declared.segment.Segment.{Segment}
use Rattle.eh_bytes.specs.declared.segment.Segments.{Segments}
use Rattle.eh_bytes.specs.Extent.{Extent, AreApart, Holds, extents_of, extent_of}
use Rattle.eh_bytes.specs.Memory.{Part, Memory, part_of, memory_of, covers, part_with}
use Rattle.table_forms.specs.Fault.{Fault}
use Rattle.table_forms.specs.Fde.{Fde, is_in}
use Rattle.table_forms.specs.Header.{header_at}
use Rattle.table_forms.specs.Frames.{Frames, parts_in, parts_behind, frames_from, frames}
use Rattle.frame_read.specs.Entry.{fde_here, fde_in}
use Rattle.frame_read.proofs.Members.{In, contains_in, in_contains}
use Rattle.frame_read.specs.Listed.{fde_listed}
use Rattle.frame_read.specs.ReadsFrames.{Listing, listing}
use Rattle.frame_read.specs.Given.{IsFrameOf}
use Rattle.frame_read.specs.declared.listed.Fde as shown
use Rattle.frame_read.proofs.Again.{Stands, parts_again, in_map}
use Rattle.frame_read.proofs.Reading.{first_of, table_of, read_of, frames_by, by_both}

some_part : (x y : Part) → (λ (w : Option Part). w) (Some x) ≡ Some y → x ≡ y
some_part x y e = cc

abbrev extent_at : Part → Extent
extent_at part = record { address = part.address; size = length part.bytes; file_at = part.file_at }

found_at : (parts : List Segment) (a : ℕ) (part : Part) → part_with (map part_of parts) a ≡ Some part → (i : ℕ) × (slice_get (extents_of parts) i ≡ Some (extent_at part))
found_at [] a part found = absurd cc
found_at (s ∷ parts) a part found = by (found_at parts a part) (covers (part_of s) a) found
  where
    by : (part_with (map part_of parts) a ≡ Some part → (i : ℕ) × (slice_get (extents_of parts) i ≡ Some (extent_at part))) → (b : Bool) →
        (if b then Some (part_of s) else part_with (map part_of parts) a) ≡ Some part → (i : ℕ) × (slice_get (extents_of (s ∷ parts)) i ≡ Some (extent_at part))
    by later true e = (0, ap (λ (p : Part). Some (extent_at p)) (some_part (part_of s) part e))
    by later false e = let r = later e in (suc r.0, r.1)

holds : (part : Part) (a : ℕ) → covers part a ≡ true → Holds (extent_at part) a
holds part a e = (grind (arith, nat_tests, e), grind (arith, nat_tests, e))

-- a part that is found at a place is found at each of its places
pub same_part : (parts : List Segment) (a b : ℕ) (part : Part) → AreApart (extents_of parts) → part_with (map part_of parts) a ≡ Some part → covers part b ≡ true →
    part_with (map part_of parts) b ≡ Some part
same_part [] a b part apart found covered = absurd cc
same_part (s ∷ parts) a b part apart found covered =
    by (λ e. same_part parts a b part (λ i j x t u e f h k. let n = apart (suc i) (suc j) x t u e f h k in omega (arith, n)) e covered) (covers (part_of s) a) found
  where
    tail : part_with (map part_of parts) a ≡ Some part → part_with (map part_of parts) b ≡ Some part → (c : Bool) → covers (part_of s) b ≡ c →
        (if c then Some (part_of s) else part_with (map part_of parts) b) ≡ Some part
    tail e there false f = there
    tail e there true f =
        let r = found_at parts a part e in
        let n = apart 0 (suc r.0) b (extent_of s) (extent_at part) refl r.1 (holds (part_of s) b f) (holds part b covered) in absurd (omega (arith, n))

    by : (part_with (map part_of parts) a ≡ Some part → part_with (map part_of parts) b ≡ Some part) → (c : Bool) →
        (if c then Some (part_of s) else part_with (map part_of parts) a) ≡ Some part → part_with (map part_of (s ∷ parts)) b ≡ Some part
    by later true e =
        let same = some_part (part_of s) part e in
        let here : covers (part_of s) b ≡ true = ap (λ (p : Part). covers p b) same ∙ covered in
        ap (λ c. if c then Some (part_of s) else part_with (map part_of parts) b) here ∙ ap (λ (p : Part). Some p) same
    by later false e = tail e (later e) (covers (part_of s) b) refl

pub record Found (memory : Memory) (f : Fde) : Type 0 where
  pub start : ℕ
  pub part : Part
  pub there : part_with memory start ≡ Some part
  pub stands : Stands part f

frames_again : (memory : Memory) (header : ℕ) (d : Frames) (f : Fde) → frames memory header ≡ Ok d → In f d.fdes → Found memory f
unfolding frames
frames_again memory header d f reads here = from (part_with memory header) reads
  where
    in_part : (a : ℕ) (pp : ℕ) (o : Option Part) → part_with memory a ≡ o → In f (parts_in pp o a).fdes → Found memory f
    in_part a pp None e there = absurd there
    in_part a pp (Some part) e there = record { start = a; part = part; there = e; stands = parts_again part (a - part.address) f there }

    behind : (pp : ℕ) (o : Option ℕ) → In f (parts_behind memory pp o).fdes → Found memory f
    behind pp None there = absurd there
    behind pp (Some a) there = in_part a pp (part_with memory a) refl there

    both : (p : ℕ) (part : Part) (first table : Option Fault) → frames_by memory p part first table ≡ Ok d → Found memory f
    both p part (Some g) table e = absurd cc
    both p part None (Some g) e = absurd cc
    both p part None None e =
        behind (part.file_at + (p + 4)) (header_at part p).frames_at (subst (λ (x : Frames). In f x.fdes) (sym (same (read_of memory p part) d e)) here)
      where
        same : (x y : Frames) → (λ (w : Result Frames Fault). w) (Ok x) ≡ Ok y → x ≡ y
        same x y e = cc

    from : (o : Option Part) → frames_from memory header o ≡ Ok d → Found memory f
    from None e = absurd cc
    from (Some part) e = both (header - part.address) part (first_of memory (header - part.address) part) (table_of memory (header - part.address) part) (sym (by_both memory (header - part.address) part) ∙ e)

-- an FDE of the list is read at its address
found_again : (parts : List Segment) (header : ℕ) (d : Frames) (f : Fde) → AreApart (extents_of parts) → frames (map part_of parts) header ≡ Ok d → Contains d.fdes f →
    fde_in (map part_of parts) f.address ≡ Some f
unfolding fde_in
found_again parts header d f apart reads listed =
    let r = frames_again (map part_of parts) header d f reads (contains_in d.fdes f listed) in
    let s = r.stands in
    let there : covers r.part f.address ≡ true = grind (arith, nat_tests, s.address, s.inside) in
    let same = same_part parts r.start f.address r.part apart r.there there in
    let at : f.address - r.part.address ≡ s.at = omega (arith, s.address) in
    ap (option_and_then (λ part. fde_here part (f.address - part.address))) same ∙ ap (fde_here r.part) at ∙ s.here

-- the FDE that a frame of a memory has
pub frame_again : (m : Segments) (list : Listing) (fde : shown.Fde) (pc : ℕ) (f : Fde) → IsFrameOf (memory_of m) list fde pc f → fde_in (memory_of m) fde.address ≡ Some f
frame_again m list fde pc f g =
    ap (λ (x : shown.Fde). fde_in (memory_of m) x.address) g.listed ∙ found_again m.parts.items g.header g.read f m.apart g.reads g.stands

-- its place is not before the region
pub starts_at : (memory : Memory) (list : Listing) (fde : shown.Fde) (pc : ℕ) (f : Fde) → IsFrameOf memory list fde pc f → f.region.start ≤ pc
starts_at memory list fde pc f g = let inside = g.inside in grind (arith, nat_tests, inside)

-- what a successful reading lists is listed for one of its FDEs
pub is_frame : (memory : Memory) (list : Listing) (fde : shown.Fde) (pc header : ℕ) → IsOkAnd (frames memory header) (λ d. list ≡ listing d) → Contains list.fdes fde →
    is_in fde.region pc ≡ true → (f : Fde) × IsFrameOf memory list fde pc f
is_frame memory list fde pc header reads listed inside = by (frames memory header) refl reads
  where
    by : (r : Result Frames Fault) → frames memory header ≡ r → IsOkAnd r (λ d. list ≡ listing d) → (f : Fde) × IsFrameOf memory list fde pc f
    by (Err g) e lists = absurd lists
    by (Ok d) e lists =
        let there : In fde (map fde_listed d.fdes) = subst (λ (l : Listing). In fde l.fdes) lists (contains_in list.fdes fde listed) in
        let x = in_map fde_listed d.fdes fde there in
        let inside' : is_in x.0.region pc ≡ true = subst (λ (y : shown.Fde). is_in y.region pc ≡ true) x.2 inside in
        (x.0, record { header = header; read = d; reads = e; lists = lists; stands = in_contains d.fdes x.0 x.1; listed = x.2; inside = inside' })
