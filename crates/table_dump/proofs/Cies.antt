-- The CIEs as they are listed, in the segment of the frames.
use Rattle.std.proofs.Common.{◌≡◌, ◌+◌, ◌≤◌, ◌^◌, ℕ, suc, Bool, true, false, List, [], ◌∷◌, ◌++◌, map, length, Option, Some, None, Ok, refl, ap, sym, subst, ◌∙◌, arith, if◌then◌else◌}
use Rattle.std.specs.Prelude.{find, flat_map, option_map, option_and_then}
use Rattle.std.specs.List.{AllByRecursion}
use Rattle.eh_bytes.specs.declared.segment.Segment.{Segment}
use Rattle.eh_bytes.specs.Extent.{extents_of, AreInRange}
use Rattle.eh_bytes.specs.Memory.{Part, Memory, part_of, part_with, covers}
use Rattle.table_forms.specs.Cie as forms
use Rattle.table_forms.specs.Frames.{Frames, frames}
use Rattle.elf_image.specs.Runnable.{frames_start}
use Rattle.frame_read.specs.Listed.{cie_listed}
use Rattle.table_dump.specs.declared.head.Base.{Base}
use Rattle.table_dump.specs.Heads.{cie_line, frames_part}
use Rattle.table_dump.specs.Listed.{EndsInSpace, StandsIn, listed_line}
use Rattle.table_dump.specs.Pointed.{pointed, base_of}
use Rattle.table_dump.proofs.Places.{IsPlaced, ArePlaced, frames_placed}
use Rattle.table_dump.proofs.Pointers.{pointed_same}

-- ---- segments end in the address space
pub segments_end : (parts : List Segment) → AreInRange (extents_of parts) → AllByRecursion EndsInSpace parts
segments_end [] range = tt
segments_end (s ∷ parts) range = ((range 0 _ refl).0, segments_end parts (λ i x at. range (suc i) x at))

abbrev Ends : Part → Type 0
Ends part = part.address + length part.bytes ≤ 2 ^ 64

parts_end : (parts : List Segment) → AllByRecursion EndsInSpace parts → AllByRecursion Ends (map part_of parts)
parts_end [] all = tt
parts_end (s ∷ parts) all = (all.0, parts_end parts all.1)

found : (test : Part → Bool) (parts : List Part) (part : Part) → AllByRecursion Ends parts → find test parts ≡ Some part → Ends part
found test [] part all is = absurd cc
found test (q ∷ parts) part all is = by (found test parts part all.1) (test q) is
  where
    same : (x y : Part) → Some x ≡ Some y → x ≡ y
    same x y e = cc

    by : (find test parts ≡ Some part → Ends part) → (b : Bool) → (if b then Some q else find test parts) ≡ Some part → Ends part
    by later true is = subst Ends (same q part is) all.0
    by later false is = later is

abbrev led : Memory → Option ℕ → Option Part
led memory o = option_and_then (part_with memory) o

led_end : (memory : Memory) (o : Option ℕ) (part : Part) → AllByRecursion Ends memory → led memory o ≡ Some part → Ends part
led_end memory None part all is = absurd cc
led_end memory (Some a) part all is = found (λ q. covers q a) memory part all is

-- ---- each stands in it
stand : (part : Part) (cies : List forms.Cie) → Ends part → AllByRecursion (IsPlaced part) cies → AllByRecursion (StandsIn (base_of part)) (map cie_listed cies)
stand part [] ends all = tt
stand part (c ∷ cies) ends all = (let p = all.0.0 in let q = all.0.1 in record { low = p; high = omega (arith, p, q, ends) }, stand part cies ends all.1)

lines : (part : Part) (cies : List forms.Cie) → flat_map (listed_line (base_of part)) (map cie_listed cies) ≡ flat_map (cie_line (Some part)) cies
lines part [] = refl
lines part (c ∷ cies) = ap (λ xs. cie_line (Some part) c ++ xs) (lines part cies)

base_same : (part : Part) (base : Base) → Some base ≡ Some (base_of part) → base_of part ≡ base
base_same part base e = cc

pub cies_stand : (parts : List Segment) (header : ℕ) (d : Frames) (base : Base) → AllByRecursion EndsInSpace parts → frames (map part_of parts) header ≡ Ok d →
    Some base ≡ option_map base_of (pointed (map part_of parts) header) → AllByRecursion (StandsIn base) (map cie_listed d.cies)
cies_stand parts header d base all is at =
    by (frames_part (map part_of parts) header) refl (frames_placed (map part_of parts) header d is) (at ∙ ap (option_map base_of) (pointed_same (map part_of parts) header d is))
  where
    by : (o : Option Part) → frames_part (map part_of parts) header ≡ o → ArePlaced o d.cies → Some base ≡ option_map base_of o → AllByRecursion (StandsIn base) (map cie_listed d.cies)
    by None e placed at = absurd cc
    by (Some part) e placed at =
        subst (λ b. AllByRecursion (StandsIn b) (map cie_listed d.cies)) (base_same part base at)
        (stand part d.cies (led_end (map part_of parts) (frames_start (map part_of parts) header) part (parts_end parts all) e) placed)

pub cies_lines : (memory : Memory) (header : ℕ) (d : Frames) (base : Base) → frames memory header ≡ Ok d → Some base ≡ option_map base_of (pointed memory header) →
    flat_map (listed_line base) (map cie_listed d.cies) ≡ flat_map (cie_line (frames_part memory header)) d.cies
cies_lines memory header d base is at = by (frames_part memory header) (at ∙ ap (option_map base_of) (pointed_same memory header d is))
  where
    by : (o : Option Part) → Some base ≡ option_map base_of o → flat_map (listed_line base) (map cie_listed d.cies) ≡ flat_map (cie_line o) d.cies
    by None at = absurd cc
    by (Some part) at = ap (λ b. flat_map (listed_line b) (map cie_listed d.cies)) (sym (base_same part base at)) ∙ lines part d.cies

pub cies_none : (memory : Memory) (header : ℕ) (d : Frames) → frames memory header ≡ Ok d → None ≡ option_map base_of (pointed memory header) →
    flat_map (cie_line (frames_part memory header)) d.cies ≡ []
cies_none memory header d is at =
    by (frames_part memory header) (frames_placed memory header d is) (at ∙ ap (option_map base_of) (pointed_same memory header d is))
  where
    by : (o : Option Part) → ArePlaced o d.cies → None ≡ option_map base_of o → flat_map (cie_line o) d.cies ≡ []
    by None none at = ap (flat_map (cie_line None)) none
    by (Some part) placed at = absurd cc
