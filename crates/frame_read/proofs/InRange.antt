-- A segment that is found ends within the address space, and its file within the numbers of 64 bits.
use Rattle.std.proofs.Common.{◌≡◌, ◌<◌, ◌≤◌, ◌+◌, ◌^◌, ℕ, suc, Bool, true, false, List, [], ◌∷◌, map, length, Some, refl, subst, if◌then◌else◌}
use Rattle.eh_bytes.specs.declared.segment.Segment.{Segment}
use Rattle.eh_bytes.specs.Extent.{AreInRange, extents_of, extent_of}
use Rattle.eh_bytes.specs.Memory.{Part, part_of, covers, part_with}

abbrev pub IsInRange : Part → Type 0
IsInRange part = (part.address + length part.bytes ≤ 2 ^ 64) × (part.file_at + length part.bytes < 2 ^ 64)

pub found_in_range : (parts : List Segment) (a : ℕ) (part : Part) → AreInRange (extents_of parts) → part_with (map part_of parts) a ≡ Some part → IsInRange part
found_in_range [] a part range found = absurd cc
found_in_range (s ∷ parts) a part range found =
    by (covers (part_of s) a) found (found_in_range parts a part (λ i t at. range (suc i) t at))
  where
    some_same : (x y : Part) → Some x ≡ Some y → x ≡ y
    some_same x y e = cc

    by : (b : Bool) → (if b then Some (part_of s) else part_with (map part_of parts) a) ≡ Some part →
        (part_with (map part_of parts) a ≡ Some part → IsInRange part) → IsInRange part
    by true here later = subst IsInRange (some_same (part_of s) part here) (range 0 (extent_of s) refl)
    by false here later = later here
