-- A function's slots and the size of its compiled frame.
use Rattle.std.specs.Prelude.{ℕ, ◌+◌, ◌*◌, ◌/◌, Bool, true, false, ◌||◌, List, [], ◌∷◌, ◌++◌, if◌then◌else◌}
use Rattle.region_forms.specs.Form.{Slot, Region, seq, branch, loop, protect, catch, limit, barrier, RegionList, no_regions, region_then, RegionFunction}
use Rattle.region_forms.specs.LowerProgram.{help}

-- some part of a region has a landing pad
abbrev mutual
  pub has_pad : Region → Bool
  has_pad (seq rs) = some_has_pad rs
  has_pad (branch v a b) = has_pad a || has_pad b
  has_pad (loop v r) = has_pad r
  has_pad (protect r c) = true
  has_pad (catch r cs) = true
  has_pad (limit r types) = true
  has_pad (barrier r) = has_pad r
  has_pad _ = false

  pub some_has_pad : RegionList → Bool
  some_has_pad no_regions = false
  some_has_pad (region_then r rs) = has_pad r || some_has_pad rs

-- behind a function's slots stand those for the object and the selector that a pad gets, and for where an exit goes on
abbrev pub code_slots : RegionFunction → List Slot
code_slots f = f.slots ++ (if has_pad f.body then help ∷ help ∷ help ∷ [] else [])

-- a number of bytes, rounded up to a multiple of n + 1
abbrev pub rounded_up : ℕ → ℕ → ℕ
rounded_up n bytes = (bytes + n) / (n + 1) * (n + 1)

-- the bytes of slots, each rounded up to a multiple of 8
abbrev pub slot_bytes : List Slot → ℕ
slot_bytes [] = 0
slot_bytes (s ∷ slots) = rounded_up 7 s.size + slot_bytes slots

-- the return address, and a word for the use of emission
abbrev pub saved_bytes : ℕ
saved_bytes = 16

-- The size of a function's frame, a multiple of 16 as the RISC-V calling convention has it. Fixed here are the saved area and that each
-- slot has its own bytes for the whole call. Emission fixes which place each has. Nothing is kept for operands, since a value without
-- calls is computed in registers, nor for what is passed, since a caller writes it where the slots of the called function will stand.
abbrev pub frame_bytes : List Slot → ℕ
frame_bytes slots = rounded_up 15 (saved_bytes + slot_bytes slots)
