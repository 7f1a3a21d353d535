-- The offsets of a frame's slots, each made from the one before.
use Rattle.std.specs.Prelude.{◌≡◌, ℕ, ◌-◌, Bool, List, [], ◌∷◌}
use Rattle.region_forms.specs.Form.{Slot}
use Rattle.linear_forms.specs.Frame.{rounded_up, slot_bytes}
use Rattle.linear_forms.specs.Linear.{FunctionCode}
use Rattle.machine_forms.specs.Kept.{kept_slots}
use Rattle.machine_forms.specs.Leaf.{is_leaf}

-- the first byte of each slot, where the first of them ends at a byte
abbrev pub offsets_below : ℕ → List Slot → List ℕ
offsets_below end [] = []
offsets_below end (s ∷ slots) = (end - rounded_up 7 s.size) ∷ offsets_below (end - rounded_up 7 s.size) slots

-- the offsets of a function's slots, where the last of them begins, its kept variables, and whether it is a leaf
pub record HasFrame (f : FunctionCode) (made : List ℕ) (last : ℕ) (chosen : List ℕ) (quiet : Bool) : Type 0 where
  pub offsets : made ≡ offsets_below f.frame f.slots
  pub lowest : last ≡ f.frame - slot_bytes f.slots
  pub kept : chosen ≡ kept_slots f
  pub leaf : quiet ≡ is_leaf f
