-- Where the registers of kept variables are saved.
use Rattle.std.specs.Prelude.{◌≡◌, ◌+◌, ◌*◌, ◌≤◌, ◌<◌, ℕ, pos, ◌-ℤ◌, length, slice_get, Some}
use Rattle.eh_bytes.specs.declared.frames.FrameChange.TheVariants.{Saved}
use Rattle.region_forms.specs.Form.{RegionFunction}
use Rattle.linear_forms.specs.Linear.{FunctionCode}
use Rattle.linear_forms.specs.Unit.{function_code}
use Rattle.machine_forms.specs.Emitted.{shape_of, function_routine}
use Rattle.machine_forms.specs.Kept.{kept_slots}
use Rattle.machine_forms.specs.Registers.{saved_registers}
use Rattle.machine_forms.specs.Shape.{prologue, slot_offset, move_at}

-- Behind the two changes of a function's prologue there is one for each kept variable, in their order: past the prologue the register of the
-- variable is saved in its slot. These places, of 8 bytes each, are apart, and above the return address.
pub record RegistersAreSavedApart (g : FunctionCode) : Type 0 where
  pub moves : length (function_routine g).moves ≡ 2 + length (kept_slots g)
  pub saved : (j s r : ℕ) → slice_get (kept_slots g) j ≡ Some s → slice_get saved_registers j ≡ Some r →
      (n : ℕ) × (slice_get (function_routine g).moves (2 + j) ≡ Some (move_at (4 * n) (Saved r (pos (slot_offset (shape_of g) s) -ℤ pos g.frame)))) × (length (prologue (shape_of g)) < n)
  pub apart : (j k s t : ℕ) → slice_get (kept_slots g) j ≡ Some s → slice_get (kept_slots g) k ≡ Some t → j < k → slot_offset (shape_of g) t + 8 ≤ slot_offset (shape_of g) s
  pub inside : (j s : ℕ) → slice_get (kept_slots g) j ≡ Some s → 16 ≤ slot_offset (shape_of g) s

-- so it is in the code of all regions
abbrev pub KeptRegistersAreSaved : Type 0
KeptRegistersAreSaved = (f : RegionFunction) → RegistersAreSavedApart (function_code f)
