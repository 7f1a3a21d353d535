-- What the calls of laws state of kept variables.
use Rattle.std.specs.Prelude.{◌≡◌, ℕ, ◌+◌, ◌≤◌, ◌%◌, true, false, List, [], ◌∷◌, length, slice_get, Some}
use Rattle.region_forms.specs.Form.{Slot}
use Rattle.linear_forms.specs.Linear.{FunctionCode}
use Rattle.linear_forms.specs.Frame.{slot_bytes, frame_bytes}
use Rattle.machine_forms.specs.Registers.{saved_registers}
use Rattle.machine_forms.specs.Shape.{Shape, prologue}
use Rattle.machine_forms.specs.Kept.{is_int, is_taken, kept_slots}
use Rattle.machine_forms.specs.KeptCode.{register_of, saves, restores}

-- a kept variable is an int variable of the function, and no operation takes its address
pub record IsKept (g : FunctionCode) (s : ℕ) : Type 0 where
  pub slot : Slot
  pub there : slice_get g.slots s ≡ Some slot
  pub int : is_int slot.kind ≡ true
  pub size : slot.size ≡ 4
  pub free : is_taken s g.ops ≡ false

-- There are ten at most, and the j-th has the j-th register. So few words save these registers, and so few restore them.
pub record VariablesAreKept (g : FunctionCode) : Type 0 where
  pub few : length (kept_slots g) ≤ 10
  pub are : (j s : ℕ) → slice_get (kept_slots g) j ≡ Some s → IsKept g s
  pub registers : (j s : ℕ) → slice_get (kept_slots g) j ≡ Some s → register_of (kept_slots g) s ≡ slice_get saved_registers j
  pub saved : (f : Shape) (parameters : ℕ) → length (saves f parameters saved_registers (kept_slots g)) ≤ 30
  pub restored : (f : Shape) → length (restores f saved_registers (kept_slots g)) ≤ 10

abbrev pub AllVariablesAreKept : Type 0
AllVariablesAreKept = (g : FunctionCode) → VariablesAreKept g

-- A frame has at most 24 bytes beside its slots, and an int's slot has 8. So where slots are those of kept variables and some others, the frame
-- has at most 24 bytes beside 8 for each of the first and the bytes of the rest.
pub record FramesAreSmall : Type 0 where
  pub even : (slots : List Slot) → slot_bytes slots % 8 ≡ 0
  pub frame : (slots : List Slot) → frame_bytes slots ≤ slot_bytes slots + 24
  pub int : (s : Slot) → s.size ≡ 4 → slot_bytes (s ∷ []) ≡ 8
