-- Operations that make no call, and what is asked where one is made; the turns that match a step.
use Rattle.std.specs.Prelude.{◌≡◌, ℕ, ◌^◌, ◌<◌, ◌≤◌, false, List, length, Some, None}
use Rattle.run_items.specs.declared.item.Item.{Item}
use Rattle.cxa_runtime.specs.World.{World}
use Rattle.cxa_runtime.specs.Raising.{Image}
use Rattle.region_forms.specs.Form.{Place, Value, call_value, evaluate, store, bind}
use Rattle.region_forms.specs.World.{Address, Frame, World as SourceWorld}
use Rattle.region_forms.specs.WellFormed.{is_variable}
use Rattle.region_forms.specs.Evaluation.{Location, locate, address_of}
use Rattle.linear_forms.specs.Linear.{LinearOp, plain, label, jump, jump_zero}
use Rattle.machine_forms.specs.Shape.{slot_offset}
use Rattle.machine_forms.specs.KeptCode.{root_register}
use Rattle.machine_pieces.specs.Frames.{RootFits, ValueStands}
use Rattle.machine_pieces.specs.Turning.{ForcedTurns, Turns}
use Rattle.machine_simulation.specs.Plan.{Plan, shape, slot_kinds, setting}
use Rattle.machine_simulation.specs.Extents.{AddressStands, LocationStands}

-- a value is no call
abbrev pub NoCall : Value → Type 0
NoCall (call_value c args) = ⊥
NoCall v = Unit {0}

-- an operation does nothing outside its call, and calls nothing
abbrev pub IsQuiet : LinearOp → Type 0
IsQuiet (plain (evaluate v)) = NoCall v
IsQuiet (plain (store q v)) = NoCall v
IsQuiet (plain (bind s q)) = Unit {0}
IsQuiet (label l) = Unit {0}
IsQuiet (jump l) = Unit {0}
IsQuiet (jump_zero v l) = Unit {0}
IsQuiet o = ⊥

abbrev pub PlaceFits : Plan → ℕ → Frame → Place → Type 0
PlaceFits p n frame q = RootFits (setting p n) (shape p n) (slot_kinds p n) frame q.root q.offset

-- an int may be written at a place: it is a kept variable, or a place in memory
abbrev pub PlaceStands : Plan → ℕ → Frame → Place → Type 0
PlaceStands p n frame q = PlaceFits p n frame q × (root_register (shape p n) q.root ≡ None → (l : Location) → locate (slot_kinds p n) frame q ≡ Some l → LocationStands p (shape p n) (slot_kinds p n) l)

-- what is needed in a frame where an operation is made
abbrev pub OperationStands : Plan → ℕ → Frame → SourceWorld → LinearOp → Type 0
OperationStands p n frame w (plain (store q v)) = ValueStands (setting p n) (shape p n) (slot_kinds p n) frame w v × PlaceStands p n frame q
OperationStands p n frame w (plain (bind s q)) =
    PlaceFits p n frame q × (root_register (shape p n) q.root ≡ None) × ((b : Address) → address_of (slot_kinds p n) frame q ≡ Some b → AddressStands p b)
    × (s < length (shape p n).slots) × (is_variable (slot_kinds p n s) ≡ false) × (slot_offset (shape p n) s < 2 ^ 11)
OperationStands p n frame w (jump_zero v l) = ValueStands (setting p n) (shape p n) (slot_kinds p n) frame w v
OperationStands p n frame w o = Unit {0}

-- the turns that match one step, of an operation of so many words: no more than there are words, and at least one if there is a word
pub record Matched (image : Image) (words : ℕ) (w : World) (items : List Item) (P : World → Type 0) : Type 0 where
  pub turns : ℕ
  pub few : turns ≤ words
  pub some : 0 < words → 0 < turns
  pub after : World
  pub runs : Turns image turns w after items
  pub holds : P after

-- and so it is where a forced unwind may begin
pub record ForcedMatched (image : Image) (words : ℕ) (w : World) (items : List Item) (P : World → Type 0) : Type 0 where
  pub turns : ℕ
  pub few : turns ≤ words
  pub some : 0 < words → 0 < turns
  pub after : World
  pub runs : ForcedTurns image turns w after items
  pub holds : P after
