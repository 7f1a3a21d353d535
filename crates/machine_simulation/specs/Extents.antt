-- Bytes of one thing are those of no other, so that a store leaves all but what it is made to.
use Rattle.std.specs.Prelude.{◌≡◌, ◌≢◌, ℕ, ◌+◌, ◌%◌, ◌^◌, ◌<◌, ◌≤◌, Bool, true, false, nat_lt, ℤ, List, length, Some}
use Rattle.rv64_isa.specs.State.{Part}
use Rattle.region_forms.specs.Form.{Kinds}
use Rattle.region_forms.specs.World.{Base, of_global, of_variable, of_exception, Address, nothing, Frame, World}
use Rattle.region_forms.specs.Evaluation.{Location, in_memory, in_frame}
use Rattle.region_forms.specs.WellFormed.{is_variable}
use Rattle.machine_forms.specs.Shape.{Shape}
use Rattle.machine_pieces.specs.Memory.{MayWrite, Apart}
use Rattle.machine_simulation.specs.Plan.{Plan}

-- a slot of a newer call than one
abbrev pub newer : ℕ → Base → Bool
newer c (of_global g) = false
newer c (of_variable d s) = nat_lt c d
newer c (of_exception e) = false

-- what is live has bytes of its own, which may be written
pub record StandApart (p : Plan) (memory : List Part) : Type 0 where
  pub apart : (a b : Base) → p.live a ≡ true → p.live b ≡ true → a ≢ b → Apart (p.at a) (p.size a) (p.at b) (p.size b)
  pub may : (b : Base) (o n : ℕ) → p.live b ≡ true → o + n ≤ p.size b → MayWrite memory (p.at b + o) n
  pub below : (b : Base) → p.live b ≡ true → p.at b + p.size b < 2 ^ 64
  pub aligned : (b : Base) → p.live b ≡ true → p.at b % 4 ≡ 0

-- each int at a live address lies inside bytes for ints
abbrev pub IntsInside : Plan → World → Type 0
IntsInside p w = (a : Address) (z : ℤ) → p.live a.base ≡ true → w.memory a ≡ Some z → (a.offset + 4 ≤ p.size a.base) × (p.ints a.base ≡ true)

-- variables of a call hold no word, since addresses reach their bytes; each other slot has 8 bytes that no address reaches, from a multiple
-- of 8 on
pub record SlotsStand (p : Plan) (f : Shape) (kinds : Kinds) (frame : Frame) : Type 0 where
  pub variables : (s : ℕ) → s < length f.slots → is_variable (kinds s) ≡ true → frame.slots s ≡ nothing
  pub whole : (s : ℕ) → s < length f.slots → is_variable (kinds s) ≡ false → 8 ≤ p.size (of_variable frame.call s)
  pub aligned : (s : ℕ) → s < length f.slots → is_variable (kinds s) ≡ false → p.at (of_variable frame.call s) % 8 ≡ 0
  pub ints : (s : ℕ) → s < length f.slots → p.ints (of_variable frame.call s) ≡ is_variable (kinds s)

-- an address is inside what it begins at, or just behind
abbrev pub AddressStands : Plan → Address → Type 0
AddressStands p a = a.offset ≤ p.size a.base

-- an int may be written at a location: inside live bytes for ints, or in a slot of the frame that is no variable
abbrev pub LocationStands : Plan → Shape → Kinds → Location → Type 0
LocationStands p f kinds (in_memory a) = (p.live a.base ≡ true) × (p.ints a.base ≡ true) × (a.offset + 4 ≤ p.size a.base) × (a.offset % 4 ≡ 0)
LocationStands p f kinds (in_frame s) = (s < length f.slots) × (is_variable (kinds s) ≡ false)
