-- How many bytes what an address begins at has, and whether these are ints.
use Rattle.std.specs.Prelude.{◌≡◌, ℕ, ◌+◌, ◌%◌, ◌≤◌, Bool, true}
use Rattle.region_forms.specs.World.{Base, Address, World}
use Rattle.machine_simulation.specs.Plan.{Plan}
use Rattle.machine_simulation.specs.Calls.{IsBegun}

pub record Extents : Type 0 where
  pub ints : Base → Bool
  pub size : Base → ℕ

-- those of a plan
abbrev pub extents_of : Plan → Extents
extents_of p = record { ints = p.ints; size = p.size }

-- an address of what has begun, behind which lie so many bytes of ints, from a word on
pub record LiesInside (x : Extents) (v : World) (a : Address) (n : ℕ) : Type 0 where
  pub begun : IsBegun v a.base
  pub ints : x.ints a.base ≡ true
  pub within : a.offset + n ≤ x.size a.base
  pub whole : a.offset % 4 ≡ 0
