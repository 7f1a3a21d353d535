-- The registers of kept variables: what they hold while their call runs.
use Rattle.std.specs.Prelude.{⊤, ◌≡◌, ℕ, ◌^◌, ◌<◌, ℤ, List, [], ◌∷◌, ◌++◌, drop, length, map, slice_get, slice_index, Some}
use Rattle.rv64_isa.specs.State.{State}
use Rattle.rv64_isa.specs.Step.{x}
use Rattle.region_forms.specs.World.{of_variable, Frame, World}
use Rattle.machine_forms.specs.Registers.{saved_registers}
use Rattle.machine_pieces.specs.Numbers.{IsInt, extended}

-- what they hold, in their order
abbrev pub saved_of : State → List ℕ
saved_of s = map (x s) saved_registers

-- the ints of a call's kept variables are in their registers
abbrev pub KeptHolds : List ℕ → Frame → World → List ℕ → Type 0
KeptHolds kept frame w regs = (j s : ℕ) (z : ℤ) → slice_get kept j ≡ Some s → w.memory (record { base = of_variable frame.call s; offset = 0 }) ≡ Some z →
    IsInt z × (slice_index regs j ≡ extended z)

-- numbers of 64 bits
abbrev pub AreSmall : List ℕ → Type 0
AreSmall [] = ⊤
AreSmall (v ∷ values) = (v < 2 ^ 64) × AreSmall values

-- what they hold outward of a frame that saved so many of them: what it saved, and the others as they are
abbrev pub outward : (saved regs : List ℕ) → List ℕ
outward saved regs = saved ++ drop (length saved) regs
