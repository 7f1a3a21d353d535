-- A new machine.
use Rattle.std.specs.Prelude.{ℕ, true, false, List, ◌∷◌, replicate, slice_set}
use Rattle.rv64_isa.specs.State.{Part, State, state}

-- so many zero bytes, which may be written
unfoldable pub zero_part : ℕ → ℕ → Part
zero_part address size = record { address = address; bytes = replicate size 0; file_at = 0; write = true; exec = false }

-- 4 MiB of exception slots and 16 MiB of stack beside these parts; pc and registers are 0, but for sp, which is the stack's end
abbrev pub initial : List Part → State
initial parts = state 0 (slice_set (replicate 32 0) 2 0x7100_0000) (zero_part 0x6000_0000 0x40_0000 ∷ zero_part 0x7000_0000 0x100_0000 ∷ parts)
