-- Addresses that are written relative to a place (LSB Core, "DWARF Exception Header Encoding": DW_EH_PE_pcrel and DW_EH_PE_datarel, sdata4).
use Rattle.std.specs.Prelude.{◌<◌, ℕ, ◌+◌, ◌-◌, ◌%◌, ◌^◌, List}
use Rattle.std.specs.Int.{w32, to_le_bytes}

-- how far it is from a place to an address, modulo 2^32
abbrev pub distance : ℕ → ℕ → ℕ
distance place address = (address % 2 ^ 32 + 2 ^ 32 - place % 2 ^ 32) % 2 ^ 32

-- in four bytes
abbrev pub distance_bytes : ℕ → ℕ → List ℕ
distance_bytes place address = to_le_bytes w32 (distance place address)

-- less than 2^31 from a place
abbrev pub IsNear : ℕ → ℕ → Type 0
IsNear place address = (address < place + 2 ^ 31) × (place < address + 2 ^ 31)
