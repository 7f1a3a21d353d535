-- Memory that is reserved, of which one side was touched; all other bytes are 0.
use Rattle.std.specs.Prelude.{ℕ, zero, suc, ◌≡◌, ◌≤◌, ◌+◌, ◌-◌, ◌*◌, ◌/◌, ◌%◌, ◌^◌, true, false, List, ◌++◌, length, replicate, reverse, slice_index, slice_set, vec_len, vec_capacity}
use Rattle.std.specs.Global.{Vec}
use Rattle.rv64_isa.specs.State.{Part}

-- so many bytes, of which the first are given
unfoldable pub filled_up : ℕ → List ℕ → List ℕ
filled_up size bytes = bytes ++ replicate (size - length bytes) 0

-- so many bytes, of which the last are given, the very last first
unfoldable pub filled_down : ℕ → List ℕ → List ℕ
filled_down size bytes = replicate (size - length bytes) 0 ++ reverse bytes

-- some bytes at an address, which may be written
abbrev pub data_part : ℕ → List ℕ → Part
data_part address bytes = record { address = address; bytes = bytes; file_at = 0; write = true; exec = false }

-- there is room for so many bytes, and no more are there
abbrev pub IsReserved : ℕ → Vec ℕ → Type 0
IsReserved size bytes = (vec_len bytes ≤ size) × (size ≤ vec_capacity bytes)

-- some zeros were put behind
abbrev pub IsGrown : List ℕ → List ℕ → Type 0
IsGrown old new = (k : ℕ) × (new ≡ old ++ replicate k 0)

-- the number of some bytes in front of a place, the nearest of them the lowest
unfoldable pub number_below : List ℕ → ℕ → ℕ → ℕ
number_below bytes at zero = 0
number_below bytes at (suc n) = slice_index bytes (at - 1) + 2 ^ 8 * number_below bytes (at - 1) n

-- the bytes with the low bytes of a value in front of a place, the lowest nearest to it
unfoldable pub with_number_below : List ℕ → ℕ → ℕ → ℕ → List ℕ
with_number_below bytes at zero value = bytes
with_number_below bytes at (suc n) value = with_number_below (slice_set bytes (at - 1) (value % 2 ^ 8)) (at - 1) n (value / 2 ^ 8)
