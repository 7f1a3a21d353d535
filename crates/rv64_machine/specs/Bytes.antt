-- Numbers in a list of bytes, the lowest byte first.
use Rattle.std.specs.Prelude.{ℕ, zero, suc, ◌+◌, ◌*◌, ◌/◌, ◌%◌, ◌^◌, List, slice_index, slice_set}
use Rattle.rv64_machine.specs.declared.bytes.Size.{Size}
use Rattle.rv64_machine.specs.declared.bytes.Size.TheVariants.{Byte, Half, Word, Double}

-- how many bytes are loaded and stored
abbrev pub size_of : Size → ℕ
size_of Byte = 1
size_of Half = 2
size_of Word = 4
size_of Double = 8

-- the number of some bytes from a place on
unfoldable pub number_at : List ℕ → ℕ → ℕ → ℕ
number_at bytes at zero = 0
number_at bytes at (suc n) = slice_index bytes at + 2 ^ 8 * number_at bytes (at + 1) n

-- the bytes with the low bytes of a value from a place on
unfoldable pub with_number : List ℕ → ℕ → ℕ → ℕ → List ℕ
with_number bytes at zero value = bytes
with_number bytes at (suc n) value = with_number (slice_set bytes at (value % 2 ^ 8)) (at + 1) n (value / 2 ^ 8)
