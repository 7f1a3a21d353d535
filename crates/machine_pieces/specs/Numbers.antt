-- Ints in registers and in memory, in two's complement.
use Rattle.std.specs.Prelude.{◌≡◌, ℕ, ℤ, true}
use Rattle.std.specs.Int.{w32, w64, cast_unsigned}
use Rattle.meaning_forms.specs.Arithmetic.{fits_int}

abbrev pub IsInt : ℤ → Type 0
IsInt z = fits_int z ≡ true

-- an int in a register, where its sign is extended
abbrev pub extended : ℤ → ℕ
extended z = cast_unsigned w64 z

-- an int in four bytes
abbrev pub int_bits : ℤ → ℕ
int_bits z = cast_unsigned w32 z
