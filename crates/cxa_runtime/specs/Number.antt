-- Numbers in registers of 64 bits.
use Rattle.std.specs.Prelude.{ℕ, ℤ, ◌%◌, ◌^◌}
use Rattle.std.specs.Int.{w32, w64, cast_signed, cast_unsigned}

-- the int that the low 32 bits of a register are
abbrev pub as_int : ℕ → ℤ
as_int x = cast_signed w32 (x % 2 ^ 32)

-- a number whose sign goes on up to the top bit of a register
abbrev pub as_register : ℤ → ℕ
as_register n = cast_unsigned w64 n
