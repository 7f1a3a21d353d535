-- The literals: decimal ones without a suffix (ISO/IEC 14882:2003, 2.13.1), which fit an int of 32 bits (profile).
use Rattle.std.specs.Prelude.{ℕ, Bool, false, ◌&&◌, ◌||◌, ◌==◌, not, nat_le, List, [], ◌∷◌, bytes_eq, codes, Option, Some, None, if◌then◌else◌}
use Rattle.std.specs.Char.{is_ascii_digit}
use Rattle.std.specs.List.{list_all}
use Rattle.std.specs.Str.Parse.{digits_value}

-- there is a first byte, and it is not 0
abbrev pub has_no_leading_zero : List ℕ → Bool
has_no_leading_zero [] = false
has_no_leading_zero (b ∷ bs) = not (b == 48)

-- `0`, or digits without a leading 0
abbrev pub is_decimal : List ℕ → Bool
is_decimal bytes = bytes_eq bytes (codes "0") || (list_all is_ascii_digit bytes && has_no_leading_zero bytes)

-- the number that digits write, where it is a value of type int
abbrev pub int_of : List ℕ → Option ℕ
int_of digits = if nat_le (digits_value 10 digits) 2147483647 then Some (digits_value 10 digits) else None

-- the value of a literal, where the bytes are one
abbrev pub literal_value : List ℕ → Option ℕ
literal_value bytes = if is_decimal bytes then int_of bytes else None
