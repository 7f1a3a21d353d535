-- LEB128 numbers (DWARF 5, 7.6): groups of seven bits, the low ones first; each byte but the last has its top bit set.
use Rattle.std.specs.Prelude.{ℕ, ℤ, pos, negsuc, ◌+◌, ◌-◌, ◌*◌, ◌/◌, ◌%◌, ◌^◌, Bool, nat_lt, nat_le, List, [], ◌∷◌, length, take, Result, Ok, Err, if◌then◌else◌}
use Rattle.std.specs.List.{prefix_len}
use Rattle.eh_bytes.specs.declared.error.ByteError.{ByteError}
use Rattle.eh_bytes.specs.declared.error.ByteError.TheVariants.{Truncated, LebRange}
use Rattle.eh_bytes.specs.Field.{Reading, Field}

-- the top bit of a byte says that the next byte belongs to the number too
abbrev pub goes_on : ℕ → Bool
goes_on b = nat_le 128 b

-- the bytes of the number in front, of at most so many bytes (profile: ten).
-- Out of range: all of these go on. Cut: the list ends before a byte that does not
unfoldable pub spelled_within : ℕ → List ℕ → Result (List ℕ) ByteError
spelled_within most bytes =
    let leading = prefix_len goes_on (take most bytes) in
    if nat_le most leading then Err LebRange
    else if nat_le (length bytes) leading then Err Truncated
    else Ok (take (leading + 1) bytes)

-- the number that the groups make
unfoldable pub groups : List ℕ → ℕ
groups [] = 0
groups (b ∷ bytes) = b % 128 + 128 * groups bytes

-- the number in front before its range is tested, and how many bytes it takes
abbrev pub counted : Result (List ℕ) ByteError → Reading ℕ
counted (Ok bytes) = Ok (groups bytes, length bytes)
counted (Err cause) = Err cause

unfoldable pub grouped : Field ℕ
grouped bytes = counted (spelled_within 10 bytes)

-- a value below 2^64
abbrev pub in_u64 : Reading ℕ → Reading ℕ
in_u64 (Ok (value, taken)) = if nat_lt value (2 ^ 64) then Ok (value, taken) else Err LebRange
in_u64 (Err cause) = Err cause

-- ULEB128: a number of 64 bits, also in a spelling that is not the shortest
unfoldable pub uleb : Field ℕ
uleb bytes = in_u64 (grouped bytes)

-- the number whose so many low bits are given, the highest of which is its sign
unfoldable pub sign_extended : ℕ → ℕ → ℤ
sign_extended value bits = if nat_lt value (2 ^ bits / 2) then pos value else negsuc (2 ^ bits - 1 - value)

-- from -2^63 to 2^63 - 1
abbrev pub is_i64 : ℤ → Bool
is_i64 (pos n) = nat_lt n (2 ^ 63)
is_i64 (negsuc n) = nat_lt n (2 ^ 63)

-- a value from -2^63 to 2^63 - 1
unfoldable pub ranged : ℤ → Result ℤ ByteError
ranged value = if is_i64 value then Ok value else Err LebRange

abbrev pub and_taken : ℕ → Result ℤ ByteError → Reading ℤ
and_taken taken (Ok value) = Ok (value, taken)
and_taken taken (Err cause) = Err cause

-- the sign is the highest bit of the last group
abbrev pub in_i64 : Reading ℕ → Reading ℤ
in_i64 (Ok (value, taken)) = and_taken taken (ranged (sign_extended value (7 * taken)))
in_i64 (Err cause) = Err cause

-- SLEB128: a number of 64 bits with its sign, also in a spelling that is not the shortest
unfoldable pub sleb : Field ℤ
sleb bytes = in_i64 (grouped bytes)
