-- The numbers of a schedule, in decimal digits without superfluous zeros.
use Rattle.std.specs.Prelude.{ℕ, ◌&&◌, nat_le, List, Option, Some, None, option_and_then, if◌then◌else◌}
use Rattle.std.specs.Str.Parse.{digits_value}
use Rattle.plain_text.specs.Decimal.{is_decimal}

-- the number that a text writes
unfoldable pub number_in : List ℕ → Option ℕ
number_in text = if is_decimal text then Some (digits_value 10 text) else None

-- a number of turns: 1 to 2^32 - 1
abbrev pub as_turns : ℕ → Option ℕ
as_turns n = if nat_le 1 n && nat_le n 4294967295 then Some n else None

abbrev pub turns_in : List ℕ → Option ℕ
turns_in text = option_and_then as_turns (number_in text)
