-- Addresses on the command line: the places of a backtrace, and what comes by its frames.
use Rattle.std.specs.Prelude.{ℕ, ◌==◌, ◌&&◌, ◌^◌, nat_lt, Bool, List, [], ◌∷◌, length, drop, slice_index, Option, Some, None, option_map, codes, bytes_eq, if◌then◌else◌}
use Rattle.std.specs.Char.{is_ascii_hexdigit}
use Rattle.std.specs.List.{list_all}
use Rattle.std.specs.Str.Parse.{digits_value}
use Rattle.plain_text.specs.Decimal.{number_of}
use Rattle.command_line.specs.declared.command.Raised.{Raised}
use Rattle.command_line.specs.declared.command.Raised.TheVariants as raised
use Rattle.command_line.specs.declared.command.Verb.{Verb}
use Rattle.command_line.specs.declared.command.Verb.TheVariants.{At}
use Rattle.command_line.specs.Script.{all_some}

abbrev pub below_limit : ℕ → Option ℕ
below_limit n = if nat_lt n (2 ^ 64) then Some n else None

-- the number that hexadecimal digits write, where it is below 2^64
unfoldable pub hexadecimal : List ℕ → Option ℕ
hexadecimal text = if list_all is_ascii_hexdigit text then below_limit (digits_value 16 text) else None

-- something stands behind `0x`
abbrev pub is_prefixed : List ℕ → Bool
is_prefixed text = nat_lt 2 (length text) && slice_index text 0 == 48 && slice_index text 1 == 120

-- the address that a text writes, hexadecimal behind `0x`, and else decimal
unfoldable pub address_of : List ℕ → Option ℕ
address_of text = if is_prefixed text then hexadecimal (drop 2 text) else number_of 0xffffffffffffffff text

-- the places among the operands: none but where a command is about places, and then all behind the first operand
abbrev pub places_for : Verb → List (List ℕ) → Option (List ℕ)
places_for At (name ∷ texts) = all_some address_of texts
places_for verb operands = Some []

-- what comes by, as a text says it
abbrev pub raised_in : List ℕ → Option Raised
raised_in text =
    if bytes_eq text (codes "foreign") then Some raised.Foreign
    else if bytes_eq text (codes "forced") then Some raised.Forced
    else option_map (λ a. raised.Typed a) (address_of text)

-- an exception of no type that a table names, where no option says what comes by
abbrev pub raised_of : List (List ℕ) → Option Raised
raised_of [] = Some raised.Untyped
raised_of (text ∷ []) = raised_in text
raised_of (text ∷ other ∷ others) = None
