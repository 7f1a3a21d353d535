-- Numbers in decimal digits without superfluous zeros.
use Rattle.std.specs.Prelude.{ℕ, ℤ, pos, neg_ℤ, Bool, false, ◌&&◌, ◌||◌, ◌==◌, not, nat_le, List, [], ◌∷◌, bytes_eq, codes, Option, Some, None, option_map, if◌then◌else◌}
use Rattle.std.specs.Char.{is_ascii_digit}
use Rattle.std.specs.List.{list_all}
use Rattle.std.specs.Option.{option_and_then}
use Rattle.std.specs.Str.Parse.{digits_value}

-- there is a first byte, and it is not 0
abbrev pub has_no_leading_zero : List ℕ → Bool
has_no_leading_zero [] = false
has_no_leading_zero (b ∷ bs) = not (b == 48)

-- `0`, or digits without a leading 0
abbrev pub is_decimal : List ℕ → Bool
is_decimal text = bytes_eq text (codes "0") || (list_all is_ascii_digit text && has_no_leading_zero text)

-- the number that digits write, where it is at most `most`
abbrev pub up_to : ℕ → List ℕ → Option ℕ
up_to most digits = if nat_le (digits_value 10 digits) most then Some (digits_value 10 digits) else None

-- the number that a text writes, where it is at most `most`
unfoldable pub number_of : ℕ → List ℕ → Option ℕ
number_of most text = if is_decimal text then up_to most text else None

-- a number that is not 0
abbrev pub not_zero : ℕ → Option ℕ
not_zero n = if n == 0 then None else Some n

-- the number that a text writes, where it is 1 to `most`
abbrev pub count_up_to : ℕ → List ℕ → Option ℕ
count_up_to most text = option_and_then not_zero (number_of most text)

-- the int that a text writes, behind a `-` where it is below 0
abbrev pub int_of : List ℕ → Option ℤ
int_of [] = None
int_of (b ∷ bs) = if b == 45 then option_map (λ n. neg_ℤ (pos n)) (count_up_to 0x80000000 bs) else option_map pos (number_of 0x7fffffff (b ∷ bs))
