-- What `parse` answers of digits, and what a number's test says.
use Rattle.std.proofs.Common.{◌≡◌, inl, inr, ℕ, ◌<◌, ◌^◌, ◌&&◌, true, List, [], ◌∷◌, length, Result, bytes_eq, codes, refl, sym, subst, arith, rules}
use Rattle.std.specs.Str.{IsUtf8}
use Rattle.std.specs.Char.{is_ascii_digit}
use Rattle.std.specs.List.{list_all}
use Rattle.std.specs.Str.Parse.{digits_value, ParsesUnsigned}
use Rattle.std.specs.Result.{OkIff}
use Rattle.std.proofs.lemmas.Bool.{or_cases}
use Rattle.std.proofs.lemmas.Str.{IsUtf8-from_ascii}
use Rattle.std.proofs.lemmas.Str.Parse.{IsNumeralModel, numerals_by_value, parse_digits}
use Rattle.std.proofs.lemmas.Fmt.{IsAscii-from_digits}
use Rattle.plain_text.specs.Decimal.{has_no_leading_zero, is_decimal}
use Rattle.plain_text.proofs.Texts.{both, same_text}

own : IsNumeralModel (λ ds. list_all is_ascii_digit ds ≡ true) (digits_value 10)
own = numerals_by_value _ (search rules)

pub number_from_parse : {E : Type 0} (text : List ℕ) (r : Result ℕ E) → ParsesUnsigned 64 10 text r → list_all is_ascii_digit text ≡ true → OkIff r ((0 < length text) × (digits_value 10 text < 2 ^ 64)) (digits_value 10 text)
number_from_parse text r parses digits = parse_digits own 64 text r parses digits

pub digits_are_text : (text : List ℕ) → list_all is_ascii_digit text ≡ true → IsUtf8 text
digits_are_text text digits = IsUtf8-from_ascii text (IsAscii-from_digits text (own.to text digits))

-- a decimal number is digits, at least one
pub record IsDigits (text : List ℕ) : Type 0 where
  pub digits : list_all is_ascii_digit text ≡ true
  pub some : 0 < length text

first_some : (text : List ℕ) → has_no_leading_zero text ≡ true → 0 < length text
first_some [] e = cc
first_some (b ∷ bs) e = omega arith

pub decimal_is_digits : (text : List ℕ) → is_decimal text ≡ true → IsDigits text
decimal_is_digits text e = elim (or_cases (bytes_eq text (codes "0")) (list_all is_ascii_digit text && has_no_leading_zero text) e) [
  | inl zero ↦ subst IsDigits (sym (same_text text (codes "0") zero)) (record { digits = refl; some = omega arith })
  | inr more ↦ let parts = both (list_all is_ascii_digit text) (has_no_leading_zero text) more in record { digits = parts.0; some = first_some text parts.1 }
]
