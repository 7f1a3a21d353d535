-- What reading hexadecimal digits answers.
use Rattle.std.proofs.Common.{◌≡◌, ◌<◌, ◌^◌, nat_eq, ℕ, zero, suc, true, false, List, [], ◌∷◌, length, Result, Ok, Err, refl, subst, arith}
use Rattle.std.specs.Char.{digit_value, is_ascii_hexdigit}
use Rattle.std.specs.List.{list_all}
use Rattle.std.specs.Result.{OkIff}
use Rattle.std.specs.Str.{IsAscii, IsUtf8}
use Rattle.std.specs.Str.Parse.{AllDigits, ParsesUnsigned, digits_value, without_leading_plus}
use Rattle.std.proofs.lemmas.Bool.Decides.{nat_tests}
use Rattle.std.proofs.lemmas.Str.{IsUtf8-from_ascii}
use Rattle.plain_text.proofs.Texts.{both}

-- a hexadecimal digit has a value below 16
valued : (c : ℕ) → is_ascii_hexdigit c ≡ true → digit_value c < 16
valued c is = grind (arith, nat_tests, is)

all_valued : (text : List ℕ) → list_all is_ascii_hexdigit text ≡ true → AllDigits 16 text
all_valued [] is = tt
all_valued (c ∷ cs) is = let parts = both (is_ascii_hexdigit c) (list_all is_ascii_hexdigit cs) is in (valued c parts.0, all_valued cs parts.1)

-- no plus stands in front
no_plus : (text : List ℕ) → list_all is_ascii_hexdigit text ≡ true → without_leading_plus text ≡ text
no_plus [] is = refl
no_plus (c ∷ cs) is =
    let parts = both (is_ascii_hexdigit c) (list_all is_ascii_hexdigit cs) is in
    let other : nat_eq c 43 ≡ false = grind (arith, nat_tests, parts.0) in
    rw other refl

pub hexadecimal_from_parse : {E : Type 0} (text : List ℕ) (r : Result ℕ E) → ParsesUnsigned 64 16 text r → 0 < length text → list_all is_ascii_hexdigit text ≡ true → OkIff r (digits_value 16 text < 2 ^ 64) (digits_value 16 text)
hexadecimal_from_parse text r parses some is = by r (subst (λ t. OkIff r (((0 < length t) × AllDigits 16 t) × (digits_value 16 t < 2 ^ 64)) (digits_value 16 t)) (no_plus text is) parses)
  where
    by : {E : Type 0} (r : Result ℕ E) → OkIff r (((0 < length text) × AllDigits 16 text) × (digits_value 16 text < 2 ^ 64)) (digits_value 16 text) → OkIff r (digits_value 16 text < 2 ^ 64) (digits_value 16 text)
    by (Ok n) h = (h.0.1, h.1)
    by (Err e) h = λ low. h ((some, all_valued text is), low)

ascii : (text : List ℕ) → list_all is_ascii_hexdigit text ≡ true → IsAscii text
ascii [] is i = omega arith
ascii (c ∷ cs) is zero = let parts = both (is_ascii_hexdigit c) (list_all is_ascii_hexdigit cs) is in low c parts.0
  where
    low : (c : ℕ) → is_ascii_hexdigit c ≡ true → c < 128
    low c is = grind (arith, nat_tests, is)
ascii (c ∷ cs) is (suc i) = let parts = both (is_ascii_hexdigit c) (list_all is_ascii_hexdigit cs) is in ascii cs parts.1 i

pub hexadecimal_is_text : (text : List ℕ) → list_all is_ascii_hexdigit text ≡ true → IsUtf8 text
hexadecimal_is_text text is = IsUtf8-from_ascii text (ascii text is)
