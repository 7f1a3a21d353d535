-- Texts and letters, by where a search of bytes stops.
use Rattle.std.specs.Prelude.{ℕ, ◌+◌, ◌==◌, not, List, take, Option, Some, None, Ok, Err}
use Rattle.std.specs.List.{position}
use Rattle.eh_bytes.specs.declared.error.ByteError.TheVariants.{Truncated}
use Rattle.eh_bytes.specs.Field.{Reading}
use Rattle.table_forms.specs.Cie.{is_letter}

-- the text before the zero at an index
abbrev pub text_before : List ℕ → Option ℕ → Reading (List ℕ)
text_before bytes None = Err Truncated
text_before bytes (Some n) = Ok (take n bytes, n + 1)

abbrev pub zero_in : List ℕ → Option ℕ
zero_in bytes = position (λ b. b == 0) bytes

abbrev pub not_letter_in : List ℕ → Option ℕ
not_letter_in bytes = position (λ b. not (is_letter b)) bytes
