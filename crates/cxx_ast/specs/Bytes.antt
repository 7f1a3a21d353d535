-- The bytes of a source by their use (ISO/IEC 14882:2003, 2.2, 2.10).
use Rattle.std.specs.Prelude.{ℕ, Bool, ◌==◌, ◌||◌}
use Rattle.std.specs.Char.{is_ascii_digit}
use Rattle.std.specs.Int.{is_in_range}

-- a tab, a line feed, a vertical tab, a form feed, a carriage return or a space (2.4; a carriage return: profile)
abbrev pub is_blank : ℕ → Bool
is_blank byte = is_in_range 9 13 byte || byte == 32

-- `0` to `9`
abbrev pub is_digit : ℕ → Bool
is_digit byte = is_ascii_digit byte

-- a letter or `_`
abbrev pub is_letter : ℕ → Bool
is_letter byte = is_in_range 97 122 byte || is_in_range 65 90 byte || byte == 95

-- a letter, a digit or `_`
abbrev pub is_word_byte : ℕ → Bool
is_word_byte byte = is_letter byte || is_digit byte
