-- The lines of a text, each with its line feed. What stands behind the last line feed is a line, too.
use Rattle.std.specs.Prelude.{◌≡◌, ◌<◌, ◌≤◌, ℕ, ◌==◌, List, [], ◌∷◌, length, take, drop, if◌then◌else◌}

-- a byte in front of the first line
abbrev pub in_front : ℕ → List (List ℕ) → List (List ℕ)
in_front byte [] = (byte ∷ []) ∷ []
in_front byte (line ∷ lines) = (byte ∷ line) ∷ lines

unfoldable pub lines_of : List ℕ → List (List ℕ)
lines_of [] = []
lines_of (byte ∷ bytes) = if byte == 10 then (byte ∷ []) ∷ lines_of bytes else in_front byte (lines_of bytes)

-- the first line is so long
pub record IsFirstLine (text : List ℕ) (n : ℕ) : Type 0 where
  pub some : 0 < n
  pub inside : n ≤ length text
  pub lines : lines_of text ≡ take n text ∷ lines_of (drop n text)
