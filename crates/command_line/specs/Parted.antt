-- A text in two parts.
use Rattle.std.specs.Prelude.{ℕ, ◌==◌, ◌+◌, List, take, drop, Option, Some, None}
use Rattle.std.specs.List.{position}

abbrev pub parted_at : Option ℕ → List ℕ → List ℕ × Option (List ℕ)
parted_at None text = (text, None)
parted_at (Some i) text = (take i text, Some (drop (i + 1) text))

-- what stands before the first such byte, and what stands behind it, if there is one
abbrev pub parted : ℕ → List ℕ → List ℕ × Option (List ℕ)
parted byte text = parted_at (position (λ b. b == byte) text) text
