-- The lines of a run.
use Rattle.std.specs.Prelude.{ℕ, ℤ, List, [], ◌∷◌, ◌++◌, codes}
use Rattle.std.specs.Fmt.{decimal, signed_decimal}

-- the line of an int: in decimal, `-` before a negative one, and a line feed
abbrev pub line_of : ℤ → List ℕ
line_of n = signed_decimal n ++ 10 ∷ []

-- the line of a number behind its name
abbrev pub number_line : List ℕ → ℕ → List ℕ
number_line name n = name ++ (decimal n ++ codes "\n")

-- the last line of a run that exits
abbrev pub exit_line : ℤ → List ℕ
exit_line n = codes "= exit " ++ line_of n
