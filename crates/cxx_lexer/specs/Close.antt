-- Where a comment is closed.
use Rattle.std.specs.Prelude.{ℕ, ◌+◌, List, [], ◌∷◌, codes, Option, Some, None, if◌then◌else◌}
use Rattle.cxx_ast.specs.Lexeme.{begins_with}

-- where the first `*/` of a text stands, whose first byte stands at a place
abbrev pub close_from : ℕ → List ℕ → Option ℕ
close_from at [] = None
close_from at (b ∷ bs) = if begins_with (codes "*/") (b ∷ bs) then Some at else close_from (at + 1) bs
