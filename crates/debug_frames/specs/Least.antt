-- The least_of of some numbers.
use Rattle.std.specs.Prelude.{ℕ, min, List, [], ◌∷◌, Option, Some, None}

-- of two, each of which may be missing
abbrev pub lesser : Option ℕ → Option ℕ → Option ℕ
lesser None m = m
lesser (Some n) None = Some n
lesser (Some n) (Some m) = Some (min n m)

-- of a list
unfoldable pub least_of : List ℕ → Option ℕ
least_of [] = None
least_of (n ∷ ns) = lesser (Some n) (least_of ns)
