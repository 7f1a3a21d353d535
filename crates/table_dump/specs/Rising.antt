-- Locations that rise.
use Rattle.std.specs.Prelude.{◌≤◌, ℕ, ⊤, List, [], ◌∷◌}

-- from a location on; one may stand more than once
abbrev pub Rising : ℕ → List ℕ → Type 0
Rising from [] = ⊤
Rising from (pc ∷ more) = (from ≤ pc) × Rising pc more
