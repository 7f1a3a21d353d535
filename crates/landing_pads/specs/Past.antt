-- Exits that go past regions.
use Rattle.std.specs.Prelude.{ℕ, ◌-◌, nat_lt, List, [], ◌∷◌, if◌then◌else◌}

-- the exits out of so many regions, by the numbers of the regions outside
abbrev pub past : ℕ → List ℕ → List ℕ
past d [] = []
past d (n ∷ ns) = if nat_lt n d then past d ns else (n - d) ∷ past d ns
