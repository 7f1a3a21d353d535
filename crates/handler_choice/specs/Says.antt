-- What the tables say of guards (Itanium C++ ABI: Exception Handling, "Exception Handling Tables").
use Rattle.std.specs.Prelude.{◌≡◌, ℤ, Bool, true, false, List, [], ◌∷◌, map, flat_map, if◌then◌else◌}
use Rattle.region_forms.specs.Guard.{Guard, clauses, listed, everything}
use Rattle.linear_forms.specs.Tables.{Cover, bare, unpadded, padded, Sense, clause, list_of}
use Rattle.linear_forms.specs.Verdict.{is_cleanup}

-- a barrier has no filter, and no call site is behind it
abbrev pub is_open : Guard → Bool
is_open everything = false
is_open g = true

abbrev pub AllOpen : List Guard → Type 0
AllOpen [] = Unit {0}
AllOpen (g ∷ gs) = (is_open g ≡ true) × AllOpen gs

-- what the filters of a guard mean: the clauses of a try block in order of appearance, or the list of a specification
abbrev pub senses_of : Guard → List Sense
senses_of (clauses ts) = map clause ts
senses_of (listed types) = list_of types ∷ []
senses_of everything = []

-- what the filters of a chain mean, but for those of cleanups, which stop nothing
abbrev pub stopping : (ℤ → Sense) → List ℤ → List Sense
stopping senses [] = []
stopping senses (n ∷ chain) = if is_cleanup (senses n) then stopping senses chain else senses n ∷ stopping senses chain

-- A cover says which guards are around its operation inside the function: no call site, that the innermost is a barrier; a site without a landing pad,
-- that there is none; and a chain, each of them, the innermost first.
abbrev pub Says : (ℤ → Sense) → List Guard → Cover → Type 0
Says senses gs bare = (rest : List Guard) × (gs ≡ everything ∷ rest)
Says senses gs unpadded = gs ≡ []
Says senses gs (padded p chain) = AllOpen gs × (stopping senses chain ≡ flat_map senses_of gs)
