-- The names of a program as an image's symbols have them.
use Rattle.std.specs.Prelude.{ℕ, ⊤, ◌≤◌, List, [], ◌∷◌, length, Option, Some, None}
use Rattle.std.specs.List.{AllByRecursion}
use Rattle.eh_bytes.specs.declared.unit.TypeRow.{TypeRow}
use Rattle.eh_bytes.specs.Listed.{ListedUnit}
use Rattle.symbol_names.specs.declared.program.SymbolNames.{SymbolNames}
use Rattle.image_forms.specs.Symbols.{Names}

abbrev pub names_of : SymbolNames → Names
names_of n = record { functions = n.functions.items; types = n.types.items; globals = n.globals.items }

-- what has a name has one of at most 96 bytes
abbrev pub IsShort : Option (List ℕ) → Type 0
IsShort None = ⊤
IsShort (Some name) = length name ≤ 96

-- so has the type whose record has a name
abbrev pub HaveShort : List (Option (List ℕ)) → List TypeRow → Type 0
HaveShort [] ts = ⊤
HaveShort (n ∷ ns) [] = ⊤
HaveShort (None ∷ ns) (t ∷ ts) = HaveShort ns ts
HaveShort (Some name ∷ ns) (t ∷ ts) = (length name ≤ 96) × (length t.name ≤ 96) × HaveShort ns ts

pub record AreShort (names : Names) (u : ListedUnit) : Type 0 where
  pub functions : AllByRecursion IsShort names.functions
  pub types : HaveShort names.types u.types
  pub globals : AllByRecursion IsShort names.globals
