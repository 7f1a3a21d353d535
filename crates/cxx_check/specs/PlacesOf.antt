-- Places as they lie in memory.
use Rattle.std.specs.Prelude.{List}
use Rattle.cxx_ast.specs.declared.name.Name.{Name}
use Rattle.cxx_check.specs.declared.places.Places.{Places}
use Rattle.cxx_check.specs.Places.{ArePlaces}

-- places are those of names
pub record Hold (p : Places) (names : List Name) : Type 0 where
  pub first : ArePlaces p.first.entries names
