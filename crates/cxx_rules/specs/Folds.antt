-- What was found, and what is found behind it in each item of a list.
use Rattle.std.specs.Prelude.{List, [], ◌∷◌}
use Rattle.cxx_ast.specs.Environment.{Environment}
use Rattle.cxx_ast.specs.Finding.{Finding}
use Rattle.cxx_rules.specs.declared.found.Found.{Found}
use Rattle.cxx_rules.specs.Summary.{both, seen}

abbrev pub each_behind : {X : Type 0} → Environment → (X → List Finding) → Found → List X → Found
each_behind env g found [] = found
each_behind env g found (x ∷ xs) = each_behind env g (both found (seen env (g x))) xs
