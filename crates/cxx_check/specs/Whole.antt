-- Declarations one by one, and the parts of a whole program.
use Rattle.std.specs.Prelude.{List, [], ◌∷◌, ◌++◌, ◌&&◌}
use Rattle.cxx_ast.specs.declared.name.Name.{Name}
use Rattle.cxx_ast.specs.Plain.{Declaration}
use Rattle.cxx_ast.specs.Environment.{Signature, Environment}
use Rattle.cxx_ast.specs.Broken.{differs_from, defined_in, declaration_found}
use Rattle.cxx_ast.specs.ClassRules.{is_taken}
use Rattle.cxx_ast.specs.Declare.{declare_behind}
use Rattle.cxx_ast.specs.Finding.{Finding, breaks_if}
use Rattle.cxx_ast.specs.Rule.{redeclared, specification_mismatch}
use Rattle.cxx_rules.specs.declared.found.Found.{Found}
use Rattle.cxx_rules.specs.Summary.{both, seen}

-- a function behind other declarations of it
abbrev pub again_found : Environment → Signature → List Finding
again_found env s =
    breaks_if (differs_from env.signatures s) specification_mismatch s.name.place ++ breaks_if (s.is_defined && defined_in env.signatures s.name.text) redeclared s.name.place

-- a global
abbrev pub global_found : Environment → Name → List Finding
global_found env n = breaks_if (is_taken env n.text) redeclared n.place

-- what was found, and declarations behind it
abbrev pub declarations_behind : Found → Environment → List Declaration → Found
declarations_behind found env [] = found
declarations_behind found env (d ∷ ds) = declarations_behind (both found (seen env (declaration_found env d))) (declare_behind env d) ds
