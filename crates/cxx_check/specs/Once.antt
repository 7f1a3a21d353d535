-- Names that are declared once only, one by one.
use Rattle.std.specs.Prelude.{ℕ, Bool, true, false, List, ◌∷◌, ◌++◌, flat_map, if◌then◌else◌}
use Rattle.cxx_ast.specs.declared.name.Name.{Name}
use Rattle.cxx_ast.specs.Plain.{Class}
use Rattle.cxx_ast.specs.ClassRules.{method_names, stands_before}
use Rattle.cxx_ast.specs.DeclaredNames.{param_names, inside_function, is_builtin}
use Rattle.cxx_ast.specs.Finding.{Finding, breaks_if}
use Rattle.cxx_ast.specs.FunctionRules.{has_text}
use Rattle.cxx_ast.specs.Lookup.{builtin_named}
use Rattle.cxx_ast.specs.Rule.{redeclared}

-- the names of a class and of its parts
abbrev pub class_names_in : Class → List Name
class_names_in c = c.name ∷ param_names c.members ++ method_names c.functions ++ flat_map inside_function c.functions

-- a name is a built-in function's, or the second of a name that stands once only
abbrev pub is_once_more : List (List ℕ) → List Name → Name → Bool
is_once_more special all n = if is_builtin (builtin_named n.text) then true else if has_text n.text special then stands_before all n else false

-- what it breaks
abbrev pub once_in : List (List ℕ) → List Name → Name → List Finding
once_in special all n = breaks_if (is_once_more special all n) redeclared n.place
