-- Rules of a class on its parts among themselves.
use Rattle.std.specs.Prelude.{ℕ, List, [], ◌∷◌, ◌++◌, map, bytes_eq, if◌then◌else◌}
use Rattle.std.specs.Borrow.{Bor}
use Rattle.cxx_ast.specs.declared.name.Name.{Name}
use Rattle.cxx_ast.specs.Plain.{Class}
use Rattle.cxx_ast.specs.Environment.{Signature, ClassEntry, Environment}
use Rattle.cxx_ast.specs.ClassRules.{stands_before, clashes, has_class_name, twice_among, specials_found, size_found, method_names}
use Rattle.cxx_ast.specs.Declare.{name_of}
use Rattle.cxx_ast.specs.Finding.{Finding, breaks_if}
use Rattle.cxx_ast.specs.Rule.{redeclared, unknown_name}
use Rattle.cxx_rules.specs.declared.found.Found.{Found}
use Rattle.cxx_rules.specs.Summary.{both, seen}

-- names that are borrowed
abbrev pub names_now : List (Bor Name) → List Name
names_now = map (λ n. n.now)

-- a name that stands behind another of the same text
abbrev pub twice_in : List Name → Name → List Finding
twice_in all n = breaks_if (stands_before all n) redeclared n.place

-- the names of a class's parts
abbrev pub part_names : Class → List Name
part_names c = map name_of c.members ++ method_names c.functions

-- a constructor or a destructor behind some functions
abbrev pub special_in : ℕ → List ℕ → List Signature → Signature → List Finding
special_in k text before s =
    if bytes_eq s.name.text text then breaks_if (clashes k text before s) redeclared s.name.place else breaks_if (has_class_name s.form) unknown_name s.name.place

-- what was found, and functions behind it and behind others
abbrev pub specials_behind : Environment → ℕ → List ℕ → Found → List Signature → List Signature → Found
specials_behind env k text found before [] = found
specials_behind env k text found before (s ∷ more) =
    specials_behind env k text (both found (seen env (special_in k text before s))) (before ++ s ∷ []) more

-- the parts of class k among themselves
abbrev pub own_found : ℕ → Class → ClassEntry → List Finding
own_found k c entry =
    twice_among (part_names c) (part_names c) ++ specials_found k c.name.text [] entry.functions ++ size_found entry c.name.place
