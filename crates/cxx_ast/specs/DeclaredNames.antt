-- All names that a program declares, for the rule (profile) that a class's name, a built-in function's name and `main` are declared once only, anywhere.
use Rattle.std.specs.Prelude.{ℕ, Bool, true, false, List, [], ◌∷◌, ◌++◌, flat_map, codes, Option, Some, None, if◌then◌else◌}
use Rattle.cxx_ast.specs.declared.name.Name.{Name}
use Rattle.cxx_ast.specs.declared.types.Param.{Param}
use Rattle.cxx_ast.specs.Plain.{Statement, block, if_else, while, try, local_int, local_ref, local_object, Else, no_else, else_do, Statements, no_statements, statement_then, Handlers, no_handlers, handler_then, Function, Declaration, class_declaration, global_declaration, function_declaration}
use Rattle.cxx_ast.specs.Environment.{Meaning, unknown}
use Rattle.cxx_ast.specs.Lookup.{builtin_named}
use Rattle.cxx_ast.specs.Rule.{redeclared}
use Rattle.cxx_ast.specs.Finding.{Finding, breaks_if}
use Rattle.cxx_ast.specs.FunctionRules.{has_text}
use Rattle.cxx_ast.specs.ClassRules.{method_names, stands_before}

-- the name, where there is one
abbrev pub some_name : Option Name → List Name
some_name None = []
some_name (Some n) = n ∷ []

-- the names that statements and handlers declare
abbrev mutual
  pub names_in : Statement → List Name
  names_in (block ss) = names_of ss
  names_in (if_else e s other) = names_in s ++ names_behind other
  names_in (while e s) = names_in s
  names_in (try ss hs) = names_of ss ++ names_caught hs
  names_in (local_int n e) = n ∷ []
  names_in (local_ref p names) = some_name p.name
  names_in (local_object c n es) = n ∷ []
  names_in _ = []

  pub names_behind : Else → List Name
  names_behind no_else = []
  names_behind (else_do s) = names_in s

  pub names_of : Statements → List Name
  names_of no_statements = []
  names_of (statement_then s ss) = names_in s ++ names_of ss

  pub names_caught : Handlers → List Name
  names_caught no_handlers = []
  names_caught (handler_then ty n ss place hs) = some_name n ++ names_of ss ++ names_caught hs

-- the names of parameters
abbrev pub param_names : List Param → List Name
param_names = flat_map (λ p. some_name p.name)

-- the names in a body
abbrev pub body_names : Option Statements → List Name
body_names None = []
body_names (Some ss) = names_of ss

-- the names inside a function
abbrev pub inside_function : Function → List Name
inside_function f = param_names f.parameters ++ body_names f.body

-- the names that a declaration declares
abbrev pub names_declared : Declaration → List Name
names_declared (class_declaration c) = c.name ∷ param_names c.members ++ method_names c.functions ++ flat_map inside_function c.functions
names_declared (global_declaration n value) = n ∷ []
names_declared (function_declaration f) = f.name ∷ inside_function f

-- the names of the classes
abbrev pub class_names : List Declaration → List (List ℕ)
class_names [] = []
class_names (class_declaration c ∷ ds) = c.name.text ∷ class_names ds
class_names (d ∷ ds) = class_names ds

-- a built-in function has the name
abbrev pub is_builtin : Meaning → Bool
is_builtin unknown = false
is_builtin _ = true

-- the second of a class's name or of main, and the first of a built-in function's
abbrev pub once_found : List (List ℕ) → List Name → List Name → List Finding
once_found special all [] = []
once_found special all (n ∷ names) =
    breaks_if (if is_builtin (builtin_named n.text) then true else if has_text n.text special then stands_before all n else false) redeclared n.place
    ++ once_found special all names

-- what is declared once only
abbrev pub once_only_found : List Declaration → List Finding
once_only_found ds = let all = flat_map names_declared ds in once_found (codes "main" ∷ class_names ds) all all
