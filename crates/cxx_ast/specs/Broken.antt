-- The rules that a program breaks, by number and place: those of each declaration, over what the declarations before it make known, those on names
-- that are declared once only, and those on `main` and on functions that are used.
use Rattle.std.specs.Prelude.{ℕ, ◌≡◌, Bool, true, false, not, ◌&&◌, ◌||◌, ◌==◌, List, [], ◌∷◌, ◌++◌, length, bytes_eq, codes, Option, Some, None, if◌then◌else◌}
use Rattle.cxx_ast.specs.declared.name.Name.{Name}
use Rattle.cxx_ast.specs.declared.types.Ty.TheVariants.{Int}
use Rattle.cxx_ast.specs.Plain.{Function, Declaration, class_declaration, global_declaration, function_declaration, Program}
use Rattle.cxx_ast.specs.Environment.{Kind, same_kind, Passing, Signature, function_thing, Entry, Environment}
use Rattle.cxx_ast.specs.Lookup.{entry_of}
use Rattle.cxx_ast.specs.Rule.{redeclared, specification_mismatch, no_main, not_defined}
use Rattle.cxx_ast.specs.Finding.{Finding, breaks, uses, breaks_if}
use Rattle.cxx_ast.specs.TypeNames.{signature, has_body}
use Rattle.cxx_ast.specs.Locals.{outermost}
use Rattle.cxx_ast.specs.Declare.{declare_behind, definitions, at_the_start, body_environment}
use Rattle.cxx_ast.specs.FunctionRules.{function_found, has_text}
use Rattle.cxx_ast.specs.ClassRules.{same_test, is_taken, class_rules_found}
use Rattle.cxx_ast.specs.declared.standard.Std.{Std}
use Rattle.cxx_ast.specs.DeclaredNames.{once_only_found}
use Rattle.cxx_ast.specs.Standards.{standard_found}

-- two parameters are of the same type
abbrev pub same_passing : Passing → Passing → Bool
same_passing p q = same_kind p.kind q.kind && same_test p.is_reference q.is_reference && same_test p.is_const q.is_const

-- parameters are of the same types
abbrev pub same_parameters : List Passing → List Passing → Bool
same_parameters [] [] = true
same_parameters (p ∷ ps) (q ∷ qs) = same_passing p q && same_parameters ps qs
same_parameters _ _ = false

-- a list has a type
abbrev pub has_kind : Kind → List Kind → Bool
has_kind k [] = false
has_kind k (j ∷ ks) = same_kind j k || has_kind k ks

-- each type of a list is in another
abbrev pub all_in : List Kind → List Kind → Bool
all_in [] ks = true
all_in (j ∷ js) ks = has_kind j ks && all_in js ks

-- two specifications allow all, or the same set of types
abbrev pub same_allowed : Option (List Kind) → Option (List Kind) → Bool
same_allowed None None = true
same_allowed (Some js) (Some ks) = all_in js ks && all_in ks js
same_allowed _ _ = false

-- two declarations agree
abbrev pub agree : Signature → Signature → Bool
agree s t = same_kind s.result t.result && same_parameters s.parameters t.parameters && same_allowed s.allowed t.allowed

-- the declarations of a function before: one differs, or two are definitions
abbrev pub differs_from : List Signature → Signature → Bool
differs_from [] s = false
differs_from (t ∷ ts) s = (bytes_eq t.name.text s.name.text && not (agree t s)) || differs_from ts s

-- a function is defined among declarations
abbrev pub defined_in : List Signature → List ℕ → Bool
defined_in [] text = false
defined_in (t ∷ ts) text = (bytes_eq t.name.text text && t.is_defined) || defined_in ts text

-- the name of a function, where the scope has it
abbrev pub function_name_found : Environment → Signature → Option Entry → List Finding
function_name_found env s None = []
function_name_found env s (Some e) = elim e.thing [
  | function_thing ↦ breaks_if (differs_from env.signatures s) specification_mismatch s.name.place ++ breaks_if (s.is_defined && defined_in env.signatures s.name.text) redeclared s.name.place
  | _ ↦ breaks redeclared s.name.place ∷ []
]

-- a declaration
abbrev pub declaration_found : Environment → Declaration → List Finding
declaration_found env (class_declaration c) = class_rules_found env c
declaration_found env (global_declaration n value) = breaks_if (is_taken env n.text) redeclared n.place
declaration_found env (function_declaration f) =
    function_name_found env (signature env outermost f) (entry_of env f.name.text) ++ function_found env outermost (body_environment env f) None f

-- declarations in order
abbrev pub declarations_found : Environment → List Declaration → List Finding
declarations_found env [] = []
declarations_found env (d ∷ ds) = declaration_found env d ++ declarations_found (declare_behind env d) ds

-- `int main()` without parameters is defined
abbrev pub is_main : Function → Bool
is_main f = bytes_eq f.name.text (codes "main") && has_body f.body && (length f.parameters == 0) && elim f.result [ Int ↦ true | _ ↦ false ]

-- some declaration is that
abbrev pub has_main : List Declaration → Bool
has_main [] = false
has_main (function_declaration f ∷ ds) = is_main f || has_main ds
has_main (d ∷ ds) = has_main ds

-- a function that is used, by the name of its first declaration, and is none of those that are defined
abbrev pub used_found : List (List ℕ) → Name → List (ℕ × ℕ)
used_found defined n = if has_text n.text defined then [] else (not_defined, n.place) ∷ []

-- the rules that are broken, and those functions that are used and never defined
abbrev pub pairs : List (List ℕ) → List Finding → List (ℕ × ℕ)
pairs defined [] = []
pairs defined (breaks number place ∷ found) = (number, place) ∷ pairs defined found
pairs defined (uses n ∷ found) = used_found defined n ++ pairs defined found

-- each rule that a program breaks by a standard
unfoldable pub broken : Std → Program → List (ℕ × ℕ)
broken std p =
    pairs (definitions p.declarations)
    (declarations_found (at_the_start p.declarations) p.declarations ++ once_only_found p.declarations
    ++ breaks_if (not (has_main p.declarations)) no_main p.length ++ standard_found std p.declarations)

-- a program breaks no rule of a standard
abbrev pub Valid : Std → Program → Type 0
Valid std p = broken std p ≡ []
