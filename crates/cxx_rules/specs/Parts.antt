-- Names of parts, and parts one by one.
use Rattle.std.specs.Prelude.{ℕ, List, [], ◌∷◌, ◌++◌, map, Some, None}
use Rattle.std.specs.Borrow.{Bor}
use Rattle.cxx_ast.specs.declared.types.Param.{Param}
use Rattle.cxx_ast.specs.Plain.{Initialiser, Function}
use Rattle.cxx_ast.specs.Environment.{Field, Environment, Scope, ClassEntry}
use Rattle.cxx_ast.specs.Finding.{Finding, breaks_if}
use Rattle.cxx_ast.specs.Rule.{redeclared}
use Rattle.cxx_ast.specs.FunctionRules.{has_text, left_part, left_fields, left_base, initialised, initialiser_found, initialisers_found}
use Rattle.cxx_rules.specs.declared.found.Found.{Found}
use Rattle.cxx_rules.specs.Summary.{nothing_found, both, seen}

-- texts that are borrowed
abbrev pub texts_now : List (Bor (List ℕ)) → List (List ℕ)
texts_now = map (λ t. t.now)

-- what was found, and the data members behind it that a constructor does not initialise
abbrev pub left_behind : Environment → ℕ → List (List ℕ) → Found → List Field → Found
left_behind env place names found [] = found
left_behind env place names found (f ∷ fs) = left_behind env place names (both found (seen env (left_part env place (has_text f.name.text names) f.kind))) fs

-- the parts that a constructor does not initialise
abbrev pub left_parts : Environment → ClassEntry → ℕ → List (List ℕ) → Found
left_parts env c place names = both (left_behind env place names nothing_found c.fields) (seen env (left_base env place names c.base))

-- a parameter behind those of some names
abbrev pub param_found : List (List ℕ) → Param → List Finding
param_found before p = elim p.name [ None ↦ [] | Some n ↦ breaks_if (has_text n.text before) redeclared n.place ]

-- the names of parameters, with that of one more behind
abbrev pub param_seen : List (List ℕ) → Param → List (List ℕ)
param_seen before p = elim p.name [ None ↦ before | Some n ↦ before ++ n.text ∷ [] ]

-- what was found, and parameters behind it and behind those of some names
abbrev pub params_behind : Environment → Found → List (List ℕ) → List Param → Found
params_behind env found before [] = found
params_behind env found before (p ∷ ps) = params_behind env (both found (seen env (param_found before p))) (param_seen before p) ps

-- what was found, and initialisers behind it and behind those of some names
abbrev pub initialisers_behind : Environment → Scope → ClassEntry → Found → List (List ℕ) → List Initialiser → Found
initialisers_behind env sc c found before [] = found
initialisers_behind env sc c found before (i ∷ is) =
    initialisers_behind env sc c (both found (seen env (initialiser_found env sc c before i))) (i.name.text ∷ before) is

-- the names of initialisers behind others, the last in front
abbrev pub named_behind : List (List ℕ) → List Initialiser → List (List ℕ)
named_behind before [] = before
named_behind before (i ∷ is) = named_behind (i.name.text ∷ before) is

-- what a constructor does before its body, by its class
abbrev pub class_building : Environment → Scope → ClassEntry → Function → List Finding
class_building env sc c f =
    initialisers_found env sc c [] f.initialisers ++ left_fields env f.name.place (initialised f.initialisers) c.fields
    ++ left_base env f.name.place (initialised f.initialisers) c.base
