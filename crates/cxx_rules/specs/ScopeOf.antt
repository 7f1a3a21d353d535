-- The scope as the definitions have it.
use Rattle.std.specs.Prelude.{ℕ, ⊤, ◌≡◌, Bool, false, List, [], ◌∷◌, Vec, map}
use Rattle.std.specs.declared.alloc.Global.{Global}
use Rattle.cxx_ast.specs.Environment.{Variable, Scope}
use Rattle.cxx_ast.specs.Locals.{has_variable}

-- the variables of a scope, by their names
abbrev pub variables_of : List (Vec ℕ Global × Variable) → List Variable
variables_of = map (λ e. e.1)

-- each is found by its own name
abbrev pub AreNamed : List (Vec ℕ Global × Variable) → Type 0
AreNamed [] = ⊤
AreNamed ((name, v) ∷ es) = (name.items ≡ v.text) × AreNamed es

-- a scope, in a loop or not
abbrev pub with_loop : Bool → Scope → Scope
with_loop test sc = record sc { in_loop = test }

-- the scopes round the innermost
abbrev pub others : List (List Variable) → List (List Variable)
others [] = []
others (row ∷ rows) = rows

-- a scope whose innermost scope is left
abbrev pub closed : Scope → Scope
closed sc = record sc { locals = others sc.locals }

-- the innermost scope has a name
abbrev pub has_first : List ℕ → List (List Variable) → Bool
has_first text [] = false
has_first text (row ∷ rows) = has_variable text row
