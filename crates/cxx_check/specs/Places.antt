-- The least places of texts among names.
use Rattle.std.specs.Prelude.{ℕ, ◌≡◌, Bool, false, nat_lt, List, [], ◌∷◌, Vec, min, bytes_eq, Option, Some, None, if◌then◌else◌}
use Rattle.std.specs.declared.alloc.Global.{Global}
use Rattle.std.specs.Map.{lookup}
use Rattle.cxx_ast.specs.declared.name.Name.{Name}

-- a place, or that of another name where it is less
abbrev pub lesser_place : ℕ → Option ℕ → ℕ
lesser_place place None = place
lesser_place place (Some p) = min p place

-- the least place at which a text stands
abbrev pub least_place : List ℕ → List Name → Option ℕ
least_place q [] = None
least_place q (n ∷ names) = if bytes_eq n.text q then Some (lesser_place n.place (least_place q names)) else least_place q names

-- that place is before another
abbrev pub is_before : Option ℕ → ℕ → Bool
is_before None place = false
is_before (Some p) place = nat_lt p place

-- a map's entries have the least place of each text
abbrev pub ArePlaces : List (Vec ℕ Global × ℕ) → List Name → Type 0
ArePlaces entries names = (q : List ℕ) → lookup (λ k. bytes_eq q k.items) entries ≡ least_place q names
