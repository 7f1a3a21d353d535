-- What the tables of a function name is there.
use Rattle.std.specs.Prelude.{ℕ, zero, suc, ◌+◌, ◌≡◌, ◌<◌, ◌≤◌, ℤ, pos, negsuc, List, [], ◌∷◌, length, ⊤, Option, Some, None, slice_get, ◌⊎◌}
use Rattle.linear_forms.specs.Linear.{pad, FunctionCode}
use Rattle.linear_forms.specs.Tables.{list_bytes}

-- a list begins at byte n, where these lists begin at byte `at`
abbrev pub ListBegins : List (List ℕ) → (at n : ℕ) → Type 0
ListBegins [] at n = ⊥
ListBegins (l ∷ lists) at n = (at ≡ n) ⊎ ListBegins lists (at + list_bytes l) n

-- a filter is that of a cleanup, or names an entry of the types, or the first byte of a list
abbrev pub FilterIsThere : FunctionCode → ℤ → Type 0
FilterIsThere f (pos zero) = ⊤
FilterIsThere f (pos (suc i)) = i < length f.types
FilterIsThere f (negsuc n) = ListBegins f.lists 0 n

-- an index of a list counts from 1
abbrev pub TypeIsThere : FunctionCode → ℕ → Type 0
TypeIsThere f i = (0 < i) × (i ≤ length f.types)

-- where a site has a pad, a landing pad begins there
abbrev pub PadIsThere : FunctionCode → (object selector : ℕ) → Option ℕ → Type 0
PadIsThere f x s None = ⊤
PadIsThere f x s (Some p) = slice_get f.ops p ≡ Some (pad x s)
