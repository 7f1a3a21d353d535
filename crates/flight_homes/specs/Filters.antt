-- What the filters of a chain are.
use Rattle.std.specs.Prelude.{⊤, ◌≡◌, ℕ, zero, suc, ◌+◌, ◌^◌, ◌<◌, ◌≤◌, ℤ, pos, negsuc, true, List, [], ◌∷◌, length}
use Rattle.std.specs.List.{AllByRecursion}
use Rattle.meaning_forms.specs.Arithmetic.{fits_int}
use Rattle.region_forms.specs.Form.{RegionFunction}
use Rattle.linear_forms.specs.Tables.{padded, look_up, list_bytes}
use Rattle.linear_forms.specs.Linear.{FunctionCode}
use Rattle.linear_forms.specs.Unit.{function_code}

-- the bytes of lists that stand one after the other
abbrev pub bytes_of_lists : List (List ℕ) → ℕ
bytes_of_lists [] = 0
bytes_of_lists (l ∷ lists) = list_bytes l + bytes_of_lists lists

-- 0, the index of a type of the function, or what says a byte of its lists
abbrev pub IsFilter : FunctionCode → ℤ → Type 0
IsFilter g (pos zero) = ⊤
IsFilter g (pos (suc i)) = i < length g.types
IsFilter g (negsuc b) = b < bytes_of_lists g.lists

-- each filter of each chain of a function's sites is one
abbrev pub FiltersAreNamed : Type 0
FiltersAreNamed = (f : RegionFunction) (p q : ℕ) (chain : List ℤ) → look_up (function_code f).sites p ≡ padded q chain → AllByRecursion (IsFilter (function_code f)) chain

-- so it is an int, where the types and the bytes of lists are few enough
abbrev pub FiltersFit : Type 0
FiltersFit = (f : RegionFunction) (p q : ℕ) (chain : List ℤ) → length (function_code f).types < 2 ^ 31 → bytes_of_lists (function_code f).lists ≤ 2 ^ 31 → look_up (function_code f).sites p ≡ padded q chain →
    AllByRecursion (λ z. fits_int z ≡ true) chain
