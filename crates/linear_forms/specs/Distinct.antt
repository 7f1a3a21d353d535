-- What a list names, each once, in order of first use.
use Rattle.std.specs.Prelude.{ℕ, Bool, true, false, ◌&&◌, ◌==◌, List, [], ◌∷◌, ◌++◌, if◌then◌else◌}
use Rattle.meaning_forms.specs.Class.{some_of}

-- an item is among others, by a test of sameness
abbrev pub among : {A : Type 0} → (A → A → Bool) → List A → A → Bool
among same xs x = some_of (same x) xs

-- one more item, if it is new
abbrev pub added : {A : Type 0} → (A → A → Bool) → List A → A → List A
added same xs x = if among same xs x then xs else xs ++ x ∷ []

-- more items, those that are new
abbrev pub added_all : {A : Type 0} → (A → A → Bool) → List A → List A → List A
added_all same xs [] = xs
added_all same xs (y ∷ ys) = added_all same (added same xs y) ys

-- the same number
abbrev pub same_number : ℕ → ℕ → Bool
same_number n m = n == m

-- the same numbers in the same order
abbrev pub same_list : List ℕ → List ℕ → Bool
same_list [] [] = true
same_list (n ∷ ns) (m ∷ ms) = n == m && same_list ns ms
same_list _ _ = false

-- each number once
abbrev pub distinct : List ℕ → List ℕ
distinct ns = added_all same_number [] ns

-- each list once
abbrev pub distinct_lists : List (List ℕ) → List (List ℕ)
distinct_lists lists = added_all same_list [] lists
