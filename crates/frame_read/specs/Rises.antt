-- Things whose numbers rise.
use Rattle.std.specs.Prelude.{◌≡◌, ◌≤◌, ℕ, ◌+◌, List, [], ◌∷◌}

-- and the first is at n or above
abbrev pub RisesBy : {A : Type 0} → (A → ℕ) → ℕ → List A → Type 0
RisesBy f n [] = n ≡ n
RisesBy f n (x ∷ xs) = (n ≤ f x) × RisesBy f (f x + 1) xs
