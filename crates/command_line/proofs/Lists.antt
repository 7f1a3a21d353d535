-- Lists that are read one by one.
use Rattle.std.proofs.Common.{◌≡◌, List, [], ◌∷◌, ◌++◌, Option, Some, None, refl, ap, append_assoc, append-nil}
use Rattle.std.specs.Option.{option_map}

-- what was read, and what is to be read
abbrev pub with_front : {X : Type 0} → List X → Option (List X) → Option (List X)
with_front front read = option_map (λ rest. front ++ rest) read

pub one_more : {X : Type 0} (front : List X) (x : X) (read : Option (List X)) → with_front (front ++ x ∷ []) read ≡ with_front front (option_map (λ rest. x ∷ rest) read)
one_more front x None = refl
one_more front x (Some rest) = ap (λ xs. Some xs) (append_assoc front (x ∷ []) rest)

pub all_read : {X : Type 0} (front : List X) → with_front front (Some []) ≡ Some front
all_read front = ap (λ xs. Some xs) (append-nil front)
