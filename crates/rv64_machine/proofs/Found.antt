-- Finding among what a function gives.
use Rattle.std.proofs.Common.{◌≡◌, Bool, List, [], ◌∷◌, map, Option, Some, None, option_map, refl, arith, Bor}
use Rattle.std.specs.Option.{option_copied}
use Rattle.std.specs.List.{find}

-- to find among what a function gives is to find, and then to apply it
pub find_mapped : {X Y : Type 0} (p : Y → Bool) (f : X → Y) (xs : List X) → find p (map f xs) ≡ option_map f (find (λ x. p (f x)) xs)
find_mapped p f [] = refl
find_mapped p f (x ∷ xs) = let more = find_mapped p f xs in grind (arith, more)

-- what a reference that was found stands for
pub copied_mapped : {X Y : Type 0} (f : X → Y) (r : Option (Bor X)) → option_map (λ x. f x.now) r ≡ option_map f (option_copied r)
copied_mapped f None = refl
copied_mapped f (Some x) = refl
