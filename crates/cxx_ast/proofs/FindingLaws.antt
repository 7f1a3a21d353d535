-- Findings are sound where those of both parts are.
use Rattle.std.proofs.Common.{◌≡◌, ◌&&◌, List, [], ◌∷◌, ◌++◌, refl}
use Rattle.cxx_ast.specs.Finding.{Finding, breaks, uses, is_sound}

pub sound-append : (xs ys : List Finding) → is_sound (xs ++ ys) ≡ (is_sound xs && is_sound ys)
sound-append [] ys = refl
sound-append (breaks number place ∷ xs) ys = refl
sound-append (uses n ∷ xs) ys = sound-append xs ys
