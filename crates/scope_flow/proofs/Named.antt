-- The last of some names, and those before it.
use Rattle.std.proofs.Common.{◌≡◌, List, [], ◌∷◌, ◌++◌, refl, ap}
use Rattle.cxx_ast.specs.declared.name.Name.{Name}
use Rattle.cxx_ast.specs.declared.name.Bound.{Bound}
use Rattle.meaning_forms.specs.Expression.{callee_bound, receiver}

last_of : (before : List Name) (n : Name) → callee_bound (before ++ n ∷ []) ≡ n.bound
last_of [] n = refl
last_of (x ∷ []) n = refl
last_of (x ∷ y ∷ before) n = last_of (y ∷ before) n

front_of : (before : List Name) (n : Name) → receiver (before ++ n ∷ []) ≡ before
front_of [] n = refl
front_of (x ∷ []) n = refl
front_of (x ∷ y ∷ before) n = ap (λ ns. x ∷ ns) (front_of (y ∷ before) n)

pub last_bound : (before names : List Name) (n : Name) → names ≡ before ++ n ∷ [] → n.bound ≡ callee_bound names
last_bound before names n e = rw (e, last_of before n) refl

pub before_last : (before names : List Name) (n : Name) → names ≡ before ++ n ∷ [] → before ≡ receiver names
before_last before names n e = rw (e, front_of before n) refl
