-- The last of some names, and those before it.
use Rattle.std.proofs.Common.{◌≡◌, ◌<◌, ℕ, suc, ◌-◌, List, [], ◌∷◌, refl, ap, ◌∙◌, length, take, get_or, arith}
use Rattle.cxx_ast.specs.declared.name.Name.{Name}
use Rattle.cxx_ast.specs.Lvalue.{last_place}
use Rattle.cxx_ast.specs.Calls.{receiver, last_name}

one_less : (k : ℕ) → suc (suc k) - 1 ≡ suc (suc k - 1)
one_less k = omega arith

pub last_at : (names : List Name) (d : Name) → 0 < length names → (get_or names (length names - 1) d).place ≡ last_place names
last_at [] d h = absurd (omega arith)
last_at (n ∷ []) d h = refl
last_at (n ∷ m ∷ names) d h = ap (λ i. (get_or (n ∷ m ∷ names) i d).place) (one_less (length names)) ∙ last_at (m ∷ names) d (omega arith)

pub receiver_is : (names : List Name) → 0 < length names → take (length names - 1) names ≡ receiver names
receiver_is [] h = absurd (omega arith)
receiver_is (n ∷ []) h = refl
receiver_is (n ∷ m ∷ names) h =
    ap (λ i. take i (n ∷ m ∷ names)) (one_less (length names)) ∙ ap (λ xs. n ∷ xs) (receiver_is (m ∷ names) (omega arith))

pub last_name_at : (n : Name) (names : List Name) (d : Name) → get_or (n ∷ names) (length names) d ≡ last_name n names
last_name_at n [] d = refl
last_name_at n (m ∷ names) d = last_name_at m names d

less_one : (k : ℕ) → suc k - 1 ≡ k
less_one k = omega arith

-- the last of two names or more
pub last_of : (n m : Name) (names : List Name) (d : Name) → get_or (n ∷ m ∷ names) (length (n ∷ m ∷ names) - 1) d ≡ last_name m names
last_of n m names d = ap (λ i. get_or (n ∷ m ∷ names) i d) (less_one (suc (length names))) ∙ last_name_at m names d

-- some names by their first two, the others and the last
pub record Several (names : List Name) (last : Name) : Type 0 where
  pub first : Name
  pub second : Name
  pub others : List Name
  pub is : names ≡ first ∷ second ∷ others
  pub ends : last ≡ last_name second others

pub several : (names : List Name) (last : Name) → 1 < length names → last ≡ get_or names (length names - 1) last → Several names last
several [] last h e = absurd (omega arith)
several (n ∷ []) last h e = absurd (omega arith)
several (n ∷ m ∷ names) last h e = record { first = n; second = m; others = names; is = refl; ends = e ∙ last_of n m names last }

pub no_names : (names : List Name) → length names < 1 → names ≡ []
no_names [] h = refl
no_names (n ∷ names) h = absurd (omega arith)
