-- Searches in a table.
use Rattle.std.proofs.Common.{◌≡◌, ℕ, ◌≤◌, Bool, true, false, ◌&&◌, List, [], ◌∷◌, Some, None, cond, find, nat_le, refl, subst, arith}
use Rattle.std.proofs.lemmas.Bool.{leb-true}
use Rattle.std.specs.List.{list_all}
use Rattle.cxx_lexer.proofs.ByteTests.{both}

-- what all of a table pass, one that is found there passes
pub found_in : {A : Type 0} (p q : A → Bool) (xs : List A) (x : A) → list_all p xs ≡ true → find q xs ≡ Some x → p x ≡ true
found_in p q [] x all e = cc
found_in p q (y ∷ ys) x all e =
    let parts = both (p y) (list_all p ys) all in
    elim (q y) as (λ b. cond b (Some y) (find q ys) ≡ Some x → p x ≡ true) [
      | true ↦ λ some. let same : y ≡ x = cc in subst (λ z. p z ≡ true) same parts.0
      | false ↦ λ some. found_in p q ys x parts.1 some
    ] e

-- where no row passes, none that another search finds does
pub none_passes : {A : Type 0} (p q : A → Bool) (xs : List A) (x : A) → find p xs ≡ None → find q xs ≡ Some x → p x ≡ false
none_passes p q [] x none e = cc
none_passes p q (y ∷ ys) x none e = elim (p y) as (λ b. p y ≡ b → cond b (Some y) (find p ys) ≡ None → p x ≡ false) [
  | true ↦ λ here nothing. cc
  | false ↦ λ here nothing. elim (q y) as (λ b. cond b (Some y) (find q ys) ≡ Some x → p x ≡ false) [
    | true ↦ λ some. let same : y ≡ x = cc in subst (λ z. p z ≡ false) same here
    | false ↦ λ some. none_passes p q ys x nothing some
  ] e
] refl none

-- no row is longer than one before it
abbrev pub is_descending : {A : Type 0} → (A → ℕ) → List A → Bool
is_descending size [] = true
is_descending size (x ∷ xs) = list_all (λ y. nat_le (size y) (size x)) xs && is_descending size xs

-- of the rows that pass, the first is the longest
pub first_longest : {A : Type 0} (size : A → ℕ) (p q : A → Bool) (xs : List A) (x z : A) → is_descending size xs ≡ true → find p xs ≡ Some x → find q xs ≡ Some z → p z ≡ true → size z ≤ size x
first_longest size p q [] x z down e f pass = cc
first_longest size p q (y ∷ ys) x z down e f pass =
    let parts = both (list_all (λ w. nat_le (size w) (size y)) ys) (is_descending size ys) down in
    elim (p y) as (λ b. p y ≡ b → cond b (Some y) (find p ys) ≡ Some x → size z ≤ size x) [
      | true ↦ λ here some. let same : y ≡ x = cc in subst (λ w. size z ≤ size w) same (elim (q y) as (λ b. cond b (Some y) (find q ys) ≡ Some z → size z ≤ size y) [
        | true ↦ λ other. let equal : y ≡ z = cc in subst (λ w. size w ≤ size y) equal (omega arith)
        | false ↦ λ other. leb-true (size z) (size y) (found_in (λ w. nat_le (size w) (size y)) q ys z parts.0 other)
      ] f)
      | false ↦ λ here some. elim (q y) as (λ b. cond b (Some y) (find q ys) ≡ Some z → size z ≤ size x) [
        | true ↦ λ other. let equal : y ≡ z = cc in let fails : p z ≡ false = subst (λ w. p w ≡ false) equal here in cc
        | false ↦ λ other. first_longest size p q ys x z parts.1 some other pass
      ] f
    ] refl e
