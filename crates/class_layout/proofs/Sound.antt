-- Where no rule is broken in a whole, none is in its parts.
use Rattle.std.proofs.Common.{◌≡◌, ℕ, Bool, true, false, List, [], ◌∷◌, ◌++◌, refl}
use Rattle.cxx_ast.specs.Finding.{Finding, breaks, uses, is_sound, breaks_if}
use Rattle.cxx_ast.specs.Broken.{used_found, pairs}

pub front_sound : (xs ys : List Finding) → is_sound (xs ++ ys) ≡ true → is_sound xs ≡ true
front_sound [] ys h = refl
front_sound (breaks number place ∷ xs) ys h = absurd (cc h)
front_sound (uses n ∷ xs) ys h = front_sound xs ys h

pub back_sound : (xs ys : List Finding) → is_sound (xs ++ ys) ≡ true → is_sound ys ≡ true
back_sound [] ys h = h
back_sound (breaks number place ∷ xs) ys h = absurd (cc h)
back_sound (uses n ∷ xs) ys h = back_sound xs ys h

-- a rule is not broken where its test is false
pub not_broken : (b : Bool) (number place : ℕ) → is_sound (breaks_if b number place) ≡ true → b ≡ false
not_broken true number place h = absurd (cc h)
not_broken false number place h = refl

-- a rule that is tested behind others
pub before_test : (xs : List Finding) (b : Bool) (number place : ℕ) → is_sound (xs ++ breaks_if b number place) ≡ true → (is_sound xs ≡ true) × (b ≡ false)
before_test xs b number place h =
    (front_sound xs (breaks_if b number place) h, not_broken b number place (back_sound xs (breaks_if b number place) h))

-- a list that is empty behind another
behind_empty : (xs ys : List (ℕ × ℕ)) → xs ++ ys ≡ [] → ys ≡ []
behind_empty [] ys h = h
behind_empty (x ∷ xs) ys h = absurd (cc h)

-- where nothing is refused no rule is broken
pub nothing_refused : (defined : List (List ℕ)) (xs : List Finding) → pairs defined xs ≡ [] → is_sound xs ≡ true
nothing_refused defined [] h = refl
nothing_refused defined (breaks number place ∷ xs) h = absurd (cc h)
nothing_refused defined (uses n ∷ xs) h = nothing_refused defined xs (behind_empty (used_found defined n) (pairs defined xs) h)
