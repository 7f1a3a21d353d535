-- Where no rule is broken, and each function that is used is defined: in a whole, so in its parts.
use Rattle.std.proofs.Common.{◌≡◌, Bool, true, false, not, ℕ, List, [], ◌∷◌, ◌++◌, refl, if◌then◌else◌}
use Rattle.cxx_ast.specs.Finding.{Finding, breaks, uses, is_sound, breaks_if}
use Rattle.cxx_ast.specs.FunctionRules.{has_text}
use Rattle.cxx_ast.specs.Broken.{used_found, pairs}

-- no rule is broken, and the functions that are used are among those that are defined
abbrev pub Fine : List (List ℕ) → List Finding → Type 0
Fine defined [] = Unit {0}
Fine defined (breaks number place ∷ found) = ⊥
Fine defined (uses n ∷ found) = (has_text n.text defined ≡ true) × Fine defined found

-- two parts
pub fine_parts : (defined : List (List ℕ)) (xs ys : List Finding) → Fine defined (xs ++ ys) → Fine defined xs × Fine defined ys
fine_parts defined [] ys h = (tt, h)
fine_parts defined (breaks number place ∷ xs) ys h = absurd h
fine_parts defined (uses n ∷ xs) ys h = let parts = fine_parts defined xs ys h.1 in ((h.0, parts.0), parts.1)

-- no rule is broken
pub fine_sound : (defined : List (List ℕ)) (xs : List Finding) → Fine defined xs → is_sound xs ≡ true
fine_sound defined [] h = refl
fine_sound defined (breaks number place ∷ xs) h = absurd h
fine_sound defined (uses n ∷ xs) h = fine_sound defined xs h.1

-- a rule is not broken where its test is false
pub not_broken : (defined : List (List ℕ)) (b : Bool) (number place : ℕ) → Fine defined (breaks_if b number place) → b ≡ false
not_broken defined true number place h = absurd h
not_broken defined false number place h = refl

-- what a rule asks for holds
pub held : (defined : List (List ℕ)) (b : Bool) (number place : ℕ) → Fine defined (breaks_if (not b) number place) → b ≡ true
held defined true number place h = refl
held defined false number place h = absurd h

-- a list that is empty with another behind it
front_empty : (xs ys : List (ℕ × ℕ)) → xs ++ ys ≡ [] → (xs ≡ []) × (ys ≡ [])
front_empty [] ys h = (refl, h)
front_empty (x ∷ xs) ys h = absurd (cc h)

-- a function is defined where its use is not refused
used_defined : (b : Bool) (x : ℕ × ℕ) → (if b then [] else x ∷ []) ≡ [] → b ≡ true
used_defined true x h = refl
used_defined false x h = absurd (cc h)

-- where nothing is refused all is fine
pub nothing_refused : (defined : List (List ℕ)) (xs : List Finding) → pairs defined xs ≡ [] → Fine defined xs
nothing_refused defined [] h = tt
nothing_refused defined (breaks number place ∷ xs) h = absurd (cc h)
nothing_refused defined (uses n ∷ xs) h =
    let parts = front_empty (used_found defined n) (pairs defined xs) h in
    (used_defined (has_text n.text defined) _ parts.0, nothing_refused defined xs parts.1)
