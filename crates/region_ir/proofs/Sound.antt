-- Where no rule is broken in a whole, none is in its parts.
use Rattle.std.proofs.Common.{◌≡◌, ◌∙◌, ℕ, Bool, true, false, not, List, [], ◌∷◌, ◌++◌, refl, sym}
use Rattle.std.proofs.lemmas.Bool.{and_parts}
use Rattle.cxx_ast.specs.Finding.{Finding, breaks, uses, is_sound, breaks_if}
use Rattle.cxx_ast.specs.Broken.{used_found, pairs}
use Rattle.cxx_ast.proofs.FindingLaws.{sound-append}

-- no rule is broken
abbrev pub Sound : List Finding → Type 0
Sound found = is_sound found ≡ true

-- two parts
pub sound_parts : (xs ys : List Finding) → Sound (xs ++ ys) → Sound xs × Sound ys
sound_parts xs ys h = and_parts (is_sound xs) (is_sound ys) (sym (sound-append xs ys) ∙ h)

-- what a rule asks for holds
pub held : (b : Bool) (number place : ℕ) → Sound (breaks_if (not b) number place) → b ≡ true
held true number place h = refl
held false number place h = absurd (cc h)

-- a list that is empty behind another
behind_empty : (xs ys : List (ℕ × ℕ)) → xs ++ ys ≡ [] → ys ≡ []
behind_empty [] ys h = h
behind_empty (x ∷ xs) ys h = absurd (cc h)

-- where nothing is refused no rule is broken
pub nothing_refused : (defined : List (List ℕ)) (xs : List Finding) → pairs defined xs ≡ [] → Sound xs
nothing_refused defined [] h = refl
nothing_refused defined (breaks number place ∷ xs) h = absurd (cc h)
nothing_refused defined (uses n ∷ xs) h = nothing_refused defined xs (behind_empty (used_found defined n) (pairs defined xs) h)

-- a rule is not broken where its test is false
pub not_broken : (b : Bool) (number place : ℕ) → Sound (breaks_if b number place) → b ≡ false
not_broken true number place h = absurd (cc h)
not_broken false number place h = refl
