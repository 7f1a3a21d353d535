-- When two chains are the same.
use Rattle.std.proofs.Common.{◌≡◌, ◌∙◌, ℤ, pos, negsuc, ◌&&◌, List, [], ◌∷◌, refl, ap, arith}
use Rattle.std.specs.Ordering.{int_eq}
use Rattle.std.specs.Cmp.Lexicographic.{pointwise}
use Rattle.std.proofs.lemmas.Bool.Decides.{nat_tests}
use Rattle.meaning_forms.specs.Arithmetic.{int_equal}
use Rattle.linear_forms.specs.Sites.{same_chain}

same_int : (n m : ℤ) → int_eq n m ≡ int_equal n m
same_int (pos n) (pos m) = grind (arith, nat_tests)
same_int (pos n) (negsuc m) = refl
same_int (negsuc n) (pos m) = refl
same_int (negsuc n) (negsuc m) = grind (arith, nat_tests)

-- chains are the same where they are equal as slices
pub equal_chains : (a b : List ℤ) → pointwise int_eq a b ≡ same_chain a b
equal_chains [] [] = refl
equal_chains [] (m ∷ b) = refl
equal_chains (n ∷ a) [] = refl
equal_chains (n ∷ a) (m ∷ b) = ap (λ x. x && pointwise int_eq a b) (same_int n m) ∙ ap (λ x. int_equal n m && x) (equal_chains a b)
