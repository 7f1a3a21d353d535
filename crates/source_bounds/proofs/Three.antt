-- Among numbers of which each is one of three there are at most three different ones.
use Rattle.std.proofs.Common.{◌≡◌, ℕ, ◌+◌, ◌≤◌, Bool, true, false, ◌||◌, List, [], ◌∷◌, ◌++◌, length, ◌⊎◌, inl, inr, refl, ap, subst, sym, if◌then◌else◌, arith}
use Rattle.std.proofs.lemmas.Bool.Decides.{nat_tests}
use Rattle.std.proofs.lemmas.List.{length-append}
use Rattle.std.specs.List.{AllByRecursion}
use Rattle.meaning_forms.specs.Class.{some_of}
use Rattle.linear_forms.specs.Distinct.{added, added_all, same_number, distinct}

abbrev pub IsOneOf : (a b c n : ℕ) → Type 0
IsOneOf a b c n = (n ≡ a) ⊎ ((n ≡ b) ⊎ (n ≡ c))

-- 1 where a test fails
abbrev absent : Bool → ℕ
absent true = 0
absent false = 1

-- one more number can only be found
no_more_absent : (test : ℕ → Bool) (xs : List ℕ) (y : ℕ) → absent (some_of test (xs ++ y ∷ [])) ≤ absent (some_of test xs)
no_more_absent test [] y = go (test y)
  where
    go : (b : Bool) → absent (b || false) ≤ 1
    go true = omega arith
    go false = omega arith
no_more_absent test (x ∷ xs) y = go (test x) (no_more_absent test xs y)
  where
    go : (b : Bool) → absent (some_of test (xs ++ y ∷ [])) ≤ absent (some_of test xs) → absent (b || some_of test (xs ++ y ∷ [])) ≤ absent (b || some_of test xs)
    go true h = omega arith
    go false h = h

found_last : (test : ℕ → Bool) (xs : List ℕ) (y : ℕ) → test y ≡ true → absent (some_of test (xs ++ y ∷ [])) ≡ 0
found_last test [] y e = ap (λ b. absent (b || false)) e
found_last test (x ∷ xs) y e = go (test x) (found_last test xs y e)
  where
    go : (b : Bool) → absent (some_of test (xs ++ y ∷ [])) ≡ 0 → absent (b || some_of test (xs ++ y ∷ [])) ≡ 0
    go true h = refl
    go false h = h

same_as_itself : (n : ℕ) → same_number n n ≡ true
same_as_itself n = grind (arith, nat_tests)

is_found : (n y : ℕ) → y ≡ n → same_number n y ≡ true
is_found n y e = subst (λ z. same_number n z ≡ true) (sym e) (same_as_itself n)

module _ (a b c : ℕ) where
  -- how many of the three are not among numbers
  abbrev left : List ℕ → ℕ
  left xs = absent (some_of (same_number a) xs) + absent (some_of (same_number b) xs) + absent (some_of (same_number c) xs)

  -- a number that is new was one of those left
  new_one : (xs : List ℕ) (y : ℕ) → IsOneOf a b c y → some_of (same_number y) xs ≡ false → length (xs ++ y ∷ []) + left (xs ++ y ∷ []) ≤ length xs + left xs
  new_one xs y (inl h) e =
      let was : absent (some_of (same_number a) xs) ≡ 1 = subst (λ z. absent (some_of (same_number z) xs) ≡ 1) h (ap absent e) in
      omega (arith, was, length-append xs (y ∷ []), found_last (same_number a) xs y (is_found a y h), no_more_absent (same_number b) xs y, no_more_absent (same_number c) xs y)
  new_one xs y (inr (inl h)) e =
      let was : absent (some_of (same_number b) xs) ≡ 1 = subst (λ z. absent (some_of (same_number z) xs) ≡ 1) h (ap absent e) in
      omega (arith, was, length-append xs (y ∷ []), found_last (same_number b) xs y (is_found b y h), no_more_absent (same_number a) xs y, no_more_absent (same_number c) xs y)
  new_one xs y (inr (inr h)) e =
      let was : absent (some_of (same_number c) xs) ≡ 1 = subst (λ z. absent (some_of (same_number z) xs) ≡ 1) h (ap absent e) in
      omega (arith, was, length-append xs (y ∷ []), found_last (same_number c) xs y (is_found c y h), no_more_absent (same_number a) xs y, no_more_absent (same_number b) xs y)

  one_more : (xs : List ℕ) (y : ℕ) → IsOneOf a b c y → length (added same_number xs y) + left (added same_number xs y) ≤ length xs + left xs
  one_more xs y h = go (some_of (same_number y) xs) refl
    where
      go : (t : Bool) → some_of (same_number y) xs ≡ t → length (if t then xs else xs ++ y ∷ []) + left (if t then xs else xs ++ y ∷ []) ≤ length xs + left xs
      go true e = omega arith
      go false e = new_one xs y h e

  all_more : (ys xs : List ℕ) → AllByRecursion (IsOneOf a b c) ys → length (added_all same_number xs ys) ≤ length xs + left xs
  all_more [] xs h = omega arith
  all_more (y ∷ ys) xs h = omega (arith, one_more xs y h.0, all_more ys (added same_number xs y) h.1)

  pub at_most_three : (ns : List ℕ) → AllByRecursion (IsOneOf a b c) ns → length (distinct ns) ≤ 3
  at_most_three ns h = omega (arith, all_more ns [] h)
