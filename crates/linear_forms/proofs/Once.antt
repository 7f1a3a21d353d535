-- What is used is among the items of which each stands once.
use Rattle.std.proofs.Common.{◌≡◌, ℕ, Bool, true, false, List, [], ◌∷◌, ◌++◌, refl, ap, ◌∙◌, arith}
use Rattle.std.specs.Prelude.{◌==◌, ◌&&◌, ◌||◌, if◌then◌else◌}
use Rattle.std.proofs.lemmas.Bool.Decides.{nat_tests}
use Rattle.meaning_forms.specs.Class.{some_of}
use Rattle.linear_forms.specs.Distinct.{among, added, added_all, same_number, same_list}
use Rattle.linear_forms.proofs.Integers.{both_hold}

-- every item is among some
abbrev pub AllAmong : {A : Type 0} → (A → A → Bool) → List A → List A → Type 0
AllAmong same xs [] = Unit {0}
AllAmong same xs (y ∷ ys) = (among same xs y ≡ true) × AllAmong same xs ys

pub all_left : {A : Type 0} (same : A → A → Bool) (xs a b : List A) → AllAmong same xs (a ++ b) → AllAmong same xs a
all_left same xs [] b h = tt
all_left same xs (y ∷ a) b h = (h.0, all_left same xs a b h.1)

pub all_right : {A : Type 0} (same : A → A → Bool) (xs a b : List A) → AllAmong same xs (a ++ b) → AllAmong same xs b
all_right same xs [] b h = h
all_right same xs (y ∷ a) b h = all_right same xs a b h.1

or_first : (a b : Bool) → a ≡ true → (a || b) ≡ true
or_first true b e = refl
or_first false b e = absurd (cc e)

or_second : (a b : Bool) → b ≡ true → (a || b) ≡ true
or_second true b e = refl
or_second false b e = e

or_either : (a b c : Bool) → (b ≡ true → c ≡ true) → (a || b) ≡ true → (a || c) ≡ true
or_either true b c f e = refl
or_either false b c f e = f e

some_longer : {A : Type 0} (test : A → Bool) (a b : List A) → some_of test a ≡ true → some_of test (a ++ b) ≡ true
some_longer test [] b e = absurd (cc e)
some_longer test (x ∷ a) b e = or_either (test x) (some_of test a) (some_of test (a ++ b)) (some_longer test a b) e

some_last : {A : Type 0} (test : A → Bool) (a : List A) (x : A) → test x ≡ true → some_of test (a ++ x ∷ []) ≡ true
some_last test [] x e = or_first (test x) false e
some_last test (y ∷ a) x e = or_second (test y) (some_of test (a ++ x ∷ [])) (some_last test a x e)

module _ {A : Type 0} (same : A → A → Bool) (itself : (x : A) → same x x ≡ true) where
  pub still_among : (xs : List A) (y x : A) → among same xs x ≡ true → among same (added same xs y) x ≡ true
  still_among xs y x h = go (among same xs y)
    where
      go : (b : Bool) → among same (if b then xs else xs ++ y ∷ []) x ≡ true
      go true = h
      go false = some_longer (same x) xs (y ∷ []) h

  now_among : (xs : List A) (y : A) → among same (added same xs y) y ≡ true
  now_among xs y = go (among same xs y) refl
    where
      go : (b : Bool) → among same xs y ≡ b → among same (if b then xs else xs ++ y ∷ []) y ≡ true
      go true e = e
      go false e = some_last (same y) xs y (itself y)

  kept_among : (ys xs : List A) (x : A) → among same xs x ≡ true → among same (added_all same xs ys) x ≡ true
  kept_among [] xs x h = h
  kept_among (y ∷ ys) xs x h = kept_among ys (added same xs y) x (still_among xs y x h)

  pub all_among : (ys xs : List A) → AllAmong same (added_all same xs ys) ys
  all_among [] xs = tt
  all_among (y ∷ ys) xs = (kept_among ys (added same xs y) y (now_among xs y), all_among ys (added same xs y))

pub number_itself : (n : ℕ) → same_number n n ≡ true
number_itself n = grind (arith, nat_tests)

pub list_itself : (l : List ℕ) → same_list l l ≡ true
list_itself [] = refl
list_itself (n ∷ ns) = ap (λ b. b && same_list ns ns) (number_itself n) ∙ list_itself ns

number_is : (n m : ℕ) → (n == m) ≡ true → n ≡ m
number_is n m e = grind (arith, nat_tests)

pub same_list_is : (l m : List ℕ) → same_list l m ≡ true → l ≡ m
same_list_is [] [] e = refl
same_list_is [] (m ∷ ms) e = absurd (cc e)
same_list_is (n ∷ ns) [] e = absurd (cc e)
same_list_is (n ∷ ns) (m ∷ ms) e =
    let h = both_hold (n == m) (same_list ns ms) e in
    ap (λ x. x ∷ ns) (number_is n m h.0) ∙ ap (λ xs. m ∷ xs) (same_list_is ns ms h.1)
