-- Lists of live exceptions, where one is added, taken away or replaced.
use Rattle.std.proofs.Common.{◌≡◌, ℕ, ◌+◌, Bool, true, false, List, [], ◌∷◌, ◌++◌, refl, sym, ap, ◌∙◌, arith}
use Rattle.std.specs.Prelude.{◌==◌, not, cond, map, filter, if◌then◌else◌}
use Rattle.std.proofs.lemmas.Bool.Decides.{nat_tests}
use Rattle.meaning_forms.specs.World.{Live, Exception, building, exception_in, replaced}
use Rattle.meaning_events.specs.Events.{one_if}
use Rattle.meaning_events.specs.Fates.{entries, is_token, foreign_live}

pub number_is : (a b : ℕ) → (a == b) ≡ true → a ≡ b
number_is a b h = grind (arith, nat_tests, h)

pub same_number : (a : ℕ) → (a == a) ≡ true
same_number a = grind (arith, nat_tests)

pub other_number : (a b : ℕ) → (b ≡ a → ⊥) → (a == b) ≡ false
other_number a b h = go (a == b) refl
  where
    go : (z : Bool) → (a == b) ≡ z → z ≡ false
    go true is = absurd (h (sym (number_is a b is)))
    go false is = refl

-- one that is added
pub entries_added : (xs : List Live) (y : Live) (q : ℕ) → entries q (xs ++ y ∷ []) ≡ entries q xs + one_if (y.number == q)
entries_added [] y q = omega arith
entries_added (x ∷ xs) y q = let ih = entries_added xs y q in omega (arith, ih)

pub exception_added : (xs : List Live) (y : Live) (q : ℕ) → (y.number == q) ≡ false → exception_in (xs ++ y ∷ []) q ≡ exception_in xs q
exception_added [] y q other = ap (λ b. if b then y.exception else building) other
exception_added (x ∷ xs) y q other = ap (λ z. if x.number == q then x.exception else z) (exception_added xs y q other)

pub exception_new : (xs : List Live) (y : Live) → entries y.number xs ≡ 0 → exception_in (xs ++ y ∷ []) y.number ≡ y.exception
exception_new [] y none = ap (λ b. if b then y.exception else building) (same_number y.number)
exception_new (x ∷ xs) y none = go (x.number == y.number) (λ n. exception_new xs y n) none
  where
    go : (b : Bool) → (entries y.number xs ≡ 0 → exception_in (xs ++ y ∷ []) y.number ≡ y.exception) → one_if b + entries y.number xs ≡ 0
        → (if b then x.exception else exception_in (xs ++ y ∷ []) y.number) ≡ y.exception
    go true ih none = absurd (omega (arith, none))
    go false ih none = ih (omega (arith, none))

pub foreign_added : (k t : ℕ) (xs : List Live) (y : Live) → foreign_live k t (xs ++ y ∷ []) ≡ foreign_live k t xs + is_token k t y.exception
foreign_added k t [] y = omega arith
foreign_added k t (x ∷ xs) y = let ih = foreign_added k t xs y in omega (arith, ih)

-- one that is taken away
abbrev pub taken : ℕ → List Live → List Live
taken e xs = filter (λ x. not (x.number == e)) xs

pub entries_taken : (xs : List Live) (e q : ℕ) → (q ≡ e → ⊥) → entries q (taken e xs) ≡ entries q xs
entries_taken [] e q other = refl
entries_taken (x ∷ xs) e q other = go (x.number == e) (entries_taken xs e q other) refl
  where
    go : (b : Bool) → entries q (taken e xs) ≡ entries q xs → (x.number == e) ≡ b → entries q (cond (not b) (x ∷ taken e xs) (taken e xs)) ≡ one_if (x.number == q) + entries q xs
    go true ih is =
        let unlike : (x.number == q) ≡ false = other_number x.number q (λ same. other (same ∙ number_is x.number e is)) in
        let none : one_if (x.number == q) ≡ 0 = ap one_if unlike in
        omega (arith, ih, none)
    go false ih is = ap (λ n. one_if (x.number == q) + n) ih

pub entries_gone : (xs : List Live) (e : ℕ) → entries e (taken e xs) ≡ 0
entries_gone [] e = refl
entries_gone (x ∷ xs) e = go (x.number == e) (entries_gone xs e) refl
  where
    go : (b : Bool) → entries e (taken e xs) ≡ 0 → (x.number == e) ≡ b → entries e (cond (not b) (x ∷ taken e xs) (taken e xs)) ≡ 0
    go true ih is = ih
    go false ih is = let none : one_if (x.number == e) ≡ 0 = ap one_if is in omega (arith, ih, none)

pub exception_taken : (xs : List Live) (e q : ℕ) → (q ≡ e → ⊥) → exception_in (taken e xs) q ≡ exception_in xs q
exception_taken [] e q other = refl
exception_taken (x ∷ xs) e q other = go (x.number == e) (exception_taken xs e q other) refl
  where
    go : (b : Bool) → exception_in (taken e xs) q ≡ exception_in xs q → (x.number == e) ≡ b → exception_in (cond (not b) (x ∷ taken e xs) (taken e xs)) q
        ≡ (if x.number == q then x.exception else exception_in xs q)
    go true ih is =
        let unlike : (x.number == q) ≡ false = other_number x.number q (λ same. other (same ∙ number_is x.number e is)) in
        ih ∙ ap (λ b. if b then x.exception else exception_in xs q) (sym unlike)
    go false ih is = ap (λ z. if x.number == q then x.exception else z) ih

-- none is taken away where none has the number
foreign_left : (k t : ℕ) (xs : List Live) (e : ℕ) → entries e xs ≡ 0 → foreign_live k t (taken e xs) ≡ foreign_live k t xs
foreign_left k t [] e none = refl
foreign_left k t (x ∷ xs) e none = go (x.number == e) (λ n. foreign_left k t xs e n) none
  where
    go : (b : Bool) → (entries e xs ≡ 0 → foreign_live k t (taken e xs) ≡ foreign_live k t xs) → one_if b + entries e xs ≡ 0
        → foreign_live k t (cond (not b) (x ∷ taken e xs) (taken e xs)) ≡ is_token k t x.exception + foreign_live k t xs
    go true ih none = absurd (omega (arith, none))
    go false ih none = ap (λ n. is_token k t x.exception + n) (ih (omega (arith, none)))

pub foreign_taken : (k t : ℕ) (xs : List Live) (e : ℕ) → entries e xs ≡ 1 → foreign_live k t (taken e xs) + is_token k t (exception_in xs e) ≡ foreign_live k t xs
foreign_taken k t [] e one = absurd (omega (arith, one))
foreign_taken k t (x ∷ xs) e one = go (x.number == e) (λ n. foreign_taken k t xs e n) one
  where
    go : (b : Bool) → (entries e xs ≡ 1 → foreign_live k t (taken e xs) + is_token k t (exception_in xs e) ≡ foreign_live k t xs) → one_if b + entries e xs ≡ 1
        → foreign_live k t (cond (not b) (x ∷ taken e xs) (taken e xs)) + is_token k t (if b then x.exception else exception_in xs e)
        ≡ is_token k t x.exception + foreign_live k t xs
    go true ih one = let left = foreign_left k t xs e (omega (arith, one)) in omega (arith, left)
    go false ih one = let rest = ih (omega (arith, one)) in omega (arith, rest)

-- one that is replaced
abbrev pub put : ℕ → Exception → List Live → List Live
put e y xs = map (replaced e y) xs

pub entries_put : (xs : List Live) (e q : ℕ) (y : Exception) → entries q (put e y xs) ≡ entries q xs
entries_put [] e q y = refl
entries_put (x ∷ xs) e q y = go (x.number == e) (entries_put xs e q y) refl
  where
    go : (b : Bool) → entries q (put e y xs) ≡ entries q xs → (x.number == e) ≡ b → entries q ((if b then record { number = e; exception = y } else x) ∷ put e y xs)
        ≡ one_if (x.number == q) + entries q xs
    go true ih is = ap (λ n. one_if (n == q) + entries q (put e y xs)) (sym (number_is x.number e is)) ∙ ap (λ n. one_if (x.number == q) + n) ih
    go false ih is = ap (λ n. one_if (x.number == q) + n) ih

pub exception_put : (xs : List Live) (e q : ℕ) (y : Exception) → (q ≡ e → ⊥) → exception_in (put e y xs) q ≡ exception_in xs q
exception_put [] e q y other = refl
exception_put (x ∷ xs) e q y other = go (x.number == e) (exception_put xs e q y other) refl
  where
    go : (b : Bool) → exception_in (put e y xs) q ≡ exception_in xs q → (x.number == e) ≡ b → exception_in ((if b then record { number = e; exception = y } else x) ∷ put e y xs) q
        ≡ (if x.number == q then x.exception else exception_in xs q)
    go true ih is =
        let unlike : (x.number == q) ≡ false = other_number x.number q (λ same. other (same ∙ number_is x.number e is)) in
        ap (λ b. if b then y else exception_in (put e y xs) q) (other_number e q other) ∙ ih ∙ ap (λ b. if b then x.exception else exception_in xs q) (sym unlike)
    go false ih is = ap (λ z. if x.number == q then x.exception else z) ih

pub exception_put_there : (xs : List Live) (e : ℕ) (y : Exception) → entries e xs ≡ 1 → exception_in (put e y xs) e ≡ y
exception_put_there [] e y one = absurd (omega (arith, one))
exception_put_there (x ∷ xs) e y one = go (x.number == e) (λ n. exception_put_there xs e y n) refl one
  where
    go : (b : Bool) → (entries e xs ≡ 1 → exception_in (put e y xs) e ≡ y) → (x.number == e) ≡ b → one_if b + entries e xs ≡ 1
        → exception_in ((if b then record { number = e; exception = y } else x) ∷ put e y xs) e ≡ y
    go true ih is one = ap (λ b. if b then y else exception_in (put e y xs) e) (same_number e)
    go false ih is one = ap (λ b. if b then x.exception else exception_in (put e y xs) e) is ∙ ih (omega (arith, one))

foreign_unput : (k t : ℕ) (xs : List Live) (e : ℕ) (y : Exception) → entries e xs ≡ 0 → foreign_live k t (put e y xs) ≡ foreign_live k t xs
foreign_unput k t [] e y none = refl
foreign_unput k t (x ∷ xs) e y none = go (x.number == e) (λ n. foreign_unput k t xs e y n) none
  where
    go : (b : Bool) → (entries e xs ≡ 0 → foreign_live k t (put e y xs) ≡ foreign_live k t xs) → one_if b + entries e xs ≡ 0
        → foreign_live k t ((if b then record { number = e; exception = y } else x) ∷ put e y xs) ≡ is_token k t x.exception + foreign_live k t xs
    go true ih none = absurd (omega (arith, none))
    go false ih none = ap (λ n. is_token k t x.exception + n) (ih (omega (arith, none)))

pub foreign_put : (k t : ℕ) (xs : List Live) (e : ℕ) (y : Exception) → entries e xs ≡ 1
    → foreign_live k t (put e y xs) + is_token k t (exception_in xs e) ≡ foreign_live k t xs + is_token k t y
foreign_put k t [] e y one = absurd (omega (arith, one))
foreign_put k t (x ∷ xs) e y one = go (x.number == e) (λ n. foreign_put k t xs e y n) one
  where
    go : (b : Bool) → (entries e xs ≡ 1 → foreign_live k t (put e y xs) + is_token k t (exception_in xs e) ≡ foreign_live k t xs + is_token k t y) → one_if b + entries e xs ≡ 1
        → foreign_live k t ((if b then record { number = e; exception = y } else x) ∷ put e y xs) + is_token k t (if b then x.exception else exception_in xs e)
        ≡ is_token k t x.exception + foreign_live k t xs + is_token k t y
    go true ih one = let left = foreign_unput k t xs e y (omega (arith, one)) in omega (arith, left)
    go false ih one = let rest = ih (omega (arith, one)) in omega (arith, rest)

-- where no number is live, no foreign exception is
pub foreign_none : (k t : ℕ) (xs : List Live) → ((e : ℕ) → entries e xs ≡ 0) → foreign_live k t xs ≡ 0
foreign_none k t [] none = refl
foreign_none k t (x ∷ xs) none =
    let here = none x.number in
    let it : one_if (x.number == x.number) ≡ 1 = ap one_if (same_number x.number) in
    absurd (omega (arith, here, it))
