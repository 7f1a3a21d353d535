-- What lists of live exceptions and of handlers have, as they change.
use Rattle.std.proofs.Common.{◌≡◌, ℕ, zero, suc, ◌+◌, ◌≤◌, Bool, true, false, ◌==◌, List, [], ◌∷◌, ◌++◌, map, refl, sym, ap, ◌∙◌, subst, if◌then◌else◌, arith}
use Rattle.std.specs.Prelude.{not, cond, filter, ◌&&◌, ◌||◌}
use Rattle.std.proofs.lemmas.Bool.Decides.{nat_tests}
use Rattle.meaning_forms.specs.Class.{some_of}
use Rattle.region_forms.specs.Caught.{Entry, counted, entered_on, flown, left_count, left_of}
use Rattle.region_forms.specs.Lives.{is_built, is_on_top}
use Rattle.region_forms.specs.World.{Exception, building, Live, replaced, exception_in}
use Rattle.flight_homes.specs.Keeps.{TravelsAgain}
use Rattle.linear_invariant.specs.Handled.{Unhandled, EachOnce, open_handlers}

pub other_way : (n m : ℕ) → (n == m) ≡ false → (m == n) ≡ false
other_way n m e = grind (arith, nat_tests, e)

pub not_same : (n m : ℕ) → (n == m) ≡ false → n ≡ m → ⊥
not_same n m e same = let yes : (n == m) ≡ true = grind (arith, nat_tests, same) in let never : true ≡ false = sym yes ∙ e in cc never

-- live exceptions

-- an exception is live and being built
abbrev pub being : List Live → ℕ → Bool
being xs e = some_of (λ x. x.number == e) xs && not (is_built (exception_in xs e))

pub found_appended : (xs : List Live) (y : Live) (e : ℕ) → is_built (exception_in xs e) ≡ true → exception_in (xs ++ y ∷ []) e ≡ exception_in xs e
found_appended [] y e h = absurd (cc h)
found_appended (x ∷ xs) y e h = go (x.number == e) h (found_appended xs y e)
  where
    go : (b : Bool) → is_built (if b then x.exception else exception_in xs e) ≡ true → (is_built (exception_in xs e) ≡ true → exception_in (xs ++ y ∷ []) e ≡ exception_in xs e) →
        (if b then x.exception else exception_in (xs ++ y ∷ []) e) ≡ (if b then x.exception else exception_in xs e)
    go true h rest = refl
    go false h rest = rest h

pub being_appended : (xs : List Live) (y : Live) (e : ℕ) → (y.number == e) ≡ false → being (xs ++ y ∷ []) e ≡ being xs e
being_appended [] y e h = ap (λ b. (b || false) && not (is_built (if b then y.exception else building))) h
being_appended (x ∷ xs) y e h = go (x.number == e) (being_appended xs y e h)
  where
    go : (b : Bool) → being (xs ++ y ∷ []) e ≡ being xs e →
        ((b || some_of (λ z. z.number == e) (xs ++ y ∷ [])) && not (is_built (if b then x.exception else exception_in (xs ++ y ∷ []) e))) ≡
        ((b || some_of (λ z. z.number == e) xs) && not (is_built (if b then x.exception else exception_in xs e)))
    go true rest = refl
    go false rest = rest

-- an exception in place of another

module _ (x : ℕ) (y : Exception) where
  pub found_replaced : (xs : List Live) (e : ℕ) → (e == x) ≡ false → exception_in (map (replaced x y) xs) e ≡ exception_in xs e
  found_replaced [] e h = refl
  found_replaced (z ∷ xs) e h = go (z.number == x) refl (found_replaced xs e h)
    where
      go : (b : Bool) → (z.number == x) ≡ b → exception_in (map (replaced x y) xs) e ≡ exception_in xs e →
          exception_in ((if b then record { number = x; exception = y } else z) ∷ map (replaced x y) xs) e ≡ exception_in (z ∷ xs) e
      go true i rest =
          let here : (z.number == e) ≡ false = grind (arith, nat_tests, i, h) in
          ap (λ b. if b then y else exception_in (map (replaced x y) xs) e) (other_way e x h) ∙ rest ∙ sym (ap (λ b. if b then z.exception else exception_in xs e) here)
      go false i rest = ap (λ o. if z.number == e then z.exception else o) rest

  pub among_replaced : (xs : List Live) (e : ℕ) → some_of (λ z. z.number == e) (map (replaced x y) xs) ≡ some_of (λ z. z.number == e) xs
  among_replaced [] e = refl
  among_replaced (z ∷ xs) e = go (z.number == x) refl (among_replaced xs e)
    where
      go : (b : Bool) → (z.number == x) ≡ b → some_of (λ u. u.number == e) (map (replaced x y) xs) ≡ some_of (λ u. u.number == e) xs →
          some_of (λ u. u.number == e) ((if b then record { number = x; exception = y } else z) ∷ map (replaced x y) xs) ≡ some_of (λ u. u.number == e) (z ∷ xs)
      go true i rest =
          let same : z.number ≡ x = grind (arith, nat_tests, i) in
          ap (λ o. (x == e) || o) rest ∙ ap (λ n. (n == e) || some_of (λ u. u.number == e) xs) (sym same)
      go false i rest = ap (λ o. (z.number == e) || o) rest

  pub built_replaced : (xs : List Live) → is_built y ≡ true → some_of (λ z. z.number == x) xs ≡ true → is_built (exception_in (map (replaced x y) xs) x) ≡ true
  built_replaced [] own h = absurd (cc h)
  built_replaced (z ∷ xs) own h = go (z.number == x) refl h (built_replaced xs own)
    where
      go : (b : Bool) → (z.number == x) ≡ b → (b || some_of (λ u. u.number == x) xs) ≡ true →
          (some_of (λ u. u.number == x) xs ≡ true → is_built (exception_in (map (replaced x y) xs) x) ≡ true) →
          is_built (exception_in ((if b then record { number = x; exception = y } else z) ∷ map (replaced x y) xs) x) ≡ true
      go true i h rest =
          let self : (x == x) ≡ true = grind (arith, nat_tests) in
          ap (λ b. is_built (if b then y else exception_in (map (replaced x y) xs) x)) self ∙ own
      go false i h rest = ap (λ b. is_built (if b then z.exception else exception_in (map (replaced x y) xs) x)) i ∙ rest h

-- an exception that is no longer live

module _ (x : ℕ) where
  abbrev others : List Live → List Live
  others xs = filter (λ z. not (z.number == x)) xs

  pub found_without : (xs : List Live) (e : ℕ) → (e == x) ≡ false → exception_in (others xs) e ≡ exception_in xs e
  found_without [] e h = refl
  found_without (z ∷ xs) e h = go (z.number == x) refl (found_without xs e h)
    where
      go : (b : Bool) → (z.number == x) ≡ b → exception_in (others xs) e ≡ exception_in xs e → exception_in (cond (not b) (z ∷ others xs) (others xs)) e ≡ exception_in (z ∷ xs) e
      go true i rest =
          let here : (z.number == e) ≡ false = grind (arith, nat_tests, i, h) in
          rest ∙ sym (ap (λ b. if b then z.exception else exception_in xs e) here)
      go false i rest = ap (λ o. if z.number == e then z.exception else o) rest

  pub among_without : (xs : List Live) (e : ℕ) → (e == x) ≡ false → some_of (λ u. u.number == e) (others xs) ≡ some_of (λ u. u.number == e) xs
  among_without [] e h = refl
  among_without (z ∷ xs) e h = go (z.number == x) refl (among_without xs e h)
    where
      go : (b : Bool) → (z.number == x) ≡ b → some_of (λ u. u.number == e) (others xs) ≡ some_of (λ u. u.number == e) xs →
          some_of (λ u. u.number == e) (cond (not b) (z ∷ others xs) (others xs)) ≡ some_of (λ u. u.number == e) (z ∷ xs)
      go true i rest =
          let here : (z.number == e) ≡ false = grind (arith, nat_tests, i, h) in
          rest ∙ sym (ap (λ b. b || some_of (λ u. u.number == e) xs) here)
      go false i rest = ap (λ o. (z.number == e) || o) rest

  pub none_without : (xs : List Live) → some_of (λ u. u.number == x) (others xs) ≡ false
  none_without [] = refl
  none_without (z ∷ xs) = go (z.number == x) refl (none_without xs)
    where
      go : (b : Bool) → (z.number == x) ≡ b → some_of (λ u. u.number == x) (others xs) ≡ false → some_of (λ u. u.number == x) (cond (not b) (z ∷ others xs) (others xs)) ≡ false
      go true i rest = rest
      go false i rest = ap (λ b. b || some_of (λ u. u.number == x) (others xs)) i ∙ rest

pub none_is_building : (xs : List Live) (e : ℕ) → some_of (λ x. x.number == e) xs ≡ false → being xs e ≡ false
none_is_building xs e h = ap (λ b. b && not (is_built (exception_in xs e))) h

-- handlers

module _ (e : ℕ) where
  pub again_flown : (x : ℕ) (xs : List Entry) → TravelsAgain e xs → TravelsAgain e (flown x xs)
  again_flown x [] h = tt
  again_flown x (y ∷ ys) h = (go (y.number == x), h.1)
    where
      go : (b : Bool) → (if b then record y { again = true } else y).number ≡ e → (if b then record y { again = true } else y).again ≡ true
      go true i = refl
      go false i = h.0 i

  pub again_entered : (x : ℕ) (xs : List Entry) → (e == x) ≡ false → TravelsAgain e xs → TravelsAgain e (entered_on x xs)
  again_entered x [] other h = (λ i. absurd (not_same x e (other_way e x other) i), tt)
  again_entered x (y ∷ ys) other h = go (y.number == x)
    where
      go : (b : Bool) → TravelsAgain e (counted b x false y ys)
      go true = (λ i. absurd (not_same x e (other_way e x other) i), h.1)
      go false = (λ i. absurd (not_same x e (other_way e x other) i), h)

  pub again_left : (xs : List Entry) → TravelsAgain e xs → TravelsAgain e (left_of xs)
  again_left [] h = tt
  again_left (y ∷ ys) h = go y.more
    where
      go : (n : ℕ) → TravelsAgain e (left_count y.again n y.number ys)
      go zero = h.1
      go (suc n) = (h.0, h.1)

  pub unhandled_flown : (x : ℕ) (xs : List Entry) → Unhandled e xs → Unhandled e (flown x xs)
  unhandled_flown x [] h = tt
  unhandled_flown x (y ∷ ys) h = (go (y.number == x), h.1)
    where
      go : (b : Bool) → ((if b then record y { again = true } else y).number == e) ≡ false
      go true = h.0
      go false = h.0

  pub unhandled_entered : (x : ℕ) (xs : List Entry) → (e == x) ≡ false → Unhandled e xs → Unhandled e (entered_on x xs)
  unhandled_entered x [] other h = (other_way e x other, tt)
  unhandled_entered x (y ∷ ys) other h = go (y.number == x)
    where
      go : (b : Bool) → Unhandled e (counted b x false y ys)
      go true = (other_way e x other, h.1)
      go false = (other_way e x other, h)

  pub unhandled_left : (xs : List Entry) → Unhandled e xs → Unhandled e (left_of xs)
  unhandled_left [] h = tt
  unhandled_left (y ∷ ys) h = go y.more
    where
      go : (n : ℕ) → Unhandled e (left_count y.again n y.number ys)
      go zero = h.1
      go (suc n) = (h.0, h.1)

  pub none_unhandled : (xs : List Entry) → some_of (λ y. y.number == e) xs ≡ false → Unhandled e xs
  none_unhandled [] h = tt
  none_unhandled (y ∷ ys) h = go (y.number == e) refl h (λ i. none_unhandled ys i)
    where
      go : (b : Bool) → (y.number == e) ≡ b → (b || some_of (λ z. z.number == e) ys) ≡ false → (some_of (λ z. z.number == e) ys ≡ false → Unhandled e ys) → Unhandled e (y ∷ ys)
      go true i h rest = absurd (cc h)
      go false i h rest = (i, rest h)

  -- what no handler has travels again as well as not
  pub unhandled_again : (xs : List Entry) → Unhandled e xs → TravelsAgain e xs
  unhandled_again [] h = tt
  unhandled_again (y ∷ ys) h = (λ i. absurd (not_same y.number e h.0 i), unhandled_again ys h.1)

  pub once_entered : (xs : List Entry) → is_on_top e xs ≡ true → EachOnce xs → EachOnce (entered_on e xs)
  once_entered [] top h = (tt, tt)
  once_entered (y ∷ ys) top h = go (y.number == e) refl top
    where
      none : (b : Bool) → not b ≡ true → b ≡ false
      none true i = absurd (cc i)
      none false i = refl

      go : (b : Bool) → (y.number == e) ≡ b → (b || not (some_of (λ z. z.number == e) ys)) ≡ true → EachOnce (counted b e false y ys)
      go true i top = let same : y.number ≡ e = grind (arith, nat_tests, i) in (subst (λ n. Unhandled n ys) same h.0, h.1)
      go false i top = ((i, none_unhandled ys (none (some_of (λ z. z.number == e) ys) top)), h)

pub once_flown : (x : ℕ) (xs : List Entry) → EachOnce xs → EachOnce (flown x xs)
once_flown x [] h = tt
once_flown x (y ∷ ys) h = (go (y.number == x), h.1)
  where
    go : (b : Bool) → Unhandled (if b then record y { again = true } else y).number ys
    go true = h.0
    go false = h.0

pub once_left : (xs : List Entry) → EachOnce xs → EachOnce (left_of xs)
once_left [] h = tt
once_left (y ∷ ys) h = go y.more
  where
    go : (n : ℕ) → EachOnce (left_count y.again n y.number ys)
    go zero = h.1
    go (suc n) = h

pub few_flown : (x : ℕ) (xs : List Entry) → open_handlers (flown x xs) ≡ open_handlers xs
few_flown x [] = refl
few_flown x (y ∷ ys) = go (y.number == x)
  where
    go : (b : Bool) → open_handlers ((if b then record y { again = true } else y) ∷ ys) ≡ open_handlers (y ∷ ys)
    go true = refl
    go false = refl

pub few_entered : (x : ℕ) (xs : List Entry) → open_handlers (entered_on x xs) ≡ open_handlers xs + 1
few_entered x [] = refl
few_entered x (y ∷ ys) = go (y.number == x)
  where
    go : (b : Bool) → open_handlers (counted b x false y ys) ≡ open_handlers (y ∷ ys) + 1
    go true = omega arith
    go false = omega arith

pub few_left : (xs : List Entry) → open_handlers (left_of xs) ≤ open_handlers xs
few_left [] = omega arith
few_left (y ∷ ys) = go y.more refl
  where
    go : (n : ℕ) → y.more ≡ n → open_handlers (left_count y.again n y.number ys) ≤ y.more + 1 + open_handlers ys
    go zero i = omega arith
    go (suc n) i = omega (arith, i)
