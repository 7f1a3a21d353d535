-- What is live, and what can be thrown, where the live exceptions change.
use Rattle.std.proofs.Common.{◌≡◌, ℕ, suc, ◌+◌, ◌≤◌, Bool, true, false, List, [], ◌∷◌, ◌++◌, Some, refl, sym, ap, ◌∙◌, arith}
use Rattle.std.specs.Prelude.{◌==◌, ◌||◌, not, cond, map, filter, slice_get, if◌then◌else◌}
use Rattle.std.proofs.lemmas.Bool.Decides.{nat_tests}
use Rattle.meaning_forms.specs.World.{Live, Exception, building, exception_in, replaced}
use Rattle.region_simulation.specs.Lives.{is_live, is_built, CanBeThrown}

-- what the exception with a number is stays where another is added, taken away or replaced
pub added : (xs : List Live) (y : Live) (f : ℕ) → (y.number == f) ≡ false → exception_in (xs ++ y ∷ []) f ≡ exception_in xs f
added [] y f other = ap (λ b. if b then y.exception else building) other
added (x ∷ xs) y f other = go (x.number == f) (added xs y f other)
  where
    go : (b : Bool) → exception_in (xs ++ y ∷ []) f ≡ exception_in xs f
        → (if b then x.exception else exception_in (xs ++ y ∷ []) f) ≡ (if b then x.exception else exception_in xs f)
    go true ih = refl
    go false ih = ih

pub taken : (xs : List Live) (e f : ℕ) → (e == f) ≡ false → exception_in (filter (λ x. not (x.number == e)) xs) f ≡ exception_in xs f
taken [] e f other = refl
taken (x ∷ xs) e f other = go (x.number == e) refl (taken xs e f other)
  where
    go : (b : Bool) → (x.number == e) ≡ b → exception_in (filter (λ x. not (x.number == e)) xs) f ≡ exception_in xs f
        → exception_in (cond (not b) (x ∷ filter (λ x. not (x.number == e)) xs) (filter (λ x. not (x.number == e)) xs)) f ≡ (if x.number == f then x.exception else exception_in xs f)
    go true is ih =
        let number : x.number ≡ e = grind (arith, nat_tests, is) in
        ih ∙ sym (ap (λ b. if b then x.exception else exception_in xs f) (ap (λ n. n == f) number ∙ other))
    go false is ih = go2 (x.number == f) ih
      where
        go2 : (b : Bool) → exception_in (filter (λ x. not (x.number == e)) xs) f ≡ exception_in xs f
            → (if b then x.exception else exception_in (filter (λ x. not (x.number == e)) xs) f) ≡ (if b then x.exception else exception_in xs f)
        go2 true ih = refl
        go2 false ih = ih

pub put : (xs : List Live) (e f : ℕ) (q : Exception) → (e == f) ≡ false → exception_in (map (replaced e q) xs) f ≡ exception_in xs f
put [] e f q other = refl
put (x ∷ xs) e f q other = go (x.number == e) refl (put xs e f q other)
  where
    same_on : (y : Live) → exception_in (map (replaced e q) xs) f ≡ exception_in xs f
        → (if y.number == f then y.exception else exception_in (map (replaced e q) xs) f) ≡ (if y.number == f then y.exception else exception_in xs f)
    same_on y ih = go2 (y.number == f)
      where
        go2 : (b : Bool) → (if b then y.exception else exception_in (map (replaced e q) xs) f) ≡ (if b then y.exception else exception_in xs f)
        go2 true = refl
        go2 false = ih

    go : (b : Bool) → (x.number == e) ≡ b → exception_in (map (replaced e q) xs) f ≡ exception_in xs f
        → exception_in ((if b then record { number = e; exception = q } else x) ∷ map (replaced e q) xs) f ≡ (if x.number == f then x.exception else exception_in xs f)
    go true is ih =
        let number : x.number ≡ e = grind (arith, nat_tests, is) in
        ap (λ b. if b then q else exception_in (map (replaced e q) xs) f) other ∙ ih ∙ sym (ap (λ b. if b then x.exception else exception_in xs f) (ap (λ n. n == f) number ∙ other))
    go false is ih = same_on x ih

-- one that is added is what it is, where its number is new
pub added_new : (xs : List Live) (n : ℕ) (q : Exception) → ((i : ℕ) (x : Live) → slice_get xs i ≡ Some x → x.number ≤ n)
    → exception_in (xs ++ record { number = n + 1; exception = q } ∷ []) (n + 1) ≡ q
added_new [] n q made = let same : (n + 1 == n + 1) ≡ true = grind (arith, nat_tests) in ap (λ b. if b then q else building) same
added_new (x ∷ xs) n q made =
    let le = made 0 x refl in
    let other : (x.number == n + 1) ≡ false = grind (arith, nat_tests, le) in
    ap (λ b. if b then x.exception else exception_in (xs ++ record { number = n + 1; exception = q } ∷ []) (n + 1)) other ∙
    added_new xs n q (λ i y there. made (suc i) y there)

-- what is live stays so where one is added
pub live_added : (xs : List Live) (y : Live) (e : ℕ) → is_live xs e ≡ true → is_live (xs ++ y ∷ []) e ≡ true
live_added [] y e h = absurd (cc h)
live_added (x ∷ xs) y e h = go (x.number == e) h (λ g. live_added xs y e g)
  where
    go : (b : Bool) → (b || is_live xs e) ≡ true → (is_live xs e ≡ true → is_live (xs ++ y ∷ []) e ≡ true) → (b || is_live (xs ++ y ∷ []) e) ≡ true
    go true h ih = refl
    go false h ih = ih h

pub live_new : (xs : List Live) (n : ℕ) (q : Exception) → is_live (xs ++ record { number = n; exception = q } ∷ []) n ≡ true
live_new [] n q = let same : (n == n) ≡ true = grind (arith, nat_tests) in ap (λ b. b || false) same
live_new (x ∷ xs) n q = go (x.number == n) (live_new xs n q)
  where
    go : (b : Bool) → is_live (xs ++ record { number = n; exception = q } ∷ []) n ≡ true → (b || is_live (xs ++ record { number = n; exception = q } ∷ []) n) ≡ true
    go true ih = refl
    go false ih = ih

-- and where another is taken away, or one is replaced
pub live_taken : (xs : List Live) (e f : ℕ) → (e == f) ≡ false → is_live (filter (λ x. not (x.number == e)) xs) f ≡ is_live xs f
live_taken [] e f other = refl
live_taken (x ∷ xs) e f other = go (x.number == e) refl (live_taken xs e f other)
  where
    go : (b : Bool) → (x.number == e) ≡ b → is_live (filter (λ x. not (x.number == e)) xs) f ≡ is_live xs f
        → is_live (cond (not b) (x ∷ filter (λ x. not (x.number == e)) xs) (filter (λ x. not (x.number == e)) xs)) f ≡ (x.number == f || is_live xs f)
    go true is ih =
        let number : x.number ≡ e = grind (arith, nat_tests, is) in
        ih ∙ sym (ap (λ b. b || is_live xs f) (ap (λ n. n == f) number ∙ other))
    go false is ih = ap (λ b. x.number == f || b) ih

pub live_put : (xs : List Live) (e f : ℕ) (q : Exception) → is_live (map (replaced e q) xs) f ≡ is_live xs f
live_put [] e f q = refl
live_put (x ∷ xs) e f q = go (x.number == e) refl (live_put xs e f q)
  where
    go : (b : Bool) → (x.number == e) ≡ b → is_live (map (replaced e q) xs) f ≡ is_live xs f
        → is_live ((if b then record { number = e; exception = q } else x) ∷ map (replaced e q) xs) f ≡ (x.number == f || is_live xs f)
    go true is ih =
        let number : x.number ≡ e = grind (arith, nat_tests, is) in
        ap (λ n. n == f || is_live (map (replaced e q) xs) f) (sym number) ∙ ap (λ b. x.number == f || b) ih
    go false is ih = ap (λ b. x.number == f || b) ih

-- so it is of what can be thrown
pub thrown_added : (xs : List Live) (y : Live) (e : ℕ) → CanBeThrown xs e → CanBeThrown (xs ++ y ∷ []) e
thrown_added [] y e h = absurd (cc h)
thrown_added (x ∷ xs) y e h = go (x.number == e) h (λ g. thrown_added xs y e g)
  where
    go : (b : Bool) → is_built (if b then x.exception else exception_in xs e) ≡ true → (CanBeThrown xs e → CanBeThrown (xs ++ y ∷ []) e)
        → is_built (if b then x.exception else exception_in (xs ++ y ∷ []) e) ≡ true
    go true h ih = h
    go false h ih = ih h

pub thrown_taken : (xs : List Live) (e f : ℕ) → (e == f) ≡ false → CanBeThrown xs f → CanBeThrown (filter (λ x. not (x.number == e)) xs) f
thrown_taken xs e f other h = ap is_built (taken xs e f other) ∙ h

pub thrown_put : (xs : List Live) (e f : ℕ) (q : Exception) → is_built q ≡ true → CanBeThrown xs f → CanBeThrown (map (replaced e q) xs) f
thrown_put [] e f q built h = h
thrown_put (x ∷ xs) e f q built h = go (x.number == e) refl (x.number == f) refl h (λ g. thrown_put xs e f q built g)
  where
    go : (a : Bool) → (x.number == e) ≡ a → (b : Bool) → (x.number == f) ≡ b → is_built (if b then x.exception else exception_in xs f) ≡ true
        → (CanBeThrown xs f → CanBeThrown (map (replaced e q) xs) f)
        → CanBeThrown ((if a then record { number = e; exception = q } else x) ∷ map (replaced e q) xs) f
    go true is b same h ih =
        let number : x.number ≡ e = grind (arith, nat_tests, is) in
        ap (λ z. is_built (if z then q else exception_in (map (replaced e q) xs) f)) (ap (λ n. n == f) (sym number) ∙ same) ∙ or_else b h
      where
        or_else : (b : Bool) → is_built (if b then x.exception else exception_in xs f) ≡ true → is_built (if b then q else exception_in (map (replaced e q) xs) f) ≡ true
        or_else true h = built
        or_else false h = ih h
    go false is b same h ih = ap (λ z. is_built (if z then x.exception else exception_in (map (replaced e q) xs) f)) same ∙ kept b h
      where
        kept : (b : Bool) → is_built (if b then x.exception else exception_in xs f) ≡ true → is_built (if b then x.exception else exception_in (map (replaced e q) xs) f) ≡ true
        kept true h = h
        kept false h = ih h

-- one that is live can be thrown once it is built
pub thrown_kept : (xs : List Live) (e : ℕ) (q : Exception) → is_built q ≡ true → is_live xs e ≡ true → CanBeThrown (map (replaced e q) xs) e
thrown_kept [] e q built h = absurd (cc h)
thrown_kept (x ∷ xs) e q built h = go (x.number == e) refl h (λ g. thrown_kept xs e q built g)
  where
    go : (a : Bool) → (x.number == e) ≡ a → (a || is_live xs e) ≡ true → (is_live xs e ≡ true → CanBeThrown (map (replaced e q) xs) e)
        → CanBeThrown ((if a then record { number = e; exception = q } else x) ∷ map (replaced e q) xs) e
    go true is h ih =
        let same : (e == e) ≡ true = grind (arith, nat_tests) in
        ap (λ z. is_built (if z then q else exception_in (map (replaced e q) xs) e)) same ∙ built
    go false is h ih = ap (λ z. is_built (if z then x.exception else exception_in (map (replaced e q) xs) e)) is ∙ ih h

-- what can be thrown is live
pub thrown_is_live : (xs : List Live) (e : ℕ) → CanBeThrown xs e → is_live xs e ≡ true
thrown_is_live [] e h = absurd (cc h)
thrown_is_live (x ∷ xs) e h = go (x.number == e) h (λ g. thrown_is_live xs e g)
  where
    go : (b : Bool) → is_built (if b then x.exception else exception_in xs e) ≡ true → (CanBeThrown xs e → is_live xs e ≡ true) → (b || is_live xs e) ≡ true
    go true h ih = refl
    go false h ih = ih h
