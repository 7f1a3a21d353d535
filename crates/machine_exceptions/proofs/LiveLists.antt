-- Lists of live exceptions, of which one comes or goes.
use Rattle.std.proofs.Common.{◌≡◌, ◌∙◌, refl, sym, ap, arith, ℕ, ◌+◌, ◌==◌, Bool, true, false, not, List, [], ◌∷◌, ◌++◌, filter, length, Some, None}
use Rattle.std.specs.Prelude.{if◌then◌else◌}
use Rattle.std.proofs.lemmas.Bool.Decides.{nat_tests}
use Rattle.region_forms.specs.World.{Exception, Live}
use Rattle.machine_simulation.specs.Exceptions.{live_in, AreOnce}

-- ---- one more

abbrev pub with_one : List Live → ℕ → Exception → List Live
with_one xs e x = xs ++ record { number = e; exception = x } ∷ []

pub still_in : (xs ys : List Live) (d : ℕ) (x : Exception) → live_in xs d ≡ Some x → live_in (xs ++ ys) d ≡ Some x
still_in [] ys d x h = absurd (cc h)
still_in (y ∷ xs) ys d x h = by (y.number == d) (still_in xs ys d x) h
  where
    by : (b : Bool) → (live_in xs d ≡ Some x → live_in (xs ++ ys) d ≡ Some x) → (if b then Some y.exception else live_in xs d) ≡ Some x → (if b then Some y.exception else live_in (xs ++ ys) d) ≡ Some x
    by true rest e = e
    by false rest e = rest e

same_number : (e : ℕ) → (e == e) ≡ true
same_number e = grind (arith, nat_tests)

pub new_in : (xs : List Live) (e : ℕ) (x : Exception) → live_in xs e ≡ None → live_in (with_one xs e x) e ≡ Some x
new_in [] e x h = ap (λ b. if b then Some x else None) (same_number e)
new_in (y ∷ xs) e x h = by (y.number == e) (new_in xs e x) h
  where
    by : (b : Bool) → (live_in xs e ≡ None → live_in (with_one xs e x) e ≡ Some x) → (if b then Some y.exception else live_in xs e) ≡ None → (if b then Some y.exception else live_in (with_one xs e x) e) ≡ Some x
    by true rest h = absurd (cc h)
    by false rest h = rest h

pub other_in : (xs : List Live) (e d : ℕ) (x : Exception) → (e == d) ≡ false → live_in (with_one xs e x) d ≡ live_in xs d
other_in [] e d x h = ap (λ b. if b then Some x else None) h
other_in (y ∷ xs) e d x h = by (y.number == d) (other_in xs e d x h)
  where
    by : (b : Bool) → live_in (with_one xs e x) d ≡ live_in xs d → (if b then Some y.exception else live_in (with_one xs e x) d) ≡ (if b then Some y.exception else live_in xs d)
    by true rest = refl
    by false rest = rest

pub once_more : (xs : List Live) (e : ℕ) (x : Exception) → AreOnce xs → live_in xs e ≡ None → AreOnce (with_one xs e x)
once_more [] e x once h = (refl, tt)
once_more (y ∷ xs) e x once h = by (y.number == e) (once_more xs e x once.1) refl h
  where
    by : (b : Bool) → (live_in xs e ≡ None → AreOnce (with_one xs e x)) → (y.number == e) ≡ b → (if b then Some y.exception else live_in xs e) ≡ None → AreOnce (with_one (y ∷ xs) e x)
    by true rest is h = absurd (cc h)
    by false rest is h = (other_in xs e y.number x (grind (arith, nat_tests, is)) ∙ once.0, rest h)

pub one_more : (xs : List Live) (e : ℕ) (x : Exception) → length (with_one xs e x) ≡ length xs + 1
one_more [] e x = refl
one_more (y ∷ xs) e x = omega (arith, one_more xs e x)

-- ---- one fewer

abbrev pub without : ℕ → List Live → List Live
without e xs = filter (λ x. not (x.number == e)) xs

-- the exception itself is gone
pub gone_in : (xs : List Live) (e : ℕ) → live_in (without e xs) e ≡ None
gone_in [] e = refl
gone_in (y ∷ xs) e = by (y.number == e) (gone_in xs e) refl
  where
    by : (b : Bool) → live_in (without e xs) e ≡ None → (y.number == e) ≡ b → live_in (if not b then y ∷ without e xs else without e xs) e ≡ None
    by true rest is = rest
    by false rest is = ap (λ b. if b then Some y.exception else live_in (without e xs) e) is ∙ rest

-- and the others are not
pub kept_in : (xs : List Live) (e d : ℕ) → (e == d) ≡ false → live_in (without e xs) d ≡ live_in xs d
kept_in [] e d h = refl
kept_in (y ∷ xs) e d h = by (y.number == e) (kept_in xs e d h) refl
  where
    same : (b : Bool) → live_in (without e xs) d ≡ live_in xs d → (if b then Some y.exception else live_in (without e xs) d) ≡ (if b then Some y.exception else live_in xs d)
    same true rest = refl
    same false rest = rest

    by : (b : Bool) → live_in (without e xs) d ≡ live_in xs d → (y.number == e) ≡ b → live_in (if not b then y ∷ without e xs else without e xs) d ≡ (if y.number == d then Some y.exception else live_in xs d)
    by true rest is =
        let other : (y.number == d) ≡ false = grind (arith, nat_tests, is, h) in
        rest ∙ sym (ap (λ b. if b then Some y.exception else live_in xs d) other)
    by false rest is = same (y.number == d) rest

-- what is there without it was there
pub was_in : (xs : List Live) (e d : ℕ) (x : Exception) → live_in (without e xs) d ≡ Some x → ((e == d) ≡ false) × (live_in xs d ≡ Some x)
was_in xs e d x h = by (e == d) refl
  where
    by : (b : Bool) → (e == d) ≡ b → ((e == d) ≡ false) × (live_in xs d ≡ Some x)
    by false is = (is, sym (kept_in xs e d is) ∙ h)
    by true is =
        let same : e ≡ d = grind (arith, nat_tests, is) in
        let none : live_in (without e xs) d ≡ None = ap (live_in (without e xs)) (sym same) ∙ gone_in xs e in
        absurd (let both : Some x ≡ None = sym h ∙ none in cc both)

pub none_fewer : (xs : List Live) (e : ℕ) → live_in xs e ≡ None → without e xs ≡ xs
none_fewer [] e h = refl
none_fewer (y ∷ xs) e h = by (y.number == e) (none_fewer xs e) h
  where
    by : (b : Bool) → (live_in xs e ≡ None → without e xs ≡ xs) → (if b then Some y.exception else live_in xs e) ≡ None → (if not b then y ∷ without e xs else without e xs) ≡ y ∷ xs
    by true rest h = absurd (cc h)
    by false rest h = ap (λ ys. y ∷ ys) (rest h)

none_without : (xs : List Live) (e d : ℕ) → live_in xs d ≡ None → live_in (without e xs) d ≡ None
none_without xs e d h = by (e == d) refl
  where
    by : (b : Bool) → (e == d) ≡ b → live_in (without e xs) d ≡ None
    by false is = kept_in xs e d is ∙ h
    by true is = let same : e ≡ d = grind (arith, nat_tests, is) in ap (live_in (without e xs)) (sym same) ∙ gone_in xs e

pub once_fewer : (xs : List Live) (e : ℕ) → AreOnce xs → AreOnce (without e xs)
once_fewer [] e once = tt
once_fewer (y ∷ xs) e once = by (y.number == e) (once_fewer xs e once.1)
  where
    by : (b : Bool) → AreOnce (without e xs) → AreOnce (if not b then y ∷ without e xs else without e xs)
    by true rest = rest
    by false rest = (none_without xs e y.number once.0, rest)

pub one_fewer : (xs : List Live) (e : ℕ) (x : Exception) → AreOnce xs → live_in xs e ≡ Some x → length (without e xs) + 1 ≡ length xs
one_fewer [] e x once h = absurd (cc h)
one_fewer (y ∷ xs) e x once h = by (y.number == e) (one_fewer xs e x once.1) refl h
  where
    by : (b : Bool) → (live_in xs e ≡ Some x → length (without e xs) + 1 ≡ length xs) → (y.number == e) ≡ b → (if b then Some y.exception else live_in xs e) ≡ Some x → length (if not b then y ∷ without e xs else without e xs) + 1 ≡ length (y ∷ xs)
    by true rest is h =
        let same : y.number ≡ e = grind (arith, nat_tests, is) in
        let none : live_in xs e ≡ None = ap (live_in xs) (sym same) ∙ once.0 in
        omega (arith, ap length (none_fewer xs e none))
    by false rest is h = omega (arith, rest h)
