-- A live exception is found by its number.
use Rattle.std.proofs.Common.{◌≡◌, refl, ℕ, ◌==◌, ◌||◌, Bool, true, false, List, [], ◌∷◌, Some}
use Rattle.std.specs.Prelude.{if◌then◌else◌}
use Rattle.meaning_forms.specs.Class.{some_of}
use Rattle.region_forms.specs.World.{Live, exception_in}
use Rattle.region_forms.specs.Lives.{is_built}
use Rattle.machine_simulation.specs.Exceptions.{live_in}

-- a live exception is found, and what is built is live
pub live_there : (lives : List Live) (e : ℕ) → some_of (λ y. y.number == e) lives ≡ true → live_in lives e ≡ Some (exception_in lives e)
live_there [] e h = absurd (cc h)
live_there (y ∷ lives) e h = by (y.number == e) (live_there lives e) h
  where
    by : (b : Bool) → (some_of (λ z. z.number == e) lives ≡ true → live_in lives e ≡ Some (exception_in lives e)) → (b || some_of (λ z. z.number == e) lives) ≡ true →
        (if b then Some y.exception else live_in lives e) ≡ Some (if b then y.exception else exception_in lives e)
    by true rest h = refl
    by false rest h = rest h

pub built_there : (lives : List Live) (e : ℕ) → is_built (exception_in lives e) ≡ true → live_in lives e ≡ Some (exception_in lives e)
built_there [] e h = absurd (cc h)
built_there (y ∷ lives) e h = by (y.number == e) (built_there lives e) h
  where
    by : (b : Bool) → (is_built (exception_in lives e) ≡ true → live_in lives e ≡ Some (exception_in lives e)) → is_built (if b then y.exception else exception_in lives e) ≡ true →
        (if b then Some y.exception else live_in lives e) ≡ Some (if b then y.exception else exception_in lives e)
    by true rest h = refl
    by false rest h = rest h
