-- Laws of the caught list, whatever is handled and whatever travels: it stays a function of both.
use Rattle.std.specs.Prelude.{ℕ, ◌≡◌, true, false, not, List, ◌∷◌}
use Rattle.meaning_forms.specs.Class.{contains}
use Rattle.region_forms.specs.Caught.{entered_on, flown, left_of, gives_back, caught_of, only_front}

-- What is done with exception e, while others travel and are handled. A new exception that is thrown leaves the list as it is. One that
-- travels is entered, the newest is thrown again, and the newest handler is left: each does to the list what it does to the handled and the
-- travelling exceptions. One that travels is not given back, and any other is where no handler of it is left.
pub record CaughtListFollows : Type 0 where
  pub thrown : (e : ℕ) (travelling handled : List ℕ) → contains handled e ≡ false → caught_of (e ∷ travelling) handled ≡ caught_of travelling handled
  pub entered : (e : ℕ) (travelling handled : List ℕ) → contains travelling e ≡ false → only_front e handled ≡ true →
      entered_on e (caught_of (e ∷ travelling) handled) ≡ caught_of travelling (e ∷ handled)
  pub rethrown : (e : ℕ) (travelling handled : List ℕ) → only_front e handled ≡ true →
      flown e (caught_of travelling (e ∷ handled)) ≡ caught_of (e ∷ travelling) (e ∷ handled)
  pub left : (e : ℕ) (travelling handled : List ℕ) → left_of (caught_of travelling (e ∷ handled)) ≡ caught_of travelling handled
  pub kept : (e : ℕ) (travelling handled : List ℕ) → contains travelling e ≡ true → gives_back (caught_of travelling (e ∷ handled)) ≡ false
  pub given_back : (e : ℕ) (travelling handled : List ℕ) → contains travelling e ≡ false → only_front e handled ≡ true →
      gives_back (caught_of travelling (e ∷ handled)) ≡ not (contains handled e)
