-- What is asked where an exception is left, and may be freed.
use Rattle.std.specs.Prelude.{◌≡◌, ℕ, ◌<◌, ◌≤◌, Bool, false, length, Some}
use Rattle.meaning_forms.specs.World.{World as SourceWorld}
use Rattle.region_forms.specs.World.{of_exception}
use Rattle.region_simulation.specs.Places.{Places, Stood}

-- An exception that is not kept is freed when it is left, and its object stands nowhere from then on. So what comes out is said to follow upon an earlier
-- world, of whose objects none stands at the exception.
pub record CanBeLeft (kept : Bool) (e : ℕ) (at : Places) (earlier w : SourceWorld) : Type 0 where
  pub objects : length earlier.objects ≤ length w.objects
  pub open_calls : w.open_calls ≡ earlier.open_calls
  pub new : kept ≡ false → (o : ℕ) (x : Stood) → o < length earlier.objects → at o ≡ Some x → x.base ≡ of_exception e → ⊥
