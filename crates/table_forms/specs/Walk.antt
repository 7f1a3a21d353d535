-- Walks from place to place, each step of which is determined by the place.
use Rattle.std.specs.Prelude.{◌≡◌, ◌<◌, ℕ, zero, suc, Option, Some, option_and_then}

-- the place after so many steps, where the walk goes so far
unfoldable pub walk : (ℕ → Option ℕ) → ℕ → ℕ → Option ℕ
walk next zero p = Some p
walk next (suc n) p = option_and_then (walk next n) (next p)

-- a walk that begins at p comes to one place twice
pub record Returns (next : ℕ → Option ℕ) (p : ℕ) : Type 0 where
  pub earlier : ℕ
  pub later : ℕ
  pub place : ℕ
  pub order : earlier < later
  pub first : walk next earlier p ≡ Some place
  pub again : walk next later p ≡ Some place
