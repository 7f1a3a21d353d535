-- What becomes of a source by a standard.
use Rattle.std.specs.Prelude.{ℕ, ◌≡◌, List}
use Rattle.cxx_ast.specs.declared.standard.Std.{Std}
use Rattle.cxx_ast.specs.Plain.{Program}
use Rattle.cxx_ast.specs.Broken.{Valid}
use Rattle.cxx_front.specs.Source.{IsProgram, IsRefused}

-- it is refused by a number at a place, or it is a valid program
pub data Fate : Type 0 where
  refused : ℕ → ℕ → Fate
  valid : Program → Fate

abbrev pub Has : Std → List ℕ → Fate → Type 0
Has std source (refused number place) = IsRefused std source number place
Has std source (valid p) = IsProgram source p × Valid std p

-- a source has a fate, and no other
pub record HasOnly (std : Std) (source : List ℕ) (fate : Fate) : Type 0 where
  pub is : Has std source fate
  pub only : (other : Fate) → Has std source other → fate ≡ other
