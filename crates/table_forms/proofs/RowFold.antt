-- The fold of a row: where it goes on, and where it has stopped.
use Rattle.std.proofs.Common.{◌≡◌, ℕ, true, false, List, [], ◌∷◌, refl, ap, ◌∙◌}
use Rattle.std.specs.Prelude.{nat_lt, fold}
use Rattle.table_forms.specs.Instruction.{Instruction}
use Rattle.table_forms.specs.Row.{Folding, location_after, after, stepped}

-- an instruction that does not move above the place
pub stepped_on : (pc : ℕ) (s : Folding) (i : Instruction) → s.stopped ≡ false → nat_lt pc (location_after i s.location) ≡ false → stepped pc s i ≡ after s i
stepped_on pc s i goes below = rw (goes, below) refl

-- one that does
pub stepped_off : (pc : ℕ) (s : Folding) (i : Instruction) → s.stopped ≡ false → nat_lt pc (location_after i s.location) ≡ true → stepped pc s i ≡ record s { stopped = true }
stepped_off pc s i goes above = rw (goes, above) refl

-- no instruction moves above the place
abbrev pub Below : ℕ → Folding → List Instruction → Type 0
Below pc s [] = s.stopped ≡ false
Below pc s (i ∷ is) = (s.stopped ≡ false) × (nat_lt pc (location_after i s.location) ≡ false) × Below pc (after s i) is

-- such a fold is that of the instructions alone
pub fold_on : (pc : ℕ) (s : Folding) (is : List Instruction) → Below pc s is → fold (stepped pc) s is ≡ fold after s is
fold_on pc s [] below = refl
fold_on pc s (i ∷ is) below = ap (λ r. fold (stepped pc) r is) (stepped_on pc s i below.0 below.1) ∙ fold_on pc (after s i) is below.2

-- a fold that has stopped
pub fold_off : (pc : ℕ) (s : Folding) (is : List Instruction) → s.stopped ≡ true → fold (stepped pc) s is ≡ s
fold_off pc s [] stopped = refl
fold_off pc s (i ∷ is) stopped = ap (λ r. fold (stepped pc) r is) (let same : stepped pc s i ≡ s = rw stopped refl in same) ∙ fold_off pc s is stopped
