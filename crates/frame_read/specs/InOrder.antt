-- FDEs in the order in which they are searched.
use Rattle.std.specs.Prelude.{◌≡◌, ◌≤◌, ◌+◌, ℕ, nat_lt, Bool, List, [], ◌∷◌, find}
use Rattle.table_forms.specs.Fde.{is_in}
use Rattle.frame_read.specs.declared.listed.Fde.{Fde}

-- its region holds the place
abbrev pub holds : ℕ → Fde → Bool
holds pc f = is_in f.region pc

-- its region holds a place
abbrev pub has_place : Fde → Bool
has_place f = nat_lt 0 f.region.length

-- each region begins where the one before ends or later, the first at n or later
abbrev pub InOrder : ℕ → List Fde → Type 0
InOrder n [] = n ≡ n
InOrder n (f ∷ fs) = (n ≤ f.region.start) × InOrder (f.region.start + f.region.length) fs

-- an order of a list of FDEs, in which each place leads to the one to which it leads in the list
pub record IsOrder (fdes order : List Fde) : Type 0 where
  pub rising : InOrder 0 order
  pub same : (pc : ℕ) → find (holds pc) order ≡ find (holds pc) fdes
