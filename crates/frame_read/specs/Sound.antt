-- What holds of the regions of all FDEs that a reading gives.
use Rattle.std.specs.Prelude.{◌≡◌, ◌<◌, ◌+◌, ◌^◌, false, List, [], ◌∷◌, ⊤}
use Rattle.std.specs.List.{AllByRecursion}
use Rattle.table_forms.specs.Fde.{Fde, overlap}

-- no two regions overlap
abbrev pub AreApart : List Fde → Type 0
AreApart [] = ⊤
AreApart (f ∷ fs) = AllByRecursion (λ g. overlap f.region g.region ≡ false) fs × AreApart fs

-- regions end in the address space
abbrev pub AreInSpace : List Fde → Type 0
AreInSpace fs = AllByRecursion (λ f. f.region.start + f.region.length < 2 ^ 64) fs

pub record IsSound (fs : List Fde) : Type 0 where
  pub apart : AreApart fs
  pub ends : AreInSpace fs
