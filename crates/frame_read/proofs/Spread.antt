-- Of regions that are listed one after the other: the FDEs that have them are apart, where no overlap is refused.
use Rattle.std.proofs.Common.{◌≡◌, ◌<◌, ℕ, Bool, true, false, List, [], ◌∷◌, ◌++◌, ◌+◌, ◌^◌, refl, if◌then◌else◌}
use Rattle.std.specs.Prelude.{Option, Some, None, ◌||◌}
use Rattle.std.specs.List.{AllByRecursion, list_any}
use Rattle.eh_bytes.specs.declared.frames.Region64.{Region64}
use Rattle.table_forms.specs.Fault.{Fault, is_before, lesser, least}
use Rattle.table_forms.specs.Fde.{Fde, overlap}
use Rattle.frame_read.specs.Sound.{AreApart}
use Rattle.frame_read.proofs.Apart.{turned}

-- where nothing answers nothing is refused
pub none_refused : (fs : List Fault) → least fs ≡ None → fs ≡ []
unfolding least
none_refused [] e = refl
none_refused (f ∷ fs) e = step (least fs) e
  where
    step : (o : Option Fault) → lesser f o ≡ None → f ∷ fs ≡ []
    step None e' = cc
    step (Some g) e' = tests (is_before f g) e'
      where
        tests : (b : Bool) → (if b then Some f else Some g) ≡ None → f ∷ fs ≡ []
        tests true e2 = cc
        tests false e2 = cc

-- what a part gives as an FDE it gives as a region
abbrev pub IsRegion : ℕ → Option (ℕ × Region64) → Fde → Type 0
IsRegion at o f = (o ≡ Some (at, f.region)) × (f.region.start + f.region.length < 2 ^ 64)

-- FDEs are apart from earlier regions and from each other, and end in the address space
pub record AreSpread (earlier : List Region64) (fs : List Fde) : Type 0 where
  pub own : AllByRecursion (λ f. list_any (overlap f.region) earlier ≡ false) fs
  pub apart : AreApart fs
  pub ends : AllByRecursion (λ f. f.region.start + f.region.length < 2 ^ 64) fs

pub nil_right : (xs ys : List Fault) → xs ++ ys ≡ [] → ys ≡ []
nil_right [] ys e = e
nil_right (x ∷ xs) ys e = cc

left_false : (b c : Bool) → (b || c) ≡ false → b ≡ false
left_false true c e = e
left_false false c e = refl

right_false : (b c : Bool) → (b || c) ≡ false → c ≡ false
right_false true c e = cc
right_false false c e = e

-- without the region in front
pub fewer : (r : Region64) (earlier : List Region64) (fs : List Fde) → AllByRecursion (λ f. list_any (overlap f.region) (r ∷ earlier) ≡ false) fs →
    AllByRecursion (λ f. list_any (overlap f.region) earlier ≡ false) fs × AllByRecursion (λ f. overlap r f.region ≡ false) fs
fewer r earlier [] all = (tt, tt)
fewer r earlier (f ∷ fs) all =
    let rest = fewer r earlier fs all.1 in (
      (right_false (overlap f.region r) (list_any (overlap f.region) earlier) all.0, rest.0),
      (turned f.region r (left_false (overlap f.region r) (list_any (overlap f.region) earlier) all.0), rest.1),
    )
