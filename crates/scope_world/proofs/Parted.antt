-- Parts past the end of a part.
use Rattle.std.proofs.Common.{◌≡◌, ℕ, List, [], ◌∷◌, refl, None}
use Rattle.meaning_forms.specs.Part.{Part, cell, subparts, nth_part, part_at}

pub unset_stays : (path : List ℕ) → part_at (cell None) path ≡ cell None
unset_stays [] = refl
unset_stays (i ∷ path) = unset_stays path

-- behind a missing part every part is an unset cell
pub past_end : (a : Part) (path all : List ℕ) (i : ℕ) → all ≡ i ∷ path → nth_part (subparts a) i ≡ cell None → cell None ≡ part_at a all
past_end a path all i e m = rw (e, m, unset_stays path)
