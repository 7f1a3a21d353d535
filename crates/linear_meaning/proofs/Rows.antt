-- Regions of which each that catches has a clause, one behind the other.
use Rattle.std.proofs.Common.{◌≡◌, true, List, [], ◌∷◌, ◌++◌, refl}
use Rattle.std.proofs.lemmas.Bool.{and_parts}
use Rattle.std.specs.Cmp.Derive.{both_true}
use Rattle.region_forms.specs.Form.{Region, regions_from}
use Rattle.linear_simulation.specs.Simulates.{has_clauses, all_have_clauses}

-- in each of these regions what catches has a clause
abbrev pub Row : List Region → Type 0
Row rs = all_have_clauses (regions_from rs) ≡ true

-- regions behind others
pub behind : (rs others : List Region) → Row rs → Row others → Row (rs ++ others)
behind [] others h k = k
behind (r ∷ rs) others h k =
    let parts = and_parts (has_clauses r) (all_have_clauses (regions_from rs)) h in
    both_true parts.0 (behind rs others parts.1 k)

-- a region behind others
pub with_last : (rs : List Region) (r : Region) → Row rs → has_clauses r ≡ true → Row (rs ++ r ∷ [])
with_last rs r h k = behind rs (r ∷ []) h (both_true k refl)
