use Rattle.std.proofs.Common.{◌≡◌, ◌++◌, ℤ, List, Some, length}
use Rattle.std.specs.BTreeMap.{get}
use Rattle.lsda_pack.specs.EndNumbers.{AreNumbers, HaveNumbers, Keeps, end_cmp, end_number}
use Rattle.lsda_pack.proofs.numbers.end_numbers.Given as goal

abbrev pub invariant-filters : goal.invariant-filters
invariant-filters l =
    AreNumbers l.known × Keeps (get end_cmp l.initial.known) (get end_cmp l.known) ×
    ((behind : List ℤ) × (l.filters ≡ l.rest ++ behind) × (end_number (get end_cmp l.known) behind ≡ Some l.number) × HaveNumbers (get end_cmp l.known) behind l.ends.items)

abbrev pub decreases-filters : goal.decreases-filters
decreases-filters l = length l.rest
