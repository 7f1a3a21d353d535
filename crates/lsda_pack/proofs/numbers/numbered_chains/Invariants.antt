use Rattle.std.proofs.Common.{◌≡◌, ◌++◌, length, map}
use Rattle.std.specs.List.{AllByRecursion}
use Rattle.std.specs.BTreeMap.{get}
use Rattle.lsda_pack.specs.EndNumbers.{AreNumbers, IsNumbered, end_cmp, filters_of}
use Rattle.lsda_pack.proofs.numbers.numbered_chains.Given as goal

abbrev pub invariant-chains : goal.invariant-chains
invariant-chains l =
    AreNumbers l.known × (map (λ chain. chain.items) l.chains ≡ filters_of l.numbered.items ++ map (λ chain. chain.items) l.rest) ×
    AllByRecursion (IsNumbered (get end_cmp l.known)) l.numbered.items

abbrev pub decreases-chains : goal.decreases-chains
decreases-chains l = length l.rest
