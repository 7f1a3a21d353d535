use Rattle.std.proofs.Common.{rules}
use Rattle.std.proofs.lemmas.List.Sorted.{IsNonDecreasingBy-from_sort_by_key}
use Rattle.frame_read.specs.declared.gather.Placed.{Placed}
use Rattle.frame_read.proofs.overlap.first_overlap.Goals as goal

pub returns-clause-order : goal.returns-clause-order
returns-clause-order c =
    IsNonDecreasingBy-from_sort_by_key (λ (p : Placed). p.region.start) _ c.in_ok-sort_by_key.ensures.sorted (λ a r q k. search rules)
