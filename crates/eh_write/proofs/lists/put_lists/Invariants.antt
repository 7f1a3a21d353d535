use Rattle.std.proofs.Common.{◌≡◌, ◌++◌, length, map}
use Rattle.eh_write.specs.Written.{lists_bytes}
use Rattle.std.specs.List.{AllByRecursion}
use Rattle.eh_write.specs.Fits.{IsWord}
use Rattle.eh_write.proofs.lists.put_lists.Given as goal

abbrev pub invariant-lists : goal.invariant-lists
invariant-lists l =
    (l.initial.out.items ++ lists_bytes (map (λ indices. indices.items) l.lists) ≡ l.out.items ++ lists_bytes (map (λ indices. indices.items) l.rest)) ×
    (AllByRecursion (AllByRecursion IsWord) (map (λ indices. indices.items) l.rest) → AllByRecursion (AllByRecursion IsWord) (map (λ indices. indices.items) l.lists))

abbrev pub decreases-lists : goal.decreases-lists
decreases-lists l = length l.rest
