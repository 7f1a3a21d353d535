use Rattle.std.proofs.Common.{◌≡◌, ◌++◌, length}
use Rattle.std.specs.Prelude.{flat_map}
use Rattle.eh_bytes.specs.Spelling.{uleb_spelling}
use Rattle.std.specs.List.{AllByRecursion}
use Rattle.eh_write.specs.Fits.{IsWord}
use Rattle.eh_write.proofs.lists.put_list.Given as goal

abbrev pub invariant-indices : goal.invariant-indices
invariant-indices l =
    (l.initial.out.items ++ flat_map uleb_spelling l.indices ≡ l.out.items ++ flat_map uleb_spelling l.rest) ×
    (AllByRecursion IsWord l.rest → AllByRecursion IsWord l.indices)

abbrev pub decreases-indices : goal.decreases-indices
decreases-indices l = length l.rest
