use Rattle.std.proofs.Common.{◌≡◌, ◌++◌, length}
use Rattle.std.specs.Prelude.{flat_map}
use Rattle.table_forms.specs.Lsda.{lists_named}
use Rattle.lsda_read.proofs.named.lists_of.Given as goal

abbrev pub invariant-filters : goal.invariant-filters
invariant-filters l = flat_map lists_named l.filters ≡ l.lists.items ++ flat_map lists_named l.rest

abbrev pub decreases-filters : goal.decreases-filters
decreases-filters l = length l.rest
