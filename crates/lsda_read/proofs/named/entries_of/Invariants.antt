use Rattle.std.proofs.Common.{◌≡◌, ◌++◌, length}
use Rattle.std.specs.Prelude.{flat_map}
use Rattle.table_forms.specs.Lsda.{entries_named}
use Rattle.lsda_read.proofs.named.entries_of.Given as goal

abbrev pub invariant-filters : goal.invariant-filters
invariant-filters l = flat_map entries_named l.filters ≡ l.entries.items ++ flat_map entries_named l.rest

abbrev pub decreases-filters : goal.decreases-filters
decreases-filters l = length l.rest
