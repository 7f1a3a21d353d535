use Rattle.std.proofs.Common.{◌≡◌, ◌+◌, ◌++◌}
use Rattle.lsda_pack.specs.KeptTypes.{greatest}
use Rattle.lsda_pack.specs.Listing.{named_values}
use Rattle.lsda_pack.proofs.listing.types_listed.Given as goal

abbrev pub invariant-types : goal.invariant-types
invariant-types l =
    (named_values (greatest l.types) 1 l.types l.table ≡ l.values.items ++ named_values l.left (l.index + 1) l.types l.table) ×
    (l.index + l.left ≡ greatest l.types)

abbrev pub decreases-types : goal.decreases-types
decreases-types l = l.left
