use Rattle.std.proofs.Common.{◌≡◌, ◌++◌, length, map}
use Rattle.image_forms.specs.Placed.{type_at}
use Rattle.image_link.proofs.tables.types_at.Given as goal

abbrev pub invariant-types : goal.invariant-types
invariant-types l = map (type_at l.end) l.types ≡ l.addresses.items ++ map (type_at l.end) l.rest

abbrev pub decreases-types : goal.decreases-types
decreases-types l = length l.rest
