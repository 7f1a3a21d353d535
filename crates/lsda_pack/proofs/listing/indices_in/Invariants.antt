use Rattle.std.proofs.Common.{◌≡◌, ◌++◌, length}
use Rattle.lsda_pack.proofs.listing.indices_in.Given as goal

abbrev pub invariant-list : goal.invariant-list
invariant-list l = l.initial.list ≡ l.indices.items ++ l.list

abbrev pub decreases-list : goal.decreases-list
decreases-list l = length l.list
