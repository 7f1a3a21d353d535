use Rattle.std.proofs.Common.{◌≡◌, ◌++◌, length}
use Rattle.lsda_read.proofs.named.push_list.Given as goal

abbrev pub invariant-list : goal.invariant-list
invariant-list l = l.initial.indices.items ++ l.initial.list ≡ l.indices.items ++ l.list

abbrev pub decreases-list : goal.decreases-list
decreases-list l = length l.list
