use Rattle.std.proofs.Common.{◌≡◌, ◌++◌, length}
use Rattle.lsda_read.proofs.named.push_filters.Given as goal

abbrev pub invariant-chain : goal.invariant-chain
invariant-chain l = l.initial.filters.items ++ l.initial.chain ≡ l.filters.items ++ l.chain

abbrev pub decreases-chain : goal.decreases-chain
decreases-chain l = length l.chain
