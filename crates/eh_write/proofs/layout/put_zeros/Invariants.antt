use Rattle.std.proofs.Common.{◌≡◌, ◌++◌}
use Rattle.std.specs.Prelude.{replicate}
use Rattle.eh_write.proofs.layout.put_zeros.Given as goal

abbrev pub invariant-zeros : goal.invariant-zeros
invariant-zeros l = l.initial.out.items ++ replicate l.count 0 ≡ l.out.items ++ replicate l.left 0

abbrev pub decreases-zeros : goal.decreases-zeros
decreases-zeros l = l.left
