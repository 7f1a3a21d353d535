use Rattle.std.proofs.Common.{◌≡◌, ◌+◌, ◌*◌, ◌≤◌, length}
use Rattle.frame_read.specs.Order.{disagrees}
use Rattle.frame_read.proofs.order.disagreement.Given as goal

abbrev pub invariant-rows : goal.invariant-rows
invariant-rows l =
    (l.at + 8 * length l.rows ≤ l.place + 8 * length l.initial.rows) ×
    (disagrees l.at l.rows l.order ≡ disagrees l.place l.initial.rows l.initial.order)

abbrev pub decreases-rows : goal.decreases-rows
decreases-rows l = length l.rows
