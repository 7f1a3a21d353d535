use Rattle.std.proofs.Common.{◌≡◌, ℕ, length, find}
use Rattle.frame_read.specs.InOrder.{holds, InOrder}
use Rattle.frame_read.proofs.fde_search.fde_with.Given as goal

abbrev pub invariant-halves : goal.invariant-halves
invariant-halves l = ((n : ℕ) × InOrder n l.rest) × (find (holds l.pc) l.rest ≡ find (holds l.pc) l.order)

abbrev pub decreases-halves : goal.decreases-halves
decreases-halves l = length l.rest
