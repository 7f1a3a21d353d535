use Rattle.std.proofs.Common.{◌≡◌, ◌++◌, ◌+◌, length}
use Rattle.arrayvec.specs.ArrayVec.{array_vec_len}
use Rattle.frame_read.proofs.cie_fold.CieFold.begun.Given as goal

abbrev pub invariant-states : goal.invariant-states
invariant-states l =
    (l.self.states.items ≡ l.states.items ++ l.rest) × (array_vec_len l.states + length l.rest ≡ length l.self.states.items)

abbrev pub decreases-states : goal.decreases-states
decreases-states l = length l.rest
