use Rattle.std.proofs.Common.{◌≡◌, ◌<◌, ◌^◌}
use Rattle.std.specs.Prelude.{fold, max}
use Rattle.lsda_pack.specs.Ends.{steps_within}
use Rattle.lsda_pack.proofs.ends.chain_end.Given as goal

abbrev pub invariant-records : goal.invariant-records
invariant-records l =
    (fold max l.before (steps_within l.most l.bytes l.actions_at l.first) ≡ fold max l.end (steps_within l.left l.bytes l.actions_at l.place)) × (l.end < 2 ^ 67)

abbrev pub decreases-records : goal.decreases-records
decreases-records l = l.left
