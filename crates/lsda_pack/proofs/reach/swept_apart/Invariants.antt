use Rattle.std.proofs.Common.{◌≡◌, length}
use Rattle.lsda_pack.specs.Reaches.{swept_apart}
use Rattle.lsda_pack.proofs.reach.swept_apart.Given as goal

abbrev pub invariant-reaches : goal.invariant-reaches
invariant-reaches l = swept_apart 0 0 l.reaches ≡ swept_apart l.tables l.others l.rest

abbrev pub decreases-reaches : goal.decreases-reaches
decreases-reaches l = length l.rest
