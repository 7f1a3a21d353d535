use Rattle.std.proofs.Common.{◌≡◌, ◌<◌, ◌^◌, length}
use Rattle.lsda_pack.specs.Rule.{are_near}
use Rattle.lsda_pack.proofs.rule.are_near.Given as goal

abbrev pub invariant-types : goal.invariant-types
invariant-types l = (are_near l.first l.end l.base l.types ≡ are_near l.first l.end l.entry l.rest) × (l.entry < 2 ^ 70)

abbrev pub decreases-types : goal.decreases-types
decreases-types l = length l.rest
