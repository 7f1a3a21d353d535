use Rattle.std.proofs.Common.{◌≡◌, ◌++◌, length, map}
use Rattle.lsda_pack.specs.declared.placing.Placing.{Placing}
use Rattle.lsda_pack.proofs.gathered.tables_taken.Given as goal

abbrev pub invariant-placings : goal.invariant-placings
invariant-placings l = map (λ (p : Placing). p.taken) l.placings ≡ l.taken.items ++ map (λ (p : Placing). p.taken) l.rest

abbrev pub decreases-placings : goal.decreases-placings
decreases-placings l = length l.rest
