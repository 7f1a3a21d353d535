use Rattle.std.proofs.Common.{◌≡◌, ◌++◌, length}
use Rattle.std.specs.Prelude.{flat_map}
use Rattle.lsda_pack.specs.declared.placing.Placing.{Placing}
use Rattle.lsda_pack.proofs.gathered.push_words.Given as goal

abbrev pub invariant-placings : goal.invariant-placings
invariant-placings l = l.initial.taken.items ++ flat_map (λ (p : Placing). p.words.items) l.placings ≡ l.taken.items ++ flat_map (λ (p : Placing). p.words.items) l.rest

abbrev pub decreases-placings : goal.decreases-placings
decreases-placings l = length l.rest
