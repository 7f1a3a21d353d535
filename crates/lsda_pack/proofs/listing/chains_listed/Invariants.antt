use Rattle.std.proofs.Common.{◌≡◌, ◌++◌, length, map}
use Rattle.std.specs.Prelude.{Contains}
use Rattle.std.specs.List.{AllByRecursion}
use Rattle.lsda_read.specs.Names.{actions_named}
use Rattle.lsda_read.specs.WholeTable.{filters_at}
use Rattle.lsda_pack.proofs.listing.chains_listed.Given as goal

abbrev pub invariant-actions : goal.invariant-actions
invariant-actions l =
    (map (filters_at l.table) l.actions ≡ map (λ c. c.items) l.chains.items ++ map (filters_at l.table) l.rest) ×
    AllByRecursion (Contains (actions_named l.table)) l.rest

abbrev pub decreases-actions : goal.decreases-actions
decreases-actions l = length l.rest
