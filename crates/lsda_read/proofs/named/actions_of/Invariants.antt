use Rattle.std.proofs.Common.{◌≡◌, ◌++◌, ◌==◌, length, map, filter}
use Rattle.std.specs.Prelude.{not}
use Rattle.lsda_read.specs.Names.{actions_named}
use Rattle.lsda_read.proofs.named.actions_of.Given as goal

abbrev pub invariant-sites : goal.invariant-sites
invariant-sites l = actions_named l.table ≡ l.actions.items ++ filter (λ a. not (a == 0)) (map (λ s. s.action) l.sites)

abbrev pub decreases-sites : goal.decreases-sites
decreases-sites l = length l.sites
