use Rattle.std.proofs.Common.{◌≡◌, ◌<◌, ◌^◌, length}
use Rattle.std.specs.Prelude.{fold, max}
use Rattle.lsda_pack.specs.Ends.{site_steps}
use Rattle.lsda_pack.proofs.ends.sites_end.Given as goal

abbrev pub invariant-sites : goal.invariant-sites
invariant-sites l =
    (fold max l.actions_at (site_steps l.most l.bytes l.actions_at l.table.sites) ≡ fold max l.end (site_steps l.most l.bytes l.actions_at l.sites)) ×
    (l.end < 2 ^ 67)

abbrev pub decreases-sites : goal.decreases-sites
decreases-sites l = length l.sites
