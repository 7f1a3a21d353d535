use Rattle.std.proofs.Common.{◌≡◌, length}
use Rattle.lsda_pack.specs.Rule.{pads_count}
use Rattle.lsda_pack.proofs.rule.pads_count.Given as goal

abbrev pub invariant-sites : goal.invariant-sites
invariant-sites l = pads_count l.start l.table.sites ≡ pads_count l.start l.sites

abbrev pub decreases-sites : goal.decreases-sites
decreases-sites l = length l.sites
