use Rattle.std.proofs.Common.{◌≡◌, ◌++◌, length, map}
use Rattle.lsda_pack.specs.Listing.{listed_with}
use Rattle.lsda_pack.proofs.listing.sites_listed.Given as goal

abbrev pub invariant-sites : goal.invariant-sites
invariant-sites l = map (listed_with l.start l.actions) l.table.sites ≡ l.listed.items ++ map (listed_with l.start l.actions) l.sites

abbrev pub decreases-sites : goal.decreases-sites
decreases-sites l = length l.sites
