use Rattle.std.proofs.Common.{◌≡◌, ◌++◌, length}
use Rattle.std.specs.Prelude.{flat_map}
use Rattle.eh_write.specs.Written.{site_bytes}
use Rattle.std.specs.List.{AllByRecursion}
use Rattle.eh_write.specs.Fits.{HasWords}
use Rattle.eh_write.proofs.sites.site_table.Given as goal

abbrev pub invariant-sites : goal.invariant-sites
invariant-sites l =
    (flat_map (site_bytes l.actions) l.sites ≡ l.bytes.items ++ flat_map (site_bytes l.actions) l.rest) ×
    (AllByRecursion HasWords l.rest → AllByRecursion HasWords l.sites)

abbrev pub decreases-sites : goal.decreases-sites
decreases-sites l = length l.rest
