use Rattle.std.proofs.Common.{◌≡◌, ◌++◌, length}
use Rattle.std.specs.Prelude.{flat_map}
use Rattle.table_dump.specs.Tables.{site_line}
use Rattle.table_dump.proofs.line.put_sites.Given as goal

abbrev pub invariant-sites : goal.invariant-sites
invariant-sites l = l.initial.out.items ++ flat_map site_line l.table.sites ≡ l.out.items ++ flat_map site_line l.sites

abbrev pub decreases-sites : goal.decreases-sites
decreases-sites l = length l.sites
