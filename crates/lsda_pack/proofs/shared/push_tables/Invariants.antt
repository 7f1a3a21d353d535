use Rattle.std.proofs.Common.{◌≡◌, ◌++◌, length, map}
use Rattle.lsda_pack.specs.Reaches.{table_reach}
use Rattle.lsda_pack.proofs.shared.push_tables.Given as goal

abbrev pub invariant-tables : goal.invariant-tables
invariant-tables l = l.initial.reaches.items ++ map table_reach l.tables ≡ l.reaches.items ++ map table_reach l.rest

abbrev pub decreases-tables : goal.decreases-tables
decreases-tables l = length l.rest
