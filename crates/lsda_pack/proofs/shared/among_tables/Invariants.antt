use Rattle.std.proofs.Common.{◌≡◌, length}
use Rattle.std.specs.Prelude.{option_map}
use Rattle.table_forms.specs.Fault.{least, joined}
use Rattle.table_forms.specs.Seen.{fault_of}
use Rattle.lsda_pack.specs.Reaches.{among_taken}
use Rattle.lsda_pack.proofs.shared.among_tables.Given as goal

abbrev pub invariant-tables : goal.invariant-tables
invariant-tables l = least (among_taken l.tables) ≡ joined (option_map fault_of l.first) (least (among_taken l.rest))

abbrev pub decreases-tables : goal.decreases-tables
decreases-tables l = length l.rest
