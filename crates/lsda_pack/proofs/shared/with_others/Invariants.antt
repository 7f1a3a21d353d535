use Rattle.std.proofs.Common.{◌≡◌, length}
use Rattle.std.specs.Prelude.{flat_map, option_map}
use Rattle.table_forms.specs.Fault.{least, joined}
use Rattle.table_forms.specs.Seen.{fault_of}
use Rattle.lsda_pack.specs.Reaches.{with_taken}
use Rattle.lsda_pack.proofs.shared.with_others.Given as goal

abbrev pub invariant-others : goal.invariant-others
invariant-others l = least (flat_map (with_taken l.t) l.others) ≡ joined (option_map fault_of l.first) (least (flat_map (with_taken l.t) l.rest))

abbrev pub decreases-others : goal.decreases-others
decreases-others l = length l.rest
