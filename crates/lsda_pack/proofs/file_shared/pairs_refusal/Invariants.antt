use Rattle.std.proofs.Common.{◌≡◌, [], length}
use Rattle.std.specs.Prelude.{option_map}
use Rattle.table_forms.specs.Fault.{least, joined}
use Rattle.table_forms.specs.Seen.{fault_of}
use Rattle.lsda_pack.specs.Reaches.{file_taken}
use Rattle.lsda_pack.proofs.file_shared.pairs_refusal.Given as goal

abbrev pub invariant-parts : goal.invariant-parts
invariant-parts l = least (file_taken [] l.parts) ≡ joined (option_map fault_of l.first) (least (file_taken l.before.items l.rest))

abbrev pub decreases-parts : goal.decreases-parts
decreases-parts l = length l.rest
