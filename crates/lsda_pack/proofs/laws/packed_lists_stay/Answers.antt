use Rattle.lsda_pack.proofs.PackedTwice.{packed_twice}
use Rattle.lsda_pack.proofs.laws.packed_lists_stay.Goals as goal

pub returns : goal.returns
returns c = packed_twice
