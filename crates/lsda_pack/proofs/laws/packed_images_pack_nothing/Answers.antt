use Rattle.lsda_pack.proofs.PacksNothing.{packing_twice}
use Rattle.lsda_pack.proofs.laws.packed_images_pack_nothing.Goals as goal

pub returns : goal.returns
returns c = packing_twice
