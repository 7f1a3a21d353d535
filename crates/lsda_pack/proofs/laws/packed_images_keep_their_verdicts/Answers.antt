use Rattle.lsda_pack.proofs.PackingKept.{packing_keeps}
use Rattle.lsda_pack.proofs.laws.packed_images_keep_their_verdicts.Goals as goal

pub returns : goal.returns
returns c = packing_keeps
