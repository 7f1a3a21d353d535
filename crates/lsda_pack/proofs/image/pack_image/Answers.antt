use Rattle.std.proofs.Common.{rules}
use Rattle.lsda_pack.proofs.ImagePacked.{reports_clean}
use Rattle.lsda_pack.proofs.image.pack_image.Goals as goal

pub returns-in_err-image : goal.returns-in_err-image
returns-in_err-image c = search (rules, reports_clean)
