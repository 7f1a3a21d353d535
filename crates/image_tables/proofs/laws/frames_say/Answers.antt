use Rattle.image_tables.proofs.Framed.{frames_say}
use Rattle.image_tables.proofs.laws.frames_say.Goals as goal

pub returns : goal.returns
returns c = frames_say
