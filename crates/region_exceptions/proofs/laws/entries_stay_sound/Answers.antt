use Rattle.region_exceptions.proofs.Standing.{entries_stay_sound}
use Rattle.region_exceptions.proofs.laws.entries_stay_sound.Goals as goal

pub returns : goal.returns
returns c = entries_stay_sound
