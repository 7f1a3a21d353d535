use Rattle.linear_simulation.proofs.Sound.{sound_where_well_formed}
use Rattle.linear_simulation.proofs.laws.well_formed_is_sound.Goals as goal

pub returns : goal.returns
returns c = sound_where_well_formed
