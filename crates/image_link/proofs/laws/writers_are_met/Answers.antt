use Rattle.image_link.proofs.Handed.{writers_are_met}
use Rattle.image_link.proofs.laws.writers_are_met.Goals as goal

pub returns : goal.returns
returns c = writers_are_met
