use Rattle.region_exceptions.proofs.Protecting.{destroys_alike}
use Rattle.region_exceptions.proofs.laws.destroys_alike.Goals as goal

pub returns : goal.returns
returns c = destroys_alike
