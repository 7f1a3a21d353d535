use Rattle.region_exceptions.proofs.Protecting.{protects_alike}
use Rattle.region_exceptions.proofs.laws.protects_alike.Goals as goal

pub returns : goal.returns
returns c = protects_alike
