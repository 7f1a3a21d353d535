use Rattle.region_exceptions.proofs.Scopes.{scopes_end_alike}
use Rattle.region_exceptions.proofs.laws.scopes_end_alike.Goals as goal

pub returns : goal.returns
returns c = scopes_end_alike
