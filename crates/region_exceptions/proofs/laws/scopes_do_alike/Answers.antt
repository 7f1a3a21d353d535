use Rattle.region_exceptions.proofs.ScopesDo.{scopes_do_alike}
use Rattle.region_exceptions.proofs.laws.scopes_do_alike.Goals as goal

pub returns : goal.returns
returns c = scopes_do_alike
