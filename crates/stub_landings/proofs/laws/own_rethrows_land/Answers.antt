use Rattle.stub_landings.proofs.OwnRaises.{own_rethrows_land}
use Rattle.stub_landings.proofs.laws.own_rethrows_land.Goals as goal

pub returns : goal.returns
returns c = own_rethrows_land c.calls_are_made.ensures c.raises_agree.ensures
