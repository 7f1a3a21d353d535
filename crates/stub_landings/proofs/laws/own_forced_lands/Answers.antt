use Rattle.stub_landings.proofs.OwnRaises.{own_forced_lands}
use Rattle.stub_landings.proofs.laws.own_forced_lands.Goals as goal

pub returns : goal.returns
returns c = own_forced_lands c.calls_are_made.ensures c.forced_agree.ensures
