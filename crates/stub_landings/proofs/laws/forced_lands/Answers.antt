use Rattle.stub_landings.proofs.Landings.{forced_lands}
use Rattle.stub_landings.proofs.laws.forced_lands.Goals as goal

pub returns : goal.returns
returns c = forced_lands c.calls_are_turns.ensures c.calls_are_made.ensures c.forced_agree.ensures
