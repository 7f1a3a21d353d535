use Rattle.region_statements.proofs.Jumps.{jumps_stay_in_loops}
use Rattle.region_statements.proofs.laws.jumps_stay_in_loops.Goals as goal

pub returns : goal.returns
returns c = jumps_stay_in_loops
