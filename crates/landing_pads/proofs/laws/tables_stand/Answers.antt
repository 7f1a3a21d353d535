use Rattle.landing_pads.proofs.Stood.{all_tables_stand}
use Rattle.landing_pads.proofs.laws.tables_stand.Goals as goal

pub returns : goal.returns
returns c = all_tables_stand
