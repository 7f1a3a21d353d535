use Rattle.landing_pads.proofs.Short.{all_tables_short}
use Rattle.landing_pads.proofs.laws.tables_are_short.Goals as goal

pub returns : goal.returns
returns c = all_tables_short
