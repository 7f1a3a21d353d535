use Rattle.region_statements.proofs.Parts.{parts_destroy_alike}
use Rattle.region_statements.proofs.laws.parts_destroy_alike.Goals as goal

pub returns : goal.returns
returns c = parts_destroy_alike
