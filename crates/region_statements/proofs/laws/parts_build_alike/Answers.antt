use Rattle.region_statements.proofs.Parts.{parts_build_alike}
use Rattle.region_statements.proofs.laws.parts_build_alike.Goals as goal

pub returns : goal.returns
returns c = parts_build_alike
