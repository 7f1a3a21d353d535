use Rattle.region_typed.proofs.Blocks.{statements_typed}
use Rattle.region_typed.proofs.laws.statements_are_typed.Goals as goal

pub returns : goal.returns
returns c = record { typed = λ g settled own gives ss w sc xs h f v. statements_typed g settled own gives ss w sc xs h f v }
