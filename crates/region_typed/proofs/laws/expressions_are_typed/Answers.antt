use Rattle.region_typed.proofs.Statements.{value}
use Rattle.region_typed.proofs.laws.expressions_are_typed.Goals as goal

pub returns : goal.returns
returns c = record { typed = λ g settled own gives xs sc h e i f. value g settled own gives xs sc h e i f }
