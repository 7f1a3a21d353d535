use Rattle.region_ir.proofs.AtNumber.{at_number}
use Rattle.region_ir.proofs.laws.callees_have_numbers.Goals as goal

pub returns : goal.returns
returns c = record { numbered = at_number }
