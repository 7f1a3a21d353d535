use Rattle.region_ir.proofs.BasesBefore.{bases_before}
use Rattle.region_ir.proofs.laws.checked_bases_stand_before.Goals as goal

pub returns : goal.returns
returns c = record { before = bases_before }
