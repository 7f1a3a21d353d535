use Rattle.region_ir.proofs.MainThere.{checked_main}
use Rattle.region_ir.proofs.laws.checked_main_is_there.Goals as goal

pub returns : goal.returns
returns c = record { there = checked_main }
