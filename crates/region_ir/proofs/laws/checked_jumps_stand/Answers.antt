use Rattle.region_ir.proofs.JumpsStand.{checked_jumps}
use Rattle.region_ir.proofs.laws.checked_jumps_stand.Goals as goal

pub returns : goal.returns
returns c = record { stand = checked_jumps }
