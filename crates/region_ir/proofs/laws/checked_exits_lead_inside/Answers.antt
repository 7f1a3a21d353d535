use Rattle.region_ir.proofs.ExitFunctions.{exits_inside_checked}
use Rattle.region_ir.proofs.laws.checked_exits_lead_inside.Goals as goal

pub returns : goal.returns
returns c = record { inside = exits_inside_checked }
