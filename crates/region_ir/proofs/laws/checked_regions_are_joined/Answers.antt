use Rattle.region_ir.proofs.Joined.{checked_joined}
use Rattle.region_ir.proofs.laws.checked_regions_are_joined.Goals as goal

pub returns : goal.returns
returns c = record { joined = checked_joined }
