use Rattle.region_ir.proofs.SlotCounts.{helps, regions_suffice}
use Rattle.region_ir.proofs.laws.regions_have_slots.Goals as goal

pub returns : goal.returns
returns c = record { suffice = regions_suffice; helps = helps }
