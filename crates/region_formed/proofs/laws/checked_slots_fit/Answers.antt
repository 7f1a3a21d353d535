use Rattle.region_formed.proofs.SlotSizes.{slots_sized}
use Rattle.region_formed.proofs.laws.checked_slots_fit.Goals as goal

pub returns : goal.returns
returns c = record { fit = slots_sized }
