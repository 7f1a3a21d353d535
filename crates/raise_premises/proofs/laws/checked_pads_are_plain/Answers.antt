use Rattle.raise_premises.proofs.Pads.{pads_are_plain}
use Rattle.raise_premises.proofs.laws.checked_pads_are_plain.Goals as goal

pub returns : goal.returns
returns c = pads_are_plain c.slots_are_help.ensures c.checked_regions_are_well_formed.ensures.well_formed
