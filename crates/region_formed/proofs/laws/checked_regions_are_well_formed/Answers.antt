use Rattle.region_formed.proofs.Sources.{source_well_formed}
use Rattle.region_formed.proofs.laws.checked_regions_are_well_formed.Goals as goal

pub returns : goal.returns
returns c = record { well_formed = source_well_formed }
