use Rattle.region_formed.proofs.Sources.{valid_well_formed}
use Rattle.region_formed.proofs.laws.valid_sources_have_well_formed_regions.Goals as goal

pub returns : goal.returns
returns c = record { well_formed = valid_well_formed }
