use Rattle.checked_units.proofs.Beginning.{images_begin}
use Rattle.checked_units.proofs.laws.images_begin.Goals as goal

pub returns : goal.returns
returns c =
    images_begin c.units_stand.ensures c.checked_is_linkable.ensures c.checked_units_are_asked.ensures c.checked_functions_are_short.ensures c.checked_regions_are_well_formed.ensures.well_formed
