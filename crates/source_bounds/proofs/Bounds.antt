-- The bounds of the unit of a checked program.
use Rattle.region_forms.specs.Layout.{layout_of}
use Rattle.landing_pads.specs.Frames.{AllCheckedFramesFit}
use Rattle.source_bounds.specs.Laws.{UnitsAreBounded}
use Rattle.source_bounds.proofs.Counted.{programs_are_short}

pub units_are_bounded : AllCheckedFramesFit → UnitsAreBounded
units_are_bounded frames p h = record { frames = (frames p h).frames; words = (programs_are_short p (layout_of p) h).counted }
