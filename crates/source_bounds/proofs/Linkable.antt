-- The unit of a checked program is what a linker needs.
use Rattle.region_forms.specs.Layout.{layout_of}
use Rattle.source_bounds.specs.Compiled.{unit_for}
use Rattle.source_bounds.specs.Laws.{TokensAreFew, BasesAreThere, BadExceptionIsThere, FunctionsStandInRow, FunctionsFit, RoomIsSmall, CheckedIsLinkable}
use Rattle.source_bounds.specs.WordLaws.{ProgramsAreShort}

pub checked_is_linkable : TokensAreFew → BasesAreThere → BadExceptionIsThere → FunctionsStandInRow → FunctionsFit → RoomIsSmall → ProgramsAreShort → CheckedIsLinkable
checked_is_linkable tokens bases bad row functions room words p h = record {
  source = tokens p h;
  words = (words p (layout_of p) h).words;
  room = room p h;
  row = row (unit_for p);
  functions = functions p h;
  bases = bases p h;
  bad_exception = bad p h;
}
