-- What emission is given.
use Rattle.std.specs.Prelude.{List, map, reverse}
use Rattle.landing_pads.specs.declared.exits.Exit.{Exit as ExitValue}
use Rattle.landing_pads.specs.declared.emitting.Emitting.{Emitting as EmittingValue}
use Rattle.linear_forms.specs.Emission.{Emitting}
use Rattle.linear_forms.specs.Exits.{Exit}
use Rattle.linear_forms.specs.Filters.{filter_for}

-- a region that holds a part
abbrev pub exit_of : ExitValue → Exit
exit_of x = record { cleanup = x.cleanup; end = x.end }

-- the regions that hold a part, the innermost first
abbrev pub exits_of : List ExitValue → List Exit
exits_of xs = reverse (map exit_of xs)

-- what a function's code is made with
abbrev pub emitting_of : EmittingValue → Emitting
emitting_of e = record {
  filter = filter_for e.tables.now.types.keys (map (λ l. l.items) e.tables.now.lists.items);
  object = e.object;
  selector = e.selector;
  way = e.way;
}
