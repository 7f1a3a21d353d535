-- Operations that are put behind others.
use Rattle.std.specs.Prelude.{◌≡◌, List, ◌++◌, map}
use Rattle.landing_pads.specs.declared.placed.Placed.{Placed as PlacedValue}
use Rattle.linear_forms.specs.Sites.{Placed}
use Rattle.landing_pads.specs.View.{placed_of}

-- more operations stand behind those that stood there
pub record Emitted (old new : List PlacedValue) (more : List Placed) : Type 0 where
  pub is : map placed_of new ≡ map placed_of old ++ more
