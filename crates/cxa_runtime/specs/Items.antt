-- The items that a turn shows.
use Rattle.std.specs.Prelude.{List, [], ◌∷◌, Option, Some, None}
use Rattle.run_items.specs.declared.item.Item.{Item}

-- up to two
abbrev pub items_of : Option Item → Option Item → List Item
items_of None second = []
items_of (Some a) None = a ∷ []
items_of (Some a) (Some b) = a ∷ b ∷ []
