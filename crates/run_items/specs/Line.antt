-- The printed line of an item.
use Rattle.std.specs.Prelude.{ℕ, ℤ, Bool, true, false, List, [], ◌∷◌, ◌++◌, codes, filter, map, ◌||◌}
use Rattle.std.specs.Fmt.{decimal, signed_decimal}
use Rattle.run_items.specs.declared.item.Item.{Item}
use Rattle.run_items.specs.declared.item.Item.TheVariants.{Line, Make, Foreign, Enter, Leave, Destroy, Free, Clean}

-- a blank and a number
abbrev pub and : ℕ → List ℕ
and n = codes " " ++ decimal n

-- an int in decimal, `-` before a negative one; of an event its name behind `!`, and its numbers
abbrev pub text_of : Item → List ℕ
text_of (Line n) = signed_decimal n
text_of (Make e) = codes "! make" ++ and e
text_of (Foreign e k token) = codes "! foreign" ++ and e ++ and k ++ and token
text_of (Enter e) = codes "! enter" ++ and e
text_of (Leave e) = codes "! leave" ++ and e
text_of (Destroy e) = codes "! destroy" ++ and e
text_of (Free e) = codes "! free" ++ and e
text_of (Clean k token) = codes "! clean" ++ and k ++ and token

-- the text and a line feed
abbrev pub line_of : Item → List ℕ
line_of item = text_of item ++ 10 ∷ []

abbrev pub is_written : Item → Bool
is_written (Line n) = true
is_written _ = false

-- events are printed under trace alone
abbrev pub is_printed : Bool → Item → Bool
is_printed trace item = trace || is_written item

-- the lines that are printed of some items
abbrev pub lines_of : Bool → List Item → List (List ℕ)
lines_of trace items = map line_of (filter (is_printed trace) items)
