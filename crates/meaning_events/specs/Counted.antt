-- What an allowed order says of the numbers of events, and of a list's fronts.
use Rattle.std.specs.Prelude.{ℕ, ◌+◌, ◌≤◌, List, ◌++◌}
use Rattle.run_items.specs.declared.item.Item.{Item}
use Rattle.meaning_events.specs.Events.{makes, raises, enters, leaves, destroys, frees, foreign_of, cleans_of, AreAllowed}

-- A number is given once. An object is destroyed and freed at most once, and a foreign exception never. No handler is left that was not entered, and no
-- token cleaned that was not raised.
pub record AreCounted (items : List Item) : Type 0 where
  pub given : (e : ℕ) → makes e items + raises e items ≤ 1
  pub destroyed : (e : ℕ) → destroys e items ≤ makes e items
  pub freed : (e : ℕ) → frees e items ≤ makes e items
  pub left : (e : ℕ) → leaves e items ≤ enters e items
  pub cleaned : (k t : ℕ) → cleans_of k t items ≤ foreign_of k t items

abbrev pub AllowedAreCounted : Type 0
AllowedAreCounted = (items : List Item) → AreAllowed items → AreCounted items

-- the front of an allowed list is allowed, as that of a run that is cut short
abbrev pub FrontsAreAllowed : Type 0
FrontsAreAllowed = (items more : List Item) → AreAllowed (items ++ more) → AreAllowed items
