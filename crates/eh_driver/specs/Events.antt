-- What is promised of the exceptions that a meaning or a run tells of, in any program (ISO/IEC 14882:2003, 15.1/4, 15.3/11; Itanium C++ ABI: Exception Handling,
-- section 2.4).
use Rattle.std.specs.Prelude.{◌≡◌, true, List}
use Rattle.run_items.specs.declared.item.Item.{Item}
use Rattle.meaning_forms.specs.Meaning.{Meaning}
use Rattle.meaning_events.specs.Events.{AreAllowed, AreSettled}
use Rattle.meaning_events.specs.Counted.{AreCounted}
use Rattle.meaning_events.specs.Laws.{came_out}

-- Each event is allowed behind those before it: what is entered was thrown, what is left was entered, and an object is destroyed and then freed where no handler
-- has it. So each is destroyed and freed at most once, and a foreign exception never, which is cleaned at most as often as it was raised. Where main comes to its
-- end by itself or by a forced unwind, and all is shown, each that was made was freed, and each that was raised was cleaned.
pub record EventsHold (m : Meaning) (items : List Item) (whole : Type 0) : Type 0 where
  pub ordered : AreAllowed items
  pub counted : AreCounted items
  pub settled : whole → came_out m.main ≡ true → AreSettled items
