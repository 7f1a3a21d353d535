-- That items are told behind one another, and none is taken back.
use Rattle.std.specs.Prelude.{◌≡◌, ℕ, List, ◌++◌}
use Rattle.cxx_ast.specs.Plain.{Checked}
use Rattle.run_items.specs.declared.item.Item.{Item}
use Rattle.meaning_forms.specs.Call.{running}
use Rattle.meaning_forms.specs.Context.{Context}
use Rattle.meaning_forms.specs.Outcome.{Action, Result, done, stopped}
use Rattle.meaning_forms.specs.Running.{Running, Callee, Argument}
use Rattle.meaning_forms.specs.World.{World, Reference}

-- a list begins with another
pub record Follows (before after : List Item) : Type 0 where
  pub more : List Item
  pub is : after ≡ before ++ more

-- the items in the world that a result leaves
abbrev pub items_left : {A : Type 0} → Result A → List Item
items_left (done a w) = w.items
items_left (stopped s w) = w.items

-- a computation takes no item back
pub record GoesOn (A : Type 0) (act : Action A) : Type 0 where
  pub at : (w : World) → Follows w.items (items_left (act w))

-- so it is of calls
abbrev pub CallsGoOn : Running → Type 0
CallsGoOn r = (callee : Callee) (this : Reference) (given : List Argument) (c : Context) (w : World) → Follows w.items (items_left (r.call callee this given c w))

abbrev pub AllCallsGoOn : Type 0
AllCallsGoOn = (p : Checked) (limit fuel : ℕ) → CallsGoOn (running p limit fuel)
