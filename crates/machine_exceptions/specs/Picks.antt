-- Turns where one slot is wished for each exception. What they lead to may depend on the slots that are given.
use Rattle.std.specs.Prelude.{◌≡◌, ℕ, ◌+◌, ◌<◌, ◌≤◌, List}
use Rattle.run_items.specs.declared.item.Item.{Item}
use Rattle.cxa_runtime.specs.World.{World}
use Rattle.cxa_runtime.specs.Raising.{Image}
use Rattle.cxa_runtime.specs.Run.{run}
use Rattle.machine_pieces.specs.Turning.{with_items}

-- so many turns lead from a world to another and show items, however many turns follow, and no forced unwind begins in them
pub record TurnsFor (image : Image) (pick : ℕ → ℕ) (n : ℕ) (w v : World) (items : List Item) : Type 0 where
  pub run : (k : ℕ) → run image pick (n + k) w ≡ with_items items (run image pick k v)
  pub unwinding : v.unwinding ≡ w.unwinding

-- the turns that match one step, of an operation of so many words
pub record MatchedFor (image : Image) (pick : ℕ → ℕ) (words : ℕ) (w : World) (items : List Item) (P : World → Type 0) : Type 0 where
  pub turns : ℕ
  pub few : turns ≤ words
  pub some : 0 < words → 0 < turns
  pub after : World
  pub runs : TurnsFor image pick turns w after items
  pub holds : P after
