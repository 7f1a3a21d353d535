-- Turns of the ABI machine.
use Rattle.std.specs.Prelude.{◌≡◌, ℕ, ℤ, ◌+◌, ◌≤◌, List, [], ◌++◌}
use Rattle.run_items.specs.declared.item.Item.{Item}
use Rattle.run_items.specs.declared.item.Item.TheVariants.{Line}
use Rattle.rv64_isa.specs.State.{State}
use Rattle.cxa_runtime.specs.Raising.{Image}
use Rattle.cxa_runtime.specs.Run.{Ran, run, counted}
use Rattle.cxa_runtime.specs.World.{World, at_hart, gives, shows, a0}

-- a run that has shown items before
abbrev pub with_items : List Item → Ran → Ran
with_items items r = record r { items = items ++ r.items }

-- so many turns lead from a world to another and show items, whatever slots are chosen and however many turns follow; a forced unwind may
-- begin in them
pub record ForcedTurns (image : Image) (n : ℕ) (w v : World) (items : List Item) : Type 0 where
  pub run : (pick : ℕ → ℕ) (k : ℕ) → run image pick (n + k) w ≡ with_items items (run image pick k v)

-- and so it is where none begins
pub record Turns (image : Image) (n : ℕ) (w v : World) (items : List Item) : Type 0 where
  pub run : (pick : ℕ → ℕ) (k : ℕ) → run image pick (n + k) w ≡ with_items items (run image pick k v)
  pub unwinding : v.unwinding ≡ w.unwinding

-- at most so many turns lead from a world to one of which this holds, and show items
pub record Reaches (image : Image) (most : ℕ) (w : World) (items : List Item) (P : World → Type 0) : Type 0 where
  pub turns : ℕ
  pub few : turns ≤ most
  pub after : World
  pub runs : Turns image turns w after items
  pub holds : P after

-- and so it is where a forced unwind may begin
pub record ForcedReaches (image : Image) (most : ℕ) (w : World) (items : List Item) (P : World → Type 0) : Type 0 where
  pub turns : ℕ
  pub few : turns ≤ most
  pub after : World
  pub runs : ForcedTurns image turns w after items
  pub holds : P after

-- what the runtime keeps beside the hart stays
pub record SameRuntime (w v : World) : Type 0 where
  pub exceptions : v.exceptions ≡ w.exceptions
  pub terminate_handler : v.terminate_handler ≡ w.terminate_handler
  pub unexpected_handler : v.unexpected_handler ≡ w.unexpected_handler
  pub last_number : v.last_number ≡ w.last_number
  pub unwinding : v.unwinding ≡ w.unwinding
  pub input : v.input ≡ w.input
  pub replies : v.replies ≡ w.replies
  pub terminating : v.terminating ≡ w.terminating

-- steps of the hart as turns
pub record Stepped (image : Image) (n : ℕ) (w : World) (t : State) : Type 0 where
  pub after : World
  pub hart : after.hart ≡ t
  pub turns : Turns image n w after []
  pub runtime : SameRuntime w after

-- the world behind a step, behind a line that was written, and behind a byte that was read
abbrev pub after_step : State → World → World
after_step s w = counted (at_hart s (record w { shown = [] }))

abbrev pub after_line : ℤ → State → World → World
after_line z s w = counted (shows (Line z) (at_hart s (record w { shown = [] })))

abbrev pub after_byte : ℕ → List ℕ → State → World → World
after_byte b rest s w = counted (gives a0 b (record (at_hart s (record w { shown = [] })) { input = rest }))
