-- Memory that may not be written.
use Rattle.std.specs.Prelude.{◌≡◌, ℕ, List}
use Rattle.run_items.specs.declared.item.Item.{Item}
use Rattle.cxa_runtime.specs.Frozen.{frozen}
use Rattle.cxa_runtime.specs.Raising.{Image}
use Rattle.cxa_runtime.specs.Run.{run}
use Rattle.cxa_runtime.specs.World.{World}
use Rattle.machine_pieces.specs.Turning.{ForcedTurns, Turns}
use Rattle.machine_exceptions.specs.Picks.{TurnsFor}

-- what may not be written is as it was
abbrev pub KeepsMemory : World → World → Type 0
KeepsMemory w v = frozen v.hart.memory ≡ frozen w.hart.memory

-- So it is behind a run, and behind turns that lead from a world to another.
pub record RunsKeepMemory : Type 0 where
  pub runs : (image : Image) (pick : ℕ → ℕ) (n : ℕ) (w : World) → KeepsMemory w (run image pick n w).world
  pub turns : (image : Image) (n : ℕ) (w v : World) (items : List Item) → Turns image n w v items → KeepsMemory w v
  pub forced : (image : Image) (n : ℕ) (w v : World) (items : List Item) → ForcedTurns image n w v items → KeepsMemory w v
  pub picked : (image : Image) (pick : ℕ → ℕ) (n : ℕ) (w v : World) (items : List Item) → TurnsFor image pick n w v items → KeepsMemory w v
