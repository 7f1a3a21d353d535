-- What holds of the runs of a program under different budgets.
use Rattle.std.specs.Prelude.{◌≡◌, ◌+◌, ◌++◌, ℕ, List}
use Rattle.run_items.specs.declared.item.Item.{Item}
use Rattle.cxa_runtime.specs.declared.effect.End.TheVariants.{Budget}
use Rattle.cxa_runtime.specs.Raising.{Image}
use Rattle.cxa_runtime.specs.Run.{Ran, run}
use Rattle.cxa_runtime.specs.World.{World}

-- one run begins as the other, and where that has ended they are the same
pub record GoesOn (short long : Ran) : Type 0 where
  pub front : (more : List Item) × (long.items ≡ short.items ++ more)
  pub ended : (short.end ≡ Budget → ⊥) → long ≡ short

-- with the same choices of slots
abbrev pub BudgetsGoOn : Type 0
BudgetsGoOn = (image : Image) (pick : ℕ → ℕ) (n m : ℕ) (w : World) → GoesOn (run image pick n w) (run image pick (n + m) w)
