-- Turns of the ABI machine with one choice of slots, and what may be kept between them.
use Rattle.std.specs.Prelude.{◌≡◌, ℕ, ◌+◌, ◌≤◌, List}
use Rattle.run_items.specs.declared.item.Item.{Item}
use Rattle.cxa_runtime.specs.declared.effect.End.{End}
use Rattle.cxa_runtime.specs.Raising.{Image}
use Rattle.cxa_runtime.specs.Run.{run}
use Rattle.cxa_runtime.specs.World as abi
use Rattle.linear_forms.specs.Activation.{State}
use Rattle.machine_pieces.specs.Turning.{with_items}

-- what holds of a state of the machine for linear code and a world of the ABI machine, behind so many turns
abbrev pub Invariant : Type 1
Invariant = ℕ → State → abi.World → Type 0

-- so many turns lead from a world to another and show items, however many turns follow; a forced unwind may begin in them
pub record Made (image : Image) (pick : ℕ → ℕ) (turns : ℕ) (w v : abi.World) (items : List Item) : Type 0 where
  pub run : (k : ℕ) → run image pick (turns + k) w ≡ with_items items (run image pick k v)

-- a run from this world shows these items and ends so, where its turns suffice
pub record EndsSo (image : Image) (pick : ℕ → ℕ) (w : abi.World) (items : List Item) (end : End) : Type 0 where
  pub turns : ℕ
  pub shows : (n : ℕ) → turns ≤ n → (run image pick n w).items ≡ items
  pub ends : (n : ℕ) → turns ≤ n → (run image pick n w).end ≡ end
