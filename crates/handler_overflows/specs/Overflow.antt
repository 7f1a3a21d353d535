-- The terminate handler that begins in linear code finds no room for its frame on the stack.
use Rattle.std.specs.Prelude.{◌≡◌, ℕ, ◌+◌, ◌<◌, false, List, ◌∷◌}
use Rattle.run_items.specs.declared.item.Item.{Item}
use Rattle.cxa_runtime.specs.declared.effect.End.TheVariants.{Stack}
use Rattle.cxa_runtime.specs.World as abi
use Rattle.cxa_runtime.specs.Raising.{Image}
use Rattle.linear_forms.specs.Activation.{State}
use Rattle.machine_simulation.specs.Plan.{Plan, shape}
use Rattle.machine_simulation.specs.Calls.{open_bytes}
use Rattle.machine_exceptions.specs.Terminates.{waiting_terminate}
use Rattle.raise_ends.specs.Ends.{RunEnds, HandlerBegins}

-- the stack has no room for the frames of terminate and of its handler, which looks for it, since it calls something
pub record HandlerLacksRoom (p : Plan) (m : ℕ) (st : State) : Type 0 where
  pub looks : (shape p m).leaf ≡ false
  pub lacks : 0x100_0000 < open_bytes p (waiting_terminate m ∷ st.top ∷ st.frames) + (shape p m).size + 0x1000

-- Two steps of linear code lead to the handler's first operation, where these calls wait, and show these items; the run of the ABI machine shows
-- the same, and ends for want of stack.
abbrev pub HandlerOverflows : Image → (pick : ℕ → ℕ) → ℕ → Plan → ℕ → (st waiting : State) → abi.World → List Item → Type 0
HandlerOverflows image pick k p m st waiting w items = HandlerBegins p m st waiting items × RunEnds image pick k w items Stack
