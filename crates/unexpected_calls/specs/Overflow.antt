-- The unexpected handler finds no room for its frame.
use Rattle.std.specs.Prelude.{◌≡◌, ℕ, ◌+◌, ◌<◌, ◌≤◌, ℤ, List, [], ◌∷◌, length, Option, Some, false}
use Rattle.meaning_forms.specs.World.{Installed}
use Rattle.run_items.specs.declared.item.Item.TheVariants.{Enter}
use Rattle.cxa_runtime.specs.declared.effect.End.TheVariants.{Stack}
use Rattle.cxa_runtime.specs.World as abi
use Rattle.cxa_runtime.specs.Raising.{Image}
use Rattle.linear_forms.specs.Linear.{unexpected}
use Rattle.linear_forms.specs.Activation.{Activation, State}
use Rattle.linear_forms.specs.UnitRun.{code_of}
use Rattle.machine_forms.specs.LinearCode.{linear_code}
use Rattle.machine_simulation.specs.Plan.{Plan, shape}
use Rattle.machine_simulation.specs.Calls.{open_bytes}
use Rattle.machine_simulation.specs.Matches.{Matches}
use Rattle.machine_simulation.specs.Objects.{Shows}
use Rattle.machine_exceptions.specs.Leaves.{StepsTo}
use Rattle.machine_exceptions.specs.Terminates.{waiting_terminate}
use Rattle.raise_ends.specs.Ends.{RunEnds}
use Rattle.unexpected_calls.specs.Begins.{AtStopped, waiting_unexpected, in_unexpected_handler}

-- the stack has no room for a handler below these calls, which looks for it, since it calls something
pub record HandlerLacksRoom (p : Plan) (m : ℕ) (active : List Activation) : Type 0 where
  pub looks : (shape p m).leaf ≡ false
  pub lacks : 0x100_0000 < open_bytes p active + (shape p m).size + 0x1000

-- nor for terminate and its handler
abbrev pub TerminateLacksRoom : Plan → ℕ → State → Type 0
TerminateLacksRoom p m waiting = HandlerLacksRoom p m (waiting_terminate m ∷ waiting.top ∷ waiting.frames)

-- Where linear code comes to the handler's first operation, the run of the ABI machine shows as much, and ends for want of stack.
abbrev pub UnexpectedHandlersOverflow : Type 0
UnexpectedHandlersOverflow = (image : Image) (pick : ℕ → ℕ) (k : ℕ) (p : Plan) (n o s e : ℕ) (z : ℤ) (type : ℕ) (d : Option ℕ) (kept : Installed) (m : ℕ) (st : State) (w : abi.World) → Matches p st w → AtStopped p n o s e z type d kept st w →
    kept.unexpected_handler ≡ Some m → HandlerLacksRoom p m (waiting_unexpected n o s m st ∷ st.top ∷ st.frames) → length (linear_code (shape p n) (unexpected o s)) + 16 ≤ k →
    let next = in_unexpected_handler p n o s e m st in let items = Enter e ∷ [] in StepsTo (code_of p.unit) 3 st next × Shows st next items × RunEnds image pick k w items Stack
