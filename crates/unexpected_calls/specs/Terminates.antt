-- call_unexpected terminates the program: there is no unexpected handler, or it comes back.
use Rattle.std.specs.Prelude.{◌≡◌, ℕ, ◌+◌, ◌≤◌, false, ℤ, List, [], ◌∷◌, ◌++◌, length, Option, Some, None}
use Rattle.meaning_forms.specs.Class.{contains}
use Rattle.meaning_forms.specs.World.{Installed}
use Rattle.meaning_forms.specs.Outcome.{aborted}
use Rattle.run_items.specs.declared.item.Item.{Item}
use Rattle.run_items.specs.declared.item.Item.TheVariants.{Enter}
use Rattle.cxa_runtime.specs.declared.effect.End.TheVariants.{Aborted}
use Rattle.cxa_runtime.specs.World as abi
use Rattle.cxa_runtime.specs.Raising.{Image}
use Rattle.region_forms.specs.World.{World, native, object_address, address_in}
use Rattle.linear_forms.specs.Linear.{unexpected, return}
use Rattle.linear_forms.specs.Stub.{compiled, call_unexpected, terminating}
use Rattle.linear_forms.specs.Activation.{Activation, State, by_program}
use Rattle.linear_forms.specs.Machine.{over, exec}
use Rattle.linear_forms.specs.UnitRun.{code_of}
use Rattle.machine_forms.specs.LinearCode.{linear_code}
use Rattle.machine_pieces.specs.Turning.{Reaches}
use Rattle.machine_stubs.specs.Stretches.{stub_word}
use Rattle.machine_simulation.specs.Plan.{Plan, shape}
use Rattle.machine_simulation.specs.Exceptions.{destroyed, live_in}
use Rattle.machine_simulation.specs.Matches.{Matches}
use Rattle.machine_simulation.specs.Objects.{Shows}
use Rattle.machine_simulation.specs.Returns.{ResultStands, closed}
use Rattle.machine_simulation.specs.Steps.{StepAt}
use Rattle.machine_exceptions.specs.Leaves.{StepsTo}
use Rattle.machine_exceptions.specs.Terminates.{in_handler}
use Rattle.raise_ends.specs.Ends.{RunEnds, NoneIsCalled, HandlerFits, plan_in_handler}
use Rattle.unexpected_calls.specs.Begins.{AtStopped, in_stopped}
use Rattle.machine_simulation.specs.Entering.{entry_turns}

-- both machines abort, that for linear code within so many steps, and show these items
pub record BothAbort (image : Image) (pick : ℕ → ℕ) (k : ℕ) (p : Plan) (steps : ℕ) (st : State) (w : abi.World) (items : List Item) : Type 0 where
  pub last : World
  pub linear : exec (code_of p.unit) steps st ≡ over (by_program aborted) last
  pub shown : last.items ≡ st.world.items ++ items
  pub run : RunEnds image pick k w items Aborted

-- the image's runtime names terminate
abbrev pub NamesTerminate : Image → Plan → Type 0
NamesTerminate image p = image.places.terminate ≡ stub_word p.base terminating 0

-- The unexpected handler, a compiled function, returns to call_unexpected, which waits for it above the call whose specification stopped the
-- exception. That is live, since it is handled.
pub record HandlerReturns (p : Plan) (n m e : ℕ) (r : Option ℕ) (type : ℕ) (d : Option ℕ) (kept : Installed) (waiting a : Activation) (fs : List Activation) (st middle : State) : Type 0 where
  pub at : StepAt p st middle n (return r)
  pub result : ResultStands p n st.top.frame r
  pub frames : st.frames ≡ waiting ∷ a ∷ fs
  pub stub : waiting.function ≡ call_unexpected
  pub place : waiting.place ≡ 1
  pub caller : a.function ≡ compiled m
  pub object : address_in (waiting.frame.slots 0) ≡ Some (object_address e)
  pub native : live_in st.world.live e ≡ Some (native type d kept)
  pub whole : contains (destroyed fs) e ≡ false

-- the state in which it has come back
abbrev pub came_back : (waiting a : Activation) (fs : List Activation) → State → State
came_back waiting a fs st = record { top = record { function = waiting.function; place = 2; frame = waiting.frame }; frames = a ∷ fs; world = st.world }

-- Without an unexpected handler, and where that has come back, the terminate handler kept with the exception begins; where there is none, or where
-- terminate runs already, both machines abort.
pub record UnexpectedTerminates : Type 0 where
  pub calls_without : (image : Image) (p : Plan) (n o s e : ℕ) (z : ℤ) (type : ℕ) (d : Option ℕ) (kept : Installed) (m : ℕ) (st : State) (w : abi.World) → Matches p st w → AtStopped p n o s e z type d kept st w → kept.unexpected_handler ≡ None →
      NamesTerminate image p → st.world.ending ≡ false → kept.terminate_handler ≡ Some m → p.hidden ≡ 0 → let waiting = in_stopped n o s e 2 None st in HandlerFits p m waiting → let next = in_handler p m waiting in let items = Enter e ∷ [] in
      StepsTo (code_of p.unit) 5 st next × Shows st next items × Reaches image (length (linear_code (shape p n) (unexpected o s)) + 18 + entry_turns p m) w items (λ u. Matches (plan_in_handler p m waiting) next u)
  pub aborts_without : (image : Image) (pick : ℕ → ℕ) (k : ℕ) (p : Plan) (n o s e : ℕ) (z : ℤ) (type : ℕ) (d : Option ℕ) (kept : Installed) (st : State) (w : abi.World) → Matches p st w → AtStopped p n o s e z type d kept st w →
      kept.unexpected_handler ≡ None → NamesTerminate image p → NoneIsCalled st.world kept.terminate_handler → length (linear_code (shape p n) (unexpected o s)) + 19 ≤ k → BothAbort image pick k p 6 st w (Enter e ∷ [])
  pub calls_behind : (image : Image) (p : Plan) (n c e : ℕ) (r : Option ℕ) (type : ℕ) (d : Option ℕ) (kept : Installed) (m : ℕ) (waiting a : Activation) (fs : List Activation) (st middle : State) (w : abi.World) → Matches p st w →
      HandlerReturns p n c e r type d kept waiting a fs st middle → NamesTerminate image p → st.world.ending ≡ false → kept.terminate_handler ≡ Some m → p.hidden ≡ 0 → let back = came_back waiting a fs st in HandlerFits p m back →
      let next = in_handler p m back in StepsTo (code_of p.unit) 3 st next × Shows st next [] × Reaches image (length (linear_code (shape p n) (return r)) + 9 + entry_turns p m) w [] (λ u. Matches (plan_in_handler (closed p a.frame.call) m back) next u)
  pub aborts_behind : (image : Image) (pick : ℕ → ℕ) (k : ℕ) (p : Plan) (n c e : ℕ) (r : Option ℕ) (type : ℕ) (d : Option ℕ) (kept : Installed) (waiting a : Activation) (fs : List Activation) (st middle : State) (w : abi.World) → Matches p st w →
      HandlerReturns p n c e r type d kept waiting a fs st middle → NamesTerminate image p → NoneIsCalled st.world kept.terminate_handler → length (linear_code (shape p n) (return r)) + 10 ≤ k → BothAbort image pick k p 4 st w []
