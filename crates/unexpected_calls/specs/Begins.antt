-- A specification stops an exception, and the unexpected handler kept with it begins.
use Rattle.std.specs.Prelude.{◌≡◌, ℕ, ◌+◌, ◌^◌, ◌<◌, true, ℤ, [], ◌∷◌, length, Option, Some}
use Rattle.meaning_forms.specs.World.{Installed}
use Rattle.run_items.specs.declared.item.Item.TheVariants.{Enter}
use Rattle.cxa_runtime.specs.World as abi
use Rattle.cxa_runtime.specs.Raising.{Image}
use Rattle.region_forms.specs.Lives.{may_enter}
use Rattle.region_forms.specs.World.{Frame, with_slot, native}
use Rattle.region_forms.specs.Effect.{entered, new_frame, new_world}
use Rattle.linear_forms.specs.Linear.{unexpected}
use Rattle.linear_forms.specs.Stub.{compiled, call_unexpected}
use Rattle.linear_forms.specs.Activation.{Activation, State, depth_of, stub_frame, function_word}
use Rattle.linear_forms.specs.UnitRun.{code_of}
use Rattle.machine_forms.specs.LinearCode.{linear_code}
use Rattle.machine_pieces.specs.Turning.{Reaches}
use Rattle.machine_simulation.specs.Plan.{Plan, shape, slot_kinds}
use Rattle.machine_simulation.specs.Exceptions.{live_in, HasHeader}
use Rattle.machine_simulation.specs.Matches.{Matches}
use Rattle.machine_simulation.specs.Entering.{opened, frame_for, entry_turns}
use Rattle.machine_exceptions.specs.Terminates.{HandlerFits}
use Rattle.machine_simulation.specs.Objects.{Shows}
use Rattle.machine_exceptions.specs.Enters.{MayEnter}
use Rattle.machine_exceptions.specs.Leaves.{StepsTo}
use Rattle.machine_exceptions.specs.Unexpected.{AtUnexpected}

-- A specification of a compiled function has stopped an exception of this language, which may be entered, and its header has the address of that
-- function's exception table.
pub record AtStopped (p : Plan) (n o s e : ℕ) (z : ℤ) (type : ℕ) (d : Option ℕ) (kept : Installed) (st : State) (w : abi.World) : Type 0 where
  pub at : AtUnexpected p n o s e z st
  pub native : live_in st.world.live e ≡ Some (native type d kept)
  pub defined : may_enter st.world e ≡ true
  pub may : MayEnter st.frames st.world e
  pub slot : ℕ
  pub has : HasHeader w.exceptions.live e slot
  pub table : has.header.lsda ≡ p.tables n
  pub near : p.tables n < 2 ^ 64

-- the frame of call_unexpected, where the exception is entered and the handler kept with it is known
abbrev pub stopped_frame : (n o s : ℕ) → Option ℕ → State → Frame
stopped_frame n o s h st = with_slot 3 (function_word h) (stub_frame (st.top.frame.slots o) (st.top.frame.slots s) (function_word (Some n)))

-- the state at a place of it
abbrev pub in_stopped : (n o s e place : ℕ) → Option ℕ → State → State
in_stopped n o s e place h st = record {
  top = record { function = call_unexpected; place = place; frame = stopped_frame n o s h st };
  frames = st.top ∷ st.frames;
  world = entered e st.world;
}

-- it waits for the handler; the state in which that begins
abbrev pub waiting_unexpected : (n o s m : ℕ) → State → Activation
waiting_unexpected n o s m st = record { function = call_unexpected; place = 1; frame = stopped_frame n o s (Some m) st }

abbrev pub in_unexpected_handler : Plan → (n o s e m : ℕ) → State → State
in_unexpected_handler p n o s e m st =
    let active = waiting_unexpected n o s m st ∷ st.top ∷ st.frames in
    let v = entered e st.world in
    record { top = record { function = compiled m; place = 0; frame = new_frame (slot_kinds p m) [] v }; frames = active; world = new_world (slot_kinds p m) [] (depth_of active + 1) v }

-- Three steps lead from the operation to the first one of the unexpected handler that is kept with the exception, and are matched. They show that
-- the exception is entered.
abbrev pub UnexpectedHandlersBegin : Type 0
UnexpectedHandlersBegin = (image : Image) (p : Plan) (n o s e : ℕ) (z : ℤ) (type : ℕ) (d : Option ℕ) (kept : Installed) (m : ℕ) (st : State) (w : abi.World) → Matches p st w → AtStopped p n o s e z type d kept st w → kept.unexpected_handler ≡ Some m →
    let active = waiting_unexpected n o s m st ∷ st.top ∷ st.frames in HandlerFits p m active →
    let next = in_unexpected_handler p n o s e m st in let items = Enter e ∷ [] in
    StepsTo (code_of p.unit) 3 st next × Shows st next items × Reaches image (length (linear_code (shape p n) (unexpected o s)) + 10 + entry_turns p m) w items (λ u. Matches (opened p m st.world.calls (frame_for p m active)) next u)
