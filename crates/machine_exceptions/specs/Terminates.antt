-- The program terminates: its handler is called, or the run aborts.
use Rattle.std.specs.Prelude.{◌≡◌, ◌⊎◌, ℕ, ◌+◌, ◌≤◌, true, false, List, [], ◌∷◌, length, slice_get, Option, Some, None}
use Rattle.cxx_ast.specs.declared.name.Builtin.TheVariants.{Terminate}
use Rattle.meaning_forms.specs.Outcome.{aborted}
use Rattle.cxa_runtime.specs.declared.effect.End.TheVariants.{Aborted}
use Rattle.cxa_runtime.specs.World as abi
use Rattle.cxa_runtime.specs.Raising.{Image}
use Rattle.cxa_runtime.specs.Run.{run}
use Rattle.region_forms.specs.Form.{no_arguments, make, rethrow, enter}
use Rattle.region_forms.specs.Lives.{may_enter}
use Rattle.region_forms.specs.Caught.{Entry}
use Rattle.region_forms.specs.World.{World, nothing}
use Rattle.region_forms.specs.Effect.{is_full, new_frame, new_world}
use Rattle.linear_forms.specs.Linear.{LinearOp, plain, return}
use Rattle.linear_forms.specs.Stub.{compiled, terminating}
use Rattle.linear_forms.specs.Activation.{Activation, State, by_program, depth_of, stub_frame, function_word}
use Rattle.linear_forms.specs.Machine.{over, exec}
use Rattle.linear_forms.specs.UnitRun.{code_of}
use Rattle.machine_forms.specs.LinearCode.{linear_code}
use Rattle.machine_pieces.specs.Turning.{Reaches}
use Rattle.machine_stubs.specs.Stretches.{stub_word}
use Rattle.machine_simulation.specs.Plan.{Plan, function, shape, slot_kinds}
use Rattle.machine_simulation.specs.Calls.{open_bytes}
use Rattle.machine_simulation.specs.Matches.{Matches}
use Rattle.machine_simulation.specs.Steps.{StepAt}
use Rattle.machine_simulation.specs.Entering.{opened, frame_for, begin_room, entry_turns}
use Rattle.machine_simulation.specs.Returns.{ResultStands}
use Rattle.machine_exceptions.specs.Answers.{CallsBuiltin}
use Rattle.machine_simulation.specs.Objects.{HoldsObject}
use Rattle.machine_exceptions.specs.Enters.{MayEnter, is_crowded}
use Rattle.machine_exceptions.specs.Leaves.{StepsTo}

-- no handler has an exception that could be thrown again
abbrev pub IsNothing : List Entry → Type 0
IsNothing [] = Unit {0}
IsNothing (x ∷ xs) = x.again ≡ true

-- An operation terminates: it calls terminate, makes an exception where as many as can be are live, throws again what there is not, or enters
-- a foreign exception while another is handled.
abbrev pub TerminatesAtOnce : World → LinearOp → Type 0
TerminatesAtOnce v o = CallsBuiltin Terminate no_arguments None o ⊎ ((s : ℕ) × (o ≡ plain (make s)) × (is_full v ≡ true)) ⊎ ((o ≡ plain rethrow) × IsNothing v.caught)

pub record EntersCrowded (p : Plan) (n : ℕ) (st : State) (o : LinearOp) : Type 0 where
  pub slot : ℕ
  pub number : ℕ
  pub is : o ≡ plain (enter slot)
  pub holds : HoldsObject p n st.top.frame slot number
  pub defined : may_enter st.world number ≡ true
  pub may : MayEnter st.frames st.world number
  pub crowded : is_crowded st.world number ≡ true

-- a call of a compiled function is at such an operation
pub record AtTerminating (image : Image) (p : Plan) (n : ℕ) (st : State) : Type 0 where
  pub operation : LinearOp
  pub runs : st.top.function ≡ compiled n
  pub there : slice_get (function p n).ops st.top.place ≡ Some operation
  pub terminates : TerminatesAtOnce st.world operation ⊎ EntersCrowded p n st operation
  pub named : image.places.terminate ≡ stub_word p.base terminating 0

-- terminate waits for its handler; the state in which the handler begins
abbrev pub waiting_terminate : ℕ → Activation
waiting_terminate m = record { function = terminating; place = 0; frame = stub_frame (function_word (Some m)) nothing nothing }

abbrev pub ending_world : World → World
ending_world v = record v { ending = true }

abbrev pub in_handler : Plan → ℕ → State → State
in_handler p m st =
    let active = waiting_terminate m ∷ st.top ∷ st.frames in
    let v = ending_world st.world in
    record { top = record { function = compiled m; place = 0; frame = new_frame (slot_kinds p m) [] v }; frames = active; world = new_world (slot_kinds p m) [] (depth_of active + 1) v }

-- A handler has no parameter, and the stack has room for it below the calls that wait.
pub record HandlerFits (p : Plan) (m : ℕ) (active : List Activation) : Type 0 where
  pub taken : 0 ≡ (function p m).parameters
  pub room : open_bytes p active + begin_room (shape p m).leaf (shape p m).size ≤ 0x100_0000

-- the run aborts, and shows nothing more
abbrev pub RunAborts : Image → (pick : ℕ → ℕ) → ℕ → abi.World → Type 0
RunAborts image pick k w = ((run image pick k w).items ≡ []) × ((run image pick k w).end ≡ Aborted)

-- a run of so many steps of the machine for linear code aborts, and shows nothing more
abbrev pub LinearAborts : Plan → ℕ → State → Type 0
LinearAborts p k st = (v : World) × (exec (code_of p.unit) k st ≡ over (by_program aborted) v) × (v.items ≡ st.world.items)

-- Where a handler is in effect and terminate does not run yet, two steps lead to the handler's first operation, and are matched by at most
-- nine turns and those of its beginning beside those of the operation's words; nothing is hidden below the frame of terminate. Without a handler, or where terminate
-- runs already, both machines abort. And so they do where the handler comes back.
pub record TerminatesRun : Type 0 where
  pub calls_the_handler : (image : Image) (p : Plan) (n m : ℕ) (st : State) (w : abi.World) → Matches p st w → (at : AtTerminating image p n st) → st.world.ending ≡ false → st.world.installed.terminate_handler ≡ Some m → p.hidden ≡ 0 →
      let active = waiting_terminate m ∷ st.top ∷ st.frames in HandlerFits p m active → let next = in_handler p m st in
      StepsTo (code_of p.unit) 2 st next × (next.world.items ≡ st.world.items) × Reaches image (length (linear_code (shape p n) at.operation) + 9 + entry_turns p m) w [] (λ u. Matches (opened p m st.world.calls (frame_for p m active)) next u)
  pub aborts : (image : Image) (pick : ℕ → ℕ) (k : ℕ) (p : Plan) (n : ℕ) (st : State) (w : abi.World) → Matches p st w → (at : AtTerminating image p n st) → (st.world.ending ≡ true) ⊎ (st.world.installed.terminate_handler ≡ None) →
      length (linear_code (shape p n) at.operation) + 10 ≤ k → LinearAborts p 3 st × RunAborts image pick k w
  pub aborts_behind : (image : Image) (pick : ℕ → ℕ) (k : ℕ) (p : Plan) (n : ℕ) (st middle : State) (waiting : Activation) (fs : List Activation) (r : Option ℕ) (w : abi.World) → Matches p st w → StepAt p st middle n (return r) →
      st.frames ≡ waiting ∷ fs → waiting.function ≡ terminating → ResultStands p n st.top.frame r → length (linear_code (shape p n) (return r)) + 2 ≤ k → LinearAborts p 2 st × RunAborts image pick k w
