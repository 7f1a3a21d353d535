-- call_unexpected leaves the handlers of the exceptions that it entered: it calls end_catch.
use Rattle.std.specs.Prelude.{◌≡◌, ℕ, pos, List, [], ◌∷◌, length}
use Rattle.rv64_isa.specs.Step.{x}
use Rattle.cxa_runtime.specs.World as abi
use Rattle.cxa_runtime.specs.Raising.{Image}
use Rattle.region_forms.specs.World.{nothing, number_word}
use Rattle.linear_forms.specs.Stub.{compiled, end_catch, call_unexpected}
use Rattle.linear_forms.specs.Activation.{Activation, State, stub_frame}
use Rattle.linear_forms.specs.UnitRun.{code_of}
use Rattle.machine_forms.specs.Registers.{ra, sp}
use Rattle.machine_pieces.specs.Turning.{Reaches, SameRuntime}
use Rattle.machine_stubs.specs.Stretches.{stub_word}
use Rattle.machine_simulation.specs.Plan.{Plan}
use Rattle.machine_simulation.specs.StubCalls.{LeavingWaits}
use Rattle.machine_simulation.specs.Matches.{RuntimeMatches}
use Rattle.machine_exceptions.specs.Leaves.{StepsTo}
use Rattle.stub_landings.specs.Rests.{StubMemory, ChecksThrown, LeavesBoth, LeavesOn, StubRegisters}
use Rattle.machine_pieces.specs.Keeping.{saved_of}

-- call_unexpected was called by a compiled function
pub record CalledByCompiled (st : State) : Type 0 where
  pub number : ℕ
  pub caller : Activation
  pub others : List Activation
  pub frames : st.frames ≡ caller ∷ others
  pub compiled : caller.function ≡ compiled number

-- call_unexpected at the place of a `leave`, and the state in which that has called end_catch
abbrev pub leaving_at : ℕ → State → Activation
leaving_at place st = record { function = call_unexpected; place = place; frame = st.top.frame }

abbrev pub in_end_catch : ℕ → State → State
in_end_catch place st = record {
  top = record { function = end_catch; place = 0; frame = stub_frame nothing nothing nothing };
  frames = leaving_at place st ∷ st.frames;
  world = st.world;
}

-- The hart is at the first word of end_catch, which returns to the word behind the call in call_unexpected, whose frame begins at sp; below sp is
-- nothing yet. What the runtime keeps is as the world says, and no destructor runs but those that waiting calls wait for.
pub record AtEndCatch (p : Plan) (waiting : Activation) (fs : List Activation) (st : State) (w : abi.World) : Type 0 where
  pub back : ℕ
  pub runs : st.top.function ≡ end_catch
  pub place : st.top.place ≡ 0
  pub frames : st.frames ≡ waiting ∷ fs
  pub registers : length w.hart.regs ≡ 32
  pub pc : w.hart.pc ≡ stub_word p.base end_catch 0
  pub memory : StubMemory p call_unexpected fs st.world w.hart.memory (x w.hart sp) back
  pub waits : LeavingWaits p waiting st.world w.hart.memory (x w.hart sp) (x w.hart ra)
  pub kept : StubRegisters p call_unexpected fs st.world w.hart.memory (x w.hart sp) (saved_of w.hart)
  pub runtime : RuntimeMatches p st.frames st.world w

-- so many steps lead there, and so many turns at most; the runtime keeps what it kept
pub record CallsEndCatch (image : Image) (p : Plan) (steps most place : ℕ) (st : State) (w : abi.World) : Type 0 where
  pub linear : StepsTo (code_of p.unit) steps st (in_end_catch place st)
  pub machine : Reaches image most w [] (λ u. AtEndCatch p (leaving_at place st) st.frames (in_end_catch place st) u × SameRuntime w u)

-- A forced unwind that comes out of the unexpected handler, with the selector 0, leaves the exception that was stopped. What call_unexpected throws
-- in the end leaves the exception that came out of the handler, and behind that the one that was stopped.
pub record UnexpectedLeaves : Type 0 where
  pub canceled : (image : Image) (p : Plan) (st : State) (w : abi.World) → ChecksThrown p st w → CalledByCompiled st → st.top.frame.slots 5 ≡ number_word (pos 0) → CallsEndCatch image p 2 8 16 st w
  pub both : (image : Image) (p : Plan) (st : State) (w : abi.World) → LeavesBoth p st w → CalledByCompiled st → CallsEndCatch image p 1 4 15 st w
  pub second : (image : Image) (p : Plan) (st : State) (w : abi.World) → LeavesOn p 55 16 st w → CalledByCompiled st → CallsEndCatch image p 1 2 16 st w
