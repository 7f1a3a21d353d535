-- A forced unwind comes out of the unexpected handler.
use Rattle.std.specs.Prelude.{◌≡◌, pos, []}
use Rattle.cxa_runtime.specs.World as abi
use Rattle.cxa_runtime.specs.Raising.{Image}
use Rattle.linear_forms.specs.Activation.{State, goes_to}
use Rattle.linear_forms.specs.Machine.{step}
use Rattle.linear_forms.specs.UnitRun.{code_of}
use Rattle.machine_pieces.specs.Turning.{Reaches}
use Rattle.machine_simulation.specs.Plan.{Plan}
use Rattle.stub_landings.specs.Rests.{ChecksThrown}
use Rattle.own_ends.specs.Leaving.{CatchBegins}

-- call_unexpected is at its second `leave`
abbrev pub at_second : State → State
at_second st = record { top = record { function = st.top.function; place = 16; frame = st.top.frame }; frames = st.frames; world = st.world }

-- Where the selector is 0, one step leads to call_unexpected's second `leave`, which leaves the exception that was stopped, and within eight turns end_catch
-- is called there.
abbrev pub CanceledLeaves : Type 0
CanceledLeaves = (image : Image) (p : Plan) (st : State) (w : abi.World) → (h : ChecksThrown p st w) → h.filter ≡ pos 0 → (step (code_of p.unit) st ≡ goes_to (at_second st)) × Reaches image 8 w [] (λ u. CatchBegins p 16 57 (at_second st) u)
