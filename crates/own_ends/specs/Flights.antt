-- What goes on from one of the runtime's own functions.
use Rattle.std.specs.Prelude.{◌≡◌, ℕ, false, ℤ, ◌∷◌, Some}
use Rattle.meaning_forms.specs.Class.{contains}
use Rattle.rv64_isa.specs.Step.{x}
use Rattle.cxa_runtime.specs.World as abi
use Rattle.region_forms.specs.World.{flying, unwinding, Exception, exception_type}
use Rattle.linear_forms.specs.Activation.{State}
use Rattle.linear_forms.specs.UnitRun.{code_of}
use Rattle.machine_forms.specs.Registers.{sp}
use Rattle.exceptions_in_flight.specs.Targets.{HasTarget}
use Rattle.machine_simulation.specs.Plan.{Plan}
use Rattle.machine_simulation.specs.Exceptions.{destroyed, live_in}
use Rattle.machine_exceptions.specs.Enters.{IsThrown}
use Rattle.machine_raises.specs.Targets.{target_end}
use Rattle.machine_raises.specs.Throws.{AimedAt}
use Rattle.machine_raises.specs.Resumes.{TypeIsThere}

-- A slot of the call that runs holds an exception on its way: it is live and was thrown, no destructor of it runs, and its type is there. From the place
-- where the call goes on it has its target, and so says its header.
pub record FliesOn (p : Plan) (st : State) (w : abi.World) (slot home e d : ℕ) : Type 0 where
  pub is : st.top.frame.slots slot ≡ flying e d
  pub exception : Exception
  pub live : live_in st.world.live e ≡ Some exception
  pub thrown : IsThrown exception
  pub whole : contains (destroyed (st.top ∷ st.frames)) e ≡ false
  pub type : TypeIsThere p (exception_type exception)
  pub target : HasTarget (code_of p.unit) (exception_type exception) d (record { function = st.top.function; place = home; frame = st.top.frame } ∷ st.frames)
  pub aimed : AimedAt w e (target_end p d (x w.hart sp) (st.top ∷ st.frames))

-- or the number of the forced unwind that is on
pub record UnwindsOn (st : State) (w : abi.World) (slot : ℕ) (k : ℤ) : Type 0 where
  pub is : st.top.frame.slots slot ≡ unwinding k
  pub on : w.unwinding ≡ Some k
