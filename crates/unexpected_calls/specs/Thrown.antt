-- An exception comes out of the unexpected handler: call_unexpected enters it, and asks the list about it (ISO/IEC 14882:2003, 15.5.2).
use Rattle.std.specs.Prelude.{◌≡◌, ℕ, ◌<◌, ℤ, pos, negsuc, true, length, Option, Some}
use Rattle.meaning_forms.specs.World.{Installed}
use Rattle.elf_image.specs.Clean.{CleanImage}
use Rattle.cxa_runtime.specs.World as abi
use Rattle.eh_run.specs.Program.{program_of}
use Rattle.region_forms.specs.Ending.{bad_row}
use Rattle.region_forms.specs.Lives.{may_enter}
use Rattle.region_forms.specs.World.{flying, native, number_word, with_slot}
use Rattle.region_forms.specs.Effect.{entered}
use Rattle.linear_forms.specs.Stub.{call_unexpected}
use Rattle.linear_forms.specs.StubOperation.{checked}
use Rattle.linear_forms.specs.Activation.{State}
use Rattle.linear_forms.specs.UnitRun.{code_of}
use Rattle.machine_stubs.specs.CallUnexpected.{bad_record}
use Rattle.machine_simulation.specs.Plan.{Plan}
use Rattle.machine_simulation.specs.Exceptions.{live_in}
use Rattle.machine_exceptions.specs.Enters.{MayEnter}
use Rattle.machine_raises.specs.Stacks.{IsRunning}
use Rattle.machine_raises.specs.Resumes.{TypeIsThere}
use Rattle.stub_landings.specs.Rests.{ChecksThrown}
use Rattle.unexpected_calls.specs.Leaves.{CalledByCompiled}
use Rattle.unexpected_calls.specs.Lists.{HasFilter}

-- call_unexpected rests behind its first pad with an exception of this language, which may be entered. What it keeps names a list of a function of
-- the unit, which is in a chain of its sites.
pub record ThrownOut (i : CleanImage) (p : Plan) (e d type : ℕ) (destructor : Option ℕ) (kept : Installed) (j : ℕ) (st : State) (w : abi.World) : Type 0 where
  pub rests : ChecksThrown p st w
  pub called : CalledByCompiled st
  pub running : IsRunning p i w.hart
  pub flies : st.top.frame.slots 4 ≡ flying e d
  pub selector : st.top.frame.slots 5 ≡ number_word (pos 1)
  pub native : live_in st.world.live e ≡ Some (native type destructor kept)
  pub type_is : TypeIsThere p (Some type)
  pub defined : may_enter st.world e ≡ true
  pub may : MayEnter st.frames st.world e
  pub list : rests.kept.selector ≡ negsuc j
  pub known : rests.kept.owner < length p.unit.functions
  pub filter : HasFilter p.unit rests.kept.owner (negsuc j)
  pub bad : bad_row < length p.unit.types
  pub named : (program_of i).image.places.bad_exception ≡ bad_record p.base

-- what the list says of it: it is allowed, bad_exception is listed, or neither
abbrev pub list_says : Plan → (owner j type : ℕ) → ℤ
list_says p owner j type = checked p.unit.types ((code_of p.unit).sense_at owner (negsuc j)) (Some type)

-- the state at a place of call_unexpected behind the check
abbrev pub checked_state : (place e : ℕ) → ℤ → State → State
checked_state place e answer st = record {
  top = record { function = call_unexpected; place = place; frame = with_slot 6 (number_word answer) st.top.frame };
  frames = st.frames;
  world = entered e st.world;
}
