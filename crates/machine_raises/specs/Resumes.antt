-- An exception that was stopped for a cleanup goes on.
use Rattle.std.specs.Prelude.{⊤, ◌≡◌, ℕ, ◌+◌, ◌^◌, ◌<◌, false, [], ◌∷◌, length, Option, Some, None}
use Rattle.meaning_forms.specs.Class.{contains}
use Rattle.rv64_isa.specs.Step.{x}
use Rattle.elf_image.specs.Clean.{CleanImage}
use Rattle.cxa_runtime.specs.World as abi
use Rattle.eh_run.specs.Program.{program_of}
use Rattle.region_forms.specs.World.{flying, Exception, exception_type}
use Rattle.linear_forms.specs.Linear.{resume}
use Rattle.linear_forms.specs.Stub.{compiled}
use Rattle.linear_forms.specs.Activation.{State}
use Rattle.linear_forms.specs.UnitRun.{code_of}
use Rattle.machine_forms.specs.Registers.{sp}
use Rattle.machine_forms.specs.Shape.{slot_offset}
use Rattle.machine_forms.specs.LinearCode.{linear_code}
use Rattle.table_verdicts.specs.Types.{ChainEnds}
use Rattle.exceptions_in_flight.specs.Targets.{HasTarget}
use Rattle.machine_simulation.specs.Plan.{Plan, shape}
use Rattle.machine_simulation.specs.Exceptions.{destroyed, live_in}
use Rattle.machine_simulation.specs.Matches.{Matches}
use Rattle.machine_simulation.specs.Operations.{Matched}
use Rattle.machine_simulation.specs.Returns.{closed}
use Rattle.machine_simulation.specs.Steps.{StepAt}
use Rattle.machine_simulation.specs.Objects.{Shows}
use Rattle.machine_exceptions.specs.Enters.{IsThrown}
use Rattle.machine_raises.specs.Stacks.{IsRunning}
use Rattle.machine_raises.specs.Pads.{PadsArePlain, FiltersAreInts}
use Rattle.machine_raises.specs.Targets.{target_end}
use Rattle.machine_raises.specs.Throws.{AimedAt}

-- the type of an exception is there, with all its bases
abbrev pub TypeIsThere : Plan → Option ℕ → Type 0
TypeIsThere p None = ⊤
TypeIsThere p (Some t) = (t < length p.unit.types) × ChainEnds p.unit.types t

-- an exception that was thrown is live, no destructor of it runs, and its type is there
pub record TravelsOn (p : Plan) (st : State) (e : ℕ) (exception : Exception) : Type 0 where
  pub live : live_in st.world.live e ≡ Some exception
  pub thrown : IsThrown exception
  pub whole : contains (destroyed st.frames) e ≡ false
  pub type : TypeIsThere p (exception_type exception)

-- A slot holds an exception that goes on towards its target, and its header has that.
pub record ResumeAsked (p : Plan) (n : ℕ) (st : State) (w : abi.World) (s e d : ℕ) : Type 0 where
  pub inside : s < length (shape p n).slots
  pub near : slot_offset (shape p n) s < 2 ^ 11
  pub is : st.top.frame.slots s ≡ flying e d
  pub exception : Exception
  pub travels : TravelsOn p st e exception
  pub target : HasTarget (code_of p.unit) (exception_type exception) d (st.top ∷ st.frames)
  pub aimed : AimedAt w e (target_end p d (x w.hart sp) (st.top ∷ st.frames))

-- A step that goes on with an exception, and comes to a pad of a compiled function: what the runtime keeps stays.
abbrev pub ResumesRun : Type 0
ResumesRun = (i : CleanImage) (p : Plan) (n m s e d : ℕ) (st next : State) (w : abi.World) → Matches p st w → IsRunning p i w.hart → StepAt p st next n (resume s) → ResumeAsked p n st w s e d → PadsArePlain p → FiltersAreInts p →
    next.top.function ≡ compiled m → Shows st next [] × Matched (program_of i).image (length (linear_code (shape p n) (resume s)) + 2) w [] (λ u. Matches (closed p next.top.frame.call) next u × (u.exceptions ≡ w.exceptions))
