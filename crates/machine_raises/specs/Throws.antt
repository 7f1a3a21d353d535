-- An exception is thrown.
use Rattle.std.specs.Prelude.{⊤, ◌≡◌, ℕ, ◌+◌, ◌<◌, List, [], ◌∷◌, length, Option, Some, None}
use Rattle.rv64_isa.specs.Step.{x}
use Rattle.elf_image.specs.Clean.{CleanImage}
use Rattle.cxa_runtime.specs.World as abi
use Rattle.eh_run.specs.Program.{program_of}
use Rattle.region_forms.specs.Form.{throw}
use Rattle.region_forms.specs.World.{Frame, type_at}
use Rattle.linear_forms.specs.Linear.{plain}
use Rattle.linear_forms.specs.Search.{found_above}
use Rattle.linear_forms.specs.Stub.{compiled}
use Rattle.linear_forms.specs.Activation.{Activation, State}
use Rattle.linear_forms.specs.UnitRun.{code_of}
use Rattle.machine_forms.specs.Registers.{sp}
use Rattle.machine_forms.specs.LinearCode.{linear_code}
use Rattle.table_verdicts.specs.Types.{ChainEnds}
use Rattle.machine_simulation.specs.Plan.{Plan, shape}
use Rattle.machine_simulation.specs.Exceptions.{HasHeader}
use Rattle.machine_simulation.specs.Matches.{Matches}
use Rattle.machine_simulation.specs.Operations.{Matched}
use Rattle.machine_simulation.specs.Returns.{closed}
use Rattle.machine_simulation.specs.Steps.{StepAt}
use Rattle.machine_simulation.specs.Objects.{HoldsObject, Shows}
use Rattle.machine_raises.specs.Stacks.{IsRunning}
use Rattle.machine_raises.specs.Pads.{PadsArePlain, FiltersAreInts}
use Rattle.machine_raises.specs.Targets.{target_end, target_call}

abbrev pub DestructorIsThere : Plan → Option ℕ → Type 0
DestructorIsThere p None = ⊤
DestructorIsThere p (Some m) = m < length p.unit.functions

-- a slot holds the address of an exception; its type, with all its bases, and its destructor are there
pub record MayThrow (p : Plan) (n : ℕ) (frame : Frame) (s e t : ℕ) (d : Option ℕ) : Type 0 where
  pub holds : HoldsObject p n frame s e
  pub type : t < length p.unit.types
  pub bases : ChainEnds p.unit.types t
  pub destructor : DestructorIsThere p d

-- the header of an exception has the canonical frame address of its target
pub record AimedAt (w : abi.World) (e cfa : ℕ) : Type 0 where
  pub slot : ℕ
  pub has : HasHeader w.exceptions.live e slot
  pub aimed : has.header.target ≡ cfa

-- and so it has that of the call below which d calls wait, where the frames begin at an address, and the address of the exception table of that
-- call's function, if it is a compiled one
pub record HasAim (p : Plan) (w : abi.World) (e d stack : ℕ) (fs : List Activation) : Type 0 where
  pub at : AimedAt w e (target_end p d stack fs)
  pub table : (n : ℕ) → target_call d fs ≡ Some (compiled n) → at.has.header.lsda ≡ p.tables n

-- An exception has a target, and is raised, where the frames of the calls begin at an address: so many turns lead to a world of which this holds,
-- and the header has the target.
pub record RaisedTo (p : Plan) (i : CleanImage) (st next : State) (w : abi.World) (e stack words : ℕ) (R : abi.World → Type 0) : Type 0 where
  pub depth : ℕ
  pub found : found_above (code_of p.unit) (type_at next.world e) (st.top ∷ st.frames) ≡ Some depth
  pub ran : Matched (program_of i).image words w [] (λ u. R u × HasAim p u e depth stack (st.top ∷ st.frames))

-- the turns of the operation's words and of the pad's two lead to the next state
abbrev pub Raised : (p : Plan) (i : CleanImage) (st next : State) (w : abi.World) (e words : ℕ) → Type 0
Raised p i st next w e words = RaisedTo p i st next w e (x w.hart sp) (words + 2) (λ u. Matches (closed p next.top.frame.call) next u)

-- A step that throws an exception, and comes to a pad of a compiled function.
abbrev pub ThrowsRun : Type 0
ThrowsRun = (i : CleanImage) (p : Plan) (n m s e t : ℕ) (d : Option ℕ) (st next : State) (w : abi.World) → Matches p st w → IsRunning p i w.hart → StepAt p st next n (plain (throw s t d)) → MayThrow p n st.top.frame s e t d → PadsArePlain p →
    FiltersAreInts p → next.top.function ≡ compiled m → Shows st next [] × Raised p i st next w e (length (linear_code (shape p n) (plain (throw s t d))))
