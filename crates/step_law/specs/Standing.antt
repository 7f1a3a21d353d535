-- What holds of each state of a run, with the world of the ABI machine that goes along with it.
use Rattle.std.specs.Prelude.{⊤, ◌≡◌, ℕ, ◌+◌, ◌*◌, ◌-◌, ◌≤◌, ◌<◌, ℤ, false, List, [], ◌∷◌, length, Some, None, ◌==◌, if◌then◌else◌}
use Rattle.cxx_ast.specs.Plain.{Checked}
use Rattle.caught_stack.specs.declared.header.Header.{Header}
use Rattle.elf_image.specs.Clean.{CleanImage}
use Rattle.cxa_runtime.specs.World as abi
use Rattle.region_forms.specs.World.{Word, flying}
use Rattle.linear_forms.specs.Stub.{Function, compiled}
use Rattle.linear_forms.specs.Activation.{Activation, State}
use Rattle.flight_homes.specs.Keeps.{Carrying}
use Rattle.flight_homes.specs.Lives.{known_in}
use Rattle.linear_invariant.specs.Calls.{Marks}
use Rattle.linear_invariant.specs.Forced.{newest_forced}
use Rattle.linear_invariant.specs.Handled.{open_handlers}
use Rattle.linear_invariant.specs.Stands.{StandsIn}
use Rattle.kept_selectors.specs.Selectors.{SelectorsNamed}
use Rattle.kept_handlers.specs.Depths.{Depths, CodeOpens}
use Rattle.kept_handlers.specs.Handlers.{StateOpens}
use Rattle.source_bounds.specs.Compiled.{unit_for}
use Rattle.machine_simulation.specs.Plan.{Plan}
use Rattle.machine_simulation.specs.Calls.{stack_end, open_bytes}
use Rattle.image_tables.specs.Functions.{records_end}
use Rattle.image_tables.specs.TableLaws.{IsRunOf}
use Rattle.runtime_invariant.specs.Aims.{IsOnItsWay}
use Rattle.machine_raises.specs.Targets.{target_call}
use Rattle.stack_bounds.specs.Taken.{terminate_calls}
use Rattle.address_invariant.specs.Extents.{extents_of}
use Rattle.address_invariant.specs.Reaching.{Reaches}
use Rattle.stub_landings.specs.Rests.{Rests}
use Rattle.whole_runs.specs.Turns.{Invariant}
use Rattle.step_law.specs.Facts.{regions_for, needs_for, code_for}

-- The end of the frame of the call below which d calls wait, its canonical frame address: that is where the frames of those calls begin.
abbrev pub call_end : Plan → ℕ → List Activation → ℕ
call_end q d [] = 0
call_end q d (a ∷ fs) = if length fs == d then stack_end - open_bytes q fs else call_end q d fs

-- The header of an exception on its way towards the open call below which d calls wait has that call's canonical frame address, and the address of the
-- exception table of its function, if it is a compiled one; and no handler has the exception that could leave it.
pub record HeaderAims (q : Plan) (fs : List Activation) (w : abi.World) (e d : ℕ) : Type 0 where
  pub inside : d < length fs
  pub slot : ℕ
  pub header : Header
  pub way : IsOnItsWay slot header w.exceptions
  pub number : header.number ≡ e
  pub target : header.target ≡ call_end q d fs
  pub table : (n : ℕ) → target_call d fs ≡ Some (compiled n) → header.lsda ≡ q.tables n

-- so it is with each word that a call carries; of a forced unwind nothing is said here
abbrev pub IsAimed : Plan → List Activation → abi.World → Word → Type 0
IsAimed q fs w (flying e d) = HeaderAims q fs w e d
IsAimed q fs w x = ⊤

abbrev pub aims : Checked → Plan → List Activation → abi.World → Marks
aims p q fs w = record { known = known_in (regions_for p); words = IsAimed q fs w }

-- the outermost of the open calls, the newest of which is one of a function, is of a compiled function: it is main's
abbrev pub IsFounded : Function → List Activation → Type 0
IsFounded f [] = (n : ℕ) × (f ≡ compiled n)
IsFounded f (a ∷ fs) = IsFounded a.function fs

-- The open calls have no more handlers than the program's code opens, and what a specification stopped stays handled.
pub record HandlersStay (p : Checked) (st : State) : Type 0 where
  pub depths : Depths
  pub code : CodeOpens (code_for p) depths
  pub state : StateOpens depths st

-- With a plan, behind so many turns. The state is one between steps, on a machine that runs the image; and linear_invariant says what it does of the
-- state, behind any number of steps. The outermost call is of a compiled function. Where calls carry what a pad caught, their slots have numbers of its
-- filters. No more handlers are open than turns were made, since each handler's beginning has words. Behind addresses
-- lie ints. Only while terminate runs frames may be hidden, and no more than the deepest calls took; it waits once at most. The runtime has the forced unwind
-- that goes on next.
pub record StandsBy (p : Checked) (i : CleanImage) (k : Carrying) (tables : ℕ → ℕ) (q : Plan) (before : ℕ) (st : State) (w : abi.World) : Type 0 where
  pub unit : q.unit ≡ unit_for p
  pub base : q.base ≡ records_end (unit_for p)
  pub tables_are : q.tables ≡ tables
  pub rests : Rests q st w
  pub frozen : IsRunOf i w.hart
  pub steps : ℕ
  pub stands : StandsIn (aims p q (st.top ∷ st.frames) w) (code_for p) k steps st
  pub founded : IsFounded st.top.function st.frames
  pub selectors : SelectorsNamed (code_for p) k (st.top ∷ st.frames)
  pub handlers : HandlersStay p st
  pub few : open_handlers st.world.caught ≤ before
  pub reaches : Reaches (extents_of q) (unit_for p) (needs_for p) st
  pub hides : st.world.ending ≡ false → q.hidden ≡ 0
  pub hidden : q.hidden ≤ 1728 * st.world.deepest + 128
  pub once : terminate_calls (st.top ∷ st.frames) ≤ 1
  pub forced : (z : ℤ) → newest_forced k None (st.top ∷ st.frames) ≡ Some z → w.unwinding ≡ Some z

-- there is such a plan
abbrev pub Standing : Checked → CleanImage → Carrying → (tables : ℕ → ℕ) → Invariant
Standing p i k tables before st w = (q : Plan) × StandsBy p i k tables q before st w
