-- An exception without a handler is thrown.
use Rattle.std.specs.Prelude.{◌≡◌, ℕ, ◌+◌, true, false, [], ◌∷◌, length, slice_get, Option, Some, None}
use Rattle.run_items.specs.declared.item.Item.TheVariants.{Enter}
use Rattle.elf_image.specs.Clean.{CleanImage}
use Rattle.cxa_runtime.specs.World as abi
use Rattle.eh_run.specs.Program.{program_of}
use Rattle.region_forms.specs.Form.{throw}
use Rattle.region_forms.specs.Lives.{is_being_built}
use Rattle.region_forms.specs.Effect.{kept, entered_doomed}
use Rattle.linear_forms.specs.Linear.{plain}
use Rattle.linear_forms.specs.Search.{found_above}
use Rattle.linear_forms.specs.Stub.{compiled, terminating}
use Rattle.linear_forms.specs.Activation.{State}
use Rattle.linear_forms.specs.UnitRun.{code_of}
use Rattle.machine_forms.specs.LinearCode.{linear_code}
use Rattle.machine_pieces.specs.Turning.{Reaches}
use Rattle.machine_stubs.specs.Stretches.{stub_word}
use Rattle.machine_simulation.specs.Plan.{Plan, function, shape}
use Rattle.machine_simulation.specs.Matches.{Matches}
use Rattle.machine_simulation.specs.Entering.{opened, frame_for, entry_turns}
use Rattle.machine_exceptions.specs.Leaves.{StepsTo}
use Rattle.machine_exceptions.specs.Terminates.{waiting_terminate, in_handler, HandlerFits}
use Rattle.machine_raises.specs.Stacks.{IsRunning}
use Rattle.machine_raises.specs.Throws.{MayThrow}

-- a call is at a throw of an exception that is being built, and nothing above handles it
pub record AtDoomed (i : CleanImage) (p : Plan) (n s e t : ℕ) (d : Option ℕ) (st : State) : Type 0 where
  pub runs : st.top.function ≡ compiled n
  pub there : slice_get (function p n).ops st.top.place ≡ Some (plain (throw s t d))
  pub may : MayThrow p n st.top.frame s e t d
  pub being : is_being_built st.world e ≡ true
  pub lost : found_above (code_of p.unit) (Some t) (st.top ∷ st.frames) ≡ None
  pub named : (program_of i).image.places.terminate ≡ stub_word p.base terminating 0

-- the exception is entered, and the calls are those that were
abbrev pub doomed_state : (e t : ℕ) → Option ℕ → State → State
doomed_state e t d st = record { top = st.top; frames = st.frames; world = entered_doomed e (kept e t d st.world) }

-- Where a terminate handler is in effect, and terminate does not run yet, two steps lead to its first operation; they are matched, and show that
-- the exception is entered.
abbrev pub DoomsRun : Type 0
DoomsRun = (i : CleanImage) (p : Plan) (n m s e t : ℕ) (d : Option ℕ) (st : State) (w : abi.World) → Matches p st w → IsRunning p i w.hart → AtDoomed i p n s e t d st → st.world.ending ≡ false →
    st.world.installed.terminate_handler ≡ Some m → p.hidden ≡ 0 → let active = waiting_terminate m ∷ st.top ∷ st.frames in HandlerFits p m active →
    let next = in_handler p m (doomed_state e t d st) in
    StepsTo (code_of p.unit) 2 st next × Reaches (program_of i).image (length (linear_code (shape p n) (plain (throw s t d))) + 7 + entry_turns p m) w (Enter e ∷ []) (λ u. Matches (opened p m st.world.calls (frame_for p m active)) next u)
