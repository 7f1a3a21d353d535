-- A terminate handler finds no room for its frame below call_unexpected.
use Rattle.std.specs.Prelude.{◌≡◌, ℕ, ◌+◌, ◌≤◌, true, false, ℤ, pos, List, [], ◌∷◌, length, Option, Some, None}
use Rattle.meaning_forms.specs.World.{Installed}
use Rattle.run_items.specs.declared.item.Item.{Item}
use Rattle.run_items.specs.declared.item.Item.TheVariants.{Enter, Make}
use Rattle.elf_image.specs.Clean.{CleanImage}
use Rattle.cxa_runtime.specs.declared.effect.End.TheVariants.{Stack}
use Rattle.cxa_runtime.specs.World as abi
use Rattle.cxa_runtime.specs.Raising.{Image}
use Rattle.eh_run.specs.Program.{program_of}
use Rattle.region_forms.specs.Ending.{bad_row}
use Rattle.region_forms.specs.Effect.{is_full}
use Rattle.linear_forms.specs.Linear.{unexpected, return}
use Rattle.linear_forms.specs.Activation.{Activation, State}
use Rattle.linear_forms.specs.UnitRun.{code_of}
use Rattle.machine_forms.specs.LinearCode.{linear_code}
use Rattle.table_verdicts.specs.Types.{ChainEnds}
use Rattle.machine_simulation.specs.Plan.{Plan, shape}
use Rattle.machine_simulation.specs.Matches.{Matches}
use Rattle.machine_simulation.specs.Objects.{Shows}
use Rattle.machine_exceptions.specs.Leaves.{StepsTo}
use Rattle.machine_exceptions.specs.Terminates.{in_handler}
use Rattle.raise_ends.specs.Ends.{RunEnds}
use Rattle.unexpected_calls.specs.Begins.{AtStopped, in_stopped}
use Rattle.unexpected_calls.specs.Terminates.{NamesTerminate, HandlerReturns, came_back}
use Rattle.unexpected_calls.specs.Thrown.{ThrownOut, list_says, checked_state}
use Rattle.unexpected_calls.specs.Unlisted.{StoppedLives}
use Rattle.unexpected_calls.specs.Doomed.{NothingStops, doomed_in}
use Rattle.unexpected_calls.specs.Bad.{bad_state}
use Rattle.unexpected_calls.specs.BadDoomed.{bad_doomed}
use Rattle.unexpected_calls.specs.Refused.{ForeignOut, entering_state}
use Rattle.unexpected_calls.specs.Overflow.{TerminateLacksRoom}

-- the handler that begins in linear code, where these calls wait, finds no room: the run shows as much and ends for want of stack
pub record NoRoom (image : Image) (pick : ℕ → ℕ) (k : ℕ) (p : Plan) (m steps : ℕ) (st waiting : State) (w : abi.World) (items : List Item) : Type 0 where
  pub linear : StepsTo (code_of p.unit) steps st (in_handler p m waiting)
  pub shown : Shows st (in_handler p m waiting) items
  pub run : RunEnds image pick k w items Stack

-- what is so wherever a handler of terminate is called
pub record Calls (image : Image) (p : Plan) (m : ℕ) (handler : Option ℕ) (st waiting : State) : Type 0 where
  pub named : NamesTerminate image p
  pub quiet : st.world.ending ≡ false
  pub some : handler ≡ Some m
  pub hidden : p.hidden ≡ 0
  pub lacks : TerminateLacksRoom p m waiting

-- In each case in which call_unexpected terminates the program.
pub record TerminateHandlersOverflow : Type 0 where
  pub without : (image : Image) (pick : ℕ → ℕ) (k : ℕ) (p : Plan) (n o s e : ℕ) (z : ℤ) (type : ℕ) (d : Option ℕ) (kept : Installed) (m : ℕ) (st : State) (w : abi.World) → Matches p st w → AtStopped p n o s e z type d kept st w → kept.unexpected_handler ≡ None →
      let waiting = in_stopped n o s e 2 None st in Calls image p m kept.terminate_handler st waiting → length (linear_code (shape p n) (unexpected o s)) + 24 ≤ k → NoRoom image pick k p m 5 st waiting w (Enter e ∷ [])
  pub behind : (image : Image) (pick : ℕ → ℕ) (k : ℕ) (p : Plan) (n c e : ℕ) (r : Option ℕ) (type : ℕ) (d : Option ℕ) (kept : Installed) (m : ℕ) (waiting a : Activation) (fs : List Activation) (st middle : State) (w : abi.World) → Matches p st w →
      HandlerReturns p n c e r type d kept waiting a fs st middle → let back = came_back waiting a fs st in Calls image p m kept.terminate_handler st back → length (linear_code (shape p n) (return r)) + 15 ≤ k → NoRoom image pick k p m 3 st back w []
  pub unlisted : (i : CleanImage) (pick : ℕ → ℕ) (k : ℕ) (p : Plan) (e d type : ℕ) (destructor : Option ℕ) (kept : Installed) (j m type0 : ℕ) (destructor0 : Option ℕ) (kept0 : Installed) (st : State) (w : abi.World) → (h : ThrownOut i p e d type destructor kept j st w) →
      list_says p h.rests.kept.owner j type ≡ pos 2 → StoppedLives st h.rests.kept.stopped.number type0 destructor0 kept0 → let waiting = checked_state 9 e (pos 2) st in Calls (program_of i).image p m kept0.terminate_handler st waiting → 35 ≤ k →
      NoRoom (program_of i).image pick k p m 7 st waiting w (Enter e ∷ [])
  pub doomed : (i : CleanImage) (pick : ℕ → ℕ) (k : ℕ) (p : Plan) (e d type : ℕ) (destructor : Option ℕ) (kept : Installed) (j m : ℕ) (st : State) (w : abi.World) → (h : ThrownOut i p e d type destructor kept j st w) → list_says p h.rests.kept.owner j type ≡ pos 0 →
      let raising = checked_state 10 e (pos 0) st in NothingStops p type raising → let waiting = doomed_in e raising in Calls (program_of i).image p m kept.terminate_handler st waiting → 31 ≤ k →
      NoRoom (program_of i).image pick k p m 6 st waiting w (Enter e ∷ Enter e ∷ [])
  pub bad : (i : CleanImage) (pick : ℕ → ℕ) (k : ℕ) (p : Plan) (e d type : ℕ) (destructor : Option ℕ) (kept : Installed) (j m : ℕ) (st : State) (w : abi.World) → (h : ThrownOut i p e d type destructor kept j st w) → list_says p h.rests.kept.owner j type ≡ pos 1 →
      is_full st.world ≡ false → ChainEnds p.unit.types bad_row → NothingStops p bad_row (bad_state e st) → let waiting = bad_doomed e st in Calls (program_of i).image p m st.world.installed.terminate_handler st waiting → 43 ≤ k →
      let made = st.world.last_number + 1 in NoRoom (program_of i).image pick k p m 9 st waiting w (Enter e ∷ Make made ∷ Enter made ∷ [])
  pub foreign : (image : Image) (pick : ℕ → ℕ) (k : ℕ) (p : Plan) (e d m : ℕ) (st : State) (w : abi.World) → ForeignOut p e d st w → let waiting = entering_state st in Calls image p m st.world.installed.terminate_handler st waiting → 20 ≤ k →
      NoRoom image pick k p m 3 st waiting w []
  pub full : (i : CleanImage) (pick : ℕ → ℕ) (k : ℕ) (p : Plan) (e d type : ℕ) (destructor : Option ℕ) (kept : Installed) (j m : ℕ) (st : State) (w : abi.World) → (h : ThrownOut i p e d type destructor kept j st w) → list_says p h.rests.kept.owner j type ≡ pos 1 →
      is_full st.world ≡ true → let waiting = checked_state 11 e (pos 1) st in Calls (program_of i).image p m st.world.installed.terminate_handler st waiting → 35 ≤ k → NoRoom (program_of i).image pick k p m 7 st waiting w (Enter e ∷ [])
