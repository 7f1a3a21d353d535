-- The bad_exception that call_unexpected throws is stopped by nothing.
use Rattle.std.specs.Prelude.{◌≡◌, ℕ, ◌+◌, ◌<◌, ◌≤◌, false, pos, List, [], ◌∷◌, Option, Some, None}
use Rattle.meaning_forms.specs.World.{Installed}
use Rattle.run_items.specs.declared.item.Item.{Item}
use Rattle.run_items.specs.declared.item.Item.TheVariants.{Enter, Make}
use Rattle.elf_image.specs.Clean.{CleanImage}
use Rattle.caught_stack.specs.Live.{slots}
use Rattle.cxa_runtime.specs.World as abi
use Rattle.cxa_runtime.specs.Raising.{Image}
use Rattle.eh_run.specs.Program.{program_of}
use Rattle.region_forms.specs.Ending.{bad_row}
use Rattle.region_forms.specs.Effect.{is_full, kept, entered_doomed}
use Rattle.linear_forms.specs.Activation.{State}
use Rattle.linear_forms.specs.UnitRun.{code_of}
use Rattle.table_verdicts.specs.Types.{ChainEnds}
use Rattle.machine_simulation.specs.Plan.{Plan}
use Rattle.machine_simulation.specs.Matches.{Matches}
use Rattle.machine_simulation.specs.Objects.{with_object, Shows}
use Rattle.machine_exceptions.specs.Leaves.{StepsTo}
use Rattle.machine_exceptions.specs.Picks.{TurnsFor}
use Rattle.machine_exceptions.specs.Terminates.{in_handler}
use Rattle.raise_ends.specs.Ends.{NoneIsCalled, unless_ending, HandlerFits, plan_in_handler}
use Rattle.unexpected_calls.specs.Terminates.{BothAbort, NamesTerminate}
use Rattle.unexpected_calls.specs.Thrown.{ThrownOut, list_says}
use Rattle.unexpected_calls.specs.Doomed.{NothingStops}
use Rattle.unexpected_calls.specs.Bad.{bad_state}
use Rattle.machine_simulation.specs.Entering.{entry_turns}

-- at most so many turns lead from a world to one of which this holds, for the slots that are picked
pub record ReachesFor (image : Image) (pick : ℕ → ℕ) (most : ℕ) (w : abi.World) (items : List Item) (P : abi.World → Type 0) : Type 0 where
  pub turns : ℕ
  pub few : turns ≤ most
  pub after : abi.World
  pub runs : TurnsFor image pick turns w after items
  pub holds : P after

-- it is entered, and the calls are those that were
abbrev pub bad_doomed : ℕ → State → State
bad_doomed e st =
    let raising = bad_state e st in
    let bad = st.world.last_number + 1 in
    record { top = raising.top; frames = raising.frames; world = entered_doomed bad (kept bad bad_row None raising.world) }

-- Nine steps lead to the first operation of the terminate handler in effect, which was kept with it, and are matched, whatever slots are picked. They
-- show that the one is entered, and the other made and entered. Without a terminate handler, or where terminate runs, both machines abort.
pub record BadIsDoomed : Type 0 where
  pub calls_the_handler : (i : CleanImage) (pick : ℕ → ℕ) (p : Plan) (e d type : ℕ) (destructor : Option ℕ) (kept : Installed) (j m : ℕ) (st : State) (w : abi.World) → (h : ThrownOut i p e d type destructor kept j st w) → list_says p h.rests.kept.owner j type ≡ pos 1 →
      is_full st.world ≡ false → ChainEnds p.unit.types bad_row → NothingStops p bad_row (bad_state e st) → NamesTerminate (program_of i).image p → st.world.ending ≡ false → st.world.installed.terminate_handler ≡ Some m → p.hidden ≡ 0 →
      let waiting = bad_doomed e st in HandlerFits p m waiting → let bad = st.world.last_number + 1 in let next = in_handler p m waiting in let items = Enter e ∷ Make bad ∷ Enter bad ∷ [] in
      StepsTo (code_of p.unit) 9 st next × Shows st next items × (slot : ℕ) × (slot < slots) × ReachesFor (program_of i).image pick (37 + entry_turns p m) w items (λ u. Matches (plan_in_handler (with_object p bad slot) m waiting) next u)
  pub aborts : (i : CleanImage) (pick : ℕ → ℕ) (k : ℕ) (p : Plan) (e d type : ℕ) (destructor : Option ℕ) (kept : Installed) (j : ℕ) (st : State) (w : abi.World) → (h : ThrownOut i p e d type destructor kept j st w) → list_says p h.rests.kept.owner j type ≡ pos 1 →
      is_full st.world ≡ false → ChainEnds p.unit.types bad_row → NothingStops p bad_row (bad_state e st) → NamesTerminate (program_of i).image p → NoneIsCalled st.world st.world.installed.terminate_handler → 38 ≤ k →
      let bad = st.world.last_number + 1 in BothAbort (program_of i).image pick k p 10 st w (Enter e ∷ Make bad ∷ unless_ending st.world (Enter bad ∷ []))
