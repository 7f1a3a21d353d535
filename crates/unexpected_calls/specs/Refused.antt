-- call_unexpected can't go on: a foreign exception comes out of the handler while another is handled, or a bad_exception is to be made while as many
-- exceptions are live as can be. The terminate handler in effect is called (ISO/IEC 14882:2003, 15.5.1).
use Rattle.std.specs.Prelude.{◌≡◌, ℕ, ◌≤◌, true, false, pos, [], ◌∷◌, Option, Some, ◌+◌}
use Rattle.meaning_forms.specs.World.{Installed}
use Rattle.run_items.specs.declared.item.Item.TheVariants.{Enter}
use Rattle.elf_image.specs.Clean.{CleanImage}
use Rattle.cxa_runtime.specs.World as abi
use Rattle.cxa_runtime.specs.Raising.{Image}
use Rattle.eh_run.specs.Program.{program_of}
use Rattle.region_forms.specs.Lives.{may_enter}
use Rattle.region_forms.specs.World.{number_word, flying}
use Rattle.region_forms.specs.Effect.{is_full}
use Rattle.linear_forms.specs.Activation.{State}
use Rattle.linear_forms.specs.UnitRun.{code_of}
use Rattle.machine_pieces.specs.Turning.{Reaches}
use Rattle.machine_simulation.specs.Plan.{Plan}
use Rattle.machine_simulation.specs.Matches.{Matches}
use Rattle.machine_simulation.specs.Objects.{Shows}
use Rattle.machine_exceptions.specs.Enters.{MayEnter, is_crowded}
use Rattle.machine_exceptions.specs.Leaves.{StepsTo}
use Rattle.machine_exceptions.specs.Terminates.{in_handler}
use Rattle.raise_ends.specs.Ends.{NoneIsCalled, HandlerFits, plan_in_handler}
use Rattle.stub_landings.specs.Rests.{ChecksThrown}
use Rattle.unexpected_calls.specs.Leaves.{CalledByCompiled, leaving_at}
use Rattle.unexpected_calls.specs.Terminates.{BothAbort, NamesTerminate}
use Rattle.unexpected_calls.specs.Thrown.{ThrownOut, list_says, checked_state}
use Rattle.machine_simulation.specs.Entering.{entry_turns}

-- call_unexpected rests behind its first pad with a foreign exception, while the one that was stopped is handled
pub record ForeignOut (p : Plan) (e d : ℕ) (st : State) (w : abi.World) : Type 0 where
  pub rests : ChecksThrown p st w
  pub called : CalledByCompiled st
  pub flies : st.top.frame.slots 4 ≡ flying e d
  pub selector : st.top.frame.slots 5 ≡ number_word (pos 1)
  pub defined : may_enter st.world e ≡ true
  pub may : MayEnter st.frames st.world e
  pub crowded : is_crowded st.world e ≡ true

-- the state in which it would be entered
abbrev pub entering_state : State → State
entering_state st = record { top = leaving_at 5 st; frames = st.frames; world = st.world }

pub record UnexpectedRefuses : Type 0 where
  pub foreign_calls : (image : Image) (p : Plan) (e d m : ℕ) (st : State) (w : abi.World) → ForeignOut p e d st w → NamesTerminate image p → st.world.ending ≡ false → st.world.installed.terminate_handler ≡ Some m → p.hidden ≡ 0 →
      let waiting = entering_state st in HandlerFits p m waiting → let next = in_handler p m waiting in
      StepsTo (code_of p.unit) 3 st next × Shows st next [] × Reaches image (14 + entry_turns p m) w [] (λ u. Matches (plan_in_handler p m waiting) next u)
  pub foreign_aborts : (image : Image) (pick : ℕ → ℕ) (k : ℕ) (p : Plan) (e d : ℕ) (st : State) (w : abi.World) → ForeignOut p e d st w → NamesTerminate image p → NoneIsCalled st.world st.world.installed.terminate_handler → 15 ≤ k →
      BothAbort image pick k p 4 st w []
  pub full_calls : (i : CleanImage) (p : Plan) (e d type : ℕ) (destructor : Option ℕ) (kept : Installed) (j m : ℕ) (st : State) (w : abi.World) → (h : ThrownOut i p e d type destructor kept j st w) → list_says p h.rests.kept.owner j type ≡ pos 1 → is_full st.world ≡ true →
      NamesTerminate (program_of i).image p → st.world.ending ≡ false → st.world.installed.terminate_handler ≡ Some m → p.hidden ≡ 0 → let waiting = checked_state 11 e (pos 1) st in HandlerFits p m waiting → let next = in_handler p m waiting in let items = Enter e ∷ [] in
      StepsTo (code_of p.unit) 7 st next × Shows st next items × Reaches (program_of i).image (29 + entry_turns p m) w items (λ u. Matches (plan_in_handler p m waiting) next u)
  pub full_aborts : (i : CleanImage) (pick : ℕ → ℕ) (k : ℕ) (p : Plan) (e d type : ℕ) (destructor : Option ℕ) (kept : Installed) (j : ℕ) (st : State) (w : abi.World) → (h : ThrownOut i p e d type destructor kept j st w) → list_says p h.rests.kept.owner j type ≡ pos 1 →
      is_full st.world ≡ true → NamesTerminate (program_of i).image p → NoneIsCalled st.world st.world.installed.terminate_handler → 30 ≤ k → BothAbort (program_of i).image pick k p 8 st w (Enter e ∷ [])
