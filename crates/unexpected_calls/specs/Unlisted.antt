-- What comes out of the unexpected handler is not allowed, and bad_exception is not listed: the program terminates for the exception that was
-- stopped.
use Rattle.std.specs.Prelude.{◌≡◌, ℕ, ◌≤◌, false, pos, [], ◌∷◌, Option, Some, ◌+◌}
use Rattle.meaning_forms.specs.Class.{contains}
use Rattle.meaning_forms.specs.World.{Installed}
use Rattle.run_items.specs.declared.item.Item.TheVariants.{Enter}
use Rattle.elf_image.specs.Clean.{CleanImage}
use Rattle.cxa_runtime.specs.World as abi
use Rattle.eh_run.specs.Program.{program_of}
use Rattle.region_forms.specs.World.{native}
use Rattle.linear_forms.specs.Activation.{State}
use Rattle.linear_forms.specs.UnitRun.{code_of}
use Rattle.machine_pieces.specs.Turning.{Reaches}
use Rattle.machine_simulation.specs.Plan.{Plan}
use Rattle.machine_simulation.specs.Exceptions.{destroyed, live_in}
use Rattle.machine_simulation.specs.Matches.{Matches}
use Rattle.machine_simulation.specs.Objects.{Shows}
use Rattle.machine_exceptions.specs.Leaves.{StepsTo}
use Rattle.machine_exceptions.specs.Terminates.{in_handler}
use Rattle.raise_ends.specs.Ends.{NoneIsCalled, HandlerFits, plan_in_handler}
use Rattle.unexpected_calls.specs.Terminates.{BothAbort, NamesTerminate}
use Rattle.unexpected_calls.specs.Thrown.{ThrownOut, list_says, checked_state}
use Rattle.machine_simulation.specs.Entering.{entry_turns}

-- the exception that was stopped is live, since it is handled
pub record StoppedLives (st : State) (e type : ℕ) (destructor : Option ℕ) (kept : Installed) : Type 0 where
  pub native : live_in st.world.live e ≡ Some (native type destructor kept)
  pub whole : contains (destroyed st.frames) e ≡ false

-- Seven steps lead to the first operation of the terminate handler kept with it, and are matched. They show that what came out of the handler is
-- entered. Without a terminate handler, or where terminate runs already, both machines abort.
pub record UnlistedTerminates : Type 0 where
  pub calls_the_handler : (i : CleanImage) (p : Plan) (e d type : ℕ) (destructor : Option ℕ) (kept : Installed) (j m type0 : ℕ) (destructor0 : Option ℕ) (kept0 : Installed) (st : State) (w : abi.World) → (h : ThrownOut i p e d type destructor kept j st w) →
      list_says p h.rests.kept.owner j type ≡ pos 2 → StoppedLives st h.rests.kept.stopped.number type0 destructor0 kept0 → NamesTerminate (program_of i).image p → st.world.ending ≡ false → kept0.terminate_handler ≡ Some m → p.hidden ≡ 0 →
      let waiting = checked_state 9 e (pos 2) st in HandlerFits p m waiting → let next = in_handler p m waiting in let items = Enter e ∷ [] in
      StepsTo (code_of p.unit) 7 st next × Shows st next items × Reaches (program_of i).image (29 + entry_turns p m) w items (λ u. Matches (plan_in_handler p m waiting) next u)
  pub aborts : (i : CleanImage) (pick : ℕ → ℕ) (k : ℕ) (p : Plan) (e d type : ℕ) (destructor : Option ℕ) (kept : Installed) (j type0 : ℕ) (destructor0 : Option ℕ) (kept0 : Installed) (st : State) (w : abi.World) → (h : ThrownOut i p e d type destructor kept j st w) →
      list_says p h.rests.kept.owner j type ≡ pos 2 → StoppedLives st h.rests.kept.stopped.number type0 destructor0 kept0 → NamesTerminate (program_of i).image p → NoneIsCalled st.world kept0.terminate_handler → 30 ≤ k →
      BothAbort (program_of i).image pick k p 8 st w (Enter e ∷ [])
