-- What call_unexpected throws again is stopped by nothing.
use Rattle.std.specs.Prelude.{◌≡◌, ℕ, ◌≤◌, false, pos, [], ◌∷◌, Option, Some, None, ◌+◌}
use Rattle.meaning_forms.specs.World.{Installed}
use Rattle.run_items.specs.declared.item.Item.TheVariants.{Enter}
use Rattle.elf_image.specs.Clean.{CleanImage}
use Rattle.cxa_runtime.specs.World as abi
use Rattle.eh_run.specs.Program.{program_of}
use Rattle.region_forms.specs.Effect.{entered_doomed}
use Rattle.linear_forms.specs.Search.{found_above}
use Rattle.linear_forms.specs.Activation.{State}
use Rattle.linear_forms.specs.UnitRun.{code_of}
use Rattle.machine_pieces.specs.Turning.{Reaches}
use Rattle.machine_simulation.specs.Plan.{Plan}
use Rattle.machine_simulation.specs.Matches.{Matches}
use Rattle.machine_simulation.specs.Objects.{Shows}
use Rattle.machine_exceptions.specs.Leaves.{StepsTo}
use Rattle.machine_exceptions.specs.Terminates.{in_handler}
use Rattle.raise_ends.specs.Ends.{NoneIsCalled, unless_ending, HandlerFits, plan_in_handler}
use Rattle.unexpected_calls.specs.Terminates.{BothAbort, NamesTerminate}
use Rattle.unexpected_calls.specs.Thrown.{ThrownOut, list_says, checked_state}
use Rattle.machine_simulation.specs.Entering.{entry_turns}

-- nothing stops an exception of a type that is raised in the call that runs
abbrev pub NothingStops : Plan → (type : ℕ) → State → Type 0
NothingStops p type st = found_above (code_of p.unit) (Some type) (st.top ∷ st.frames) ≡ None

-- it is entered once more, and the calls are those that were
abbrev pub doomed_in : (e : ℕ) → State → State
doomed_in e st = record { top = st.top; frames = st.frames; world = entered_doomed e st.world }

-- What is allowed is thrown again, but nothing stops it. Six steps lead to the first operation of the terminate handler kept with it, and are
-- matched; they show that it is entered behind the unexpected handler, and again where it is doomed. Without a terminate handler, or where
-- terminate runs, both machines abort.
pub record AllowedIsDoomed : Type 0 where
  pub calls_the_handler : (i : CleanImage) (p : Plan) (e d type : ℕ) (destructor : Option ℕ) (kept : Installed) (j m : ℕ) (st : State) (w : abi.World) → (h : ThrownOut i p e d type destructor kept j st w) → list_says p h.rests.kept.owner j type ≡ pos 0 →
      let raising = checked_state 10 e (pos 0) st in NothingStops p type raising → NamesTerminate (program_of i).image p → st.world.ending ≡ false → kept.terminate_handler ≡ Some m → p.hidden ≡ 0 → let waiting = doomed_in e raising in HandlerFits p m waiting →
      let next = in_handler p m waiting in let items = Enter e ∷ Enter e ∷ [] in
      StepsTo (code_of p.unit) 6 st next × Shows st next items × Reaches (program_of i).image (25 + entry_turns p m) w items (λ u. Matches (plan_in_handler p m waiting) next u)
  pub aborts : (i : CleanImage) (pick : ℕ → ℕ) (k : ℕ) (p : Plan) (e d type : ℕ) (destructor : Option ℕ) (kept : Installed) (j : ℕ) (st : State) (w : abi.World) → (h : ThrownOut i p e d type destructor kept j st w) → list_says p h.rests.kept.owner j type ≡ pos 0 →
      NothingStops p type (checked_state 10 e (pos 0) st) → NamesTerminate (program_of i).image p → NoneIsCalled st.world kept.terminate_handler → 26 ≤ k →
      BothAbort (program_of i).image pick k p 7 st w (Enter e ∷ unless_ending st.world (Enter e ∷ []))
