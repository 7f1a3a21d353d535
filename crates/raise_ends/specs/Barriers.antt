-- A forced unwind comes to a call out of which nothing may come.
use Rattle.std.specs.Prelude.{◌≡◌, ℕ, ◌+◌, ◌≤◌, ℤ, List, [], ◌∷◌, ◌++◌, length, Some, None}
use Rattle.std.specs.List.{AllByRecursion}
use Rattle.meaning_forms.specs.Outcome.{aborted}
use Rattle.elf_image.specs.Clean.{CleanImage}
use Rattle.cxa_runtime.specs.World as abi
use Rattle.eh_run.specs.Program.{program_of}
use Rattle.region_forms.specs.World.{World}
use Rattle.linear_forms.specs.Stub.{compiled, terminating}
use Rattle.linear_forms.specs.Activation.{Activation, State, goes_to, finishes, by_program}
use Rattle.linear_forms.specs.Machine.{step}
use Rattle.linear_forms.specs.UnitRun.{code_of}
use Rattle.machine_forms.specs.LinearCode.{linear_code}
use Rattle.machine_pieces.specs.Turning.{ForcedReaches}
use Rattle.machine_stubs.specs.Stretches.{stub_word}
use Rattle.machine_simulation.specs.Plan.{Plan, shape}
use Rattle.machine_simulation.specs.Calls.{open_bytes}
use Rattle.machine_simulation.specs.Matches.{Matches}
use Rattle.machine_simulation.specs.Entering.{entry_turns}
use Rattle.machine_exceptions.specs.Terminates.{in_handler}
use Rattle.flight_homes.specs.OpenCalls.{CallsStand}
use Rattle.machine_raises.specs.Stacks.{IsRunning}
use Rattle.raise_ends.specs.Ends.{BothAbort, HandlerFits, HandlerBegins, plan_in_handler, hiding}
use Rattle.raise_ends.specs.Unwinds.{AtUnwind}

-- the state in which a call is the newest, where nothing may come out of it; its place does not matter any more
abbrev pub barred_state : Activation → List Activation → World → State
barred_state a outer v = record { top = record { function = a.function; place = 0; frame = a.frame }; frames = outer; world = v }

-- a call of a compiled function
abbrev pub IsCompiled : Activation → Type 0
IsCompiled a = (n : ℕ) × (a.function ≡ compiled n)

-- some of the open calls were left, all of compiled functions, up to a call that stops the unwind
pub record Left (st : State) : Type 0 where
  pub calls : List Activation
  pub own : AllByRecursion IsCompiled calls
  pub barring : Activation
  pub outer : List Activation
  pub split : st.top ∷ st.frames ≡ calls ++ barring ∷ outer

-- The handler in effect begins where the call that stops the unwind waits, and those that were left are closed; the machine's stack still has
-- their frames. The number of the unwind stays, and so do the exceptions.
pub record Barred (p : Plan) (i : CleanImage) (m : ℕ) (st : State) (w : abi.World) (words : ℕ) (k : ℤ) : Type 0 where
  pub left : Left st
  pub begins : HandlerBegins p m st (barred_state left.barring left.outer st.world) []
  pub ran : let waiting = barred_state left.barring left.outer st.world in
      ForcedReaches (program_of i).image (words + 7 + entry_turns p m) w [] (λ u. Matches (plan_in_handler (hiding p (open_bytes p left.calls)) m waiting) (in_handler p m waiting) u × (u.exceptions ≡ w.exceptions) × (u.unwinding ≡ Some k))

-- A step comes to terminate: two steps lead to the first operation of the handler in effect, and are matched. Without a handler both machines
-- abort, and so they do where terminate runs already.
pub record ForcedUnwindsTerminate : Type 0 where
  pub calls_the_handler : (i : CleanImage) (p : Plan) (n m : ℕ) (k : ℤ) (st next : State) (w : abi.World) → Matches p st w → IsRunning p i w.hart → (at : AtUnwind p n st w k) → step (code_of p.unit) st ≡ goes_to next →
      next.top.function ≡ terminating → CallsStand st → (program_of i).image.places.terminate ≡ stub_word p.base terminating 0 → st.world.installed.terminate_handler ≡ Some m → HandlerFits p m st →
      Barred p i m st w (length (linear_code (shape p n) at.operation)) k
  pub aborts_without : (i : CleanImage) (pick : ℕ → ℕ) (j : ℕ) (p : Plan) (n : ℕ) (k : ℤ) (st next : State) (w : abi.World) → Matches p st w → IsRunning p i w.hart → (at : AtUnwind p n st w k) → step (code_of p.unit) st ≡ goes_to next →
      next.top.function ≡ terminating → (program_of i).image.places.terminate ≡ stub_word p.base terminating 0 → st.world.installed.terminate_handler ≡ None → length (linear_code (shape p n) at.operation) + 10 ≤ j →
      BothAbort (program_of i).image pick j p st w []
  pub aborts_again : (i : CleanImage) (pick : ℕ → ℕ) (j : ℕ) (p : Plan) (n : ℕ) (k : ℤ) (st : State) (v : World) (w : abi.World) → Matches p st w → IsRunning p i w.hart → (at : AtUnwind p n st w k) →
      step (code_of p.unit) st ≡ finishes (by_program aborted) v → length (linear_code (shape p n) at.operation) ≤ j → BothAbort (program_of i).image pick j p st w []
