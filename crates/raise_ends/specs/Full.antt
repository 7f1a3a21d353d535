-- A module raises an exception while as many are live as can be.
use Rattle.std.specs.Prelude.{◌≡◌, ℕ, ◌+◌, ◌≤◌, true, false, List, [], length, slice_set, Some}
use Rattle.eh_outer.specs.declared.module.Reply.{Reply}
use Rattle.elf_image.specs.Clean.{CleanImage}
use Rattle.cxa_runtime.specs.World as abi
use Rattle.eh_run.specs.Program.{program_of}
use Rattle.region_forms.specs.Effect.{is_full}
use Rattle.linear_forms.specs.Activation.{State}
use Rattle.machine_forms.specs.LinearCode.{linear_code}
use Rattle.machine_pieces.specs.Turning.{Reaches}
use Rattle.machine_simulation.specs.Plan.{Plan, shape}
use Rattle.machine_simulation.specs.Matches.{Matches}
use Rattle.machine_simulation.specs.Entering.{entry_turns}
use Rattle.machine_exceptions.specs.Terminates.{in_handler}
use Rattle.raise_ends.specs.Ends.{NoneIsCalled, BothAbort, HandlerFits, HandlerBegins, plan_in_handler}
use Rattle.raise_ends.specs.Modules.{AtRaise}

-- the reply is used up, and nothing is made; the calls are those that were
abbrev pub refused_state : ℕ → List Reply → State → State
refused_state k left st = record { top = st.top; frames = st.frames; world = record (st.world) { replies = slice_set st.world.replies k left } }

-- Where 1,024 exceptions are live, two steps lead to the first operation of the handler in effect, while terminate does not run; they are
-- matched, and show nothing. Without a handler, or where terminate runs, both machines abort.
pub record ModulesAreRefusedWhenFull : Type 0 where
  pub calls_the_handler : (i : CleanImage) (p : Plan) (n m k token : ℕ) (left : List Reply) (st : State) (w : abi.World) → Matches p st w → (at : AtRaise i p n k token left st) → is_full st.world ≡ true → st.world.ending ≡ false →
      st.world.installed.terminate_handler ≡ Some m → p.hidden ≡ 0 → HandlerFits p m st → let waiting = refused_state k left st in
      HandlerBegins p m st waiting [] × Reaches (program_of i).image (length (linear_code (shape p n) at.operation) + 7 + entry_turns p m) w [] (λ u. Matches (plan_in_handler p m waiting) (in_handler p m waiting) u)
  pub aborts : (i : CleanImage) (pick : ℕ → ℕ) (j : ℕ) (p : Plan) (n k token : ℕ) (left : List Reply) (st : State) (w : abi.World) → Matches p st w → (at : AtRaise i p n k token left st) → is_full st.world ≡ true →
      NoneIsCalled st.world st.world.installed.terminate_handler → length (linear_code (shape p n) at.operation) + 10 ≤ j → BothAbort (program_of i).image pick j p st w []
