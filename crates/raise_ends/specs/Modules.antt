-- A module raises an exception that nothing stops.
use Rattle.std.specs.Prelude.{◌≡◌, ℕ, ◌+◌, ◌<◌, ◌≤◌, false, pos, List, [], ◌∷◌, length, slice_get, slice_set, Option, Some, None}
use Rattle.eh_outer.specs.declared.module.Reply.{Reply}
use Rattle.eh_outer.specs.declared.module.Reply.TheVariants.{Raise}
use Rattle.run_items.specs.declared.item.Item.TheVariants.{Foreign}
use Rattle.elf_image.specs.Clean.{CleanImage}
use Rattle.caught_stack.specs.Live.{slots}
use Rattle.cxa_runtime.specs.World as abi
use Rattle.eh_run.specs.Program.{program_of}
use Rattle.region_forms.specs.Form.{Place}
use Rattle.region_forms.specs.World.{World, foreign, with_item}
use Rattle.region_forms.specs.Effect.{is_full, with_new}
use Rattle.linear_forms.specs.Linear.{LinearOp}
use Rattle.linear_forms.specs.Search.{found_above}
use Rattle.linear_forms.specs.Stub.{compiled, terminating}
use Rattle.linear_forms.specs.Activation.{State}
use Rattle.linear_forms.specs.UnitRun.{code_of}
use Rattle.machine_forms.specs.LinearCode.{linear_code}
use Rattle.machine_stubs.specs.Stretches.{stub_word}
use Rattle.machine_simulation.specs.Plan.{Plan, function, shape}
use Rattle.machine_simulation.specs.Matches.{Matches}
use Rattle.machine_simulation.specs.Entering.{entry_turns}
use Rattle.machine_simulation.specs.Objects.{with_object}
use Rattle.machine_exceptions.specs.Answers.{CallsModule}
use Rattle.machine_exceptions.specs.Picks.{MatchedFor}
use Rattle.machine_exceptions.specs.Terminates.{in_handler}
use Rattle.machine_raises.specs.Stacks.{IsRunning}
use Rattle.raise_ends.specs.Ends.{NoneIsCalled, BothAbort, HandlerFits, HandlerBegins, plan_in_handler}

-- a call is at a call of a module whose next reply raises
pub record AtRaise (i : CleanImage) (p : Plan) (n k token : ℕ) (left : List Reply) (st : State) : Type 0 where
  pub operation : LinearOp
  pub wants : Option Place
  pub runs : st.top.function ≡ compiled n
  pub there : slice_get (function p n).ops st.top.place ≡ Some operation
  pub calls : CallsModule p n st wants operation (pos k)
  pub reply : slice_get st.world.replies k ≡ Some (Raise token ∷ left)
  pub named : (program_of i).image.places.terminate ≡ stub_word p.base terminating 0

-- the exception is made, and its module has the replies that are left; the calls are those that were
abbrev pub raising_world : World → (k token : ℕ) → List Reply → World
raising_world v k token left = with_item (Foreign (v.last_number + 1) k token) (with_new (foreign k token) (record v { replies = slice_set v.replies k left }))

abbrev pub raising_state : (k token : ℕ) → List Reply → State → State
raising_state k token left st = record { top = st.top; frames = st.frames; world = raising_world st.world k token left }

-- Where fewer than 1,024 exceptions are live and nothing stops a foreign one, it is made and not entered. Two steps lead to the first operation
-- of the handler in effect, while terminate does not run, and are matched, whatever slots are picked. Without a handler, or where terminate
-- runs, both machines abort.
pub record ModulesDoom : Type 0 where
  pub calls_the_handler : (i : CleanImage) (pick : ℕ → ℕ) (p : Plan) (n m k token : ℕ) (left : List Reply) (st : State) (w : abi.World) → Matches p st w → IsRunning p i w.hart → (at : AtRaise i p n k token left st) → is_full st.world ≡ false →
      found_above (code_of p.unit) None (st.top ∷ st.frames) ≡ None → st.world.ending ≡ false → st.world.installed.terminate_handler ≡ Some m → p.hidden ≡ 0 → HandlerFits p m st →
      let e = st.world.last_number + 1 in let items = Foreign e k token ∷ [] in let waiting = raising_state k token left st in
      HandlerBegins p m st waiting items × (slot : ℕ) × (slot < slots)
      × MatchedFor (program_of i).image pick (length (linear_code (shape p n) at.operation) + 7 + entry_turns p m) w items (λ u. Matches (plan_in_handler (with_object p e slot) m waiting) (in_handler p m waiting) u)
  pub aborts : (i : CleanImage) (pick : ℕ → ℕ) (j : ℕ) (p : Plan) (n k token : ℕ) (left : List Reply) (st : State) (w : abi.World) → Matches p st w → IsRunning p i w.hart → (at : AtRaise i p n k token left st) → is_full st.world ≡ false →
      found_above (code_of p.unit) None (st.top ∷ st.frames) ≡ None → NoneIsCalled st.world st.world.installed.terminate_handler → length (linear_code (shape p n) at.operation) + 10 ≤ j →
      BothAbort (program_of i).image pick j p st w (Foreign (st.world.last_number + 1) k token ∷ [])
