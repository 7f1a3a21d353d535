-- The newest handled exception is thrown again, and nothing stops it.
use Rattle.std.specs.Prelude.{◌≡◌, ℕ, ◌+◌, ◌≤◌, true, false, List, [], ◌∷◌, length, slice_get, Option, Some, None}
use Rattle.run_items.specs.declared.item.Item.{Item}
use Rattle.run_items.specs.declared.item.Item.TheVariants.{Enter}
use Rattle.elf_image.specs.Clean.{CleanImage}
use Rattle.cxa_runtime.specs.World as abi
use Rattle.eh_run.specs.Program.{program_of}
use Rattle.region_forms.specs.Form.{rethrow}
use Rattle.region_forms.specs.Caught.{Entry}
use Rattle.region_forms.specs.World.{World, Exception, native, exception_at, type_at}
use Rattle.region_forms.specs.Lives.{can_travel}
use Rattle.region_forms.specs.Effect.{entered_doomed}
use Rattle.linear_forms.specs.Linear.{plain}
use Rattle.linear_forms.specs.Search.{found_above}
use Rattle.linear_forms.specs.Stub.{compiled, terminating}
use Rattle.linear_forms.specs.Activation.{State}
use Rattle.linear_forms.specs.UnitRun.{code_of}
use Rattle.machine_forms.specs.LinearCode.{linear_code}
use Rattle.machine_pieces.specs.Turning.{Reaches}
use Rattle.machine_stubs.specs.Stretches.{stub_word}
use Rattle.machine_simulation.specs.Plan.{Plan, function, shape}
use Rattle.machine_simulation.specs.Matches.{Matches}
use Rattle.machine_simulation.specs.Entering.{entry_turns}
use Rattle.machine_exceptions.specs.Terminates.{in_handler}
use Rattle.machine_raises.specs.Stacks.{IsRunning}
use Rattle.machine_raises.specs.Resumes.{TypeIsThere}
use Rattle.raise_ends.specs.Ends.{NoneIsCalled, unless_ending, BothAbort, HandlerFits, HandlerBegins, plan_in_handler}

-- Nothing stops an exception: one of this language is entered, and the handler kept with it is used; a foreign one is not entered, and the
-- handler in effect is used.
abbrev pub handler_used : Exception → World → Option ℕ
handler_used (native t d kept) v = kept.terminate_handler
handler_used x v = v.installed.terminate_handler

abbrev pub entered_where_native : Exception → ℕ → World → World
entered_where_native (native t d kept) e v = entered_doomed e v
entered_where_native x e v = v

abbrev pub entering : Exception → ℕ → List Item
entering (native t d kept) e = Enter e ∷ []
entering x e = []

-- a call throws the newest handled exception again, which can travel and whose type is there, and nothing above handles it
pub record AtRethrow (i : CleanImage) (p : Plan) (n : ℕ) (x : Entry) (others : List Entry) (st : State) : Type 0 where
  pub runs : st.top.function ≡ compiled n
  pub there : slice_get (function p n).ops st.top.place ≡ Some (plain rethrow)
  pub caught : st.world.caught ≡ x ∷ others
  pub still : x.again ≡ false
  pub travels : can_travel st.world x.number ≡ true
  pub type : TypeIsThere p (type_at st.world x.number)
  pub lost : found_above (code_of p.unit) (type_at st.world x.number) (st.top ∷ st.frames) ≡ None
  pub named : (program_of i).image.places.terminate ≡ stub_word p.base terminating 0

-- the calls are those that were
abbrev pub rethrown_state : Entry → State → State
rethrown_state x st = record { top = st.top; frames = st.frames; world = entered_where_native (exception_at st.world x.number) x.number st.world }

-- Two steps lead to the first operation of the handler that is used, while terminate does not run; they are matched, and show that a native
-- exception is entered. Without a handler, or where terminate runs, both machines abort.
pub record RethrowsDoom : Type 0 where
  pub calls_the_handler : (i : CleanImage) (p : Plan) (n m : ℕ) (x : Entry) (others : List Entry) (st : State) (w : abi.World) → Matches p st w → IsRunning p i w.hart → AtRethrow i p n x others st → st.world.ending ≡ false →
      handler_used (exception_at st.world x.number) st.world ≡ Some m → p.hidden ≡ 0 → HandlerFits p m st → let items = entering (exception_at st.world x.number) x.number in let waiting = rethrown_state x st in
      HandlerBegins p m st waiting items × Reaches (program_of i).image (length (linear_code (shape p n) (plain rethrow)) + 7 + entry_turns p m) w items (λ u. Matches (plan_in_handler p m waiting) (in_handler p m waiting) u)
  pub aborts : (i : CleanImage) (pick : ℕ → ℕ) (k : ℕ) (p : Plan) (n : ℕ) (x : Entry) (others : List Entry) (st : State) (w : abi.World) → Matches p st w → IsRunning p i w.hart → AtRethrow i p n x others st →
      NoneIsCalled st.world (handler_used (exception_at st.world x.number) st.world) → length (linear_code (shape p n) (plain rethrow)) + 10 ≤ k →
      BothAbort (program_of i).image pick k p st w (unless_ending st.world (entering (exception_at st.world x.number) x.number))
