-- A forced unwind goes on from one of the runtime's own functions, and comes to no landing pad.
use Rattle.std.specs.Prelude.{◌≡◌, ℕ, ◌+◌, ◌≤◌, ℤ, List, [], ◌∷◌, ◌++◌, Some, None}
use Rattle.std.specs.List.{AllByRecursion}
use Rattle.run_items.specs.declared.item.Item.{Item}
use Rattle.run_items.specs.declared.item.Item.TheVariants.{Free}
use Rattle.meaning_forms.specs.Outcome.{exit, aborted}
use Rattle.elf_image.specs.Clean.{CleanImage}
use Rattle.cxa_runtime.specs.declared.effect.End.TheVariants.{Exit, Aborted, Stack}
use Rattle.cxa_runtime.specs.World as abi
use Rattle.eh_run.specs.Program.{program_of}
use Rattle.region_forms.specs.World.{World}
use Rattle.linear_forms.specs.Stub.{Function, compiled, end_catch, terminating, call_unexpected}
use Rattle.linear_forms.specs.Activation.{Activation, State, goes_to, finishes, by_program}
use Rattle.linear_forms.specs.Machine.{step}
use Rattle.linear_forms.specs.UnitRun.{code_of}
use Rattle.machine_pieces.specs.Turning.{Reaches}
use Rattle.machine_stubs.specs.Stretches.{stub_word}
use Rattle.machine_simulation.specs.Plan.{Plan}
use Rattle.machine_simulation.specs.Calls.{open_bytes}
use Rattle.machine_simulation.specs.Matches.{Matches}
use Rattle.machine_simulation.specs.Entering.{entry_turns}
use Rattle.machine_simulation.specs.Objects.{without_object}
use Rattle.machine_exceptions.specs.Terminates.{waiting_terminate, in_handler}
use Rattle.flight_homes.specs.OpenCalls.{CallsStand}
use Rattle.machine_raises.specs.Stacks.{IsRunning}
use Rattle.raise_ends.specs.Ends.{RunEnds, LinearEnds, HandlerFits, HandlerBegins, plan_in_handler, hiding}
use Rattle.raise_ends.specs.Barriers.{IsCompiled, barred_state}
use Rattle.stub_landings.specs.Rests.{FreesOnTheWay, LeavesOn}
use Rattle.own_ends.specs.Callers.{CalledBelow}
use Rattle.own_ends.specs.Flights.{UnwindsOn}
use Rattle.own_ends.specs.Overflow.{LacksRoom}
use Rattle.own_ends.specs.Resumes.{held_back, freed_on_the_way}

-- call_unexpected is at its last operation, with a forced unwind; or end_catch is about to free an object for one
abbrev pub OwnUnwind : Function → Plan → State → abi.World → ℤ → Type 0
OwnUnwind (compiled n) p st w k = ⊥
OwnUnwind end_catch p st w k = FreesOnTheWay p st w × UnwindsOn st w 2 k
OwnUnwind terminating p st w k = ⊥
OwnUnwind call_unexpected p st w k = LeavesOn p 57 17 st w × UnwindsOn st w 4 k

-- the state at the function's last operation, where things stand then, what is shown up to it, and the turns up to that one's end
abbrev pub last_state : Function → State → State
last_state end_catch st = freed_on_the_way st
last_state f st = st

abbrev pub last_plan : Function → Plan → State → Plan
last_plan end_catch p st = without_object p (held_back st)
last_plan f p st = p

abbrev pub last_items : Function → State → List Item
last_items end_catch st = Free (held_back st) ∷ []
last_items f st = []

abbrev pub last_turns : Function → ℕ
last_turns end_catch = 8
last_turns f = 3

-- the calls that were left: the one that goes on, and calls of compiled functions, up to a call that stops the unwind
pub record OwnLeft (st : State) : Type 0 where
  pub calls : List Activation
  pub own : AllByRecursion IsCompiled calls
  pub barring : Activation
  pub outer : List Activation
  pub split : st.frames ≡ calls ++ barring ∷ outer

-- The handler in effect begins where the call that stops the unwind waits. Those that were left are closed, and the machine's stack still has their frames.
pub record OwnBarred (q : Plan) (i : CleanImage) (m : ℕ) (last : State) (w : abi.World) (most : ℕ) (items : List Item) : Type 0 where
  pub left : OwnLeft last
  pub begins : HandlerBegins q m last (barred_state left.barring left.outer last.world) []
  pub ran : let waiting = barred_state left.barring left.outer last.world in
      Reaches (program_of i).image most w items (λ u. Matches (plan_in_handler (hiding q (open_bytes q (last.top ∷ left.calls))) m waiting) (in_handler q m waiting) u)

-- That handler finds no room for its frame, and the run ends for want of stack.
pub record OwnOverflows (q : Plan) (i : CleanImage) (pick : ℕ → ℕ) (j m : ℕ) (last : State) (w : abi.World) (items : List Item) : Type 0 where
  pub left : OwnLeft last
  pub begins : HandlerBegins q m last (barred_state left.barring left.outer last.world) []
  pub ran : RunEnds (program_of i).image pick j w items Stack

-- Where a forced unwind goes on so and comes to the end of the stack, both machines exit with its number. Where it comes to a call without a site, the
-- handler in effect begins, if the stack has room; or both abort, for want of a handler or since terminate runs already.
pub record OwnUnwindsEnd : Type 0 where
  pub exits : (i : CleanImage) (pick : ℕ → ℕ) (j : ℕ) (p : Plan) (f : Function) (k z : ℤ) (st : State) (v : World) (w : abi.World) → OwnUnwind f p st w k → IsRunning p i w.hart → let last = last_state f st in
      step (code_of p.unit) last ≡ finishes (by_program (exit z)) v → last_turns f ≤ j → (z ≡ k) × (v ≡ last.world) × RunEnds (program_of i).image pick j w (last_items f st) (Exit k)
  pub calls_the_handler : (i : CleanImage) (p : Plan) (f : Function) (m : ℕ) (k : ℤ) (st next : State) (w : abi.World) → OwnUnwind f p st w k → IsRunning p i w.hart → CalledBelow st.frames → let last = last_state f st in let q = last_plan f p st in
      step (code_of p.unit) last ≡ goes_to next → next.top.function ≡ terminating → CallsStand last → (program_of i).image.places.terminate ≡ stub_word p.base terminating 0 → last.world.installed.terminate_handler ≡ Some m → HandlerFits q m last →
      OwnBarred q i m last w (last_turns f + 6 + entry_turns q m) (last_items f st)
  pub handlers_overflow : (i : CleanImage) (pick : ℕ → ℕ) (j : ℕ) (p : Plan) (f : Function) (m : ℕ) (k : ℤ) (st next : State) (w : abi.World) → OwnUnwind f p st w k → IsRunning p i w.hart → CalledBelow st.frames → let last = last_state f st in
      let q = last_plan f p st in step (code_of p.unit) last ≡ goes_to next → next.top.function ≡ terminating → (program_of i).image.places.terminate ≡ stub_word p.base terminating 0 → last.world.installed.terminate_handler ≡ Some m → q.hidden ≡ 0 →
      LacksRoom q m (waiting_terminate m ∷ last.top ∷ last.frames) → last_turns f + 12 ≤ j → OwnOverflows q i pick j m last w (last_items f st)
  pub aborts_without : (i : CleanImage) (pick : ℕ → ℕ) (j : ℕ) (p : Plan) (f : Function) (k : ℤ) (st next : State) (w : abi.World) → OwnUnwind f p st w k → IsRunning p i w.hart → CalledBelow st.frames → let last = last_state f st in
      step (code_of p.unit) last ≡ goes_to next → next.top.function ≡ terminating → (program_of i).image.places.terminate ≡ stub_word p.base terminating 0 → last.world.installed.terminate_handler ≡ None → last_turns f + 7 ≤ j →
      LinearEnds p 3 last [] aborted × RunEnds (program_of i).image pick j w (last_items f st) Aborted
  pub aborts_again : (i : CleanImage) (pick : ℕ → ℕ) (j : ℕ) (p : Plan) (f : Function) (k : ℤ) (st : State) (v : World) (w : abi.World) → OwnUnwind f p st w k → IsRunning p i w.hart → let last = last_state f st in
      step (code_of p.unit) last ≡ finishes (by_program aborted) v → last_turns f ≤ j → LinearEnds p 3 last [] aborted × RunEnds (program_of i).image pick j w (last_items f st) Aborted
