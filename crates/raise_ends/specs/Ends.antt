-- How runs of both machines end, and where a terminate handler begins.
use Rattle.std.specs.Prelude.{◌≡◌, ◌⊎◌, ℕ, true, List, [], ◌∷◌, ◌++◌, Option, None, if◌then◌else◌}
use Rattle.run_items.specs.declared.item.Item.{Item}
use Rattle.meaning_forms.specs.Outcome as meaning
use Rattle.meaning_forms.specs.Outcome.{aborted}
use Rattle.cxa_runtime.specs.declared.effect.End as machine
use Rattle.cxa_runtime.specs.declared.effect.End.TheVariants.{Aborted}
use Rattle.cxa_runtime.specs.World as abi
use Rattle.cxa_runtime.specs.Raising.{Image}
use Rattle.cxa_runtime.specs.Run.{run}
use Rattle.region_forms.specs.World.{World}
use Rattle.linear_forms.specs.Activation.{State, by_program}
use Rattle.linear_forms.specs.Machine.{over, exec}
use Rattle.linear_forms.specs.UnitRun.{code_of}
use Rattle.machine_simulation.specs.Plan.{Plan}
use Rattle.machine_simulation.specs.Entering.{opened, frame_for}
use Rattle.machine_simulation.specs.Objects.{Shows}
use Rattle.machine_exceptions.specs.Leaves.{StepsTo}
use Rattle.machine_exceptions.specs.Terminates as handlers
use Rattle.machine_exceptions.specs.Terminates.{waiting_terminate, in_handler}

-- a run of so many turns shows these items and ends so
abbrev pub RunEnds : Image → (pick : ℕ → ℕ) → ℕ → abi.World → List Item → machine.End → Type 0
RunEnds image pick k w items end = ((run image pick k w).items ≡ items) × ((run image pick k w).end ≡ end)

-- a run of so many steps of the machine for linear code shows these items and ends so
abbrev pub LinearEnds : Plan → ℕ → State → List Item → meaning.End → Type 0
LinearEnds p k st items end = (v : World) × (exec (code_of p.unit) k st ≡ over (by_program end) v) × (v.items ≡ st.world.items ++ items)

-- both abort, the one within three steps
abbrev pub BothAbort : Image → (pick : ℕ → ℕ) → ℕ → Plan → State → abi.World → List Item → Type 0
BothAbort image pick k p st w items = LinearEnds p 3 st items aborted × RunEnds image pick k w items Aborted

-- no handler is called: terminate runs already, or there is none
abbrev pub NoneIsCalled : World → Option ℕ → Type 0
NoneIsCalled v h = (v.ending ≡ true) ⊎ (h ≡ None)

-- what is shown where terminate does not run yet
abbrev pub unless_ending : World → List Item → List Item
unless_ending v items = if v.ending then [] else items

-- the handler has no parameter, and the stack has room for the frames of terminate and of the handler
abbrev pub HandlerFits : Plan → ℕ → State → Type 0
HandlerFits p m st = handlers.HandlerFits p m (waiting_terminate m ∷ st.top ∷ st.frames)

-- two steps lead to the first operation of a handler, where these calls wait, and show these items
abbrev pub HandlerBegins : Plan → ℕ → (st waiting : State) → List Item → Type 0
HandlerBegins p m st waiting items = StepsTo (code_of p.unit) 2 st (in_handler p m waiting) × Shows st (in_handler p m waiting) items

-- where things stand then
abbrev pub plan_in_handler : Plan → ℕ → State → Plan
plan_in_handler p m waiting = opened p m waiting.world.calls (frame_for p m (waiting_terminate m ∷ waiting.top ∷ waiting.frames))

-- where so many bytes lie between the frame of terminate and those of the calls below it: the frames of calls that an unwind has left
abbrev pub hiding : Plan → ℕ → Plan
hiding p hidden = record p { hidden = hidden }
