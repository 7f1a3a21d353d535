-- What the machine comes to where something that an open call does comes out so: an operation of it, or a call that it makes.
use Rattle.std.specs.Prelude.{◌≡◌, ℕ, suc, ◌+◌, ◌<◌, ◌≤◌, ◌⊎◌, ℤ, true, List, ◌∷◌, Some}
use Rattle.meaning_forms.specs.Outcome.{Stop, thrown, cancelled, ended, undefined, out_of_turns, deep}
use Rattle.region_forms.specs.World.{Word, Frame, type_at}
use Rattle.region_forms.specs.Guard.{Guard}
use Rattle.region_forms.specs.Outcome.{State as RegionState, Result, done, stopped}
use Rattle.region_forms.specs.Ending.{Running}
use Rattle.linear_forms.specs.Activation.{Code, Activation, State, Next, goes_to, finishes, by_program, not_defined, look, on}
use Rattle.linear_forms.specs.Operation.{returned}
use Rattle.linear_forms.specs.Search.{found}
use Rattle.linear_forms.specs.Unwinding.{unwind}
use Rattle.linear_forms.specs.Forced.{force}
use Rattle.linear_forms.specs.Agrees.{Agrees}
use Rattle.linear_forms.specs.Pace.{Paced, MustPay}
use Rattle.linear_forms.specs.CodeRuns.{SameBelow, context_of, called_from}

-- the state that a result leaves
abbrev pub state_after : {A : Type 0} → Result A → RegionState
state_after (done a st) = st
state_after (stopped x st) = st

-- the turns left behind a stop; where they are used up, none counts
abbrev pub turns_at : Stop → RegionState → ℕ
turns_at out_of_turns st = 0
turns_at _ st = st.turns

-- the turns left behind a result
abbrev pub turns_left : {A : Type 0} → Result A → ℕ
turns_left (done a st) = st.turns
turns_left (stopped x st) = turns_at x st

-- At a stop: in the middle of an unwind from the place of the call, with its target, or of a forced unwind from there, where the frame of
-- regions is as it was; at an end; at an operation that would pay for a turn where the turns are used up; or still running where nothing
-- more is said.
abbrev pub StopsAt : Code → Frame → Activation → List Activation → Stop → RegionState → Next → Type 0
StopsAt code f a fs (thrown e) st x =
    (t : ℕ) × (found code a.function (look code a.function a.place) (type_at st.world e) fs ≡ Some t) ×
    (st.frame ≡ f) × (x ≡ unwind code (look code a.function a.place) t e a.function a.frame fs st.world)
StopsAt code f a fs (cancelled k) st x =
    (st.frame ≡ f) × (x ≡ force code (look code a.function a.place) k a.function a.frame fs st.world)
StopsAt code f a fs (ended e) st x = x ≡ finishes (by_program e) st.world
StopsAt code f a fs undefined st x = x ≡ finishes not_defined st.world
StopsAt code f a fs out_of_turns st x = MustPay code st.world x
StopsAt code f a fs deep st x = (m : State) × (x ≡ goes_to m) × (m.world ≡ st.world)

-- what is said of an answer, with the state that it leaves and what is next
abbrev pub Answered : Type 0 → Type 1
Answered A = A → RegionState → Next → Type 0

-- what is said of a result
abbrev pub ComesTo : {A : Type 0} → Code → Frame → Activation → List Activation → Answered A → Result A → Next → Type 0
ComesTo code f a fs D (done v st) x = D v st x
ComesTo code f a fs D (stopped y st) x = StopsAt code f a fs y st x

-- from a state with t turns the machine comes to what the result says, at the pace of `Paced`
pub record Comes {A : Type 0} (code : Code) (most : ℕ) (f : Frame) (a : Activation) (fs : List Activation) (D : Answered A) (m : State) (t : ℕ) (r : Result A) (c : ℕ) : Type 0 where
  pub next : Next
  pub reaches : Paced code most m t next (turns_left r) c
  pub comes : ComesTo code f a fs D r next

-- a call comes back with its value
abbrev pub comes_back : Code → Activation → List Activation → Answered ℤ
comes_back code a fs v st x = x ≡ returned code v (a ∷ fs) st.world

-- an operation is done, and both frames are as they were
abbrev pub goes_on : Frame → Activation → List Activation → Answered (Unit {0})
goes_on f a fs v st x = (st.frame ≡ f) × (x ≡ on a a.frame fs st.world)

-- at a stop that goes no further
abbrev pub IsEnd : Code → Stop → RegionState → Next → Type 0
IsEnd code (thrown e) st x = ⊥
IsEnd code (cancelled k) st x = ⊥
IsEnd code (ended e) st x = x ≡ finishes (by_program e) st.world
IsEnd code undefined st x = x ≡ finishes not_defined st.world
IsEnd code out_of_turns st x = MustPay code st.world x
IsEnd code deep st x = (m : State) × (x ≡ goes_to m) × (m.world ≡ st.world)

-- a result is a stop that goes no further, and the machine comes to it
pub record ComesToEnd {A : Type 0} (code : Code) (most : ℕ) (m : State) (t : ℕ) (r : Result A) (c : ℕ) : Type 0 where
  pub why : Stop
  pub state : RegionState
  pub is : r ≡ stopped why state
  pub next : Next
  pub reaches : Paced code most m t next (turns_at why state) c
  pub ends : IsEnd code why state next

-- a call was not opened: no turn was left, or nothing more is said
abbrev pub IsNotOpened : Result ℤ → RegionState → Type 0
IsNotOpened r st = ((r ≡ stopped out_of_turns st) × (st.turns ≡ 0)) ⊎ (r ≡ stopped deep st)

-- A call was opened: a turn was spent, which pays for the call's step and all others that spend none. The function then comes to what the
-- result says, with a step that may pay for each turn that is spent.
pub record Opened (code : Code) (most : ℕ) (a : Activation) (fs : List Activation) (m : State) (st : RegionState) (r : Result ℤ) : Type 0 where
  pub left : ℕ
  pub spent : st.turns ≡ suc left
  pub cost : ℕ
  pub paid : cost + 1 ≤ most
  pub comes : Comes code most st.frame a fs (comes_back code a fs) m left r cost

-- A function does at the machine what it does as regions, whichever activation calls it, a compiled one or one of the runtime's own, where
-- the search from there agrees with the guards.
abbrev pub FunctionRuns : Code → (most fuel : ℕ) → Running → ℕ → Type 0
FunctionRuns code most fuel run g =
    (a : Activation) (fs : List Activation) (gs : List Guard) (words : List Word) (st : RegionState) → st.turns < fuel
    → Agrees code a.function gs (look code a.function a.place) fs
    → IsNotOpened (run.call g words (context_of gs a fs) st) st ⊎
    Opened code most a fs (called_from code g words a fs st.world) st (run.call g words (context_of gs a fs) st)

-- What calls do: each runs, a call comes back to the frame that made it, and terminate, once begun, goes on. A turn pays for a step.
pub record CallsRun (code : Code) (most fuel : ℕ) (run : Running) : Type 0 where
  pub runs : (g : ℕ) → FunctionRuns code most fuel run g
  pub frames : (g : ℕ) (words : List Word) (a : Activation) (fs : List Activation) (gs : List Guard) (st : RegionState)
      → (state_after (run.call g words (context_of gs a fs) st)).frame ≡ st.frame
  pub ending : (g : ℕ) (words : List Word) (a : Activation) (fs : List Activation) (gs : List Guard) (st : RegionState) → st.world.ending ≡ true
      → (state_after (run.call g words (context_of gs a fs) st)).world.ending ≡ true
  pub types : run.types ≡ code.rows
  pub room : 1 ≤ most

-- an operation is done, in a frame that has the slots of the frame of regions
abbrev pub goes_alike : ℕ → Activation → List Activation → Answered (Unit {0})
goes_alike n a fs v st x = (g : Frame) × SameBelow n st.frame g × (x ≡ on a g fs st.world)

-- something comes back, both frames as they were, or stops and goes no further
abbrev pub BackOrEnd : Code → (most : ℕ) → Frame → Activation → List Activation → State → ℕ → Result (Unit {0}) → ℕ → Type 0
BackOrEnd code most f a fs m t r c =
    ((st : RegionState) × (r ≡ done tt st) × (st.frame ≡ f) × Paced code most m t (on a a.frame fs st.world) st.turns c) ⊎ ComesToEnd code most m t r c
