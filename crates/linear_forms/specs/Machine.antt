-- The machine for linear code: it makes one step for each operation.
use Rattle.std.specs.Prelude.{ℕ, zero, suc, List, Option, Some, None}
use Rattle.region_forms.specs.World.{World}
use Rattle.linear_forms.specs.Stub.{CodeOp, linear, runtime}
use Rattle.linear_forms.specs.Activation.{Code, Activation, State, Final, fault, Next, goes_to, finishes, fetch}
use Rattle.linear_forms.specs.Operation.{act}
use Rattle.linear_forms.specs.StubOperation.{act_stub}

-- the operation at the place of a call; behind the last one there is none
abbrev pub act_on : Code → Option CodeOp → Activation → List Activation → World → Next
act_on code None a fs w = finishes fault w
act_on code (Some (linear o)) a fs w = act code o a fs w
act_on code (Some (runtime o)) a fs w = act_stub code o a fs w

-- one step
abbrev pub step : Code → State → Next
step code st = act_on code (fetch code st.top.function st.top.place) st.top st.frames st.world

-- how a run of at most n steps comes out
pub data Run : Type 0 where
  over : Final → World → Run
  budget : World → Run

-- a run goes on from a state, and is over at an end
abbrev pub go_on : (State → Run) → Next → Run
go_on run (goes_to st) = run st
go_on run (finishes e w) = over e w

-- a run of at most n steps
abbrev pub exec : Code → ℕ → State → Run
exec code zero st = budget st.world
exec code (suc n) st = go_on (exec code n) (step code st)
