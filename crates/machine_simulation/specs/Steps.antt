-- Single steps without exceptions: what is asked of one, the most turns that it takes, and what it shows.
use Rattle.std.specs.Prelude.{◌≡◌, ◌⊎◌, ℕ, ◌+◌, List, [], ◌∷◌, length, slice_get, Option, Some}
use Rattle.run_items.specs.declared.item.Item.{Item}
use Rattle.region_forms.specs.Form.{Place, Value}
use Rattle.region_forms.specs.World.{Word}
use Rattle.linear_forms.specs.Linear.{LinearOp, return}
use Rattle.linear_forms.specs.Stub.{compiled}
use Rattle.linear_forms.specs.Activation.{Activation, State, goes_to}
use Rattle.linear_forms.specs.Machine.{step}
use Rattle.linear_forms.specs.UnitRun.{code_of}
use Rattle.machine_forms.specs.LinearCode.{linear_code}
use Rattle.machine_simulation.specs.Plan.{Plan, function, shape, slot_kinds}
use Rattle.machine_simulation.specs.Calls.{CallOf, call_of, wanted, stored_behind}
use Rattle.machine_simulation.specs.Operations.{IsQuiet}
use Rattle.machine_simulation.specs.Asked.{ValueAsked, WantedAsked, OperationAsked}
use Rattle.machine_simulation.specs.Returns.{closed, ResultStands}
use Rattle.machine_simulation.specs.Entering.{opened, frame_for, given_to, entry_turns, CallFits}
use Rattle.machine_simulation.specs.Lines.{Writes, LineIs}
use Rattle.machine_simulation.specs.Bytes.{Reads, AreBytes}

-- a step at an operation of the newest call
pub record StepAt (p : Plan) (st next : State) (n : ℕ) (o : LinearOp) : Type 0 where
  pub runs : st.top.function ≡ compiled n
  pub there : slice_get (function p n).ops st.top.place ≡ Some o
  pub step : step (code_of p.unit) st ≡ goes_to next

-- what is asked of one step, with the plan behind it, the most turns that it takes and what it shows: one that calls nothing
pub record QuietStep (p : Plan) (st next : State) (q : Plan) (most : ℕ) (items : List Item) : Type 0 where
  pub number : ℕ
  pub operation : LinearOp
  pub at : StepAt p st next number operation
  pub quiet : IsQuiet operation
  pub asked : OperationAsked p number st.top.frame st.world operation
  pub plan : q ≡ p
  pub turns : most ≡ length (linear_code (shape p number) operation)
  pub nothing_shown : items ≡ []

-- one that writes a line
pub record LineStep (p : Plan) (st next : State) (q : Plan) (most : ℕ) (items : List Item) : Type 0 where
  pub number : ℕ
  pub operation : LinearOp
  pub at : StepAt p st next number operation
  pub value : Value
  pub writes : Writes value operation
  pub asked : ValueAsked p number st.top.frame st.world value
  pub plan : q ≡ p
  pub turns : most ≡ length (linear_code (shape p number) operation)
  pub line : LineIs p number value st next items

-- one that reads a byte
pub record ByteStep (p : Plan) (st next : State) (q : Plan) (most : ℕ) (items : List Item) : Type 0 where
  pub number : ℕ
  pub operation : LinearOp
  pub at : StepAt p st next number operation
  pub wants : Option Place
  pub reads : Reads wants operation
  pub bytes : AreBytes st.world.input
  pub asked : WantedAsked p number st.top.frame wants
  pub plan : q ≡ p
  pub turns : most ≡ length (linear_code (shape p number) operation)
  pub nothing_shown : items ≡ []

-- one that calls a compiled function
pub record CallStep (p : Plan) (st next : State) (q : Plan) (most : ℕ) (items : List Item) : Type 0 where
  pub number : ℕ
  pub operation : LinearOp
  pub at : StepAt p st next number operation
  pub call : CallOf
  pub given : List Word
  pub is : call_of operation ≡ Some call
  pub passed : given_to (slot_kinds p number) st.top.frame st.world call ≡ Some given
  pub fits : CallFits p number st.top.frame st.world (st.top ∷ st.frames) call given
  pub plan : q ≡ opened p call.number st.world.calls (frame_for p call.number (st.top ∷ st.frames))
  pub turns : most ≡ length (linear_code (shape p number) operation) + entry_turns p call.number
  pub nothing_shown : items ≡ []

-- one that returns to a call that waits
pub record ReturnStep (p : Plan) (st next : State) (q : Plan) (most : ℕ) (items : List Item) : Type 0 where
  pub number : ℕ
  pub result : Option ℕ
  pub at : StepAt p st next number (return result)
  pub caller : ℕ
  pub waiting : Activation
  pub others : List Activation
  pub operation : LinearOp
  pub frames : st.frames ≡ waiting ∷ others
  pub callee : waiting.function ≡ compiled caller
  pub waits : slice_get (function p caller).ops waiting.place ≡ Some operation
  pub stands : ResultStands p number st.top.frame result
  pub wants : WantedAsked (closed p waiting.frame.call) caller waiting.frame (wanted operation)
  pub plan : q ≡ closed p waiting.frame.call
  pub turns : most ≡ length (linear_code (shape p number) (return result)) + length (stored_behind (shape p caller) operation)
  pub nothing_shown : items ≡ []

abbrev pub StepMade : Plan → State → State → Plan → ℕ → List Item → Type 0
StepMade p st next q most items =
    QuietStep p st next q most items ⊎ LineStep p st next q most items ⊎ ByteStep p st next q most items ⊎ CallStep p st next q most items ⊎ ReturnStep p st next q most items
