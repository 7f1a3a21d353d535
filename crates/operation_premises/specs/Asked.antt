-- What the call of laws states.
use Rattle.std.specs.Prelude.{⊤, ◌≡◌, ℕ, ℤ, Some, None}
use Rattle.meaning_forms.specs.Arithmetic.{decided}
use Rattle.region_forms.specs.Form.{Kinds, Place, Value, number, load, unary, binary, call_value, Argument, int_argument, address_argument, handler_argument, Arguments, no_arguments, argument_then, store}
use Rattle.region_forms.specs.World.{Frame, World}
use Rattle.region_forms.specs.Evaluation.{value_in}
use Rattle.linear_forms.specs.Linear.{LinearOp, plain, jump_zero}
use Rattle.linear_forms.specs.Stub.{compiled}
use Rattle.linear_forms.specs.Activation.{State}
use Rattle.machine_simulation.specs.Plan.{Plan, function, slot_kinds}
use Rattle.machine_simulation.specs.Exceptions.{PlanHas}
use Rattle.machine_simulation.specs.Asked.{LiveAsked, ValueAsked, TargetAsked, AddressAsked, ArgumentsAsked, OperationAsked}
use Rattle.address_bounds.specs.Rooms.{Reach, HasRoom}
use Rattle.address_bounds.specs.Reaches.{Needs, ArgumentsReach, LinearReaches}
use Rattle.operation_premises.specs.Static.{PlaceStatic, ValueStatic, ArgumentsStatic, LinearStatic}
use Rattle.address_invariant.specs.Extents.{extents_of}
use Rattle.address_invariant.specs.Reaching.{Reaches}

-- each exception behind an address that a value loads through is live; on the right side of `&&` and `||` where the left one does not decide
abbrev pub ValueLive : Plan → ℕ → Frame → World → Value → Type 0
ValueLive p n frame w (number v) = ⊤
ValueLive p n frame w (load q) = LiveAsked p frame q.root
ValueLive p n frame w (unary o v) = ValueLive p n frame w v
ValueLive p n frame w (binary o a b) = ValueLive p n frame w a × ((x : ℤ) → value_in (slot_kinds p n) frame w a ≡ Some x → decided o x ≡ None → ValueLive p n frame w b)
ValueLive p n frame w (call_value c args) = ⊤

abbrev pub ArgumentLive : Plan → ℕ → Frame → World → Argument → Type 0
ArgumentLive p n frame w (int_argument v) = ValueLive p n frame w v
ArgumentLive p n frame w (address_argument q) = ⊤
ArgumentLive p n frame w (handler_argument m) = ⊤

abbrev pub ArgumentsLive : Plan → ℕ → Frame → World → Arguments → Type 0
ArgumentsLive p n frame w no_arguments = ⊤
ArgumentsLive p n frame w (argument_then a args) = ArgumentLive p n frame w a × ArgumentsLive p n frame w args

-- and so behind one that an operation stores through
abbrev pub OperationLive : Plan → ℕ → Frame → World → LinearOp → Type 0
OperationLive p n frame w (plain (store q v)) = ValueLive p n frame w v × LiveAsked p frame q.root
OperationLive p n frame w (jump_zero v l) = ValueLive p n frame w v
OperationLive p n frame w o = ⊤

-- a compiled function runs, and so many bytes lie behind addresses as functions need
pub record IsInside (p : Plan) (needs : Needs) (n : ℕ) (st : State) : Type 0 where
  pub runs : st.top.function ≡ compiled n
  pub reaches : Reaches (extents_of p) p.unit needs st

-- A value that is defined loads from what is live. Where what is known of an operation, whatever the frame holds, is so, and bytes lie behind addresses as it needs, all that is asked of it is so.
pub record AllIsAsked : Type 0 where
  pub values : (p : Plan) (n : ℕ) (frame : Frame) (w : World) (v : Value) → ValueStatic p.unit (function p n) v → ValueLive p n frame w v → ValueAsked p n frame w v
  pub loads : (p : Plan) (n : ℕ) (frame : Frame) (w : World) (v : Value) (z : ℤ) → PlanHas p w.live → value_in (slot_kinds p n) frame w v ≡ Some z → ValueLive p n frame w v
  pub addresses : (p : Plan) (needs : Needs) (n size : ℕ) (st : State) (q : Place) → IsInside p needs n st → PlaceStatic p.unit (function p n) q → HasRoom (needs n) (function p n).slots q size → AddressAsked p n st.top.frame q
  pub targets : (p : Plan) (needs : Needs) (n : ℕ) (st : State) (q : Place) → IsInside p needs n st → PlaceStatic p.unit (function p n) q → HasRoom (needs n) (function p n).slots q 4 → LiveAsked p st.top.frame q.root →
      TargetAsked p n st.top.frame q
  pub arguments : (p : Plan) (needs : Needs) (wants : Reach) (n i : ℕ) (st : State) (kinds : Kinds) (args : Arguments) → IsInside p needs n st → ArgumentsStatic p.unit (function p n) kinds i args →
      ArgumentsReach needs (needs n) (function p n).slots wants i args → ArgumentsLive p n st.top.frame st.world args → ArgumentsAsked p n st.top.frame st.world args
  pub operations : (p : Plan) (needs : Needs) (n : ℕ) (st : State) (o : LinearOp) → IsInside p needs n st → LinearStatic p.unit (function p n) o → LinearReaches needs (needs n) (function p n).slots o →
      OperationLive p n st.top.frame st.world o → OperationAsked p n st.top.frame st.world o
