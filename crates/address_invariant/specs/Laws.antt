-- What the calls of laws state.
use Rattle.std.specs.Prelude.{◌≡◌, ℕ, ◌≤◌, Some, slice_get, List}
use Rattle.eh_outer.specs.declared.module.Reply.{Reply}
use Rattle.region_forms.specs.Form.{Place}
use Rattle.region_forms.specs.World.{Base, Address, Frame, World}
use Rattle.region_forms.specs.Evaluation.{in_memory, locate}
use Rattle.region_forms.specs.Effect.{newest_of}
use Rattle.linear_forms.specs.Linear.{UnitCode, FunctionCode, LinearOp}
use Rattle.linear_forms.specs.Stub.{compiled}
use Rattle.linear_forms.specs.Activation.{State, goes_to}
use Rattle.linear_forms.specs.Machine.{step}
use Rattle.linear_forms.specs.UnitRun.{code_at, code_of, first_state}
use Rattle.machine_simulation.specs.Calls.{IsBegun}
use Rattle.address_bounds.specs.Rooms.{HasRoom}
use Rattle.address_bounds.specs.Reaches.{Needs, exception_bytes, LinearReaches}
use Rattle.address_invariant.specs.Extents.{Extents, LiesInside}
use Rattle.address_invariant.specs.Reaching.{VariablesLie, CallReaches, ObjectsReach, Reaches}

-- Operations of a unit reach inside, and no function needs more than an exception object has.
pub record UnitReaches (u : UnitCode) (needs : Needs) : Type 0 where
  pub code : (n : ℕ) (g : FunctionCode) (place : ℕ) (o : LinearOp) → slice_get u.functions n ≡ Some g → slice_get g.ops place ≡ Some o → LinearReaches needs (needs n) g.slots o
  pub small : (n s : ℕ) → needs n s ≤ exception_bytes

-- Behind each place of a call, as far as it has room, lie bytes of ints.
abbrev pub PlacesLieInside : Type 0
PlacesLieInside = (x : Extents) (u : UnitCode) (needs : Needs) (n size : ℕ) (frame : Frame) (v : World) (q : Place) (a : Address) → ObjectsReach x v → CallReaches x u needs v (compiled n) frame →
    HasRoom (needs n) (code_at u n).slots q size → locate ((code_of u).kinds_at n) frame q ≡ Some (in_memory a) → LiesInside x v a size

-- What began before a step has the bytes that it had; an exception that is made has those of an object, and a call that begins has its
-- variables.
pub record GoesOn (x y : Extents) (u : UnitCode) (v : World) (next : State) : Type 0 where
  pub same : (b : Base) → IsBegun v b → (y.ints b ≡ x.ints b) × (y.size b ≡ x.size b)
  pub objects : ObjectsReach y next.world
  pub opened : next.top.frame.call ≡ v.calls → VariablesLie y u next.top.function next.top.frame.call

-- A step leaves it so, where the newest exception that is handled was made.
abbrev pub StepsReachInside : Type 0
StepsReachInside = (x y : Extents) (u : UnitCode) (needs : Needs) (st next : State) → UnitReaches u needs → Reaches x u needs st → newest_of st.world.caught ≤ st.world.last_number →
    step (code_of u) st ≡ goes_to next → GoesOn x y u st.world next → Reaches y u needs next

-- So it is where main begins.
abbrev pub FirstReaches : Type 0
FirstReaches = (x : Extents) (u : UnitCode) (needs : Needs) (input : List ℕ) (replies : List (List Reply)) → let st = first_state u input replies in
    ObjectsReach x st.world → VariablesLie x u (compiled u.main) st.top.frame.call → Reaches x u needs st
