-- Behind the addresses in the slots of all open calls lie as many bytes of ints as their functions need.
use Rattle.std.specs.Prelude.{⊤, ◌≡◌, ℕ, ◌<◌, ◌≤◌, true, List, [], ◌∷◌, slice_get, Some}
use Rattle.region_forms.specs.Form.{Slot}
use Rattle.region_forms.specs.World.{of_global, of_variable, of_exception, Address, address_in, Frame, World}
use Rattle.region_forms.specs.WellFormed.{is_variable}
use Rattle.linear_forms.specs.Linear.{UnitCode}
use Rattle.linear_forms.specs.Stub.{Function, compiled, end_catch, terminating, call_unexpected}
use Rattle.linear_forms.specs.Activation.{Activation, State}
use Rattle.linear_forms.specs.UnitRun.{code_at}
use Rattle.address_bounds.specs.Rooms.{Reach}
use Rattle.address_bounds.specs.Reaches.{Needs, exception_bytes}
use Rattle.address_invariant.specs.Extents.{Extents, LiesInside}

-- What a function needs behind the addresses in its slots. Of the runtime's own, end_catch passes that of an exception object to its
-- destructor, and the others pass none.
abbrev pub reach_in : Needs → Function → Reach
reach_in needs (compiled n) = needs n
reach_in needs end_catch = λ s. exception_bytes
reach_in needs terminating = λ s. 0
reach_in needs call_unexpected = λ s. 0

-- a compiled function's calls have numbers, and the bytes of their variables are ints
abbrev pub IsBegunCall : World → Function → ℕ → Type 0
IsBegunCall v (compiled n) c = c < v.calls
IsBegunCall v f c = ⊤

abbrev pub VariablesLie : Extents → UnitCode → Function → ℕ → Type 0
VariablesLie x u (compiled n) c = (s : ℕ) (slot : Slot) → slice_get (code_at u n).slots s ≡ Some slot → is_variable slot.kind ≡ true → (x.ints (of_variable c s) ≡ true) × (slot.size ≤ x.size (of_variable c s))
VariablesLie x u f c = ⊤

-- an open call
pub record CallReaches (x : Extents) (u : UnitCode) (needs : Needs) (v : World) (f : Function) (frame : Frame) : Type 0 where
  pub begun : IsBegunCall v f frame.call
  pub variables : VariablesLie x u f frame.call
  pub held : (s : ℕ) (b : Address) → address_in (frame.slots s) ≡ Some b → LiesInside x v b (reach_in needs f s)

abbrev pub CallsReach : Extents → UnitCode → Needs → World → List Activation → Type 0
CallsReach x u needs v [] = ⊤
CallsReach x u needs v (a ∷ fs) = CallReaches x u needs v a.function a.frame × CallsReach x u needs v fs

-- globals are ints, and exceptions that were made have the bytes of their objects
pub record ObjectsReach (x : Extents) (v : World) : Type 0 where
  pub globals : (g : ℕ) → (x.ints (of_global g) ≡ true) × (4 ≤ x.size (of_global g))
  pub exceptions : (e : ℕ) → e ≤ v.last_number → (x.ints (of_exception e) ≡ true) × (x.size (of_exception e) ≡ exception_bytes)

-- a state
pub record Reaches (x : Extents) (u : UnitCode) (needs : Needs) (st : State) : Type 0 where
  pub objects : ObjectsReach x st.world
  pub calls : CallsReach x u needs st.world (st.top ∷ st.frames)
