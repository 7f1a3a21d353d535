-- Exception objects in a plan, slots that hold their addresses, and what a step shows.
use Rattle.std.specs.Prelude.{◌≡◌, ℕ, ◌^◌, ◌<◌, ◌==◌, Bool, true, false, List, ◌++◌, length, Some, if◌then◌else◌}
use Rattle.run_items.specs.declared.item.Item.{Item}
use Rattle.cxa_runtime.specs.Objects.{object_of}
use Rattle.region_forms.specs.World.{Base, of_global, of_variable, of_exception, Frame, object_address, address_in}
use Rattle.linear_forms.specs.Activation.{State}
use Rattle.machine_forms.specs.Shape.{slot_offset}
use Rattle.machine_simulation.specs.Plan.{Plan, shape, narrowed}

-- the object of one exception
abbrev pub is_object : ℕ → Base → Bool
is_object e (of_global g) = false
is_object e (of_variable c s) = false
is_object e (of_exception d) = e == d

-- an exception has its object in a slot of the runtime, and it has it no longer
abbrev pub with_object : Plan → (e slot : ℕ) → Plan
with_object p e slot = record p {
  at = λ b. if is_object e b then object_of slot else p.at b;
  live = λ b. if is_object e b then true else p.live b;
  size = λ b. if is_object e b then 0x1000 else p.size b;
  ints = λ b. if is_object e b then true else p.ints b;
}

abbrev pub without_object : Plan → ℕ → Plan
without_object p e = narrowed p (is_object e)

-- a slot of a call's frame holds the address of an exception
pub record HoldsObject (p : Plan) (n : ℕ) (frame : Frame) (s e : ℕ) : Type 0 where
  pub inside : s < length (shape p n).slots
  pub near : slot_offset (shape p n) s < 2 ^ 11
  pub is : address_in (frame.slots s) ≡ Some (object_address e)

-- the items that the machine for linear code has more behind a step
abbrev pub Shows : State → State → List Item → Type 0
Shows st next items = next.world.items ≡ st.world.items ++ items
