-- Calls of the runtime's own functions that wait: end_catch for a destructor, call_unexpected for the unexpected handler or for end_catch,
-- and terminate for its handler.
use Rattle.std.specs.Prelude.{◌≡◌, ◌⊎◌, ℕ, ◌+◌, ◌≤◌, true, ℤ, pos, List, Some}
use Rattle.rv64_isa.specs.State.{Part}
use Rattle.region_forms.specs.World.{Base, of_exception, Word, number_word, unwinding, object_address, address_in, World}
use Rattle.linear_forms.specs.Stub.{Function, compiled, end_catch, terminating, call_unexpected}
use Rattle.linear_forms.specs.Activation.{Activation}
use Rattle.machine_forms.specs.Shape.{return_offset}
use Rattle.machine_pieces.specs.Memory.{Apart}
use Rattle.machine_pieces.specs.Frames.{IntAt, AddressAt}
use Rattle.machine_stubs.specs.Stretches.{stub_word, frame_size}
use Rattle.machine_stubs.specs.EndCatch.{object_slot}
use Rattle.machine_stubs.specs.CallUnexpected.{stopped_slot, list_slot, table_slot, thrown_slot}
use Rattle.machine_simulation.specs.Plan.{Plan}

-- How far up sp is at least where one of them is called: call_unexpected by functions that look at the stack, end_catch by these and by call_unexpected,
-- and terminate by all. So a function that calls nothing has room below each.
abbrev pub called_from : Function → ℕ
called_from (compiled n) = 0x7000_1000
called_from call_unexpected = 0x7000_1000
called_from end_catch = 0x7000_0F00
called_from terminating = 0x7000_0E00

-- the frame of one of the runtime's own functions: it lies in the stack, apart from all that is live, and holds the return address
pub record StubStands (p : Plan) (f : Function) (memory : List Part) (stack back : ℕ) : Type 0 where
  pub above : called_from f ≤ stack + frame_size f
  pub below : stack + frame_size f ≤ 0x7100_0000
  pub saved : AddressAt memory (stack + return_offset) back
  pub alone : (b : Base) → p.live b ≡ true → Apart (p.at b) (p.size b) stack (frame_size f)

-- a slot holds the address of an exception that was made
pub record KeepsException (p : Plan) (word : Word) (v : World) (memory : List Part) (at : ℕ) : Type 0 where
  pub number : ℕ
  pub is : address_in word ≡ Some (object_address number)
  pub made : number ≤ v.last_number
  pub there : AddressAt memory at (p.at (of_exception number))

-- end_catch waits for the destructor of the object whose address it keeps
pub record DestructorWaits (p : Plan) (a : Activation) (v : World) (memory : List Part) (stack back : ℕ) : Type 0 where
  pub callee : a.function ≡ end_catch
  pub place : a.place ≡ 1
  pub returns : back ≡ stub_word p.base end_catch 13
  pub object : KeepsException p (a.frame.slots 0) v memory (stack + object_slot)

-- call_unexpected waits for the unexpected handler, and keeps the exception that was stopped, the selector, and the address of the table
-- of the function whose number it has
pub record UnexpectedWaits (p : Plan) (a : Activation) (v : World) (memory : List Part) (stack back : ℕ) : Type 0 where
  pub callee : a.function ≡ call_unexpected
  pub place : a.place ≡ 1
  pub returns : back ≡ stub_word p.base call_unexpected 10
  pub stopped : KeepsException p (a.frame.slots 0) v memory (stack + stopped_slot)
  pub selector : ℤ
  pub selector_is : a.frame.slots 1 ≡ number_word selector
  pub list : IntAt memory (stack + list_slot) selector
  pub owner : ℕ
  pub owner_is : a.frame.slots 2 ≡ number_word (pos owner)
  pub table : AddressAt memory (stack + table_slot) (p.tables owner)

-- what is on its way out of call_unexpected: an exception, or a forced unwind, for which the address is 0
abbrev pub KeepsFlying : Plan → Word → World → List Part → ℕ → Type 0
KeepsFlying p word v memory at = KeepsException p word v memory at ⊎ ((n : ℤ) × (word ≡ unwinding n) × AddressAt memory at 0)

-- call_unexpected waits for end_catch, at the first or the second of the two handlers that it leaves at its end
pub record LeavingWaits (p : Plan) (a : Activation) (v : World) (memory : List Part) (stack back : ℕ) : Type 0 where
  pub callee : a.function ≡ call_unexpected
  pub returns : ((a.place ≡ 15) × (back ≡ stub_word p.base call_unexpected 55)) ⊎ ((a.place ≡ 16) × (back ≡ stub_word p.base call_unexpected 57))
  pub thrown : KeepsFlying p (a.frame.slots 4) v memory (stack + thrown_slot)

-- one of them waits, which comes back; what it called returns to `back`, and it returns to `outer`
pub record StubWaits (p : Plan) (a : Activation) (v : World) (memory : List Part) (stack back outer : ℕ) : Type 0 where
  pub stands : StubStands p a.function memory stack outer
  pub waits : DestructorWaits p a v memory stack back ⊎ UnexpectedWaits p a v memory stack back ⊎ LeavingWaits p a v memory stack back

-- terminate waits for its handler
pub record TerminateWaits (base : ℕ) (a : Activation) (stack back : ℕ) : Type 0 where
  pub callee : a.function ≡ terminating
  pub place : a.place ≡ 0
  pub returns : back ≡ stub_word base terminating 6
  pub above : 0x7000_0800 ≤ stack
