-- What is in reach in a call of a source, in the frame of the regions of its function.
use Rattle.std.specs.Prelude.{◌≡◌, ℕ, ◌+◌, ◌<◌, ◌≤◌, Bool, true, List, ◌==◌, Option, Some, None, length}
use Rattle.cxx_ast.specs.declared.types.Ty.{Ty}
use Rattle.cxx_ast.specs.declared.types.Ty.TheVariants.{Int, Void, Object, IntRef, ObjectRef}
use Rattle.meaning_forms.specs.Class.{class_type, object_type, some_of}
use Rattle.meaning_forms.specs.Frame.{Frame as SourceFrame, Variable, variable_in}
use Rattle.region_forms.specs.Form.{Kinds, SlotKind, int_slot, address_slot, object_slot, help_slot}
use Rattle.region_forms.specs.World.{Address, of_variable, address_word, Frame}
use Rattle.region_forms.specs.LowerExpression.{Lowering, variable_type, result_slot}
use Rattle.region_simulation.specs.Places.{Places, Refers}

-- the variable with a number is in reach
abbrev pub is_in_reach : List Variable → ℕ → Bool
is_in_reach xs n = some_of (λ x. x.number == n) xs

-- the address of a slot of a call
abbrev pub slot_address : ℕ → ℕ → Address
slot_address call s = record { base = of_variable call s; offset = 0 }

-- the slot of a reference holds the address of what it names; any other variable is an object at the slot itself
abbrev pub IsReachedBy : Ty → ℕ → Frame → Address → Type 0
IsReachedBy Void s f a = ⊥
IsReachedBy (IntRef const) s f a = f.slots s ≡ address_word a
IsReachedBy (ObjectRef const k) s f a = f.slots s ≡ address_word a
IsReachedBy _ s f a = a ≡ slot_address f.call s

-- a variable names a part of its type, where its slot says
pub record VariableStands (l : Lowering) (at : Places) (v : SourceFrame) (f : Frame) (n : ℕ) : Type 0 where
  pub there : n < length l.variables
  pub address : Address
  pub refers : Refers l.layout l.program at (variable_in v.variables n) (object_type (variable_type l n)) address
  pub reached : IsReachedBy (variable_type l n) (l.first_variable + n) f address

-- the object of class k that a member function works on: its address is in the first slot
pub record OwnStands (l : Lowering) (at : Places) (v : SourceFrame) (f : Frame) (k : ℕ) : Type 0 where
  pub first : l.first_variable ≡ 1
  pub address : Address
  pub refers : Refers l.layout l.program at v.this (class_type k) address
  pub reached : f.slots 0 ≡ address_word address

-- the class of the own object, if there is one
abbrev pub ThisStands : Option ℕ → Lowering → Places → SourceFrame → Frame → Type 0
ThisStands None l at v f = Unit {0}
ThisStands (Some k) l at v f = OwnStands l at v f k

-- what is in reach in a call stands where the frame says
pub record Reaches (l : Lowering) (own : Option ℕ) (at : Places) (v : SourceFrame) (f : Frame) : Type 0 where
  pub variables : (n : ℕ) → is_in_reach v.variables n ≡ true → VariableStands l at v f n
  pub this : ThisStands own l at v f

-- the kind of a variable's slot
abbrev pub kind_for : Ty → SlotKind
kind_for Int = int_slot
kind_for Void = help_slot
kind_for (Object k) = object_slot
kind_for (IntRef const) = address_slot
kind_for (ObjectRef const k) = address_slot

-- the kinds of a function's slots: those of its variables, and behind them values that are no variables
pub record KindsFit (l : Lowering) (kinds : Kinds) : Type 0 where
  pub variables : (n : ℕ) → n < length l.variables → kinds (l.first_variable + n) ≡ kind_for (variable_type l n)
  pub behind : (s : ℕ) → result_slot l ≤ s → kinds s ≡ help_slot
