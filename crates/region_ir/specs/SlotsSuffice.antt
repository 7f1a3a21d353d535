-- The slots of a function are as many as its body mentions, and its result has one of its own.
use Rattle.std.specs.Prelude.{ℕ, ◌+◌, ◌≤◌, ◌<◌, ◌≡◌, Bool, true, ◌&&◌, nat_le, List, length}
use Rattle.cxx_ast.specs.declared.types.Ty.{Ty}
use Rattle.cxx_ast.specs.Plain.{Checked}
use Rattle.region_forms.specs.Form.{Region, RegionFunction}
use Rattle.region_forms.specs.Layout.{Layout}
use Rattle.region_forms.specs.LowerExpression.{exception_slot}
use Rattle.region_forms.specs.LowerProgram.{own_slots, slots_for, lowering}
use Rattle.region_forms.specs.Mentioned.{slots_of}
use Rattle.region_forms.specs.WellFormed.{slot_test, is_help, result_test}

-- the body mentions no slot behind a function's slots, the parameters are among them, and the result is no variable
abbrev pub slots_suffice : RegionFunction → Bool
slots_suffice f = nat_le (slots_of f.body) (length f.slots) && (nat_le f.parameters (length f.slots) && result_test f.slots f.result)

-- the slots behind the variables that a body mentions are no variables, nor is that of an exception object's address
pub record HelpsBehind (l : Layout) (is_member : Bool) (variables : List Ty) (body : Region) : Type 0 where
  pub mentioned : (s : ℕ) → length (own_slots is_member) + length variables ≤ s → s < slots_of body →
      slot_test is_help (slots_for l is_member variables body) s ≡ true
  pub exception : (p : Checked) → slot_test is_help (slots_for l is_member variables body) (exception_slot (lowering p l is_member variables)) ≡ true
