-- Members are laid out one after the other.
use Rattle.std.proofs.Common.{◌≡◌, ℕ, ◌+◌, List, ◌++◌, length}
use Rattle.cxx_ast.specs.Plain.{Class}
use Rattle.meaning_forms.specs.Class.{ObjectType, base_part}
use Rattle.region_forms.specs.Layout.{ClassLayout, sizes_in, offsets_from, member_types, class_parts}
use Rattle.class_layout.specs.Fit.{AreBefore}

-- the offsets of the members of a class so far, where the next part begins, and the types of the members that are left
pub record Laying (laid : List ClassLayout) (c : Class) (left : List ObjectType) (offsets : List ℕ) (end : ℕ) : Type 0 where
  pub gives : offsets ++ offsets_from laid end left ≡ offsets_from laid (sizes_in laid (base_part c.base)) (member_types c)
  pub total : end + sizes_in laid left ≡ sizes_in laid (class_parts c)
  pub before : AreBefore (length laid) left
