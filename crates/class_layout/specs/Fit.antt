-- Classes that can be laid out in their order: the parts of each are of classes before it, and none has more bytes than the limit.
use Rattle.std.specs.Prelude.{ℕ, ◌≤◌, ◌<◌, List, [], ◌∷◌, ◌++◌, length}
use Rattle.cxx_ast.specs.Plain.{Class, Checked}
use Rattle.cxx_ast.specs.Limits.{most_class_bytes}
use Rattle.cxx_ast.specs.Checked.{IsChecked}
use Rattle.meaning_forms.specs.Class.{ObjectType, int_type, class_type}
use Rattle.region_forms.specs.Layout.{ClassLayout, class_parts, class_layout}

-- a type is int, or one of n classes
abbrev pub IsBefore : ℕ → ObjectType → Type 0
IsBefore n int_type = Unit {0}
IsBefore n (class_type k) = k < n

-- each of the types is
abbrev pub AreBefore : ℕ → List ObjectType → Type 0
AreBefore n [] = Unit {0}
AreBefore n (t ∷ types) = IsBefore n t × AreBefore n types

-- a class fits behind those that are laid out
pub record Fits (laid : List ClassLayout) (c : Class) : Type 0 where
  pub before : AreBefore (length laid) (class_parts c)
  pub small : (class_layout laid c).size ≤ most_class_bytes

-- classes fit one behind the other
abbrev pub FitBehind : List ClassLayout → List Class → Type 0
FitBehind laid [] = Unit {0}
FitBehind laid (c ∷ cs) = Fits laid c × FitBehind (laid ++ class_layout laid c ∷ []) cs

-- classes fit
abbrev pub Fit : List Class → Type 0
Fit cs = FitBehind [] cs

-- the classes of a checked program fit
abbrev pub CheckedClassesFit : Type 0
CheckedClassesFit = (p : Checked) → IsChecked p → Fit p.classes
