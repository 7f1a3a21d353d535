-- The variables of a call, and what names stand for in it.
use Rattle.std.specs.Prelude.{ℕ, ◌==◌, List, [], ◌∷◌, Option, Some, None, if◌then◌else◌}
use Rattle.cxx_ast.specs.declared.name.Bound.{Bound}
use Rattle.cxx_ast.specs.declared.name.Bound.TheVariants.{Global, Local, Field}
use Rattle.cxx_ast.specs.declared.name.Name.{Name}
use Rattle.cxx_ast.specs.declared.types.Ty.{Ty}
use Rattle.cxx_ast.specs.declared.types.Ty.TheVariants.{ObjectRef}
use Rattle.cxx_ast.specs.declared.types.Param.{Param}
use Rattle.cxx_ast.specs.Plain.{Checked}
use Rattle.meaning_forms.specs.Class.{class_named}
use Rattle.meaning_forms.specs.Part.{cell}
use Rattle.meaning_forms.specs.World.{World, Reference, whole, nowhere, member, as_class}
use Rattle.meaning_forms.specs.Outcome.{Action, pure, new_object, ◌>>=◌}
use Rattle.meaning_forms.specs.Running.{Argument, by_value, by_reference}

-- a variable by its number in its function, and the object or the part that it names
pub record Variable : Type 0 where
  pub number : ℕ
  pub reference : Reference

-- the object that a member function works on, and the variables in reach, newest first
pub record Frame : Type 0 where
  pub this : Reference
  pub variables : List Variable

-- the number of a variable
abbrev pub local_number : Bound → ℕ
local_number (Local n) = n
local_number _ = 0

-- a variable comes in reach
abbrev pub with_variable : Name → Reference → Frame → Frame
with_variable n r f = record f { variables = record { number = local_number n.bound; reference = r } ∷ f.variables }

-- a parameter comes in reach, if it has a name
abbrev pub with_parameter : Option Name → Reference → Frame → Frame
with_parameter None r f = f
with_parameter (Some n) r f = with_variable n r f

-- the variable with a number
abbrev pub variable_in : List Variable → ℕ → Reference
variable_in [] n = nowhere
variable_in (x ∷ xs) n = if x.number == n then x.reference else variable_in xs n

-- what a name names by itself: a member is one of the object that the function works on
abbrev pub named : Checked → World → Frame → Bound → Reference
named p w f (Global g) = whole g
named p w f (Local n) = variable_in f.variables n
named p w f (Field k i) = member p w k i f.this
named p w f _ = nowhere

-- what a name names after a dot
abbrev pub member_named : Checked → World → Bound → Reference → Reference
member_named p w (Field k i) r = member p w k i r
member_named p w _ r = r

-- what names after dots name
abbrev pub members_named : Checked → World → List Name → Reference → Reference
members_named p w [] r = r
members_named p w (n ∷ ns) r = members_named p w ns (member_named p w n.bound r)

-- what `a.b.c` names; with no name at all, the object that the function works on
abbrev pub lvalue : Checked → World → Frame → List Name → Reference
lvalue p w f [] = f.this
lvalue p w f (n ∷ ns) = members_named p w ns (named p w f n.bound)

-- what a reference of a type names, bound to an lvalue: a part of the reference's own class
abbrev pub bound_as : World → Ty → Reference → Reference
bound_as w (ObjectRef const n) r = as_class w (class_named n) r
bound_as w _ r = r

-- a parameter by value is a new object, and one by reference names what the argument names
abbrev pub with_argument : Param → Argument → Frame → Action Frame
with_argument x (by_value v) f = do
  o ← new_object (cell (Some v))
  pure (with_parameter x.name (whole o) f)
with_argument x (by_reference r) f = pure (with_parameter x.name r f)

-- the parameters of a call
abbrev pub with_arguments : List Param → List Argument → Frame → Action Frame
with_arguments [] given f = pure f
with_arguments (x ∷ xs) [] f = pure f
with_arguments (x ∷ xs) (a ∷ given) f = with_argument x a f >>= with_arguments xs given
