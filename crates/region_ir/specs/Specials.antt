-- The functions that are called for objects themselves: destructors, copy constructors and default constructors.
use Rattle.std.specs.Prelude.{ℕ, ◌≡◌, ◌==◌, Bool, true, [], ◌∷◌, length, if◌then◌else◌}
use Rattle.cxx_ast.specs.Plain.{Class, Function, Checked}
use Rattle.meaning_forms.specs.Construct.{is_destructor, copy_constructor, constructor_for}
use Rattle.meaning_forms.specs.Running.{constructor, destructor}
use Rattle.region_forms.specs.Form.{Place, address_argument, no_arguments, arguments_from}
use Rattle.region_forms.specs.Layout.{Layout}
use Rattle.region_forms.specs.LowerProgram.{regions_of}
use Rattle.region_forms.specs.Numbering.{number_of}
use Rattle.region_forms.specs.WellFormed.{every, takes_object}

-- a destructor has no parameters
abbrev pub destructor_alone : Function → Bool
destructor_alone f = if is_destructor f.kind then length f.parameters == 0 else true

-- nor have those of a class
abbrev pub destructors_alone : Class → Bool
destructors_alone c = every destructor_alone c.functions

-- objects of a class can be destroyed, copied from a place, and built without arguments
pub record TakeObjects (p : Checked) (l : Layout) (k : ℕ) : Type 0 where
  pub destroyed : takes_object (regions_of p l) (number_of p (destructor k)) no_arguments ≡ true
  pub copied : (source : Place) →
      takes_object (regions_of p l) (number_of p (constructor k (copy_constructor p k))) (arguments_from (address_argument source ∷ [])) ≡ true
  pub default : takes_object (regions_of p l) (number_of p (constructor k (constructor_for p k 0))) no_arguments ≡ true
