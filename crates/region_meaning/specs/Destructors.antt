-- That the default constructor and the destructor of `std::bad_exception`, which do nothing, are called with fuel as regions call them without a function.
use Rattle.std.specs.Prelude.{◌≡◌, ℕ, [], None}
use Rattle.cxx_ast.specs.Plain.{Checked}
use Rattle.meaning_forms.specs.Class.{parts_of}
use Rattle.meaning_forms.specs.Construct.{constructor_for, destructor_place}
use Rattle.meaning_forms.specs.Running.{implicit_default}
use Rattle.region_forms.specs.Form.{Kinds, Regions}
use Rattle.region_forms.specs.Layout.{Layout}
use Rattle.region_statements.specs.Calls.{regions_running}
use Rattle.region_statements.specs.Fueled.{fueled}
use Rattle.region_exceptions.specs.Extents.{EmptyConstructor}
use Rattle.region_exceptions.specs.Handlers.{EmptyDestructor}

abbrev pub EmptyDestructorsAreSame : Type 0
EmptyDestructorsAreSame =
    (p : Checked) (layout : Layout) (q : Regions) (limit fuel : ℕ) (kinds : Kinds) → destructor_place p 0 ≡ None → parts_of p 0 ≡ []
    → EmptyDestructor layout (fueled p limit fuel) (regions_running q limit fuel kinds)

abbrev pub EmptyConstructorsAreSame : Type 0
EmptyConstructorsAreSame =
    (p : Checked) (layout : Layout) (q : Regions) (limit fuel : ℕ) (kinds : Kinds) → constructor_for p 0 0 ≡ implicit_default → parts_of p 0 ≡ []
    → EmptyConstructor layout (fueled p limit fuel) (regions_running q limit fuel kinds)
