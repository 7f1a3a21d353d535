-- The numbers of a class's functions, kept in a table.
use Rattle.std.specs.Prelude.{ℕ, List, slice_get, unwrap_or}
use Rattle.cxx_ast.specs.Plain.{Checked}
use Rattle.meaning_forms.specs.Construct.{destructor_place}
use Rattle.region_forms.specs.Numbering.{first_function, first_implicit, destructor_number}
use Rattle.region_ir.specs.declared.numbers.ClassNumbers.{ClassNumbers}

-- the numbers of the functions of class k
abbrev pub numbers_in : Checked → ℕ → ClassNumbers
numbers_in p k = record {
  declared = first_function p k;
  implicit = first_implicit p k;
  destructor = destructor_number p k (destructor_place p k);
}

-- what a table has for class k; all classes that are not there have the same numbers
abbrev pub found : List ClassNumbers → ClassNumbers → ℕ → ClassNumbers
found table beyond k = unwrap_or (slice_get table k) beyond
