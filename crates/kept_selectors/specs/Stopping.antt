-- What leads to the operation by which a specification passes on what it stopped.
use Rattle.std.specs.Prelude.{◌≡◌, ◌⊎◌, ℕ, ◌+◌, ℤ, negsuc, true, Some}
use Rattle.region_forms.specs.Form.{Place, bind, Regions}
use Rattle.region_forms.specs.WellFormed.{is_well_formed}
use Rattle.linear_forms.specs.Linear.{plain, label, jump_filter, resume, unexpected}
use Rattle.linear_forms.specs.Activation.{Code}
use Rattle.linear_forms.specs.Unit.{unit_of}
use Rattle.linear_forms.specs.UnitRun.{code_of}

-- a number names a list
abbrev pub IsList : ℤ → Type 0
IsList z = (j : ℕ) × (z ≡ negsuc j)

-- such an operation, or the label in front of one
abbrev pub Stopping : Code → ℕ → ℕ → Type 0
Stopping code n p =
    ((o : ℕ) × (s : ℕ) × (code.op_at n p ≡ Some (unexpected o s))) ⊎ ((l : ℕ) × (o : ℕ) × (s : ℕ) × (code.op_at n p ≡ Some (label l)) × (code.op_at n (p + 1) ≡ Some (unexpected o s)))

-- In front of it stands its label, in front of that what the specification lets on, and in front of that the test of its list.
pub record Stops (code : Code) (n u : ℕ) : Type 0 where
  pub test : ℕ
  pub place : u ≡ test + 3
  pub slot : ℕ
  pub list : ℕ
  pub goal : ℕ
  pub tests : code.op_at n test ≡ Some (jump_filter slot (negsuc list) goal)
  pub object : ℕ
  pub lets : code.op_at n (test + 1) ≡ Some (resume object)
  pub name : ℕ
  pub begins : code.op_at n (test + 2) ≡ Some (label name)

-- a test goes to the label two places behind, or to a handler
pub record GoesBehind (code : Code) (n p l : ℕ) : Type 0 where
  pub place : code.label_at n l ≡ p + 2
  pub begins : code.op_at n (p + 2) ≡ Some (label l)

pub record GoesToHandler (code : Code) (n l : ℕ) : Type 0 where
  pub begins : code.op_at n (code.label_at n l) ≡ Some (label l)
  pub slot : ℕ
  pub object : Place
  pub binds : code.op_at n (code.label_at n l + 1) ≡ Some (plain (bind slot object))

pub record CodeStops (code : Code) : Type 0 where
  pub stops : (n u o s : ℕ) → code.op_at n u ≡ Some (unexpected o s) → Stops code n u
  pub tests : (n p s l : ℕ) (z : ℤ) → code.op_at n p ≡ Some (jump_filter s z l) → GoesBehind code n p l ⊎ GoesToHandler code n l

-- the code of every well-formed program is so
abbrev pub ProgramsStop : Type 0
ProgramsStop = (r : Regions) → is_well_formed r ≡ true → CodeStops (code_of (unit_of r))
