-- The types of the variables that are kept.
use Rattle.std.specs.Prelude.{List, [], ◌∷◌, Option, Some, None}
use Rattle.cxx_ast.specs.declared.types.Ty.{Ty}
use Rattle.cxx_ast.specs.declared.types.Ty.TheVariants as types
use Rattle.region_ir.specs.declared.variable.Variable.{Variable}
use Rattle.region_ir.specs.declared.variable.Variable.TheVariants as variables

-- the type of a variable
abbrev pub type_in : Variable → Ty
type_in variables.Int = types.Int
type_in variables.Void = types.Void
type_in (variables.Object n) = types.Object n.now
type_in (variables.IntRef const) = types.IntRef const
type_in (variables.ObjectRef const n) = types.ObjectRef const n.now

-- the types that a handler's parameter declares, where there is one
abbrev pub declared_by : Option Ty → List Ty
declared_by None = []
declared_by (Some t) = t ∷ []
