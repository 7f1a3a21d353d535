-- How the parts of an object are built.
use Rattle.std.specs.Prelude.{ℕ, List, map}
use Rattle.cxx_ast.specs.View.{initialiser_of}
use Rattle.meaning_forms.specs.Class.{ObjectType}
use Rattle.meaning_forms.specs.Call.{initialiser_for}
use Rattle.region_forms.specs.Form.{Region}
use Rattle.region_forms.specs.LowerExpression.{Lowering}
use Rattle.region_forms.specs.LowerProgram.{default_part, copy_part, initial_part}
use Rattle.region_ir.specs.declared.part.Plan.{Plan}
use Rattle.region_ir.specs.declared.part.Plan.TheVariants as plans

-- how a plan builds a part of class k
abbrev pub building_of : Lowering → ℕ → Plan → ℕ → ObjectType → List Region
building_of l k plans.Default = default_part l k
building_of l k plans.Copy = copy_part l k
building_of l k (plans.Declared inits) = λ i. initial_part l k i (initialiser_for l.program (map initialiser_of inits.now) i)
