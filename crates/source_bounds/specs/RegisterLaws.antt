-- What the calls of laws on registers state.
use Rattle.std.specs.Prelude.{ℕ, ◌≤◌}
use Rattle.std.specs.List.{AllByRecursion}
use Rattle.cxx_ast.specs.Checked.{IsChecked}
use Rattle.cxx_ast.specs.Plain.{Checked, Expression}
use Rattle.region_forms.specs.Layout.{Layout}
use Rattle.region_forms.specs.LowerExpression.{Lowering, lower}
use Rattle.region_forms.specs.LowerProgram.{regions_of}
use Rattle.linear_forms.specs.Unit.{unit_of}
use Rattle.machine_forms.specs.Bounds.{LinearFits}
use Rattle.machine_forms.specs.ValueCode.{needs}
use Rattle.source_bounds.specs.BuiltinCalls.{BuiltinsTakeFew}
use Rattle.source_bounds.specs.LeastTokens.{tokens_in}

-- an expression of at most 2,000 tokens becomes a value that needs at most 11 registers
abbrev pub ValuesNeedFew : Type 0
ValuesNeedFew = (l : Lowering) (e : Expression) (t : ℕ) → tokens_in e ≤ 2000 → needs (lower l e t).value ≤ 11

-- in a checked program no call of a built-in function has more than two arguments
abbrev pub BuiltinsAreBrief : Type 0
BuiltinsAreBrief = (p : Checked) → IsChecked p → BuiltinsTakeFew p

-- so none of its operations, by any layout, needs more registers than there are for values
abbrev pub RegistersSuffice : Type 0
RegistersSuffice = (p : Checked) (l : Layout) → IsChecked p → AllByRecursion (λ g. AllByRecursion LinearFits g.ops) (unit_of (regions_of p l)).functions
