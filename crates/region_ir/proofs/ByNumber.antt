-- What the number of arguments selects.
use Rattle.std.proofs.Common.{◌≡◌, ◌≢◌, ℕ, List, [], ◌∷◌, length, refl, ap}
use Rattle.cxx_ast.specs.declared.expression.Expr.{Expr}
use Rattle.cxx_ast.specs.View.{expressions_of}
use Rattle.meaning_forms.specs.Construct.{constructor_for}
use Rattle.scope_flow.proofs.Counted.{counted}
use Rattle.region_forms.specs.LowerExpression.{Lowering, constructor_chosen}

-- other than one argument: their number selects
pub chosen_by_number : (l : Lowering) (k : ℕ) (es : List Expr) → length es ≢ 1 → constructor_for l.program k (length es) ≡ constructor_chosen l k (expressions_of es)
chosen_by_number l k [] other = refl
chosen_by_number l k (e ∷ []) other = absurd (other refl)
chosen_by_number l k (e ∷ d ∷ es) other = ap (constructor_for l.program k) (counted (e ∷ d ∷ es))
