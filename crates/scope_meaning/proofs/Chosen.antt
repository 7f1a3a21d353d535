-- The number of arguments, and what it selects.
use Rattle.std.proofs.Common.{◌≡◌, ◌≢◌, ℕ, List, [], ◌∷◌, length, refl, ap}
use Rattle.cxx_ast.specs.declared.expression.Expr.{Expr}
use Rattle.cxx_ast.specs.View.{expressions_of}
use Rattle.cxx_ast.specs.Plain.{Checked}
use Rattle.meaning_forms.specs.World.{World}
use Rattle.meaning_forms.specs.Frame.{Frame}
use Rattle.meaning_forms.specs.Construct.{constructor_for}
use Rattle.meaning_forms.specs.Expression.{constructor_chosen}
use Rattle.scope_flow.proofs.Counted.{counted}

-- other than one argument: their number selects
pub chosen_by_number : (p : Checked) (w : World) (f : Frame) (k : ℕ) (es : List Expr) → length es ≢ 1 → constructor_for p k (length es) ≡ constructor_chosen p w f k (expressions_of es)
chosen_by_number p w f k [] other = refl
chosen_by_number p w f k (e ∷ []) other = absurd (other refl)
chosen_by_number p w f k (e ∷ d ∷ es) other = ap (constructor_for p k) (counted (e ∷ d ∷ es))
