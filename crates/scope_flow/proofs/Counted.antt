-- How many expressions a list has, as code and as plain data.
use Rattle.std.proofs.Common.{◌≡◌, ◌+◌, List, [], ◌∷◌, length, refl, arith}
use Rattle.cxx_ast.specs.declared.expression.Expr.{Expr}
use Rattle.cxx_ast.specs.View.{expressions_of}
use Rattle.meaning_forms.specs.Expression.{count_of}

pub counted : (es : List Expr) → length es ≡ count_of (expressions_of es)
counted [] = refl
counted (e ∷ es) = omega (arith, counted es)
