-- What is said of expressions and statements where a function of a checked program is walked.
use Rattle.std.specs.Prelude.{ℕ, Bool, List, Option}
use Rattle.cxx_ast.specs.Plain.{Expression, Statements}
use Rattle.cxx_ast.specs.Environment.{Scope}
use Rattle.cxx_ast.specs.Reference.{int_found}
use Rattle.cxx_ast.specs.ExpressionRules.{judged}
use Rattle.cxx_ast.specs.StatementRules.{statements_found}
use Rattle.cxx_ast.specs.Resolve.{resolve_expression, resolve_statements}
use Rattle.cxx_ast.specs.Grammatical.{IsExpression, AreStatements}
use Rattle.meaning_forms.specs.Frame.{Variable}
use Rattle.region_forms.specs.Numbering.{all_declared_in}
use Rattle.region_simulation.specs.Typing.{IsTyped}
use Rattle.region_simulation.specs.Statements.{AreTypedStatements}
use Rattle.region_formed.proofs.Fine.{Fine}
use Rattle.region_formed.proofs.Meant.{Given, lowering_in}
use Rattle.region_typed.specs.Known.{SettledIn, Here, Stretch}

-- an expression that breaks no rule where an int is needed
abbrev pub ExpressionsAreTyped : Type 0
ExpressionsAreTyped =
    (g : Given) → SettledIn g → (own : Option ℕ) (gives : Bool) (xs : List Variable) (sc : Scope) → Here g own gives xs sc
    → (e : Expression) → IsExpression e → Fine g.defined (int_found (judged g.env sc e)) → IsTyped (lowering_in g) own xs (resolve_expression g.env sc e)

-- the statements of a block, whose variables are the next of the function
abbrev pub StatementsAreTyped : Type 0
StatementsAreTyped =
    (g : Given) → SettledIn g → (own : Option ℕ) (gives : Bool) (ss : Statements) → AreStatements ss → (sc : Scope) (xs : List Variable) → Here g own gives xs sc
    → Fine g.defined (statements_found g.env sc ss) → Stretch g sc.next (all_declared_in (resolve_statements g.env sc ss))
    → AreTypedStatements (lowering_in g) own gives (resolve_statements g.env sc ss) xs sc.next
