use Rattle.std.proofs.Common.{ap, ◌∙◌, sym}
use Rattle.cxx_ast.specs.View.{expression_of}
use Rattle.cxx_ast.specs.ExpressionRules.{judged}
use Rattle.cxx_rules.specs.Seen.{judgement_seen}
use Rattle.cxx_rules.proofs.expression.+expressions.Goals as goal

pub judged-returns-in-Number : goal.judged-returns-in-Number
judged-returns-in-Number t c =
    c.number_judged.ensures c.in-Number.field-0 c.args.scope.now
    ∙ ap (λ e. judgement_seen c.args.env.now (judged c.args.env.now c.args.scope.now (expression_of e))) (sym c.in-Number.is)
