use Rattle.std.proofs.Common.{◌≡◌, ◌++◌, drop}
use Rattle.cxx_ast.specs.View.{expressions_of}
use Rattle.cxx_ast.specs.ExpressionRules.{all_judged}
use Rattle.cxx_rules.specs.Seen.{judgements_seen}
use Rattle.cxx_rules.proofs.expression.+expressions.Given as goal

abbrev pub invariant-all_judged-loop-e : goal.invariant-all_judged-loop-e
invariant-all_judged-loop-e l =
    l.given.items ++ judgements_seen l.env (all_judged l.env l.scope (expressions_of (drop l.e-index l.es)))
    ≡ judgements_seen l.env (all_judged l.env l.scope (expressions_of l.es))
