use Rattle.std.proofs.Common.{◌≤◌, ap, ◌∙◌, sym, length, arith}
use Rattle.std.proofs.lemmas.List.{drop_all}
use Rattle.cxx_ast.specs.View.{expressions_of}
use Rattle.cxx_check.specs.Measured.{arguments_behind}
use Rattle.cxx_check.proofs.MeasureLaws.{arguments_behind_is}
use Rattle.cxx_check.proofs.measure.+expressions.Goals as goal

pub arguments-returns : goal.arguments-returns
arguments-returns t c =
    let over : length c.args.es.now ≤ c.loop-e.e-index = omega arith in
    sym (ap (λ es. arguments_behind c.loop-e.measure (expressions_of es)) (drop_all c.loop-e.e-index c.args.es.now over))
    ∙ c.loop-e.invariant
    ∙ ap (λ m. arguments_behind m (expressions_of c.args.es.now)) c.nothing-measure.ensures
    ∙ arguments_behind_is (expressions_of c.args.es.now)
