use Rattle.std.proofs.Common.{◌≤◌, ap, ◌∙◌, sym, length, arith}
use Rattle.std.proofs.lemmas.List.{drop_all}
use Rattle.cxx_ast.specs.View.{statements_of, handlers_of}
use Rattle.cxx_check.specs.Measured.{statements_behind, handlers_behind}
use Rattle.cxx_check.proofs.MeasureLaws.{statements_behind_is, handlers_behind_is}
use Rattle.cxx_check.proofs.variables.+statements.Goals as goal

pub statements-returns : goal.statements-returns
statements-returns t c =
    let over : length c.args.ss.now ≤ c.loop-s.s-index = omega arith in
    sym (ap (λ ss. statements_behind c.args.env.now c.loop-s.measure (statements_of ss)) (drop_all c.loop-s.s-index c.args.ss.now over))
    ∙ c.loop-s.invariant
    ∙ ap (λ m. statements_behind c.args.env.now m (statements_of c.args.ss.now)) c.nothing-measure.ensures
    ∙ statements_behind_is c.args.env.now (statements_of c.args.ss.now)

pub handlers-returns : goal.handlers-returns
handlers-returns t c =
    let over : length c.args.hs.now ≤ c.loop-h.h-index = omega arith in
    sym (ap (λ hs. handlers_behind c.args.env.now c.loop-h.measure (handlers_of hs)) (drop_all c.loop-h.h-index c.args.hs.now over))
    ∙ c.loop-h.invariant
    ∙ ap (λ m. handlers_behind c.args.env.now m (handlers_of c.args.hs.now)) c.nothing-measure.ensures
    ∙ handlers_behind_is c.args.env.now (handlers_of c.args.hs.now)
