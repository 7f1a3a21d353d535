use Rattle.std.proofs.Common.{rules, ◌+◌, ◌*◌, nat_lt, length, map, ap, ◌∙◌, sym}
use Rattle.cxx_ast.specs.Sizes.{statements_bytes, statements_most, initialisers_most, body_bytes, body_most, more_of}
use Rattle.cxx_ast.specs.View.{statements_of, initialiser_of}
use Rattle.cxx_check.specs.Measured.{capped, both_of}
use Rattle.cxx_check.proofs.MeasureLaws.{expression_both, too_large}
use Rattle.cxx_check.proofs.variables.are_too_large.Goals as goal

pub returns : goal.returns
returns c f e g h =
    let env = c.args.env.now in
    let is = map initialiser_of c.args.inits.now in
    let ss = statements_of c.args.body.now in
    let measured =
    c.and-most.ensures ∙ ap (λ m. both_of m c.statements.result) c.initialisers.ensures
    ∙ ap (both_of (capped 0 (initialisers_most is))) c.statements.ensures
    ∙ expression_both (statements_bytes env ss) (initialisers_most is) (statements_most ss) in
    too_large c.args.params c.min-count.result c.from.result c.from-2.result c.from-3.result (statements_bytes env ss) (more_of (initialisers_most is) (statements_most ss)) c.and-most.result
    measured (search (rules, c.min-count.ensures)) (search (rules, c.from.ensures)) (search (rules, c.from-2.ensures)) (search (rules, c.from-3.ensures))
    ∙ ap (λ n. nat_lt 1536 (8 * n + statements_bytes env ss + 8 * (more_of (initialisers_most is) (statements_most ss)).levels + 8 * (more_of (initialisers_most is) (statements_most ss)).arguments)) (sym e)
    ∙ ap (λ x. nat_lt 1536 (8 * length f.parameters + statements_bytes env ss + 8 * (more_of (initialisers_most x) (statements_most ss)).levels + 8 * (more_of (initialisers_most x) (statements_most ss)).arguments)) (sym g)
    ∙ ap (λ b. nat_lt 1536 (8 * length f.parameters + body_bytes env b + 8 * (more_of (initialisers_most f.initialisers) (body_most b)).levels + 8 * (more_of (initialisers_most f.initialisers) (body_most b)).arguments)) (sym h)
