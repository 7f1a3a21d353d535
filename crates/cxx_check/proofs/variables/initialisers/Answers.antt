use Rattle.std.proofs.Common.{◌≤◌, ap, ◌∙◌, sym, map, length, arith}
use Rattle.std.proofs.lemmas.List.{drop_all}
use Rattle.cxx_ast.specs.View.{initialiser_of}
use Rattle.cxx_check.specs.Measured.{initialisers_behind}
use Rattle.cxx_check.proofs.MeasureLaws.{initialisers_behind_is}
use Rattle.cxx_check.proofs.variables.initialisers.Goals as goal

pub returns : goal.returns
returns c =
    let over : length c.args.inits.now ≤ c.loop-i.i-index = omega arith in
    sym (ap (λ is. initialisers_behind c.loop-i.measure (map initialiser_of is)) (drop_all c.loop-i.i-index c.args.inits.now over))
    ∙ c.loop-i.invariant
    ∙ ap (λ m. initialisers_behind m (map initialiser_of c.args.inits.now)) c.nothing-measure.ensures
    ∙ initialisers_behind_is (map initialiser_of c.args.inits.now)
