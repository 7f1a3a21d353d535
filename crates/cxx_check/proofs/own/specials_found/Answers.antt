use Rattle.std.proofs.Common.{◌≤◌, ap, ◌∙◌, sym, [], take, length, arith}
use Rattle.std.proofs.lemmas.List.{drop_all}
use Rattle.cxx_check.specs.OwnParts.{specials_behind}
use Rattle.cxx_check.proofs.OwnLaws.{specials_behind_is}
use Rattle.cxx_check.proofs.own.specials_found.Goals as goal

pub returns : goal.returns
returns c =
    let env = c.args.env.now in
    let k = c.args.class in
    let text = c.args.text.now in
    let fs = c.args.functions.now in
    let over : length fs ≤ c.loop-i.i = omega arith in
    sym (ap (specials_behind env k text c.loop-i.found (take c.loop-i.i fs)) (drop_all c.loop-i.i fs over))
    ∙ c.loop-i.invariant ∙ ap (λ f. specials_behind env k text f [] fs) c.nothing-found.ensures ∙ specials_behind_is env k text fs
