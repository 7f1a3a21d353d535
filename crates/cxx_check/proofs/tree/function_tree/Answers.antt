use Rattle.std.proofs.Common.{refl, ap, ◌∙◌}
use Rattle.cxx_ast.specs.View.{function_of}
use Rattle.cxx_check.proofs.TreeLaws.{function_parts_are}
use Rattle.cxx_check.proofs.tree.function_tree.Goals as goal

pub returns : goal.returns
returns c head place env own e i =
    let heading = c.in_ok-front.ensures.heading ∙ e in
    function_parts_are head place env own c.args.bound (function_of c.args.f.now) _
    c.in_ok-front.ensures.name refl c.in_ok-front.ensures.outcome
    (ap (λ p. p.parameters) heading) (ap (λ p. p.specification) heading)
    i.initialisers i.body refl
