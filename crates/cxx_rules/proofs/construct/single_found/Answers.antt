use Rattle.std.proofs.Common.{ap, ◌∙◌, [], ◌∷◌}
use Rattle.cxx_ast.specs.Construct.{single_found}
use Rattle.cxx_rules.specs.Summary.{seen}
use Rattle.cxx_rules.proofs.ConstructLaws.{single_plain}
use Rattle.cxx_rules.proofs.construct.single_found.Goals as goal

pub returns-in-Int : goal.returns-in-Int
returns-in-Int c j e h =
    let kind = c.kind.ensures ∙ ap (λ a. a.kind) e in
    c.by_number_found.ensures (j ∷ []) h
    ∙ ap (seen c.args.env.now)
    (single_plain c.args.env.now c.args.class j c.args.called c.kind.result c.in-Int.is ∙ ap (single_found c.args.env.now c.args.class j c.args.called) kind)
