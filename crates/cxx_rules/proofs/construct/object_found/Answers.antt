use Rattle.std.proofs.Common.{ap, ◌∙◌, sym, [], ◌∷◌, ◌++◌, Some, None, if◌then◌else◌}
use Rattle.cxx_ast.specs.Finding.{breaks}
use Rattle.cxx_ast.specs.Rule.{not_lvalue}
use Rattle.cxx_ast.specs.Construct.{by_number_found}
use Rattle.cxx_rules.specs.Summary.{seen}
use Rattle.cxx_rules.proofs.construct.object_found.Goals as goal

pub returns-else-derives : goal.returns-else-derives
returns-else-derives c j e h =
    c.by_number_found.ensures (j ∷ []) h
    ∙ ap (λ b. seen c.args.env.now (if b then (j.found ++ elim j.target [ Some t ↦ [] | None ↦ breaks not_lvalue j.place ∷ [] ]) else by_number_found c.args.env.now c.args.class (j ∷ []) c.args.called))
    (sym c.if-derives.false ∙ c.derives.ensures)
