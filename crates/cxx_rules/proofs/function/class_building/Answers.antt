use Rattle.std.proofs.Common.{ap, ◌∙◌, map}
use Rattle.cxx_ast.specs.View.{function_of, initialiser_of}
use Rattle.cxx_rules.specs.Parts.{texts_now, initialisers_behind, named_behind}
use Rattle.cxx_rules.specs.Summary.{nothing_found}
use Rattle.cxx_rules.proofs.PartLaws.{building_by}
use Rattle.cxx_rules.proofs.function.class_building.Goals as goal

pub returns : goal.returns
returns c =
    let first = texts_now c.new-names.result.items in
    building_by c.args.env.now c.args.scope.now c.args.class.now (function_of c.args.f.now) first _ _ _ _ _
    (ap texts_now c.new-names.ensures.items)
    (c.in_ok-built.ensures.found
    ∙ ap (λ is. initialisers_behind c.args.env.now c.args.scope.now c.args.class.now nothing_found first (map initialiser_of is)) c.as_slice.ensures.value)
    (c.in_ok-built.ensures.before ∙ ap (λ is. named_behind first (map initialiser_of is)) c.as_slice.ensures.value)
    (ap texts_now c.as_slice-2.ensures.value) c.left_parts.ensures c.and.ensures
