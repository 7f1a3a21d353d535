use Rattle.std.proofs.Common.{◌<◌, ◌+◌, ap, ◌∙◌, sym, ◌∷◌, ◌++◌, drop, map, length, arith}
use Rattle.std.proofs.lemmas.List.{drop_more, map_push}
use Rattle.cxx_ast.specs.Checked.{resolve_declaration, resolve_declarations}
use Rattle.cxx_ast.specs.View.{declaration_of}
use Rattle.cxx_check.proofs.TreeLaws.{rebuilt_more}
use Rattle.cxx_check.proofs.declared_tree.declarations_bound.Goals as goal

pub loop-d-preserved : goal.loop-d-preserved
loop-d-preserved c =
    let i = c.loop-d.d-index in
    let ds = c.args.decls.now in
    let known = c.loop-d.env in
    let done = c.loop-d.rebuilt.items in
    let within : i < length ds = omega arith in
    let next = drop_more ds i c.d-item.result within ∙ ap (λ x. x ∷ drop (i + 1) ds) (sym c.d-item.is) in
    let rest = map declaration_of (drop (i + 1) ds) in
    let d = declaration_of c.d-item.result in
    rebuilt_more declaration_of done c.put.new.others.items c.in_ok-next.next (resolve_declaration known d) (resolve_declarations c.declaration_bound.new.env rest) _
    (ap (map declaration_of) c.in_ok-put.ensures ∙ map_push declaration_of done c.in_ok-next.next)
    c.in_ok-next.ensures.decl
    (ap (λ e. map declaration_of done ++ resolve_declaration known d ∷ resolve_declarations e rest) c.in_ok-next.ensures.env
    ∙ ap (λ xs. map declaration_of done ++ resolve_declarations known (map declaration_of xs)) (sym next)
    ∙ c.loop-d.invariant)
