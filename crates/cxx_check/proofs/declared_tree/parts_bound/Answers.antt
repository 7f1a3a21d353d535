use Rattle.std.proofs.Common.{◌<◌, ◌+◌, ap, ◌∙◌, sym, ◌∷◌, ◌++◌, drop, map, length, arith}
use Rattle.std.proofs.lemmas.List.{drop_more}
use Rattle.cxx_ast.specs.Checked.{resolve_declarations, classes_of, globals_of, functions_of}
use Rattle.cxx_ast.specs.View.{class_of, function_of, declaration_of}
use Rattle.cxx_check.specs.PartsOf.{class_in, global_in, function_in}
use Rattle.cxx_check.proofs.TreeLaws.{parts_more, class_one, global_one, function_one}
use Rattle.cxx_check.proofs.declared_tree.parts_bound.Goals as goal

pub loop-d-preserved : goal.loop-d-preserved
loop-d-preserved c =
    let i = c.loop-d.d-index in
    let ds = c.args.decls.now in
    let known = c.loop-d.env in
    let old = c.loop-d.parts in
    let new = c.add.new.self in
    let within : i < length ds = omega arith in
    let next = drop_more ds i c.d-item.result within ∙ ap (λ x. x ∷ drop (i + 1) ds) (sym c.d-item.is) in
    let rest = map declaration_of (drop (i + 1) ds) in
    let d = declaration_of c.d-item.result in
    let tree = declaration_of c.in_ok-next.next in
    record {
      classes =
          parts_more class_in classes_of class_one (map class_of old.classes.items) (map class_of new.classes.items) _ known c.declaration_bound.new.env d tree rest
          c.in_ok-add.ensures.classes c.in_ok-next.ensures.decl c.in_ok-next.ensures.env
          (ap (λ xs. map class_of old.classes.items ++ classes_of (resolve_declarations known (map declaration_of xs))) (sym next) ∙ c.loop-d.invariant.classes);
      globals =
          parts_more global_in globals_of global_one old.globals.items new.globals.items _ known c.declaration_bound.new.env d tree rest
          c.in_ok-add.ensures.globals c.in_ok-next.ensures.decl c.in_ok-next.ensures.env
          (ap (λ xs. old.globals.items ++ globals_of (resolve_declarations known (map declaration_of xs))) (sym next) ∙ c.loop-d.invariant.globals);
      functions =
          parts_more function_in functions_of function_one (map function_of old.functions.items) (map function_of new.functions.items) _ known c.declaration_bound.new.env d tree rest
          c.in_ok-add.ensures.functions c.in_ok-next.ensures.decl c.in_ok-next.ensures.env
          (ap (λ xs. map function_of old.functions.items ++ functions_of (resolve_declarations known (map declaration_of xs))) (sym next) ∙ c.loop-d.invariant.functions);
    }
