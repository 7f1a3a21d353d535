use Rattle.std.proofs.Common.{refl, ap, ◌∙◌, [], ◌∷◌, None, map, codes}
use Rattle.cxx_ast.specs.Checked.{resolve_declarations, classes_of, globals_of, functions_of, bad_exception}
use Rattle.cxx_ast.specs.Declare.{at_the_start}
use Rattle.cxx_ast.specs.Resolve.{function_number}
use Rattle.cxx_ast.specs.Settled.{settle_function, settle_classes}
use Rattle.cxx_ast.specs.View.{class_of, function_of, declaration_of, program_of}
use Rattle.cxx_check.proofs.TreeLaws.{checked_by}
use Rattle.cxx_check.proofs.checked.bound_program.Goals as goal

pub returns : goal.returns
returns c =
    let slice = c.as_slice-decls.ensures.value in
    let p = program_of c.args.program.now in
    let start = at_the_start p.declarations in
    let parts = c.in_ok-parts.parts in
    checked_by c.args.standard p start start (map declaration_of c.in_ok-rebuilt.rebuilt.items) (map class_of parts.classes.items) parts.globals.items (map function_of parts.functions.items) c.in_ok-main.main
    refl refl
    (c.in_ok-rebuilt.ensures ∙ ap (λ ds. resolve_declarations (at_the_start (map declaration_of ds)) (map declaration_of ds)) slice)
    (c.in_ok-parts.ensures.classes ∙ ap (λ ds. settle_classes c.args.standard [] (bad_exception ∷ classes_of (resolve_declarations (at_the_start (map declaration_of ds)) (map declaration_of ds)))) slice)
    (c.in_ok-parts.ensures.globals ∙ ap (λ ds. globals_of (resolve_declarations (at_the_start (map declaration_of ds)) (map declaration_of ds))) slice)
    (c.in_ok-parts.ensures.functions ∙ ap (λ ds. map (settle_function None) (functions_of (resolve_declarations (at_the_start (map declaration_of ds)) (map declaration_of ds)))) slice)
    (c.in_ok-main.ensures ∙ ap (λ ds. function_number (at_the_start (map declaration_of ds)) (codes "main")) slice)
