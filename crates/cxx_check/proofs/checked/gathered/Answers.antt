use Rattle.std.proofs.Common.{◌≡◌, ◌∷◌, subst, IfOk, map}
use Rattle.cxx_ast.specs.Checked.{resolve_declarations, classes_of, globals_of, functions_of, bad_exception}
use Rattle.cxx_ast.specs.View.{class_of, function_of, declaration_of}
use Rattle.cxx_check.proofs.checked.gathered.Goals as goal

pub returns-clause-classes : goal.returns-clause-classes
returns-clause-classes c =
    let ds = map declaration_of c.args.decls.now in
    subst (λ e. IfOk c.parts_bound.result (λ p. map class_of p.classes.items ≡ bad_exception ∷ classes_of (resolve_declarations e ds))) c.in_ok-env.ensures c.parts_bound.ensures.classes

pub returns-clause-globals : goal.returns-clause-globals
returns-clause-globals c =
    let ds = map declaration_of c.args.decls.now in
    subst (λ e. IfOk c.parts_bound.result (λ p. p.globals.items ≡ globals_of (resolve_declarations e ds))) c.in_ok-env.ensures c.parts_bound.ensures.globals

pub returns-clause-functions : goal.returns-clause-functions
returns-clause-functions c =
    let ds = map declaration_of c.args.decls.now in
    subst (λ e. IfOk c.parts_bound.result (λ p. map function_of p.functions.items ≡ functions_of (resolve_declarations e ds))) c.in_ok-env.ensures c.parts_bound.ensures.functions
