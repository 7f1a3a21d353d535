use Rattle.std.proofs.Common.{◌≡◌, subst, IfOk, map}
use Rattle.cxx_ast.specs.Checked.{resolve_declarations}
use Rattle.cxx_ast.specs.View.{declaration_of}
use Rattle.cxx_check.proofs.checked.rebuilt.Goals as goal

pub returns : goal.returns
returns c =
    let ds = map declaration_of c.args.decls.now in
    subst (λ e. IfOk c.declarations_bound.result (λ r. map declaration_of r.items ≡ resolve_declarations e ds)) c.in_ok-env.ensures c.declarations_bound.ensures
