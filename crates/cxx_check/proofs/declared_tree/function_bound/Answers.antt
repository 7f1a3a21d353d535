use Rattle.std.proofs.Common.{ap, ◌∙◌}
use Rattle.cxx_ast.specs.Locals.{outermost}
use Rattle.cxx_ast.specs.Resolve.{function_number}
use Rattle.cxx_ast.specs.View.{function_of}
use Rattle.cxx_check.proofs.TreeLaws.{function_tree_is}
use Rattle.cxx_check.proofs.declared_tree.function_bound.Goals as goal

pub returns-clause-decl : goal.returns-clause-decl
returns-clause-decl c =
    let env = c.args.env.now in
    let f = function_of c.args.f.now in
    function_tree_is env c.function_heading.new.env f (function_of c.in_ok-tree.tree) c.in_ok-number.number c.in_ok-heading.ensures.env
    (c.in_ok-number.ensures ∙ c.function_number.ensures ∙ ap (function_number env) c.as_bytes.ensures)
    (c.in_ok-tree.ensures env outermost c.in_ok-heading.ensures.heading)
