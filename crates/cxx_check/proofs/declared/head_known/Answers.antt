use Rattle.std.proofs.Common.{ap, ◌∙◌}
use Rattle.cxx_ast.specs.Broken.{function_name_found}
use Rattle.cxx_ast.specs.Declare.{with_signature}
use Rattle.cxx_ast.specs.Locals.{outermost}
use Rattle.cxx_ast.specs.Lookup.{entry_of}
use Rattle.cxx_ast.specs.TypeNames.{signature}
use Rattle.cxx_ast.specs.View.{function_of}
use Rattle.cxx_rules.specs.Summary.{both, seen}
use Rattle.cxx_check.proofs.declared.head_known.Goals as goal

pub returns-clause-env : goal.returns-clause-env
returns-clause-env c = c.in_ok-add_signature.ensures ∙ ap (with_signature c.args.env.now) c.in_ok-head.ensures.signature

pub returns-clause-found : goal.returns-clause-found
returns-clause-found c =
    let env = c.args.env.now in
    let f = function_of c.args.f.now in
    let s = signature env outermost f in
    c.and.ensures ∙ ap (λ x. both x c.in_ok-head.head.found) (c.name_found-named.ensures ∙ ap (λ s. seen env (function_name_found env s (entry_of env s.name.text))) c.in_ok-head.ensures.signature)
    ∙ ap (both (seen env (function_name_found env s (entry_of env f.name.text)))) c.in_ok-head.ensures.found
