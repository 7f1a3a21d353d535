use Rattle.std.proofs.Common.{None, refl, ap, ◌∙◌}
use Rattle.cxx_ast.specs.Broken.{function_name_found}
use Rattle.cxx_ast.specs.Declare.{with_signature}
use Rattle.cxx_ast.specs.Locals.{outermost}
use Rattle.cxx_ast.specs.Lookup.{entry_of}
use Rattle.cxx_ast.specs.Plain.{function_declaration}
use Rattle.cxx_ast.specs.TypeNames.{signature}
use Rattle.cxx_ast.specs.View.{function_of}
use Rattle.cxx_check.specs.FunctionParts.{head_found, inside_found}
use Rattle.cxx_rules.specs.Summary.{both, seen}
use Rattle.cxx_check.proofs.KnownLaws.{seen_alike, declared_definitions}
use Rattle.cxx_check.proofs.WholeLaws.{function_is}
use Rattle.cxx_check.proofs.declared.function.Goals as goal

pub returns-clause-found : goal.returns-clause-found
returns-clause-found c =
    let env = c.args.env.now in
    let f = function_of c.args.f.now in
    let s = signature env outermost f in
    let behind =
    c.in_ok-behind.ensures env outermost ∙ ap (λ e. seen e (inside_found env outermost e None f)) c.in_ok-head.ensures.env
    ∙ seen_alike (with_signature env s) env (inside_found env outermost (with_signature env s) None f) (declared_definitions env (function_declaration f)) in
    function_is env f (seen env (function_name_found env s (entry_of env f.name.text))) (seen env (head_found env outermost f)) c.in_ok-behind.behind c.and.result refl refl behind
    (c.and.ensures ∙ ap (λ x. both x c.in_ok-behind.behind) c.in_ok-head.ensures.found)
