use Rattle.std.proofs.Common.{ap, ◌∙◌, sym, refl}
use Rattle.cxx_ast.specs.declared.name.Bound.TheVariants.{Free}
use Rattle.cxx_ast.specs.Declare.{function_scope}
use Rattle.cxx_ast.specs.FunctionRules.{body_found, definition_found}
use Rattle.cxx_ast.specs.Resolve.{resolve_function}
use Rattle.cxx_ast.specs.View.{function_of}
use Rattle.cxx_rules.specs.Summary.{seen}
use Rattle.cxx_rules.proofs.GivenLaws.{seen_both}
use Rattle.cxx_check.specs.FunctionParts.{inside_scope}
use Rattle.cxx_check.proofs.FunctionLaws.{params_kept, defined_by}
use Rattle.cxx_check.proofs.inside.inside_found.Goals as goal

pub returns : goal.returns
returns c head place =
    let env = c.args.env.now in
    let f = function_of c.args.f.now in
    let own = c.args.own in
    let g = resolve_function head place env (function_scope env own f.result) Free f in
    c.and.ensures
    ∙ seen_both env c.in_ok-found.found c.definition_found.result (body_found env (inside_scope env own f) own f f.body) (definition_found env g f.body)
    c.in_ok-found.ensures
    (c.definition_found.ensures g refl refl (params_kept head place f.parameters) (sym c.requires.initialisers) (sym c.requires.body) ∙ ap (seen env) (defined_by env g (inside_scope env own f) f.body))
