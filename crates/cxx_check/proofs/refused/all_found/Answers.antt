use Rattle.std.proofs.Common.{ap, ◌∙◌, map, not, if◌then◌else◌}
use Rattle.cxx_ast.specs.Broken.{has_main, declarations_found}
use Rattle.cxx_ast.specs.DeclaredNames.{once_only_found}
use Rattle.cxx_ast.specs.Standards.{standard_found}
use Rattle.cxx_ast.specs.Rule.{no_main}
use Rattle.cxx_ast.specs.View.{declaration_of, program_of}
use Rattle.cxx_rules.specs.Summary.{both, seen, broken_at, nothing_found}
use Rattle.cxx_check.proofs.WholeLaws.{refused_by}
use Rattle.cxx_check.proofs.refused.all_found.Goals as goal

pub returns : goal.returns
returns c first =
    let slice = c.as_slice-decls.ensures.value in
    let start = c.args.env.now in
    let env = c.declarations.new.env in
    let place = c.args.program.now.length in
    refused_by c.args.standard (program_of c.args.program.now) c.in_ok-walked.walked c.in_ok-once.once c.broken_if-main.result c.in_ok-own.own c.and-3.result start env
    first
    c.in_ok-walked.ensures.env
    (c.in_ok-walked.ensures.found ∙ ap (λ ds. seen start (declarations_found start (map declaration_of ds))) slice)
    (c.in_ok-once.ensures ∙ ap (λ ds. seen env (once_only_found (map declaration_of ds))) slice)
    (c.broken_if-main.ensures ∙ ap (λ b. if not b then broken_at no_main place else nothing_found) (c.has_main.ensures ∙ ap (λ ds. has_main (map declaration_of ds)) slice))
    (c.in_ok-own.ensures ∙ ap (λ ds. seen env (standard_found c.args.standard (map declaration_of ds))) slice)
    (c.and-3.ensures ∙ ap (λ f. both f c.in_ok-own.own) (c.and-2.ensures ∙ ap (λ f. both f c.broken_if-main.result) c.and.ensures))
