use Rattle.std.proofs.Common.{ap, ◌∙◌, map, flat_map}
use Rattle.cxx_ast.specs.View.{class_of, function_of}
use Rattle.cxx_check.specs.ClassParts.{field_in, field_of_in, method_head_in, method_of_in}
use Rattle.cxx_rules.specs.Summary.{both, seen}
use Rattle.cxx_check.proofs.headed.part_heads.Goals as goal

pub returns-clause-fields : goal.returns-clause-fields
returns-clause-fields c =
    c.in_ok-members.ensures.fields ∙ ap (map (field_of_in c.args.env.now c.args.number)) c.as_slice.ensures.value

pub returns-clause-signatures : goal.returns-clause-signatures
returns-clause-signatures c =
    c.in_ok-functions.ensures.signatures ∙ ap (λ fs. map (method_of_in c.args.env.now c.args.number) (map function_of fs)) c.as_slice-2.ensures.value

pub returns-clause-found : goal.returns-clause-found
returns-clause-found c =
    let env = c.args.env.now in
    let n = c.args.number in
    let cl = class_of c.args.class.now in
    let fields = c.in_ok-members.ensures.found ∙ ap (λ ms. seen env (flat_map (field_in env n) ms)) c.as_slice.ensures.value in
    let functions = c.in_ok-functions.ensures.found ∙ ap (λ fs. seen env (flat_map (method_head_in env n) (map function_of fs))) c.as_slice-2.ensures.value in
    c.and-found.ensures ∙ ap (λ f. both f c.in_ok-functions.functions.found) c.and.ensures
    ∙ ap (λ m. both (both c.args.above m) c.in_ok-functions.functions.found) fields
    ∙ ap (both (both c.args.above (seen env (flat_map (field_in env n) cl.members)))) functions
