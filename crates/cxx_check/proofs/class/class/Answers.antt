use Rattle.std.proofs.Common.{ap, ◌∙◌, sym, map, flat_map}
use Rattle.cxx_ast.specs.Declare.{next_class, with_class_name, with_class, class_entry, declare_behind}
use Rattle.cxx_ast.specs.Environment.{class_thing}
use Rattle.cxx_ast.specs.Plain.{class_declaration}
use Rattle.cxx_ast.specs.View.{class_of, function_of}
use Rattle.cxx_check.specs.ClassParts.{method_inside}
use Rattle.cxx_check.specs.OwnParts.{own_found}
use Rattle.cxx_rules.specs.Summary.{both, seen}
use Rattle.cxx_check.proofs.KnownLaws.{seen_alike, name_definitions}
use Rattle.cxx_check.proofs.ClassLaws.{class_is, taken_is}
use Rattle.cxx_check.proofs.class.class.Goals as goal

pub returns-clause-env : goal.returns-clause-env
returns-clause-env c =
    let env = c.args.env.now in
    let cl = class_of c.args.class.now in
    c.in_ok-add_class.ensures ∙ ap (λ e. with_class e c.in_ok-heads.heads.entry) c.in_ok-heads.ensures.env
    ∙ ap (with_class (with_class_name env cl)) c.in_ok-heads.ensures.entry

pub returns-clause-found : goal.returns-clause-found
returns-clause-found c =
    let env = c.args.env.now in
    let cl = class_of c.args.class.now in
    let n = c.class_count-number.result in
    let kept = name_definitions env cl.name.text (class_thing (next_class env)) in
    let known =
    c.in_ok-add_class.ensures ∙ ap (λ e. with_class e c.in_ok-heads.heads.entry) c.in_ok-heads.ensures.env
    ∙ ap (with_class (with_class_name env cl)) c.in_ok-heads.ensures.entry in
    let own =
    c.in_ok-own.ensures ∙ ap (λ e. seen e (own_found n cl c.in_ok-heads.heads.entry)) c.in_ok-heads.ensures.env
    ∙ ap (λ e. seen (with_class_name env cl) (own_found n cl e)) c.in_ok-heads.ensures.entry
    ∙ ap (λ k. seen (with_class_name env cl) (own_found k cl (class_entry env cl))) c.class_count-number.ensures
    ∙ seen_alike (with_class_name env cl) env (own_found (next_class env) cl (class_entry env cl)) kept in
    let behind =
    c.in_ok-behind.ensures env cl (sym c.class_count-number.ensures) known
    ∙ ap (λ fs. seen c.add_class.new.self (flat_map (method_inside env cl) (map function_of fs))) c.as_slice.ensures.value
    ∙ ap (λ e. seen e (flat_map (method_inside env cl) cl.functions)) known
    ∙ seen_alike (declare_behind env (class_declaration cl)) env (flat_map (method_inside env cl) cl.functions) kept in
    class_is env cl c.broken_if-taken.result c.in_ok-heads.heads.found c.in_ok-own.own c.in_ok-behind.behind c.and-2.result
    (taken_is env cl.name c.as_bytes.result.now c.is_taken-is_taken.result c.broken_if-taken.result c.as_bytes.ensures c.is_taken-is_taken.ensures c.broken_if-taken.ensures)
    c.in_ok-heads.ensures.found own behind
    (c.and-2.ensures ∙ ap (λ f. both f c.in_ok-behind.behind) (c.and-found.ensures ∙ ap (λ f. both f c.in_ok-own.own) c.and.ensures))
