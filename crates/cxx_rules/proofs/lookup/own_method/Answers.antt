use Rattle.std.proofs.Common.{◌≡◌, ◌+◌, ap, ◌∙◌, sym, drop, arith}
use Rattle.cxx_ast.specs.Lookup.{method_named}
use Rattle.cxx_rules.proofs.LookupLaws.{no_method, first_method}
use Rattle.cxx_rules.proofs.lookup.own_method.Goals as goal

pub returns-in-None : goal.returns-in-None
returns-in-None c = sym (no_method c.args.limit c.args.text.now c.args.number 0 c.args.class.now.functions (sym c.first_function.ensures ∙ c.in-None.is))

pub returns-in-Some : goal.returns-in-Some
returns-in-Some c =
    let text = c.args.text.now in
    let first = c.in-Some.first in
    let from_none : first ≡ 0 + first = omega arith in
    c.method.ensures ∙ ap (λ xs. method_named c.args.limit text c.args.number first (drop first xs)) c.functions.ensures
    ∙ ap (λ n. method_named c.args.limit text c.args.number n (drop first c.args.class.now.functions)) from_none
    ∙ sym (first_method c.args.limit text c.args.number 0 first c.args.class.now.functions (sym c.first_function.ensures ∙ c.in-Some.is))
