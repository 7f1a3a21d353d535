use Rattle.std.proofs.Common.{◌≡◌, ◌+◌, ap, ◌∙◌, sym, drop, arith}
use Rattle.cxx_ast.specs.Lookup.{field_named}
use Rattle.cxx_rules.proofs.LookupLaws.{no_field, first_field}
use Rattle.cxx_rules.proofs.lookup.own_field.Goals as goal

pub returns-in-None : goal.returns-in-None
returns-in-None c = sym (no_field c.args.limit c.args.text.now c.args.number 0 c.args.class.now.fields (sym c.first_field.ensures ∙ c.in-None.is))

pub returns-in-Some : goal.returns-in-Some
returns-in-Some c =
    let text = c.args.text.now in
    let first = c.in-Some.first in
    let from_none : first ≡ 0 + first = omega arith in
    c.field.ensures ∙ ap (λ xs. field_named c.args.limit text c.args.number first (drop first xs)) c.fields.ensures
    ∙ ap (λ n. field_named c.args.limit text c.args.number n (drop first c.args.class.now.fields)) from_none
    ∙ sym (first_field c.args.limit text c.args.number 0 first c.args.class.now.fields (sym c.first_field.ensures ∙ c.in-Some.is))
