use Rattle.std.proofs.Common.{◌≡◌, ◌++◌, map, rules, ap, ◌∙◌, sym, append_assoc}
use Rattle.cxx_ast.specs.Plain.{try}
use Rattle.cxx_ast.specs.View.{statement_of, statements_of, handlers_of}
use Rattle.cxx_ast.proofs.Rows.{statement_rows}
use Rattle.region_forms.specs.Numbering.{declared_in, all_declared_in, declared_in_handlers}
use Rattle.region_ir.specs.Variables.{type_in}
use Rattle.region_ir.proofs.variable.+variables.Goals as goal

pub with_statement-returns-in_ok-with_handlers-in-Try : goal.with_statement-returns-in_ok-with_handlers-in-Try
with_statement-returns-in_ok-with_handlers-in-Try t c =
    let ss = c.in-Try.ss.items in
    let hs = c.in-Try.hs.items in
    let old = map type_in c.args.variables.now.items in
    let mid = map type_in c.with_statements-in-Try.new.variables.items in
    let tried : statement_of c.args.s.now ≡ try (statements_of ss) (handlers_of hs) = search (rules, statement_rows, c.in-Try.is) in
    c.in_ok-with_handlers-in-Try.ensures ∙ ap (λ x. mid ++ declared_in_handlers (handlers_of x)) c.as_slice-in-Try-2.ensures.value
    ∙ ap (λ x. x ++ declared_in_handlers (handlers_of hs)) (c.in_ok-with_statements-in-Try.ensures ∙ ap (λ x. old ++ all_declared_in (statements_of x)) c.as_slice-in-Try.ensures.value)
    ∙ append_assoc old (all_declared_in (statements_of ss)) (declared_in_handlers (handlers_of hs))
    ∙ ap (λ s. old ++ declared_in s) (sym tried)
