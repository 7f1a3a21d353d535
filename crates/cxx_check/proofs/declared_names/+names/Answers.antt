use Rattle.std.proofs.Common.{◌≡◌, ◌++◌, rules, ap, ◌∙◌, sym, append_assoc}
use Rattle.cxx_ast.specs.DeclaredNames.{names_in, names_of, names_caught}
use Rattle.cxx_ast.specs.Plain.{try}
use Rattle.cxx_ast.specs.View.{statement_of, statements_of, handlers_of}
use Rattle.cxx_ast.proofs.Rows.{statement_rows}
use Rattle.cxx_check.specs.OwnParts.{names_now}
use Rattle.cxx_check.proofs.declared_names.+names.Goals as goal

pub with_statement-returns-in_ok-with_handlers-in-Try : goal.with_statement-returns-in_ok-with_handlers-in-Try
with_statement-returns-in_ok-with_handlers-in-Try t c =
    let ss = c.in-Try.ss.items in
    let hs = c.in-Try.hs.items in
    let old = names_now c.args.names.now.items in
    let mid = names_now c.with_statements-in-Try.new.names.items in
    let tried : statement_of c.args.s.now ≡ try (statements_of ss) (handlers_of hs) = search (rules, statement_rows, c.in-Try.is) in
    c.in_ok-with_handlers-in-Try.ensures ∙ ap (λ x. mid ++ names_caught (handlers_of x)) c.as_slice-in-Try-2.ensures.value
    ∙ ap (λ x. x ++ names_caught (handlers_of hs)) (c.in_ok-with_statements-in-Try.ensures ∙ ap (λ x. old ++ names_of (statements_of x)) c.as_slice-in-Try.ensures.value)
    ∙ append_assoc old (names_of (statements_of ss)) (names_caught (handlers_of hs))
    ∙ ap (λ s. old ++ names_in s) (sym tried)
