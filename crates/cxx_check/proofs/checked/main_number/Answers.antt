use Rattle.std.proofs.Common.{◌≡◌, rules, ap, ◌∙◌, subst, IfOk, codes}
use Rattle.cxx_ast.specs.Resolve.{function_number}
use Rattle.cxx_check.proofs.checked.main_number.Goals as goal

pub returns : goal.returns
returns c =
    let number : c.function_number.result ≡ function_number c.in_ok-env.env (codes "main") = search (rules, c.function_number.ensures) in
    subst (λ x. IfOk c.numbered.result (λ n. n ≡ x)) (number ∙ ap (λ e. function_number e (codes "main")) c.in_ok-env.ensures) c.numbered.ensures
