-- A tree whose names are bound is as deep as it was.
use Rattle.std.proofs.Common.{◌≡◌, ◌∙◌, refl, ap, ◌+◌, List, [], ◌∷◌, map, max, Option, Some, None}
use Rattle.cxx_ast.specs.Plain.{Expression, number, path, paren, unary, binary, call, std_call, Expressions, no_expressions, expression_then, Statement, block, empty, if_else, while, return, break, continue, throw, try, assign, evaluate, local_int, local_ref, local_object, Else, no_else, else_do, Statements, no_statements, statement_then, Handlers, no_handlers, handler_then, Initialiser, Function}
use Rattle.cxx_ast.specs.declared.name.Bound.{Bound}
use Rattle.cxx_ast.specs.Depth.{below_expression, below_expressions, below_value, below_statement, below_else, below_statements, below_handlers, below_initialisers, below_body, below_function}
use Rattle.cxx_ast.specs.Environment.{Environment, Scope}
use Rattle.cxx_ast.specs.Locals.{declare_params, inner, after, locals_in, locals_of, caught_count, scope_behind, handler_scope}
use Rattle.cxx_ast.specs.Resolve.{resolve_expression, resolve_expressions, resolve_value, resolve_statement, resolve_else, resolve_statements, resolve_handlers, resolve_initialiser, resolve_body, resolve_function}

module _ (env : Environment) where
  mutual
    expression_same : (e : Expression) (sc : Scope) → below_expression (resolve_expression env sc e) ≡ below_expression e
    expression_same (number n place) sc = refl
    expression_same (path names) sc = refl
    expression_same (paren e place) sc = ap (λ n. n + 1) (expression_same e sc)
    expression_same (unary op e place) sc = ap (λ n. n + 1) (expression_same e sc)
    expression_same (binary op a b) sc = ap (λ n. max n (below_expression (resolve_expression env sc b)) + 1) (expression_same a sc) ∙ ap (λ n. max (below_expression a) n + 1) (expression_same b sc)
    expression_same (call names es) sc = expressions_same es sc
    expression_same (std_call n es place) sc = expressions_same es sc

    expressions_same : (es : Expressions) (sc : Scope) → below_expressions (resolve_expressions env sc es) ≡ below_expressions es
    expressions_same no_expressions sc = refl
    expressions_same (expression_then e es) sc = ap (λ n. max (n + 1) (below_expressions (resolve_expressions env sc es))) (expression_same e sc) ∙ ap (max (below_expression e + 1)) (expressions_same es sc)

  value_same : (e : Option Expression) (sc : Scope) → below_value (resolve_value env sc e) ≡ below_value e
  value_same None sc = refl
  value_same (Some e) sc = ap (λ n. n + 1) (expression_same e sc)

  mutual
    statement_same : (s : Statement) (sc : Scope) → below_statement (resolve_statement env sc s) ≡ below_statement s
    statement_same (block ss) sc = statements_same ss (inner sc)
    statement_same empty sc = refl
    statement_same (if_else e s other) sc =
        ap (λ n. max (n + 1) (max (below_statement (resolve_statement env sc s) + 1) (below_else (resolve_else env (after (locals_in s) sc) other)))) (expression_same e sc)
        ∙ ap (λ n. max (below_expression e + 1) (max (n + 1) (below_else (resolve_else env (after (locals_in s) sc) other)))) (statement_same s sc)
        ∙ ap (λ n. max (below_expression e + 1) (max (below_statement s + 1) n)) (else_same other (after (locals_in s) sc))
    statement_same (while e s) sc = ap (λ n. max (n + 1) (below_statement (resolve_statement env sc s) + 1)) (expression_same e sc) ∙ ap (λ n. max (below_expression e + 1) (n + 1)) (statement_same s sc)
    statement_same (return place e) sc = value_same e sc
    statement_same (break place) sc = refl
    statement_same (continue place) sc = refl
    statement_same (throw place e) sc = value_same e sc
    statement_same (try ss hs) sc =
        ap (λ n. max (n + 1) (below_handlers (resolve_handlers env (after (locals_of ss) sc) hs))) (statements_same ss (inner sc)) ∙ ap (max (below_statements ss + 1)) (handlers_same hs (after (locals_of ss) sc))
    statement_same (assign names e) sc = ap (λ n. n + 1) (expression_same e sc)
    statement_same (evaluate e) sc = ap (λ n. n + 1) (expression_same e sc)
    statement_same (local_int n e) sc = value_same e sc
    statement_same (local_ref p names) sc = refl
    statement_same (local_object c n es) sc = expressions_same es sc

    else_same : (other : Else) (sc : Scope) → below_else (resolve_else env sc other) ≡ below_else other
    else_same no_else sc = refl
    else_same (else_do s) sc = ap (λ n. n + 1) (statement_same s sc)

    statements_same : (ss : Statements) (sc : Scope) → below_statements (resolve_statements env sc ss) ≡ below_statements ss
    statements_same no_statements sc = refl
    statements_same (statement_then s ss) sc =
        ap (λ n. max (n + 1) (below_statements (resolve_statements env (scope_behind env sc s) ss))) (statement_same s sc) ∙ ap (max (below_statement s + 1)) (statements_same ss (scope_behind env sc s))

    handlers_same : (hs : Handlers) (sc : Scope) → below_handlers (resolve_handlers env sc hs) ≡ below_handlers hs
    handlers_same no_handlers sc = refl
    handlers_same (handler_then ty n ss place hs) sc =
        ap (λ k. max (k + 2) (below_handlers (resolve_handlers env (after (caught_count ty + locals_of ss) sc) hs))) (statements_same ss (handler_scope env ty n sc))
        ∙ ap (max (below_statements ss + 2)) (handlers_same hs (after (caught_count ty + locals_of ss) sc))

  initialisers_same : (is : List Initialiser) (sc : Scope) → below_initialisers (map (resolve_initialiser env sc) is) ≡ below_initialisers is
  initialisers_same [] sc = refl
  initialisers_same (i ∷ is) sc =
      ap (λ n. max n (below_initialisers (map (resolve_initialiser env sc) is))) (expressions_same i.arguments sc) ∙ ap (max (below_expressions i.arguments)) (initialisers_same is sc)

  body_same : (o : Option Statements) (sc : Scope) → below_body (resolve_body env sc o) ≡ below_body o
  body_same None sc = refl
  body_same (Some ss) sc = ap (λ n. n + 1) (statements_same ss sc)

-- a function
pub function_same : (head : Environment) (head_scope : Scope) (env : Environment) (sc : Scope) (b : Bound) (f : Function) → below_function (resolve_function head head_scope env sc b f) ≡ below_function f
function_same head head_scope env sc b f =
    let there = declare_params env f.parameters sc in
    ap (λ n. max n (below_body (resolve_body env there f.body))) (initialisers_same env f.initialisers there) ∙ ap (max (below_initialisers f.initialisers)) (body_same env f.body there)
