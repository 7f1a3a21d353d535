-- A statement whose names are bound declares as many variables as before.
use Rattle.std.proofs.Common.{◌≡◌, ◌∙◌, ◌+◌, ℕ, List, ◌++◌, length, Some, None, refl, ap₂, arith}
use Rattle.std.proofs.lemmas.List.{length-append}
use Rattle.cxx_ast.specs.declared.types.Ty.{Ty}
use Rattle.cxx_ast.specs.Plain.{Statement, block, empty, if_else, while, return, break, continue, throw, try, assign, evaluate, local_int, local_ref, local_object, Else, no_else, else_do, Statements, no_statements, statement_then, Handlers, no_handlers, handler_then}
use Rattle.cxx_ast.specs.Environment.{Environment, Scope}
use Rattle.cxx_ast.specs.Locals.{inner, after, handler_scope, caught_count, locals_in, locals_behind, locals_of, locals_caught, scope_behind}
use Rattle.cxx_ast.specs.Resolve.{resolve_statement, resolve_else, resolve_statements, resolve_handlers}
use Rattle.region_forms.specs.Numbering.{declared_in, declared_in_else, all_declared_in, declared_in_handlers}

both_counted : (a b : List Ty) (n m : ℕ) → length a ≡ n → length b ≡ m → length (a ++ b) ≡ n + m
both_counted a b n m h k = length-append a b ∙ ap₂ (λ x y. x + y) h k

module _ (env : Environment) where
  mutual
    pub counted : (sc : Scope) (s : Statement) → length (declared_in (resolve_statement env sc s)) ≡ locals_in s
    counted sc (block ss) = all_counted (inner sc) ss
    counted sc empty = refl
    counted sc (if_else e s t) = both_counted _ _ (locals_in s) (locals_behind t) (counted sc s) (else_counted (after (locals_in s) sc) t)
    counted sc (while e s) = counted sc s
    counted sc (return place e) = refl
    counted sc (break place) = refl
    counted sc (continue place) = refl
    counted sc (throw place e) = refl
    counted sc (try ss hs) = both_counted _ _ (locals_of ss) (locals_caught hs) (all_counted (inner sc) ss) (handlers_counted (after (locals_of ss) sc) hs)
    counted sc (assign names e) = refl
    counted sc (evaluate e) = refl
    counted sc (local_int n e) = refl
    counted sc (local_ref p names) = refl
    counted sc (local_object c n es) = refl

    else_counted : (sc : Scope) (t : Else) → length (declared_in_else (resolve_else env sc t)) ≡ locals_behind t
    else_counted sc no_else = refl
    else_counted sc (else_do s) = counted sc s

    pub all_counted : (sc : Scope) (ss : Statements) → length (all_declared_in (resolve_statements env sc ss)) ≡ locals_of ss
    all_counted sc no_statements = refl
    all_counted sc (statement_then s ss) = both_counted _ _ (locals_in s) (locals_of ss) (counted sc s) (all_counted (scope_behind env sc s) ss)

    handlers_counted : (sc : Scope) (hs : Handlers) → length (declared_in_handlers (resolve_handlers env sc hs)) ≡ locals_caught hs
    handlers_counted sc no_handlers = refl
    handlers_counted sc (handler_then None n ss place hs) =
        let inside = all_counted (handler_scope env None n sc) ss in
        let others = handlers_counted (after (caught_count None + locals_of ss) sc) hs in
        let whole = both_counted _ _ (locals_of ss) (locals_caught hs) inside others in omega (arith, whole)
    handlers_counted sc (handler_then (Some t) n ss place hs) =
        let inside = all_counted (handler_scope env (Some t) n sc) ss in
        let others = handlers_counted (after (caught_count (Some t) + locals_of ss) sc) hs in
        let whole = both_counted _ _ (locals_of ss) (locals_caught hs) inside others in omega (arith, whole)
