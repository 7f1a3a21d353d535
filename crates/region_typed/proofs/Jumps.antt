-- Where no rule is broken, jumps stand in loops.
use Rattle.std.proofs.Common.{◌≡◌, ◌∙◌, ◌+◌, ◌||◌, ◌++◌, ℕ, Bool, true, false, not, List, Option, Some, None, refl}
use Rattle.cxx_ast.specs.declared.name.Name.{Name}
use Rattle.cxx_ast.specs.declared.types.Ty.{Ty}
use Rattle.cxx_ast.specs.declared.types.Param.{Param}
use Rattle.cxx_ast.specs.Rule.{handler_order, loop_jump}
use Rattle.cxx_ast.specs.Finding.{breaks_if}
use Rattle.cxx_ast.specs.Plain.{Statement, block, empty, if_else, while, return, break, continue, throw, try, assign, evaluate, local_int, local_ref, local_object, Else, no_else, else_do, Statements, no_statements, statement_then, Handlers, no_handlers, handler_then}
use Rattle.cxx_ast.specs.Environment.{Environment, Scope}
use Rattle.cxx_ast.specs.Reference.{int_found}
use Rattle.cxx_ast.specs.ExpressionRules.{judged}
use Rattle.cxx_ast.specs.Locals.{inner, after, declare_param, handler_scope, caught_count, locals_in, locals_of, scope_behind}
use Rattle.cxx_ast.specs.StatementRules.{caught_found, catches_all, statement_found, else_found, statements_found, handlers_found}
use Rattle.cxx_ast.specs.Resolve.{resolve_statement, resolve_else, resolve_statements, resolve_handlers}
use Rattle.region_statements.specs.Jumps.{HasNoJump, ElseHasNoJump, HaveNoJump, HandlersHaveNoJump}
use Rattle.region_formed.proofs.Fine.{Fine, fine_parts}

param_loop : (env : Environment) (p : Param) (sc : Scope) → (declare_param env p sc).in_loop ≡ sc.in_loop
param_loop env p sc = go p.name
  where
    go : (n : Option Name) → (declare_param env (record p { name = n }) sc).in_loop ≡ sc.in_loop
    go None = refl
    go (Some n) = refl

behind_loop : (env : Environment) (sc : Scope) (s : Statement) → (scope_behind env sc s).in_loop ≡ sc.in_loop
behind_loop env sc (block ss) = refl
behind_loop env sc empty = refl
behind_loop env sc (if_else e s t) = refl
behind_loop env sc (while e s) = refl
behind_loop env sc (return place e) = refl
behind_loop env sc (break place) = refl
behind_loop env sc (continue place) = refl
behind_loop env sc (throw place e) = refl
behind_loop env sc (try ss hs) = refl
behind_loop env sc (assign names e) = refl
behind_loop env sc (evaluate e) = refl
behind_loop env sc (local_int n e) = refl
behind_loop env sc (local_ref p names) = param_loop env p sc
behind_loop env sc (local_object c n es) = refl

handler_loop : (env : Environment) (t : Option Ty) (n : Option Name) (sc : Scope) → (handler_scope env t n sc).in_loop ≡ sc.in_loop
handler_loop env None n sc = refl
handler_loop env (Some t) n sc = param_loop env (record { ty = t; name = n }) (inner sc)

-- a jump where no loop is
no_loop : (defined : List (List ℕ)) (b : Bool) (place : ℕ) → b ≡ false → Fine defined (breaks_if (not b) loop_jump place) → ⊥
no_loop defined true place e f = cc e
no_loop defined false place e f = f

module _ (defined : List (List ℕ)) (env : Environment) where
  mutual
    jumps_held : (s : Statement) (sc : Scope) → sc.in_loop ≡ false → Fine defined (statement_found env sc s) → HasNoJump (resolve_statement env sc s)
    jumps_held (block ss) sc e f = no_jumps ss (inner sc) e f
    jumps_held empty sc e f = tt
    jumps_held (if_else x s t) sc e f =
        let first = int_found (judged env sc x) in
        let second = statement_found env sc s in
        let later = after (locals_in s) sc in
        let parts = fine_parts defined (first ++ second) (else_found env later t) f in
        (jumps_held s sc e (fine_parts defined first second parts.0).1, else_held t later e parts.1)
    jumps_held (while x s) sc e f = tt
    jumps_held (return place x) sc e f = tt
    jumps_held (break place) sc e f = absurd (no_loop defined sc.in_loop place e f)
    jumps_held (continue place) sc e f = absurd (no_loop defined sc.in_loop place e f)
    jumps_held (throw place x) sc e f = tt
    jumps_held (try ss hs) sc e f =
        let later = after (locals_of ss) sc in
        let parts = fine_parts defined (statements_found env (inner sc) ss) (handlers_found env later false hs) f in
        (no_jumps ss (inner sc) e parts.0, handlers_held hs false later e parts.1)
    jumps_held (assign names x) sc e f = tt
    jumps_held (evaluate x) sc e f = tt
    jumps_held (local_int n x) sc e f = tt
    jumps_held (local_ref p names) sc e f = tt
    jumps_held (local_object c n es) sc e f = tt

    else_held : (t : Else) (sc : Scope) → sc.in_loop ≡ false → Fine defined (else_found env sc t) → ElseHasNoJump (resolve_else env sc t)
    else_held no_else sc e f = tt
    else_held (else_do s) sc e f = jumps_held s sc e f

    pub no_jumps : (ss : Statements) (sc : Scope) → sc.in_loop ≡ false → Fine defined (statements_found env sc ss) → HaveNoJump (resolve_statements env sc ss)
    no_jumps no_statements sc e f = tt
    no_jumps (statement_then s ss) sc e f =
        let later = scope_behind env sc s in
        let parts = fine_parts defined (statement_found env sc s) (statements_found env later ss) f in
        (jumps_held s sc e parts.0, no_jumps ss later (behind_loop env sc s ∙ e) parts.1)

    handlers_held : (hs : Handlers) (all : Bool) (sc : Scope) → sc.in_loop ≡ false → Fine defined (handlers_found env sc all hs) → HandlersHaveNoJump (resolve_handlers env sc hs)
    handlers_held no_handlers all sc e f = tt
    handlers_held (handler_then t n ss place hs) all sc e f =
        let inside = handler_scope env t n sc in
        let later = after (caught_count t + locals_of ss) sc in
        let parts = fine_parts defined (breaks_if all handler_order place ++ caught_found env sc t ++ statements_found env inside ss)
        (handlers_found env later (all || catches_all t) hs) f in
        let body = fine_parts defined (breaks_if all handler_order place ++ caught_found env sc t) (statements_found env inside ss) parts.0 in
        (no_jumps ss inside (handler_loop env t n sc ∙ e) body.1, handlers_held hs (all || catches_all t) later e parts.1)
