-- A name is bound alike in a loop and out of it.
use Rattle.std.proofs.Common.{◌≡◌, ◌∙◌, ◌+◌, ℕ, false, List, [], ◌∷◌, Option, Some, None, if◌then◌else◌, refl, ap, ap₂}
use Rattle.cxx_ast.specs.declared.name.Name.{Name}
use Rattle.cxx_ast.specs.declared.name.Bound.TheVariants.{Local, Class}
use Rattle.cxx_ast.specs.declared.types.Ty.{Ty}
use Rattle.cxx_ast.specs.declared.types.Ty.TheVariants.{Int, Void, Object, IntRef, ObjectRef}
use Rattle.cxx_ast.specs.declared.types.Param.{Param}
use Rattle.cxx_ast.specs.Plain.{Expression, number, path, paren, unary, binary, call, std_call, Expressions, no_expressions, expression_then, Statement, block, empty, if_else, while, return, break, continue, throw, try, assign, evaluate, local_int, local_ref, local_object, Else, no_else, else_do, Statements, no_statements, statement_then, Handlers, no_handlers, handler_then}
use Rattle.cxx_ast.specs.Spelling.{is_bad_exception}
use Rattle.cxx_ast.specs.Environment.{class_kind, Environment, Variable, Scope, Meaning, unknown, a_local, a_field, a_method, a_global, a_function, a_class, a_builtin}
use Rattle.cxx_ast.specs.Lookup.{variable_named, own_meaning, outer_meaning, look, meaning_kind}
use Rattle.cxx_ast.specs.TypeNames.{class_meant, type_kind, is_const}
use Rattle.cxx_ast.specs.Locals.{declare, declare_param, inner, in_a_loop, after, handler_scope, caught_count, locals_in, locals_of, scope_behind}
use Rattle.cxx_ast.specs.Resolve.{std_bound, bind, bind_some, bound_of, resolve_class, resolve_type, resolve_members, resolve_path, resolve_expression, resolve_expressions, resolve_value, resolve_caught, resolve_statement, resolve_else, resolve_statements, resolve_handlers}

-- where the same variable is in reach and a member means the same, a name does
pub look_by : (env : Environment) (sc there : Scope) (n : Name) → variable_named n.text sc.locals ≡ variable_named n.text there.locals →
    own_meaning env sc n.text ≡ own_meaning env there n.text → look env sc n ≡ look env there n
look_by env sc there n v o =
    ap (λ x. elim x [ Some w ↦ a_local w | None ↦ outer_meaning env sc n.text (own_meaning env sc n.text) ]) v ∙ by (variable_named n.text there.locals)
  where
    outer : (m : Meaning) → outer_meaning env sc n.text m ≡ outer_meaning env there n.text m
    outer unknown = refl
    outer (a_local w) = refl
    outer (a_field k i kind) = refl
    outer (a_method k i s) = refl
    outer (a_global g) = refl
    outer (a_function s) = refl
    outer (a_class k) = refl
    outer (a_builtin b) = refl

    by : (x : Option Variable) →
        elim x as (λ y. Meaning) [ Some w ↦ a_local w | None ↦ outer_meaning env sc n.text (own_meaning env sc n.text) ]
        ≡ elim x as (λ y. Meaning) [ Some w ↦ a_local w | None ↦ outer_meaning env there n.text (own_meaning env there n.text) ]
    by (Some w) = refl
    by None = ap (outer_meaning env sc n.text) o ∙ outer (own_meaning env there n.text)

-- so does a type
pub kind_by : (env : Environment) (sc there : Scope) → ((n : Name) → look env sc n ≡ look env there n) → (t : Ty) → type_kind env sc t ≡ type_kind env there t
kind_by env sc there h Int = refl
kind_by env sc there h Void = refl
kind_by env sc there h (IntRef const) = refl
kind_by env sc there h (Object n) = ap (λ m. if is_bad_exception n then class_kind 0 else class_meant m) (h n)
kind_by env sc there h (ObjectRef const n) = ap (λ m. if is_bad_exception n then class_kind 0 else class_meant m) (h n)

pub class_by : (env : Environment) (sc there : Scope) → ((n : Name) → look env sc n ≡ look env there n) → (n : Name) →
    resolve_class env sc n ≡ resolve_class env there n
class_by env sc there h n = ap (λ m. if is_bad_exception n then bind n (Class 0) else bind n (bound_of env m)) (h n)

pub type_by : (env : Environment) (sc there : Scope) → ((n : Name) → look env sc n ≡ look env there n) → (t : Ty) →
    resolve_type env sc t ≡ resolve_type env there t
type_by env sc there h Int = refl
type_by env sc there h Void = refl
type_by env sc there h (IntRef const) = refl
type_by env sc there h (Object n) = ap Object (class_by env sc there h n)
type_by env sc there h (ObjectRef const n) = ap (ObjectRef const) (class_by env sc there h n)

-- inside another scope
pub inner_look : (env : Environment) (sc : Scope) (n : Name) → look env (inner sc) n ≡ look env sc n
inner_look env sc n = look_by env (inner sc) sc n refl refl

same_if : (e f : Expression) (s r : Statement) (t u : Else) → e ≡ f → s ≡ r → t ≡ u → if_else e s t ≡ if_else f r u
same_if e f s r t u h k m = ap₂ (λ x y. if_else x y t) h k ∙ ap (if_else f r) m

same_handler : (t u : Option Ty) (n : Option Name) (ss rs : Statements) (place : ℕ) (hs is : Handlers) → t ≡ u → ss ≡ rs → hs ≡ is →
    handler_then t n ss place hs ≡ handler_then u n rs place is
same_handler t u n ss rs place hs is h k m = ap₂ (λ x y. handler_then x n y place hs) h k ∙ ap (handler_then u n rs place) m

module _ (env : Environment) where
  loop_look : (sc : Scope) (n : Name) → look env (in_a_loop sc) n ≡ look env sc n
  loop_look sc n = look_by env (in_a_loop sc) sc n refl refl

  path_same : (sc : Scope) (names : List Name) → resolve_path env (in_a_loop sc) names ≡ resolve_path env sc names
  path_same sc [] = refl
  path_same sc (n ∷ names) = ap (λ m. bind n (bound_of env m) ∷ resolve_members env (meaning_kind m) names) (loop_look sc n)

  mutual
    expression_same : (sc : Scope) (e : Expression) → resolve_expression env (in_a_loop sc) e ≡ resolve_expression env sc e
    expression_same sc (number v place) = refl
    expression_same sc (path names) = ap path (path_same sc names)
    expression_same sc (paren e place) = ap (λ x. paren x place) (expression_same sc e)
    expression_same sc (unary o e place) = ap (λ x. unary o x place) (expression_same sc e)
    expression_same sc (binary o a b) = ap₂ (binary o) (expression_same sc a) (expression_same sc b)
    expression_same sc (call names es) = ap₂ call (path_same sc names) (expressions_same sc es)
    expression_same sc (std_call n es place) = ap (λ x. std_call (bind n (std_bound n.text)) x place) (expressions_same sc es)

    expressions_same : (sc : Scope) (es : Expressions) → resolve_expressions env (in_a_loop sc) es ≡ resolve_expressions env sc es
    expressions_same sc no_expressions = refl
    expressions_same sc (expression_then e es) = ap₂ expression_then (expression_same sc e) (expressions_same sc es)

  value_same : (sc : Scope) (e : Option Expression) → resolve_value env (in_a_loop sc) e ≡ resolve_value env sc e
  value_same sc None = refl
  value_same sc (Some e) = ap Some (expression_same sc e)

  param_same : (sc : Scope) (p : Param) (n : Option Name) → declare_param env (record p { name = n }) (in_a_loop sc) ≡ in_a_loop (declare_param env (record p { name = n }) sc)
  param_same sc p None = refl
  param_same sc p (Some n) = ap (λ kind. in_a_loop (declare n kind (is_const p.ty) sc)) (kind_by env (in_a_loop sc) sc (loop_look sc) p.ty)

  behind_same : (sc : Scope) (s : Statement) → scope_behind env (in_a_loop sc) s ≡ in_a_loop (scope_behind env sc s)
  behind_same sc (block ss) = refl
  behind_same sc empty = refl
  behind_same sc (if_else e s t) = refl
  behind_same sc (while e s) = refl
  behind_same sc (return place e) = refl
  behind_same sc (break place) = refl
  behind_same sc (continue place) = refl
  behind_same sc (throw place e) = refl
  behind_same sc (try ss hs) = refl
  behind_same sc (assign names e) = refl
  behind_same sc (evaluate e) = refl
  behind_same sc (local_int n e) = refl
  behind_same sc (local_ref p names) = param_same sc p p.name
  behind_same sc (local_object c n es) =
      ap (λ m. in_a_loop (declare n (if is_bad_exception c then class_kind 0 else class_meant m) false sc)) (loop_look sc c)

  caught_same : (sc : Scope) (t : Option Ty) → resolve_caught env (in_a_loop sc) t ≡ resolve_caught env sc t
  caught_same sc None = refl
  caught_same sc (Some t) = ap Some (type_by env (in_a_loop sc) sc (loop_look sc) t)

  handler_same : (sc : Scope) (t : Option Ty) (n : Option Name) → handler_scope env t n (in_a_loop sc) ≡ in_a_loop (handler_scope env t n sc)
  handler_same sc None n = refl
  handler_same sc (Some t) n = param_same (inner sc) (record { ty = t; name = n }) n

  mutual
    pub loop_same : (sc : Scope) (s : Statement) → resolve_statement env (in_a_loop sc) s ≡ resolve_statement env sc s
    loop_same sc (block ss) = ap block (statements_same (inner sc) ss)
    loop_same sc empty = refl
    loop_same sc (if_else e s t) =
        same_if _ _ _ _ _ _ (expression_same sc e) (loop_same sc s) (else_same (after (locals_in s) sc) t)
    loop_same sc (while e s) = ap₂ while (expression_same sc e) (loop_same sc s)
    loop_same sc (return place e) = ap (return place) (value_same sc e)
    loop_same sc (break place) = refl
    loop_same sc (continue place) = refl
    loop_same sc (throw place e) = ap (throw place) (value_same sc e)
    loop_same sc (try ss hs) = ap₂ try (statements_same (inner sc) ss) (handlers_same (after (locals_of ss) sc) hs)
    loop_same sc (assign names e) = ap₂ assign (path_same sc names) (expression_same sc e)
    loop_same sc (evaluate e) = ap evaluate (expression_same sc e)
    loop_same sc (local_int n e) = ap (local_int (bind n (Local sc.next))) (value_same sc e)
    loop_same sc (local_ref p names) =
        ap₂ (λ t x. local_ref (record { ty = t; name = bind_some p.name (Local sc.next) }) x) (type_by env (in_a_loop sc) sc (loop_look sc) p.ty) (path_same sc names)
    loop_same sc (local_object c n es) =
        ap₂ (λ x y. local_object x (bind n (Local sc.next)) y) (class_by env (in_a_loop sc) sc (loop_look sc) c) (expressions_same sc es)

    else_same : (sc : Scope) (t : Else) → resolve_else env (in_a_loop sc) t ≡ resolve_else env sc t
    else_same sc no_else = refl
    else_same sc (else_do s) = ap else_do (loop_same sc s)

    statements_same : (sc : Scope) (ss : Statements) → resolve_statements env (in_a_loop sc) ss ≡ resolve_statements env sc ss
    statements_same sc no_statements = refl
    statements_same sc (statement_then s ss) =
        ap₂ statement_then (loop_same sc s) (ap (λ x. resolve_statements env x ss) (behind_same sc s) ∙ statements_same (scope_behind env sc s) ss)

    handlers_same : (sc : Scope) (hs : Handlers) → resolve_handlers env (in_a_loop sc) hs ≡ resolve_handlers env sc hs
    handlers_same sc no_handlers = refl
    handlers_same sc (handler_then t n ss place hs) =
        same_handler _ _ (bind_some n (Local sc.next)) _ _ place _ _ (caught_same sc t)
        (ap (λ x. resolve_statements env x ss) (handler_same sc t n) ∙ statements_same (handler_scope env t n sc) ss)
        (handlers_same (after (caught_count t + locals_of ss) sc) hs)
