-- Each variable of a function whose names are bound has the number of one of its variables.
use Rattle.std.proofs.Common.{◌≡◌, ◌+◌, ◌≤◌, ◌<◌, ℕ, Bool, true, false, List, [], ◌∷◌, ◌++◌, map, length, Option, Some, None, refl, arith}
use Rattle.std.proofs.lemmas.List.{length-append, length-map}
use Rattle.std.specs.Prelude.{if◌then◌else◌}
use Rattle.cxx_ast.specs.declared.name.Bound.{Bound}
use Rattle.cxx_ast.specs.declared.name.Bound.TheVariants.{Local}
use Rattle.cxx_ast.specs.declared.name.Name.{Name}
use Rattle.cxx_ast.specs.declared.types.Ty.{Ty}
use Rattle.cxx_ast.specs.declared.types.Param.{Param}
use Rattle.cxx_ast.specs.Plain.{Expression, number, path, paren, unary, binary, call, std_call, Expressions, no_expressions, expression_then, Statement, block, empty, if_else, while, return, break, continue, throw, try, assign, evaluate, local_int, local_ref, local_object, Else, no_else, else_do, Statements, no_statements, statement_then, Handlers, no_handlers, handler_then, Initialiser, Function}
use Rattle.cxx_ast.specs.Environment.{Kind, Environment, Variable, Scope}
use Rattle.cxx_ast.specs.Locals.{has_variable, with_variable, declare, declare_param, declare_params, inner, after, handler_scope, caught_count, locals_in, locals_behind, locals_of, locals_caught, scope_behind}
use Rattle.cxx_ast.specs.Resolve.{bind_some, resolve_expression, resolve_expressions, resolve_value, resolve_statement, resolve_else, resolve_statements, resolve_handlers, resolve_params, resolve_initialiser, resolve_body, resolve_function}
use Rattle.cxx_ast.specs.TypeNames.{class_of_name, type_kind, is_const}
use Rattle.cxx_ast.specs.Environment.{int_kind}
use Rattle.region_forms.specs.Numbering.{declared_in, declared_in_else, all_declared_in, declared_in_handlers, declared_in_body, variables_of}
use Rattle.landing_pads.specs.Numbered.{ExpressionFits, ExpressionsFit, ValueFits, NameFits, StatementFits, ElseFits, StatementsFit, HandlersFit, BodyFits, InitialisersFit, VariablesAreNumbered}
use Rattle.landing_pads.proofs.Looked.{AllIn, AllBelow, path_fits}

-- as many variables are declared with names bound as before
mutual
  statement_count : (s : Statement) (env : Environment) (sc : Scope) → length (declared_in (resolve_statement env sc s)) ≡ locals_in s
  statement_count (block ss) env sc = statements_count ss env (inner sc)
  statement_count empty env sc = refl
  statement_count (if_else e s t) env sc =
      let there = after (locals_in s) sc in
      omega (arith, length-append (declared_in (resolve_statement env sc s)) (declared_in_else (resolve_else env there t)), statement_count s env sc, else_count t env there)
  statement_count (while e s) env sc = statement_count s env sc
  statement_count (return place e) env sc = refl
  statement_count (break place) env sc = refl
  statement_count (continue place) env sc = refl
  statement_count (throw place e) env sc = refl
  statement_count (try ss hs) env sc =
      let there = after (locals_of ss) sc in
      omega (
        arith,
        length-append (all_declared_in (resolve_statements env (inner sc) ss)) (declared_in_handlers (resolve_handlers env there hs)),
        statements_count ss env (inner sc),
        handlers_count hs env there,
      )
  statement_count (assign names e) env sc = refl
  statement_count (evaluate e) env sc = refl
  statement_count (local_int x e) env sc = refl
  statement_count (local_ref p names) env sc = refl
  statement_count (local_object c x es) env sc = refl

  else_count : (t : Else) (env : Environment) (sc : Scope) → length (declared_in_else (resolve_else env sc t)) ≡ locals_behind t
  else_count no_else env sc = refl
  else_count (else_do s) env sc = statement_count s env sc

  pub statements_count : (ss : Statements) (env : Environment) (sc : Scope) → length (all_declared_in (resolve_statements env sc ss)) ≡ locals_of ss
  statements_count no_statements env sc = refl
  statements_count (statement_then s ss) env sc =
      let there = scope_behind env sc s in
      omega (arith, length-append (declared_in (resolve_statement env sc s)) (all_declared_in (resolve_statements env there ss)), statement_count s env sc, statements_count ss env there)

  handlers_count : (hs : Handlers) (env : Environment) (sc : Scope) → length (declared_in_handlers (resolve_handlers env sc hs)) ≡ locals_caught hs
  handlers_count no_handlers env sc = refl
  handlers_count (handler_then None n ss place hs) env sc =
      let inside = handler_scope env None n sc in
      let there = after (0 + locals_of ss) sc in
      omega (
        arith,
        length-append (all_declared_in (resolve_statements env inside ss)) (declared_in_handlers (resolve_handlers env there hs)),
        statements_count ss env inside,
        handlers_count hs env there,
      )
  handlers_count (handler_then (Some ty) n ss place hs) env sc =
      let inside = handler_scope env (Some ty) n sc in
      let there = after (1 + locals_of ss) sc in
      omega (
        arith,
        length-append (all_declared_in (resolve_statements env inside ss)) (declared_in_handlers (resolve_handlers env there hs)),
        statements_count ss env inside,
        handlers_count hs env there,
      )

-- the variables in reach have numbers below that of the next one
abbrev Known : Scope → Type 0
Known sc = AllBelow sc.next sc.locals

more_in : (n m : ℕ) (scope : List Variable) → n ≤ m → AllIn n scope → AllIn m scope
more_in n m [] e h = tt
more_in n m (v ∷ scope) e h = (omega (arith, e, h.0), more_in n m scope e h.1)

more_below : (n m : ℕ) (scopes : List (List Variable)) → n ≤ m → AllBelow n scopes → AllBelow m scopes
more_below n m [] e h = tt
more_below n m (scope ∷ scopes) e h = (more_in n m scope e h.0, more_below n m scopes e h.1)

and_in : (n : ℕ) (scope : List Variable) (v : Variable) → v.number < n → AllIn n scope → AllIn n (scope ++ v ∷ [])
and_in n [] v e h = (e, tt)
and_in n (w ∷ scope) v e h = (h.0, and_in n scope v e h.1)

with_below : (n : ℕ) (v : Variable) (scopes : List (List Variable)) → v.number < n → AllBelow n scopes → AllBelow n (with_variable v scopes)
with_below n v [] e h = tt
with_below n v (scope ∷ scopes) e h = go (has_variable v.text scope)
  where
    go : (b : Bool) → AllBelow n (if b then scope ∷ scopes else (scope ++ v ∷ []) ∷ scopes)
    go true = h
    go false = (and_in n scope v e h.0, h.1)

declared_known : (x : Name) (kind : Kind) (const : Bool) (sc : Scope) → Known sc → Known (declare x kind const sc)
declared_known x kind const sc h =
    with_below (sc.next + 1) (record { text = x.text; kind = kind; is_const = const; number = sc.next }) sc.locals (omega arith) (more_below sc.next (sc.next + 1) sc.locals (omega arith) h)

after_known : (n : ℕ) (sc : Scope) → Known sc → Known (after n sc)
after_known n sc h = more_below sc.next (sc.next + n) sc.locals (omega arith) h

-- a scope with n more variables
record Further (sc next : Scope) (n : ℕ) : Type 0 where
  known : Known next
  count : next.next ≡ sc.next + n

param_further : (env : Environment) (p : Param) (sc : Scope) → Known sc → Further sc (declare_param env p sc) 1
param_further env p sc h = go p.name
  where
    go : (o : Option Name) → Further sc (elim o [ None ↦ record sc { next = sc.next + 1 } | Some n ↦ declare n (type_kind env sc p.ty) (is_const p.ty) sc ]) 1
    go None = record { known = after_known 1 sc h; count = refl }
    go (Some n) = record { known = declared_known n (type_kind env sc p.ty) (is_const p.ty) sc h; count = refl }

handler_further : (env : Environment) (ty : Option Ty) (n : Option Name) (sc : Scope) → Known sc → Further sc (handler_scope env ty n sc) (caught_count ty)
handler_further env None n sc h = record { known = (tt, h); count = omega arith }
handler_further env (Some ty) n sc h =
    let f = param_further env (record { ty = ty; name = n }) (inner sc) (tt, h) in record { known = f.known; count = f.count }

behind_further : (env : Environment) (sc : Scope) (s : Statement) → Known sc → Further sc (scope_behind env sc s) (locals_in s)
behind_further env sc (local_int x e) h = record { known = declared_known x int_kind false sc h; count = refl }
behind_further env sc (local_ref p names) h = param_further env p sc h
behind_further env sc (local_object c x es) h = record { known = declared_known x (class_of_name env sc c) false sc h; count = refl }
behind_further env sc s h = record { known = after_known (locals_in s) sc h; count = refl }

params_further : (env : Environment) (ps : List Param) (sc : Scope) → Known sc → Further sc (declare_params env ps sc) (length ps)
params_further env [] sc h = record { known = h; count = omega arith }
params_further env (p ∷ ps) sc h =
    let first = param_further env p sc h in
    let rest = params_further env ps (declare_param env p sc) first.known in
    record { known = rest.known; count = omega (arith, rest.count, first.count) }

module _ (n : ℕ) (env : Environment) where
  mutual
    expression_fits : (e : Expression) (sc : Scope) → AllBelow n sc.locals → ExpressionFits n (resolve_expression env sc e)
    expression_fits (number v place) sc h = tt
    expression_fits (path names) sc h = path_fits n env sc names h
    expression_fits (paren e place) sc h = expression_fits e sc h
    expression_fits (unary o e place) sc h = expression_fits e sc h
    expression_fits (binary o a b) sc h = (expression_fits a sc h, expression_fits b sc h)
    expression_fits (call names es) sc h = (path_fits n env sc names h, expressions_fit es sc h)
    expression_fits (std_call x es place) sc h = expressions_fit es sc h

    expressions_fit : (es : Expressions) (sc : Scope) → AllBelow n sc.locals → ExpressionsFit n (resolve_expressions env sc es)
    expressions_fit no_expressions sc h = tt
    expressions_fit (expression_then e es) sc h = (expression_fits e sc h, expressions_fit es sc h)

  value_fits : (e : Option Expression) (sc : Scope) → AllBelow n sc.locals → ValueFits n (resolve_value env sc e)
  value_fits None sc h = tt
  value_fits (Some e) sc h = expression_fits e sc h

  name_fits : (o : Option Name) (k : ℕ) → k < n → NameFits n (bind_some o (Local k))
  name_fits None k h = tt
  name_fits (Some x) k h = h

  mutual
    statement_fits : (s : Statement) (sc : Scope) → Known sc → sc.next + locals_in s ≤ n → StatementFits n (resolve_statement env sc s)
    statement_fits (block ss) sc h k = statements_fit ss (inner sc) (tt, h) k
    statement_fits empty sc h k = tt
    statement_fits (if_else e s t) sc h k = (
      expression_fits e sc (more_below sc.next n sc.locals (omega (arith, k)) h),
      statement_fits s sc h (omega (arith, k)),
      else_fits t (after (locals_in s) sc) (after_known (locals_in s) sc h) (omega (arith, k)),
    )
    statement_fits (while e s) sc h k = (expression_fits e sc (more_below sc.next n sc.locals (omega (arith, k)) h), statement_fits s sc h k)
    statement_fits (return place e) sc h k = value_fits e sc (more_below sc.next n sc.locals (omega (arith, k)) h)
    statement_fits (break place) sc h k = tt
    statement_fits (continue place) sc h k = tt
    statement_fits (throw place e) sc h k = value_fits e sc (more_below sc.next n sc.locals (omega (arith, k)) h)
    statement_fits (try ss hs) sc h k = (
      statements_fit ss (inner sc) (tt, h) (omega (arith, k)),
      handlers_fit hs (after (locals_of ss) sc) (after_known (locals_of ss) sc h) (omega (arith, k)),
    )
    statement_fits (assign names e) sc h k =
        let all = more_below sc.next n sc.locals (omega (arith, k)) h in (path_fits n env sc names all, expression_fits e sc all)
    statement_fits (evaluate e) sc h k = expression_fits e sc (more_below sc.next n sc.locals (omega (arith, k)) h)
    statement_fits (local_int x e) sc h k = (omega (arith, k), value_fits e sc (more_below sc.next n sc.locals (omega (arith, k)) h))
    statement_fits (local_ref p names) sc h k = (name_fits p.name sc.next (omega (arith, k)), path_fits n env sc names (more_below sc.next n sc.locals (omega (arith, k)) h))
    statement_fits (local_object c x es) sc h k = (omega (arith, k), expressions_fit es sc (more_below sc.next n sc.locals (omega (arith, k)) h))

    else_fits : (t : Else) (sc : Scope) → Known sc → sc.next + locals_behind t ≤ n → ElseFits n (resolve_else env sc t)
    else_fits no_else sc h k = tt
    else_fits (else_do s) sc h k = statement_fits s sc h k

    statements_fit : (ss : Statements) (sc : Scope) → Known sc → sc.next + locals_of ss ≤ n → StatementsFit n (resolve_statements env sc ss)
    statements_fit no_statements sc h k = tt
    statements_fit (statement_then s ss) sc h k =
        let f = behind_further env sc s h in
        (statement_fits s sc h (omega (arith, k)), statements_fit ss (scope_behind env sc s) f.known (omega (arith, k, f.count)))

    handlers_fit : (hs : Handlers) (sc : Scope) → Known sc → sc.next + locals_caught hs ≤ n → HandlersFit n (resolve_handlers env sc hs)
    handlers_fit no_handlers sc h k = tt
    handlers_fit (handler_then ty x ss place hs) sc h k =
        let f = handler_further env ty x sc h in
        let there = after (caught_count ty + locals_of ss) sc in (
          statements_fit ss (handler_scope env ty x sc) f.known (omega (arith, k, f.count)),
          handlers_fit hs there (after_known (caught_count ty + locals_of ss) sc h) (omega (arith, k)),
        )

  initialisers_fit : (is : List Initialiser) (sc : Scope) → AllBelow n sc.locals → InitialisersFit n (map (resolve_initialiser env sc) is)
  initialisers_fit [] sc h = tt
  initialisers_fit (i ∷ is) sc h = (expressions_fit i.arguments sc h, initialisers_fit is sc h)

params_count : (env : Environment) (sc : Scope) (ps : List Param) → length (resolve_params env sc ps) ≡ length ps
params_count env sc [] = refl
params_count env sc (p ∷ ps) = omega (arith, params_count env (declare_param env p sc) ps)

-- a function, in a scope without variables
pub function_numbered : (head : Environment) (heads : Scope) (env : Environment) (sc : Scope) (b : Bound) (f : Function) → Known sc → sc.next ≡ 0 →
    VariablesAreNumbered (resolve_function head heads env sc b f)
function_numbered head heads env sc b f h e =
    let there = declare_params env f.parameters sc in
    let further = params_further env f.parameters sc h in
    let g = resolve_function head heads env sc b f in
    let n = length (variables_of g) in
    let all = length-append (map (λ x. x.ty) g.parameters) (declared_in_body g.body) in
    let first = length-map g.parameters (λ x. x.ty) in
    let same = params_count head heads f.parameters in
    let reach : there.next + length (declared_in_body g.body) ≤ n = omega (arith, all, first, same, further.count, e) in
    record {
      initialisers = initialisers_fit n env f.initialisers there (more_below there.next n there.locals (omega (arith, reach)) further.known);
      body = go f.body further.known reach;
    }
  where
    go : (o : Option Statements) → Known (declare_params env f.parameters sc) →
        (declare_params env f.parameters sc).next + length (declared_in_body (resolve_body env (declare_params env f.parameters sc) o)) ≤ length (variables_of (resolve_function head heads env sc b f)) →
        BodyFits (length (variables_of (resolve_function head heads env sc b f))) (resolve_body env (declare_params env f.parameters sc) o)
    go None k r = tt
    go (Some ss) k r =
        statements_fit (length (variables_of (resolve_function head heads env sc b f))) env ss (declare_params env f.parameters sc) k
        (omega (arith, r, statements_count ss env (declare_params env f.parameters sc)))
