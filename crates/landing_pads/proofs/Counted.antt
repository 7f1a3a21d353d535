-- The bytes that the limit on a function's variables counts are those of their slots.
use Rattle.std.proofs.Common.{◌≡◌, ◌∙◌, ◌+◌, ◌*◌, ◌≤◌, ◌<◌, ℕ, Bool, true, false, ◌||◌, List, [], ◌∷◌, ◌++◌, map, length, Option, Some, None, if◌then◌else◌, refl, sym, ap, subst, arith}
use Rattle.std.proofs.lemmas.List.{map-append}
use Rattle.std.proofs.lemmas.Bool.Decides.{nat_tests}
use Rattle.std.specs.Prelude.{nat_lt}
use Rattle.cxx_ast.specs.declared.name.Bound.{Bound}
use Rattle.cxx_ast.specs.declared.name.Bound.TheVariants.{Free, Class}
use Rattle.cxx_ast.specs.declared.name.Name.{Name}
use Rattle.cxx_ast.specs.declared.types.Ty.{Ty}
use Rattle.cxx_ast.specs.declared.types.Ty.TheVariants.{Int, Void, Object, IntRef, ObjectRef}
use Rattle.cxx_ast.specs.declared.types.Param.{Param}
use Rattle.cxx_ast.specs.Plain.{Statement, block, empty, if_else, while, return, break, continue, throw, try, assign, evaluate, local_int, local_ref, local_object, Else, no_else, else_do, Statements, no_statements, statement_then, Handlers, no_handlers, handler_then, Function}
use Rattle.cxx_ast.specs.Spelling.{is_bad_exception}
use Rattle.cxx_ast.specs.Finding.{is_sound, breaks_if}
use Rattle.cxx_ast.specs.Rule.{handler_order, function_too_long, frame_too_large}
use Rattle.cxx_ast.specs.Limits.{most_function_tokens, most_variable_bytes}
use Rattle.cxx_ast.specs.Grammatical.{Each, Where, IsReference, IsParamType, IsParam, IsStatement, IsElse, AreStatements, AreHandlers, IsFunction}
use Rattle.cxx_ast.specs.Environment.{Environment, Scope, Meaning, unknown, a_local, a_field, a_method, a_global, a_function, a_class, a_builtin}
use Rattle.cxx_ast.specs.Lookup.{look}
use Rattle.cxx_ast.specs.TypeNames.{class_wanted, class_found, type_found, head_types_found, has_body}
use Rattle.cxx_ast.specs.Sizes.{object_bytes, variable_bytes, statement_bytes, else_bytes, statements_bytes, handlers_bytes, body_bytes, variables_bytes}
use Rattle.cxx_ast.specs.Locals.{declare_param, declare_params, inner, after, handler_scope, caught_count, locals_in, locals_of, scope_behind}
use Rattle.cxx_ast.specs.Resolve.{bind, bound_of, resolve_class, resolve_type, resolve_params, resolve_statement, resolve_else, resolve_statements, resolve_handlers, resolve_body, resolve_function}
use Rattle.cxx_ast.specs.Reference.{int_found}
use Rattle.cxx_ast.specs.ExpressionRules.{judged, all_judged}
use Rattle.cxx_ast.specs.StatementRules.{twice_in, object_found, caught_found, catches_all, statement_found, else_found, statements_found, handlers_found}
use Rattle.cxx_ast.specs.FunctionRules.{params_twice, building_of, body_found, definition_found, function_found}
use Rattle.cxx_ast.specs.Declare.{function_scope}
use Rattle.cxx_ast.specs.TypeNames.{class_of_name}
use Rattle.meaning_forms.specs.Class.{class_bound, class_named, object_type}
use Rattle.region_forms.specs.Layout.{ClassLayout, Layout, layout_at, laid_size}
use Rattle.region_forms.specs.LowerProgram.{slot_for}
use Rattle.region_forms.specs.Numbering.{declared_in, declared_in_else, all_declared_in, declared_in_handlers, declared_in_body}
use Rattle.linear_forms.specs.Frame.{rounded_up, slot_bytes}
use Rattle.class_layout.proofs.Sound.{front_sound, back_sound, not_broken}
use Rattle.class_layout.proofs.Named.{name_stands}
use Rattle.class_layout.proofs.Declared.{Matches, size_same}
use Rattle.landing_pads.specs.Frames.{laid_bytes}
use Rattle.landing_pads.proofs.Framed.{bytes_append}

abbrev bytes : Layout → List Ty → ℕ
bytes l types = slot_bytes (map (slot_for l) types)

both_bytes : (l : Layout) (a b : List Ty) → bytes l (a ++ b) ≡ bytes l a + bytes l b
both_bytes l a b = ap slot_bytes (map-append (slot_for l) a b) ∙ bytes_append (map (slot_for l) a) (map (slot_for l) b)

-- whether a loop is round a scope decides no name
abbrev looped : Bool → Scope → Scope
looped b sc = record sc { in_loop = b }

param_looped : (env : Environment) (b : Bool) (ty : Ty) (n : Option Name) (sc : Scope) →
    declare_param env (record { ty = ty; name = n }) (looped b sc) ≡ looped b (declare_param env (record { ty = ty; name = n }) sc)
param_looped env b ty None sc = refl
param_looped env b Int (Some n) sc = refl
param_looped env b Void (Some n) sc = refl
param_looped env b (Object c) (Some n) sc = refl
param_looped env b (IntRef const) (Some n) sc = refl
param_looped env b (ObjectRef const c) (Some n) sc = refl

handler_looped : (env : Environment) (b : Bool) (ty : Option Ty) (n : Option Name) (sc : Scope) →
    handler_scope env ty n (looped b sc) ≡ looped b (handler_scope env ty n sc)
handler_looped env b None n sc = refl
handler_looped env b (Some ty) n sc = param_looped env b ty n (inner sc)

behind_looped : (env : Environment) (b : Bool) (s : Statement) (sc : Scope) → scope_behind env (looped b sc) s ≡ looped b (scope_behind env sc s)
behind_looped env b (local_int x e) sc = refl
behind_looped env b (local_ref p names) sc = param_looped env b p.ty p.name sc
behind_looped env b (local_object c x es) sc = refl
behind_looped env b s sc = refl

-- a reference, and a parameter, has 8 bytes
reference_bytes : (l : Layout) (env : Environment) (sc : Scope) (ty : Ty) → IsReference ty → rounded_up 7 (slot_for l (resolve_type env sc ty)).size ≤ 8
reference_bytes l env sc Int h = absurd h
reference_bytes l env sc Void h = absurd h
reference_bytes l env sc (Object n) h = absurd h
reference_bytes l env sc (IntRef const) h = omega arith
reference_bytes l env sc (ObjectRef const n) h = omega arith

param_bytes : (l : Layout) (env : Environment) (sc : Scope) (ty : Ty) → IsParamType ty → rounded_up 7 (slot_for l (resolve_type env sc ty)).size ≤ 8
param_bytes l env sc Int h = omega arith
param_bytes l env sc Void h = absurd h
param_bytes l env sc (Object n) h = absurd h
param_bytes l env sc (IntRef const) h = omega arith
param_bytes l env sc (ObjectRef const n) h = omega arith

params_bytes : (l : Layout) (env : Environment) (sc : Scope) (ps : List Param) → Each IsParam ps →
    bytes l (map (λ x. x.ty) (resolve_params env sc ps)) ≤ 8 * length (resolve_params env sc ps)
params_bytes l env sc [] h = omega arith
params_bytes l env sc (p ∷ ps) h = omega (arith, param_bytes l env sc p.ty h.0, params_bytes l env (declare_param env p sc) ps h.1)

-- the name of a class that is there is bound to it
bound_is : (env : Environment) (sc : Scope) (n : Name) → is_sound (class_found env sc n) ≡ true → (k : ℕ) × ((resolve_class env sc n).bound ≡ Class k)
bound_is env sc n sound = go (is_bad_exception n) (look env sc n) sound
  where
    go : (b : Bool) (m : Meaning) → is_sound (if b then [] else class_wanted n.place m) ≡ true →
        (k : ℕ) × ((if b then bind n (Class 0) else bind n (bound_of env m)).bound ≡ Class k)
    go true m s = (0, refl)
    go false (a_class j) s = (j, refl)
    go false unknown s = absurd (cc s)
    go false (a_local v) s = absurd (cc s)
    go false (a_field i j kind) s = absurd (cc s)
    go false (a_method i j x) s = absurd (cc s)
    go false (a_global g) s = absurd (cc s)
    go false (a_function x) s = absurd (cc s)
    go false (a_builtin x) s = absurd (cc s)

-- what is known of classes, and layouts that have the same of these classes
module _ (env : Environment) (laid : List ClassLayout) (matching : Matches env laid) (l : Layout)
    (same : (k : ℕ) → k < length laid → layout_at l.classes k ≡ layout_at laid k) where
  object_same : (sc : Scope) (n : Name) → is_sound (class_found env sc n) ≡ true →
      rounded_up 7 (laid_size l (object_type (Object (resolve_class env sc n)))) ≡ object_bytes env (resolve_class env sc n).bound
  object_same sc n sound =
      let there = name_stands (length env.classes) env sc n matching.some matching.known sound in
      let is = bound_is env sc n sound in
      let number : class_named (resolve_class env sc n) ≡ is.0 = ap class_bound is.1 in
      let below : is.0 < length env.classes = subst (λ k. k < length env.classes) (sym there.name_is ∙ number) there.below in
      ap (λ k. rounded_up 7 (layout_at l.classes k).size) number
      ∙ (ap (λ x. rounded_up 7 x.size) (same is.0 (subst (λ k. is.0 < k) matching.count below))
      ∙ (ap (rounded_up 7) (sym (size_same env.classes laid matching.sizes is.0 below))
      ∙ sym (ap (object_bytes env) is.1)))

  caught_same : (sc : Scope) (ty : Ty) → is_sound (type_found env sc ty) ≡ true →
      rounded_up 7 (slot_for l (resolve_type env sc ty)).size ≤ variable_bytes env (resolve_type env sc ty)
  caught_same sc Int h = omega arith
  caught_same sc Void h = omega arith
  caught_same sc (Object n) h = omega (arith, object_same sc n h)
  caught_same sc (IntRef const) h = omega arith
  caught_same sc (ObjectRef const n) h = omega arith

  -- one of several handlers
  handler_counted : (ty : Option Ty) (n : Option Name) (ss : Statements) (place : ℕ) (hs : Handlers) (sc : Scope) → is_sound (caught_found env sc ty) ≡ true →
      bytes l (all_declared_in (resolve_statements env (handler_scope env ty n sc) ss)) ≤ statements_bytes env (resolve_statements env (handler_scope env ty n sc) ss) →
      bytes l (declared_in_handlers (resolve_handlers env (after (caught_count ty + locals_of ss) sc) hs)) ≤ handlers_bytes env (resolve_handlers env (after (caught_count ty + locals_of ss) sc) hs) →
      bytes l (declared_in_handlers (resolve_handlers env sc (handler_then ty n ss place hs))) ≤ handlers_bytes env (resolve_handlers env sc (handler_then ty n ss place hs))
  handler_counted None n ss place hs sc h body others =
      omega (arith, body, others, both_bytes l (all_declared_in (resolve_statements env (handler_scope env None n sc) ss)) (declared_in_handlers (resolve_handlers env (after (0 + locals_of ss) sc) hs)))
  handler_counted (Some ty) n ss place hs sc h body others =
      omega (
        arith,
        body,
        others,
        caught_same sc ty h,
        both_bytes l (all_declared_in (resolve_statements env (handler_scope env (Some ty) n sc) ss)) (declared_in_handlers (resolve_handlers env (after (1 + locals_of ss) sc) hs)),
      )

  mutual
    statement_counted : (s : Statement) (b : Bool) (sc : Scope) → IsStatement s → is_sound (statement_found env (looped b sc) s) ≡ true →
        bytes l (declared_in (resolve_statement env sc s)) ≤ statement_bytes env (resolve_statement env sc s)
    statement_counted (block ss) b sc g h = statements_counted ss b (inner sc) g h
    statement_counted empty b sc g h = omega arith
    statement_counted (if_else e s t) b sc g h =
        let there = after (locals_in s) sc in
        let tested = int_found (judged env (looped b sc) e) in
        let first = statement_found env (looped b sc) s in
        let front = front_sound (tested ++ first) (else_found env (looped b there) t) h in
        omega (
          arith,
          both_bytes l (declared_in (resolve_statement env sc s)) (declared_in_else (resolve_else env there t)),
          statement_counted s b sc g.1 (back_sound tested first front),
          else_counted t b there g.3 (back_sound (tested ++ first) (else_found env (looped b there) t) h),
        )
    statement_counted (while e s) b sc g h =
        statement_counted s true sc g.1 (back_sound (int_found (judged env (looped b sc) e)) (statement_found env (looped true sc) s) h)
    statement_counted (return place e) b sc g h = omega arith
    statement_counted (break place) b sc g h = omega arith
    statement_counted (continue place) b sc g h = omega arith
    statement_counted (throw place e) b sc g h = omega arith
    statement_counted (try ss hs) b sc g h =
        let there = after (locals_of ss) sc in
        let first = statements_found env (looped b (inner sc)) ss in
        let second = handlers_found env (looped b there) false hs in
        omega (
          arith,
          both_bytes l (all_declared_in (resolve_statements env (inner sc) ss)) (declared_in_handlers (resolve_handlers env there hs)),
          statements_counted ss b (inner sc) g.0 (front_sound first second h),
          handlers_counted hs b false there g.2 (back_sound first second h),
        )
    statement_counted (assign names e) b sc g h = omega arith
    statement_counted (evaluate e) b sc g h = omega arith
    statement_counted (local_int x e) b sc g h = omega arith
    statement_counted (local_ref p names) b sc g h = omega (arith, reference_bytes l env sc p.ty g.0)
    statement_counted (local_object c x es) b sc g h =
        let named = class_found env sc c in
        let built = object_found env (class_of_name env sc c) c.place x.place (all_judged env (looped b sc) es) in
        omega (arith, object_same sc c (front_sound named built (front_sound (named ++ built) (twice_in x sc.locals) h)))

    else_counted : (t : Else) (b : Bool) (sc : Scope) → IsElse t → is_sound (else_found env (looped b sc) t) ≡ true →
        bytes l (declared_in_else (resolve_else env sc t)) ≤ else_bytes env (resolve_else env sc t)
    else_counted no_else b sc g h = omega arith
    else_counted (else_do s) b sc g h = statement_counted s b sc g.0 h

    statements_counted : (ss : Statements) (b : Bool) (sc : Scope) → AreStatements ss → is_sound (statements_found env (looped b sc) ss) ≡ true →
        bytes l (all_declared_in (resolve_statements env sc ss)) ≤ statements_bytes env (resolve_statements env sc ss)
    statements_counted no_statements b sc g h = omega arith
    statements_counted (statement_then s ss) b sc g h =
        let there = scope_behind env sc s in
        let first = statement_found env (looped b sc) s in
        let second = statements_found env (scope_behind env (looped b sc) s) ss in
        let rest = subst (λ x. is_sound (statements_found env x ss) ≡ true) (behind_looped env b s sc) (back_sound first second h) in
        omega (
          arith,
          both_bytes l (declared_in (resolve_statement env sc s)) (all_declared_in (resolve_statements env there ss)),
          statement_counted s b sc g.0 (front_sound first second h),
          statements_counted ss b there g.1 rest,
        )

    handlers_counted : (hs : Handlers) (b all : Bool) (sc : Scope) → AreHandlers hs → is_sound (handlers_found env (looped b sc) all hs) ≡ true →
        bytes l (declared_in_handlers (resolve_handlers env sc hs)) ≤ handlers_bytes env (resolve_handlers env sc hs)
    handlers_counted no_handlers b all sc g h = omega arith
    handlers_counted (handler_then ty n ss place hs) b all sc g h =
        let there = after (caught_count ty + locals_of ss) sc in
        let ordered = breaks_if all handler_order place in
        let caught = caught_found env (looped b sc) ty in
        let body = statements_found env (handler_scope env ty n (looped b sc)) ss in
        let others = handlers_found env (looped b there) (all || catches_all ty) hs in
        let front = front_sound (ordered ++ caught ++ body) others h in
        let inside = subst (λ x. is_sound (statements_found env x ss) ≡ true) (handler_looped env b ty n sc) (back_sound (ordered ++ caught) body front) in
        handler_counted ty n ss place hs sc (back_sound ordered caught (front_sound (ordered ++ caught) body front))
        (statements_counted ss b (handler_scope env ty n sc) g.1 inside)
        (handlers_counted hs b (all || catches_all ty) there g.2 (back_sound (ordered ++ caught ++ body) others h))

  body_counted : (o : Option Statements) (sc : Scope) (own : Option ℕ) (f : Function) → Where AreStatements o → is_sound (body_found env sc own f o) ≡ true →
      bytes l (declared_in_body (resolve_body env sc o)) ≤ body_bytes env (resolve_body env sc o)
  body_counted None sc own f g h = omega arith
  body_counted (Some ss) sc own f g h = statements_counted ss sc.in_loop sc g (back_sound (building_of env sc own f f.kind) (statements_found env sc ss) h)

  within_limit : (tokens size place : ℕ) → is_sound (breaks_if (nat_lt most_function_tokens tokens) function_too_long place ++ breaks_if (nat_lt most_variable_bytes size) frame_too_large place) ≡ true → size ≤ 1536
  within_limit tokens size place h =
      let e = not_broken (nat_lt most_variable_bytes size) frame_too_large place (back_sound (breaks_if (nat_lt most_function_tokens tokens) function_too_long place) (breaks_if (nat_lt most_variable_bytes size) frame_too_large place) h) in
      small size e
    where
      small : (size : ℕ) → nat_lt 1536 size ≡ false → size ≤ 1536
      small size e = grind (arith, nat_tests)

  -- a function that is defined
  pub function_small : (head : Environment) (heads : Scope) (own : Option ℕ) (b : Bound) (f : Function) → IsFunction f → has_body f.body ≡ true →
      is_sound (function_found head heads env own f) ≡ true → laid_bytes l (resolve_function head heads env (function_scope env own f.result) b f) ≤ 1536
  function_small head heads own b f g there h =
      let sc = declare_params env f.parameters (function_scope env own f.result) in
      let named = resolve_function head heads env (function_scope env own f.result) Free f in
      let heading = head_types_found head heads f ++ params_twice [] f.parameters in
      let front = front_sound (heading ++ body_found env sc own f f.body) (definition_found env named f.body) h in
      let body = body_counted f.body sc own f g.body (back_sound heading (body_found env sc own f f.body) front) in
      let params = params_bytes l head heads f.parameters g.parameters in
      let limit = limited f.body there (back_sound (heading ++ body_found env sc own f f.body) (definition_found env named f.body) h) in
      omega (arith, body, params, limit, both_bytes l (map (λ x. x.ty) (resolve_params head heads f.parameters)) (declared_in_body (resolve_body env sc f.body)))
    where
      limited : (o : Option Statements) → has_body o ≡ true →
          is_sound (definition_found env (resolve_function head heads env (function_scope env own f.result) Free f) o) ≡ true →
          variables_bytes env (resolve_function head heads env (function_scope env own f.result) Free f) ≤ 1536
      limited None e s = absurd (cc e)
      limited (Some ss) e s = within_limit f.tokens (variables_bytes env (resolve_function head heads env (function_scope env own f.result) Free f)) f.name.place s
