-- The statements of a block that break no rule are typed.
use Rattle.std.proofs.Common.{◌≡◌, ◌+◌, ◌||◌, ℕ, Bool, false, List, [], ◌∷◌, ◌++◌, length, Option, Some, None, refl, sym, ap, subst, arith}
use Rattle.cxx_ast.specs.declared.name.Name.{Name}
use Rattle.cxx_ast.specs.declared.name.Bound.TheVariants.{Local}
use Rattle.cxx_ast.specs.declared.types.Ty.{Ty}
use Rattle.cxx_ast.specs.declared.types.Ty.TheVariants.{Int, Void, Object, IntRef, ObjectRef}
use Rattle.cxx_ast.specs.Rule.{handler_order}
use Rattle.cxx_ast.specs.Finding.{breaks_if}
use Rattle.cxx_ast.specs.Plain.{Statement, block, empty, if_else, while, return, break, continue, throw, try, assign, evaluate, local_int, local_ref, local_object, Else, no_else, else_do, Statements, no_statements, statement_then, Handlers, no_handlers, handler_then}
use Rattle.cxx_ast.specs.Environment.{int_kind, Scope}
use Rattle.cxx_ast.specs.TypeNames.{class_of_name, type_found}
use Rattle.cxx_ast.specs.Lvalue.{first_place, reached}
use Rattle.cxx_ast.specs.Reference.{int_found}
use Rattle.cxx_ast.specs.ExpressionRules.{judged}
use Rattle.cxx_ast.specs.Locals.{inner, in_a_loop, after, handler_scope, caught_count, locals_in, locals_of, scope_behind}
use Rattle.cxx_ast.specs.StatementRules.{twice_in, start_found, assigned_found, caught_found, catches_all, statement_found, else_found, statements_found, handlers_found}
use Rattle.cxx_ast.specs.Resolve.{bind, bind_some, resolve_type, resolve_statement, resolve_else, resolve_statements, resolve_handlers}
use Rattle.cxx_ast.specs.Grammatical.{IsCaught, IsStatement, IsElse, AreStatements, AreHandlers}
use Rattle.cxx_ast.proofs.ScopesBehind.{next_behind}
use Rattle.meaning_forms.specs.Class.{object_type}
use Rattle.meaning_forms.specs.Frame.{Variable as FrameVariable}
use Rattle.region_forms.specs.Numbering.{declared_in, declared_in_else, all_declared_in, declared_in_handlers}
use Rattle.region_simulation.specs.Statements.{declared_to, IsTypedStatement, IsTypedElse, AreTypedStatements, AreTypedHandlers}
use Rattle.region_formed.proofs.Fine.{Fine, fine_parts}
use Rattle.region_formed.proofs.Meant.{Typed, IsHeld, Given, lowering_in, classes_in}
use Rattle.region_formed.proofs.Scopes.{kind_by, inner_look, loop_same}
use Rattle.region_formed.proofs.Types.{held_same, from_first}
use Rattle.region_formed.proofs.Counts.{counted, all_counted}
use Rattle.region_formed.proofs.Statements.{param_reaches, fine_type, object_class_found, behind_reaches}
use Rattle.region_typed.specs.Known.{Here, SettledIn, Stretch}
use Rattle.region_typed.proofs.Scopes.{here_inner, here_same, here_declared, here_param, stretch_front, stretch_back, stretch_start, declares, next_number}
use Rattle.region_typed.proofs.Statements.{value, dropped, returned, thrown_typed, started, assigned, bound, object_built, caught}

-- what a handler catches
caught_held : (place : ℕ) (t : Ty) (n : Option Name) → IsCaught place (Some t) n → IsHeld t
caught_held place Int n i = tt
caught_held place Void n i = i
caught_held place (Object c) n i = tt
caught_held place (IntRef const) n i = tt
caught_held place (ObjectRef const c) n i = tt

-- what is left of a block behind a statement, from a variable on
data Left : Type 0 where
  nothing : Left
  others : Statements → ℕ → Left

module _ (g : Given) (settled : SettledIn g) (own : Option ℕ) (gives : Bool) where
  -- what is said of it
  abbrev Says : Left → List FrameVariable → Type 0
  Says nothing = λ ys. Unit {0}
  Says (others ss n) = λ ys. AreTypedStatements (lowering_in g) own gives ss ys n

  -- which holds wherever the scope is the one behind the statement
  abbrev Rest : Left → Scope → Type 0
  Rest left sc = (ys : List FrameVariable) → Here g own gives ys sc → Says left ys

  -- a handler's parameter counts, named or not
  handler_next : (sc : Scope) (t : Ty) (n : Option Name) → (handler_scope g.env (Some t) n sc).next ≡ sc.next + 1
  handler_next sc t None = refl
  handler_next sc t (Some n) = refl

  mutual
    statement_typed : (s : Statement) → IsStatement s → (sc : Scope) (xs : List FrameVariable) → Here g own gives xs sc → Fine g.defined (statement_found g.env sc s) →
        Stretch g sc.next (declared_in (resolve_statement g.env sc s)) → (rest : Left) → Rest rest (scope_behind g.env sc s) →
        IsTypedStatement (lowering_in g) own gives (resolve_statement g.env sc s) (Says rest) xs sc.next
    statement_typed (block ss) w sc xs h f v rest k = (statements_typed ss w (inner sc) xs (here_inner h) f v, k xs (here_same sc _ refl refl refl h))
    statement_typed empty w sc xs h f v rest k = k xs (here_same sc _ refl refl refl h)
    statement_typed (if_else e s t) w sc xs h f v rest k =
        let first = int_found (judged g.env sc e) in
        let second = statement_found g.env sc s in
        let later = after (locals_in s) sc in
        let parts = fine_parts g.defined (first ++ second) (else_found g.env later t) f in
        let before = fine_parts g.defined first second parts.0 in
        let count = counted g.env sc s in
        let same : later.next ≡ sc.next + length (declared_in (resolve_statement g.env sc s)) = omega (arith, count) in (
          value g settled own gives xs sc h e w.0 before.0,
          statement_typed s w.1 sc xs h before.1 (stretch_front (declared_in (resolve_statement g.env sc s)) _ v) nothing (λ ys q. tt),
          subst (λ n. IsTypedElse (lowering_in g) own gives (resolve_else g.env later t) xs n) same
              (else_typed t w.3 later xs (here_same sc later refl refl refl h) parts.1 (stretch_back later.next (declared_in (resolve_statement g.env sc s)) _ same v)),
          k xs (here_same sc _ refl refl refl h),
        )
    statement_typed (while e s) w sc xs h f v rest k =
        let parts = fine_parts g.defined (int_found (judged g.env sc e)) (statement_found g.env (in_a_loop sc) s) f in
        let same = loop_same g.env sc s in (
          value g settled own gives xs sc h e w.0 parts.0,
          subst (λ y. IsTypedStatement (lowering_in g) own gives y (Says nothing) xs sc.next) same
              (statement_typed s w.1 (in_a_loop sc) xs (here_same sc (in_a_loop sc) refl refl refl h) parts.1
              (subst (λ y. Stretch g sc.next (declared_in y)) (sym same) v) nothing (λ ys q. tt)),
          k xs (here_same sc _ refl refl refl h),
        )
    statement_typed (return place e) w sc xs h f v rest k = returned g settled own gives xs sc h sc.gives_value (sym h.gives) place e w f
    statement_typed (break place) w sc xs h f v rest k = tt
    statement_typed (continue place) w sc xs h f v rest k = tt
    statement_typed (throw place e) w sc xs h f v rest k = thrown_typed g settled own gives xs sc h e w f
    statement_typed (try ss hs) w sc xs h f v rest k =
        let later = after (locals_of ss) sc in
        let parts = fine_parts g.defined (statements_found g.env (inner sc) ss) (handlers_found g.env later false hs) f in
        let mine = all_declared_in (resolve_statements g.env (inner sc) ss) in
        let count = all_counted g.env (inner sc) ss in
        let same : later.next ≡ sc.next + length mine = omega (arith, count) in (
          statements_typed ss w.0 (inner sc) xs (here_inner h) parts.0 (stretch_front mine _ v),
          subst (λ n. AreTypedHandlers (lowering_in g) own gives (resolve_handlers g.env later hs) xs n) same
              (handlers_typed hs w.2 false later xs (here_same sc later refl refl refl h) parts.1 (stretch_back later.next mine _ same v)),
          k xs (here_same sc _ refl refl refl h),
        )
    statement_typed (assign names e) w sc xs h f v rest k =
        let parts = fine_parts g.defined (assigned_found (reached g.env sc names) (first_place names)) (int_found (judged g.env sc e)) f in (
          assigned g settled own gives xs sc h names w.0 parts.0,
          value g settled own gives xs sc h e w.1 parts.1,
          k xs (here_same sc _ refl refl refl h),
        )
    statement_typed (evaluate e) w sc xs h f v rest k = (dropped g settled own gives xs sc h e w.0 w.1 f, k xs (here_same sc _ refl refl refl h))
    statement_typed (local_int n e) w sc xs h f v rest k =
        let reach = behind_reaches g sc (local_int n e) w h.reach f v.from in (
          declares (Some (bind n (Local sc.next))) refl v,
          started g settled own gives xs sc h e w (fine_parts g.defined (start_found g.env sc e) (twice_in n sc.locals) f).0,
          (λ r. k (declared_to (Some (bind n (Local sc.next))) r xs) (here_declared sc n int_kind false r h reach)),
        )
    statement_typed (local_ref p names) w sc xs h f v rest k =
        let reach = behind_reaches g sc (local_ref p names) w h.reach f v.from in (
          declares (bind_some p.name (Local sc.next)) (next_number p.name sc.next) v,
          bound g settled own gives xs sc h p names w.0 w.2 f,
          (λ r. k (declared_to (bind_some p.name (Local sc.next)) r xs) (here_param sc p r h reach)),
        )
    statement_typed (local_object c n es) w sc xs h f v rest k =
        let reach = behind_reaches g sc (local_object c n es) w h.reach f v.from in
        let parts = object_class_found g sc c n es f in (
          declares (Some (bind n (Local sc.next))) refl v,
          object_built g settled own gives xs sc h c n es w parts.0 parts.1,
          (λ r. k (declared_to (Some (bind n (Local sc.next))) r xs) (here_declared sc n (class_of_name g.env sc c) false r h reach)),
        )

    else_typed : (t : Else) → IsElse t → (sc : Scope) (xs : List FrameVariable) → Here g own gives xs sc → Fine g.defined (else_found g.env sc t) →
        Stretch g sc.next (declared_in_else (resolve_else g.env sc t)) → IsTypedElse (lowering_in g) own gives (resolve_else g.env sc t) xs sc.next
    else_typed no_else w sc xs h f v = tt
    else_typed (else_do s) w sc xs h f v = (stretch_start v, statement_typed s w.0 sc xs h f v nothing (λ ys q. tt))

    pub statements_typed : (ss : Statements) → AreStatements ss → (sc : Scope) (xs : List FrameVariable) → Here g own gives xs sc → Fine g.defined (statements_found g.env sc ss) →
        Stretch g sc.next (all_declared_in (resolve_statements g.env sc ss)) → AreTypedStatements (lowering_in g) own gives (resolve_statements g.env sc ss) xs sc.next
    statements_typed no_statements w sc xs h f v = stretch_start v
    statements_typed (statement_then s ss) w sc xs h f v =
        let later = scope_behind g.env sc s in
        let parts = fine_parts g.defined (statement_found g.env sc s) (statements_found g.env later ss) f in
        let mine = declared_in (resolve_statement g.env sc s) in
        let count = counted g.env sc s in
        let next = next_behind g.env sc s in
        let same : later.next ≡ sc.next + length mine = omega (arith, count, next) in (
          stretch_start v,
          statement_typed s w.0 sc xs h parts.0 (stretch_front mine _ v) (others (resolve_statements g.env later ss) (sc.next + length mine))
              (λ ys q. subst (λ n. AreTypedStatements (lowering_in g) own gives (resolve_statements g.env later ss) ys n) same
              (statements_typed ss w.1 later ys q parts.1 (stretch_back later.next mine _ same v))),
        )

    handlers_typed : (hs : Handlers) → AreHandlers hs → (all : Bool) (sc : Scope) (xs : List FrameVariable) → Here g own gives xs sc → Fine g.defined (handlers_found g.env sc all hs) →
        Stretch g sc.next (declared_in_handlers (resolve_handlers g.env sc hs)) → AreTypedHandlers (lowering_in g) own gives (resolve_handlers g.env sc hs) xs sc.next
    handlers_typed no_handlers w all sc xs h f v = tt
    handlers_typed (handler_then None n ss place hs) w all sc xs h f v =
        let inside = handler_scope g.env None n sc in
        let later = after (caught_count None + locals_of ss) sc in
        let parts = fine_parts g.defined (breaks_if all handler_order place ++ caught_found g.env sc None ++ statements_found g.env inside ss)
        (handlers_found g.env later (all || catches_all None) hs) f in
        let body = fine_parts g.defined (breaks_if all handler_order place ++ caught_found g.env sc None) (statements_found g.env inside ss) parts.0 in
        let mine = all_declared_in (resolve_statements g.env inside ss) in
        let count = all_counted g.env inside ss in
        let same : later.next ≡ sc.next + length mine = omega (arith, count) in (
          ap (λ y. bind_some y (Local sc.next)) w.0,
          statements_typed ss w.1 inside xs (here_inner h) body.1 (stretch_front mine _ v),
          subst (λ n. AreTypedHandlers (lowering_in g) own gives (resolve_handlers g.env later hs) xs n) same
              (handlers_typed hs w.2 (all || catches_all None) later xs (here_same sc later refl refl refl h) parts.1 (stretch_back later.next mine _ same v)),
        )
    handlers_typed (handler_then (Some t) n ss place hs) w all sc xs h f v =
        let inside = handler_scope g.env (Some t) n sc in
        let later = after (caught_count (Some t) + locals_of ss) sc in
        let parts = fine_parts g.defined (breaks_if all handler_order place ++ caught_found g.env sc (Some t) ++ statements_found g.env inside ss)
        (handlers_found g.env later (all || catches_all (Some t)) hs) f in
        let body = fine_parts g.defined (breaks_if all handler_order place ++ caught_found g.env sc (Some t)) (statements_found g.env inside ss) parts.0 in
        let found = fine_parts g.defined (breaks_if all handler_order place) (type_found g.env sc t) body.0 in
        let held = caught_held place t n w.0 in
        let typed = fine_type g sc t held found.1 in
        let there = held_same g.env sc t held in
        let ty = resolve_type g.env sc t in
        let mine = all_declared_in (resolve_statements g.env inside ss) in
        let count = all_counted g.env inside ss in
        let one : inside.next ≡ sc.next + 1 = handler_next sc t n in
        let same : later.next ≡ sc.next + 1 + length mine = omega (arith, count) in
        let behind : Stretch g (sc.next + 1) (mine ++ declared_in_handlers (resolve_handlers g.env later hs)) = stretch_back (sc.next + 1) (ty ∷ []) _ refl v in
        let outer = here_inner h in
        let reach = param_reaches g (inner sc) (record { ty = t; name = n }) ty outer.reach (from_first v.from)
        (subst (λ k. Typed (classes_in g) k (object_type ty)) (sym (kind_by g.env (inner sc) sc (inner_look g.env sc) t)) typed) there in (
          declares (bind_some n (Local sc.next)) (next_number n sc.next) v,
          caught g settled own gives xs sc h t held typed,
          (λ r. subst (λ k. AreTypedStatements (lowering_in g) own gives (resolve_statements g.env inside ss) (declared_to (bind_some n (Local sc.next)) r xs) k) one
              (statements_typed ss w.1 inside (declared_to (bind_some n (Local sc.next)) r xs) (here_param (inner sc) (record { ty = t; name = n }) r outer reach) body.1
              (subst (λ k. Stretch g k mine) (sym one) (stretch_front mine _ behind)))),
          subst (λ k. AreTypedHandlers (lowering_in g) own gives (resolve_handlers g.env later hs) xs k) same
              (handlers_typed hs w.2 (all || catches_all (Some t)) later xs (here_same sc later refl refl refl h) parts.1 (stretch_back later.next mine _ same behind)),
        )
