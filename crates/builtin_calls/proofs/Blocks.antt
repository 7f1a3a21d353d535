-- So it is in the statements of a block that break no rule.
use Rattle.std.proofs.Common.{◌≡◌, ◌+◌, ◌||◌, ℕ, Bool, true, false, [], ◌∷◌, ◌++◌, length, Option, Some, None, refl, sym, subst, arith}
use Rattle.cxx_ast.specs.declared.name.Name.{Name}
use Rattle.cxx_ast.specs.declared.types.Ty.{Ty}
use Rattle.cxx_ast.specs.declared.types.Ty.TheVariants.{Int, Void, Object, IntRef, ObjectRef}
use Rattle.cxx_ast.specs.Rule.{handler_order}
use Rattle.cxx_ast.specs.Finding.{breaks_if}
use Rattle.cxx_ast.specs.Plain.{Expression, Expressions, Statement, block, empty, if_else, while, return, break, continue, throw, try, assign, evaluate, local_int, local_ref, local_object, Else, no_else, else_do, Statements, no_statements, statement_then, Handlers, no_handlers, handler_then}
use Rattle.cxx_ast.specs.Environment.{Scope}
use Rattle.cxx_ast.specs.TypeNames.{type_found}
use Rattle.cxx_ast.specs.Lvalue.{reached, first_place}
use Rattle.cxx_ast.specs.Reference.{int_found}
use Rattle.cxx_ast.specs.ExpressionRules.{judged, all_judged}
use Rattle.cxx_ast.specs.Locals.{inner, in_a_loop, after, handler_scope, caught_count, locals_in, locals_of, scope_behind}
use Rattle.cxx_ast.specs.StatementRules.{twice_in, start_found, return_found, throw_found, assigned_found, object_found, caught_found, catches_all, statement_found, else_found, statements_found, handlers_found}
use Rattle.cxx_ast.specs.Resolve.{resolve_type, resolve_expressions, resolve_value, resolve_statement, resolve_else, resolve_statements, resolve_handlers}
use Rattle.cxx_ast.specs.Grammatical.{Where, IsExpression, AreExpressions, IsCaught, IsStatement, IsElse, AreStatements, AreHandlers}
use Rattle.cxx_ast.proofs.ScopesBehind.{next_behind}
use Rattle.meaning_forms.specs.Class.{object_type}
use Rattle.region_forms.specs.Numbering.{declared_in, declared_in_else, all_declared_in, declared_in_handlers}
use Rattle.region_formed.proofs.Fine.{Fine, fine_parts, fine_sound}
use Rattle.region_formed.proofs.Meant.{Typed, IsHeld, Given, classes_in, Reach}
use Rattle.region_formed.proofs.Scopes.{kind_by, inner_look, loop_same}
use Rattle.region_formed.proofs.Types.{held_same, class_stands, From, from_front, from_back, from_first}
use Rattle.region_formed.proofs.Counts.{counted, all_counted}
use Rattle.region_formed.proofs.Statements.{param_reaches, reach_same, fine_type, object_class_found, behind_reaches}
use Rattle.builtin_calls.proofs.Trees.{AllFit, WhereValued, StatementFits, ElseFits, StatementsFit, HandlersFit}
use Rattle.builtin_calls.proofs.Rules.{construction_fine}
use Rattle.builtin_calls.proofs.Expressions.{fits, all_fit, valued, thrown}

-- what a handler catches
caught_held : (place : ℕ) (t : Ty) (n : Option Name) → IsCaught place (Some t) n → IsHeld t
caught_held place Int n i = tt
caught_held place Void n i = i
caught_held place (Object c) n i = tt
caught_held place (IntRef const) n i = tt
caught_held place (ObjectRef const c) n i = tt

module _ (g : Given) where
  handler_next : (sc : Scope) (t : Ty) (n : Option Name) → (handler_scope g.env (Some t) n sc).next ≡ sc.next + 1
  handler_next sc t None = refl
  handler_next sc t (Some n) = refl

  inner_reaches : (sc : Scope) → Reach g sc → Reach g (inner sc)
  inner_reaches sc r = record { locals = (tt, r.locals); own = r.own }

  returned : (sc : Scope) → Reach g sc → (b : Bool) (place : ℕ) (e : Option Expression) → Where IsExpression e → Fine g.defined (return_found g.env sc b place e) →
      WhereValued (resolve_value g.env sc e)
  returned sc r b place None i f = tt
  returned sc r true place (Some e) i f = valued g sc r e i f
  returned sc r false place (Some e) i f = absurd f

  started : (sc : Scope) → Reach g sc → (e : Option Expression) → Where IsExpression e → Fine g.defined (start_found g.env sc e) → WhereValued (resolve_value g.env sc e)
  started sc r None i f = tt
  started sc r (Some e) i f = valued g sc r e i f

  thrown_fits : (sc : Scope) → Reach g sc → (e : Option Expression) → Where IsExpression e → Fine g.defined (throw_found g.env sc e) → WhereValued (resolve_value g.env sc e)
  thrown_fits sc r None i f = tt
  thrown_fits sc r (Some e) i f = thrown g sc r e i f

  -- a local object, whose class is known
  object_fits : (sc : Scope) → Reach g sc → (c x : Name) (es : Expressions) → AreExpressions es → Fine g.defined (statement_found g.env sc (local_object c x es)) →
      AllFit (resolve_expressions g.env sc es)
  object_fits sc r c x es i f =
      let parts = object_class_found g sc c x es f in
      let s = class_stands g.program g.special g.env sc c g.meant.some g.meant.names (fine_sound g.defined _ parts.0) in
      let made = subst (λ kind. Fine g.defined (object_found g.env kind c.place x.place (all_judged g.env sc es))) s.kind_is parts.1 in
      all_fit g sc r es i (construction_fine g sc s.number es c.place x.place made)

  mutual
    pub statement_fits : (s : Statement) → IsStatement s → (sc : Scope) → Reach g sc → Fine g.defined (statement_found g.env sc s) →
        From g sc.next (declared_in (resolve_statement g.env sc s)) → StatementFits (resolve_statement g.env sc s)
    statement_fits (block ss) w sc r f v = statements_fit ss w (inner sc) (inner_reaches sc r) f v
    statement_fits empty w sc r f v = tt
    statement_fits (if_else e s t) w sc r f v =
        let first = int_found (judged g.env sc e) in
        let second = statement_found g.env sc s in
        let later = after (locals_in s) sc in
        let parts = fine_parts g.defined (first ++ second) (else_found g.env later t) f in
        let before = fine_parts g.defined first second parts.0 in
        let count = counted g.env sc s in
        let same : later.next ≡ sc.next + length (declared_in (resolve_statement g.env sc s)) = omega (arith, count) in (
          valued g sc r e w.0 before.0,
          statement_fits s w.1 sc r before.1 (from_front (declared_in (resolve_statement g.env sc s)) _ v),
          else_fits t w.3 later (reach_same g sc later refl refl r) parts.1 (from_back later.next (declared_in (resolve_statement g.env sc s)) _ same v),
        )
    statement_fits (while e s) w sc r f v =
        let parts = fine_parts g.defined (int_found (judged g.env sc e)) (statement_found g.env (in_a_loop sc) s) f in
        let same = loop_same g.env sc s in (
          valued g sc r e w.0 parts.0,
          subst StatementFits same (statement_fits s w.1 (in_a_loop sc) (reach_same g sc (in_a_loop sc) refl refl r) parts.1
              (subst (λ y. From g sc.next (declared_in y)) (sym same) v)),
        )
    statement_fits (return place e) w sc r f v = returned sc r sc.gives_value place e w f
    statement_fits (break place) w sc r f v = tt
    statement_fits (continue place) w sc r f v = tt
    statement_fits (throw place e) w sc r f v = thrown_fits sc r e w f
    statement_fits (try ss hs) w sc r f v =
        let later = after (locals_of ss) sc in
        let parts = fine_parts g.defined (statements_found g.env (inner sc) ss) (handlers_found g.env later false hs) f in
        let own = all_declared_in (resolve_statements g.env (inner sc) ss) in
        let count = all_counted g.env (inner sc) ss in
        let same : later.next ≡ sc.next + length own = omega (arith, count) in (
          statements_fit ss w.0 (inner sc) (inner_reaches sc r) parts.0 (from_front own _ v),
          handlers_fit hs w.2 false later (reach_same g sc later refl refl r) parts.1 (from_back later.next own _ same v),
        )
    statement_fits (assign names e) w sc r f v =
        valued g sc r e w.1 (fine_parts g.defined (assigned_found (reached g.env sc names) (first_place names)) (int_found (judged g.env sc e)) f).1
    statement_fits (evaluate e) w sc r f v = fits g sc r e w.0 f
    statement_fits (local_int n e) w sc r f v = started sc r e w (fine_parts g.defined (start_found g.env sc e) (twice_in n sc.locals) f).0
    statement_fits (local_ref p names) w sc r f v = tt
    statement_fits (local_object c n es) w sc r f v = object_fits sc r c n es w f

    else_fits : (t : Else) → IsElse t → (sc : Scope) → Reach g sc → Fine g.defined (else_found g.env sc t) →
        From g sc.next (declared_in_else (resolve_else g.env sc t)) → ElseFits (resolve_else g.env sc t)
    else_fits no_else w sc r f v = tt
    else_fits (else_do s) w sc r f v = statement_fits s w.0 sc r f v

    pub statements_fit : (ss : Statements) → AreStatements ss → (sc : Scope) → Reach g sc → Fine g.defined (statements_found g.env sc ss) →
        From g sc.next (all_declared_in (resolve_statements g.env sc ss)) → StatementsFit (resolve_statements g.env sc ss)
    statements_fit no_statements w sc r f v = tt
    statements_fit (statement_then s ss) w sc r f v =
        let later = scope_behind g.env sc s in
        let parts = fine_parts g.defined (statement_found g.env sc s) (statements_found g.env later ss) f in
        let own = declared_in (resolve_statement g.env sc s) in
        let count = counted g.env sc s in
        let next = next_behind g.env sc s in
        let same : later.next ≡ sc.next + length own = omega (arith, count, next) in
        let mine = from_front own _ v in
        (statement_fits s w.0 sc r parts.0 mine, statements_fit ss w.1 later (behind_reaches g sc s w.0 r parts.0 mine) parts.1 (from_back later.next own _ same v))

    handlers_fit : (hs : Handlers) → AreHandlers hs → (all : Bool) (sc : Scope) → Reach g sc → Fine g.defined (handlers_found g.env sc all hs) →
        From g sc.next (declared_in_handlers (resolve_handlers g.env sc hs)) → HandlersFit (resolve_handlers g.env sc hs)
    handlers_fit no_handlers w all sc r f v = tt
    handlers_fit (handler_then None n ss place hs) w all sc r f v =
        let inside = handler_scope g.env None n sc in
        let later = after (caught_count None + locals_of ss) sc in
        let parts = fine_parts g.defined (breaks_if all handler_order place ++ caught_found g.env sc None ++ statements_found g.env inside ss)
        (handlers_found g.env later (all || catches_all None) hs) f in
        let body = fine_parts g.defined (breaks_if all handler_order place ++ caught_found g.env sc None) (statements_found g.env inside ss) parts.0 in
        let own = all_declared_in (resolve_statements g.env inside ss) in
        let count = all_counted g.env inside ss in
        let same : later.next ≡ sc.next + length own = omega (arith, count) in (
          statements_fit ss w.1 inside (inner_reaches sc r) body.1 (from_front own _ v),
          handlers_fit hs w.2 (all || catches_all None) later (reach_same g sc later refl refl r) parts.1 (from_back later.next own _ same v),
        )
    handlers_fit (handler_then (Some t) n ss place hs) w all sc r f v =
        let inside = handler_scope g.env (Some t) n sc in
        let later = after (caught_count (Some t) + locals_of ss) sc in
        let parts = fine_parts g.defined (breaks_if all handler_order place ++ caught_found g.env sc (Some t) ++ statements_found g.env inside ss)
        (handlers_found g.env later (all || catches_all (Some t)) hs) f in
        let body = fine_parts g.defined (breaks_if all handler_order place ++ caught_found g.env sc (Some t)) (statements_found g.env inside ss) parts.0 in
        let caught = fine_parts g.defined (breaks_if all handler_order place) (type_found g.env sc t) body.0 in
        let held = caught_held place t n w.0 in
        let typed = fine_type g sc t held caught.1 in
        let there = held_same g.env sc t held in
        let ty = resolve_type g.env sc t in
        let own = all_declared_in (resolve_statements g.env inside ss) in
        let count = all_counted g.env inside ss in
        let one : inside.next ≡ sc.next + 1 = handler_next sc t n in
        let same : later.next ≡ sc.next + 1 + length own = omega (arith, count) in
        let behind : From g (sc.next + 1) (own ++ declared_in_handlers (resolve_handlers g.env later hs)) = from_back (sc.next + 1) (ty ∷ []) _ refl v in
        let reach = param_reaches g (inner sc) (record { ty = t; name = n }) ty (inner_reaches sc r) (from_first v)
        (subst (λ k. Typed (classes_in g) k (object_type ty)) (sym (kind_by g.env (inner sc) sc (inner_look g.env sc) t)) typed) there in (
          statements_fit ss w.1 inside reach body.1 (subst (λ k. From g k own) (sym one) (from_front own _ behind)),
          handlers_fit hs w.2 (all || catches_all (Some t)) later (reach_same g sc later refl refl r) parts.1 (from_back later.next own _ same behind),
        )
