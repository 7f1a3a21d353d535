-- What the statements of a block that break no rule become passes its tests.
use Rattle.std.proofs.Common.{◌≡◌, ◌+◌, ◌||◌, ℕ, Bool, true, false, List, [], ◌∷◌, ◌++◌, length, Option, Some, None, refl, sym, subst, arith}
use Rattle.cxx_ast.specs.declared.name.Name.{Name}
use Rattle.cxx_ast.specs.declared.types.Ty.{Ty}
use Rattle.cxx_ast.specs.declared.types.Ty.TheVariants.{Int, Void, Object, IntRef, ObjectRef}
use Rattle.cxx_ast.specs.Rule.{handler_order}
use Rattle.cxx_ast.specs.Finding.{breaks_if}
use Rattle.cxx_ast.specs.Plain.{Statement, block, empty, if_else, while, return, break, continue, throw, try, assign, evaluate, local_int, local_ref, local_object, Else, no_else, else_do, Statements, no_statements, statement_then, Handlers, no_handlers, handler_then}
use Rattle.cxx_ast.specs.Environment.{Scope}
use Rattle.cxx_ast.specs.TypeNames.{type_kind, type_found}
use Rattle.cxx_ast.specs.Lvalue.{reached}
use Rattle.cxx_ast.specs.Reference.{int_found}
use Rattle.cxx_ast.specs.ExpressionRules.{judged}
use Rattle.cxx_ast.specs.Locals.{inner, in_a_loop, after, handler_scope, caught_count, locals_in, locals_of, scope_behind}
use Rattle.cxx_ast.specs.StatementRules.{twice_in, start_found, caught_found, catches_all, statement_found, else_found, statements_found, handlers_found}
use Rattle.cxx_ast.specs.Resolve.{resolve_type, resolve_path, resolve_expression, resolve_statement, resolve_else, resolve_statements, resolve_handlers}
use Rattle.cxx_ast.specs.Grammatical.{NotEmpty, IsCaught, IsStatement, IsElse, AreStatements, AreHandlers}
use Rattle.cxx_ast.proofs.ScopesBehind.{next_behind}
use Rattle.meaning_forms.specs.Class.{object_type}
use Rattle.region_forms.specs.Form.{Region, in_order}
use Rattle.region_forms.specs.Numbering.{declared_in, declared_in_else, all_declared_in, declared_in_handlers}
use Rattle.region_forms.specs.LowerExpression.{has_call, place_of}
use Rattle.region_forms.specs.LowerStatement.{variable_slot, with_caught, nothing_more, statement, otherwise, statements, clauses}
use Rattle.region_forms.specs.WellFormed.{address_place}
use Rattle.region_formed.proofs.Fine.{Fine, fine_parts}
use Rattle.region_formed.proofs.Meant.{Typed, IsHeld, Given, lowering_in, slots_in, regions_in, classes_in, Reach}
use Rattle.region_formed.proofs.Paths.{path_meant}
use Rattle.region_formed.proofs.Scopes.{kind_by, inner_look, loop_same}
use Rattle.region_formed.proofs.Types.{held_same, From, from_front, from_back, from_first}
use Rattle.region_formed.proofs.Counts.{counted, all_counted}
use Rattle.region_formed.proofs.Passing.{Pass, then_pass, one_then, none_pass, one_pass, with_last, in_order_passes}
use Rattle.region_formed.proofs.Throws.{type_there, typed_before, throw_passes}
use Rattle.region_formed.proofs.Statements.{Rest, ClausesPass, clause_passes, catch_passes, branch_of, left_passes, looping_passes, parameter_passes, caught_passes, handler_passes, param_reaches, reach_same, fine_type, ref_type_found, object_class_found, behind_reaches, value, returned, started, reference_bound, dropped_passes, assigned, object_passes}

-- a reference to an lvalue
reference_passes : (g : Given) (sc : Scope) → Reach g sc → (names : List Name) → NotEmpty names → Fine g.defined (reached g.env sc names).found →
    address_place (regions_in g) (slots_in g) (place_of (lowering_in g) (resolve_path g.env sc names)) ≡ true
reference_passes g sc r [] some f = absurd some
reference_passes g sc r (n ∷ names) some f = (path_meant g sc r n names f).address

-- what a handler catches
caught_held : (place : ℕ) (t : Ty) (n : Option Name) → IsCaught place (Some t) n → IsHeld t
caught_held place Int n i = tt
caught_held place Void n i = i
caught_held place (Object c) n i = tt
caught_held place (IntRef const) n i = tt
caught_held place (ObjectRef const c) n i = tt

module _ (g : Given) where
  -- a handler's parameter counts, named or not
  handler_next : (sc : Scope) (t : Ty) (n : Option Name) → (handler_scope g.env (Some t) n sc).next ≡ sc.next + 1
  handler_next sc t None = refl
  handler_next sc t (Some n) = refl

  inner_reaches : (sc : Scope) → Reach g sc → Reach g (inner sc)
  inner_reaches sc r = record { locals = (tt, r.locals); own = r.own }

  nothing_passes : Rest g nothing_more
  nothing_passes d = none_pass

  mutual
    pub statement_passes : (s : Statement) → IsStatement s → (sc : Scope) → Reach g sc → Fine g.defined (statement_found g.env sc s) →
        From g sc.next (declared_in (resolve_statement g.env sc s)) → (rest : ℕ → List Region) → Rest g rest → (i d : ℕ) →
        Pass g (statement (lowering_in g) (resolve_statement g.env sc s) rest i sc.next d)
    statement_passes (block ss) w sc r f v rest h i d =
        one_then (in_order_passes (statements_pass ss w (inner sc) (inner_reaches sc r) f v i (d + 1))) (h d)
    statement_passes empty w sc r f v rest h i d = h d
    statement_passes (if_else e s t) w sc r f v rest h i d =
        let first = int_found (judged g.env sc e) in
        let second = statement_found g.env sc s in
        let later = after (locals_in s) sc in
        let parts = fine_parts g.defined (first ++ second) (else_found g.env later t) f in
        let before = fine_parts g.defined first second parts.0 in
        let count = counted g.env sc s in
        let same : later.next ≡ sc.next + length (declared_in (resolve_statement g.env sc s)) = omega (arith, count) in
        let x = value g sc r e w.0 before.0 in
        then_pass (with_last x.before (branch_of x.value
        (in_order_passes (statement_passes s w.1 sc r before.1 (from_front (declared_in (resolve_statement g.env sc s)) _ v) nothing_more nothing_passes i (d + 2)))
        (in_order_passes (subst (λ n. Pass g (otherwise (lowering_in g) (resolve_else g.env later t) i n (d + 2))) same
        (else_passes t w.3 later (reach_same g sc later refl refl r) parts.1 (from_back later.next (declared_in (resolve_statement g.env sc s)) _ same v) i (d + 2)))))) (h d)
    statement_passes (while e s) w sc r f v rest h i d =
        let parts = fine_parts g.defined (int_found (judged g.env sc e)) (statement_found g.env (in_a_loop sc) s) f in
        let x = value g sc r e w.0 parts.0 in
        let same = loop_same g.env sc s in
        let body = λ (b : ℕ). statement_passes s w.1 (in_a_loop sc) (reach_same g sc (in_a_loop sc) refl refl r) parts.1
        (subst (λ y. From g sc.next (declared_in y)) (sym same) v) nothing_more nothing_passes (d + 1) b in
        one_then (looping_passes (has_call (resolve_expression g.env sc e))
        (λ b. in_order (statement (lowering_in g) (resolve_statement g.env sc s) nothing_more (d + 1) sc.next b)) d x
        (λ b. in_order_passes (subst (λ y. Pass g (statement (lowering_in g) y nothing_more (d + 1) sc.next b)) same (body b)))) (h d)
    statement_passes (return place e) w sc r f v rest h i d = returned g sc r sc.gives_value place e w f d
    statement_passes (break place) w sc r f v rest h i d = one_pass (left_passes g _)
    statement_passes (continue place) w sc r f v rest h i d = one_pass (left_passes g _)
    statement_passes (throw place e) w sc r f v rest h i d = throw_passes g sc r e w f
    statement_passes (try ss hs) w sc r f v rest h i d =
        let later = after (locals_of ss) sc in
        let parts = fine_parts g.defined (statements_found g.env (inner sc) ss) (handlers_found g.env later false hs) f in
        let own = all_declared_in (resolve_statements g.env (inner sc) ss) in
        let count = all_counted g.env (inner sc) ss in
        let same : later.next ≡ sc.next + length own = omega (arith, count) in
        one_then (catch_passes (statements_pass ss w.0 (inner sc) (inner_reaches sc r) parts.0 (from_front own _ v) i (d + 2))
        (subst (λ n. ClausesPass g (clauses (lowering_in g) (resolve_handlers g.env later hs) i n (d + 2))) same
        (handlers_pass hs w.2 false later (reach_same g sc later refl refl r) parts.1 (from_back later.next own _ same v) i (d + 2)))) (h d)
    statement_passes (assign names e) w sc r f v rest h i d = then_pass (assigned g sc r names e w.0 w.1 f) (h d)
    statement_passes (evaluate e) w sc r f v rest h i d = then_pass (dropped_passes g sc r e w.0 w.1 f) (h d)
    statement_passes (local_int n e) w sc r f v rest h i d =
        then_pass (started g sc r n e w (fine_parts g.defined (start_found g.env sc e) (twice_in n sc.locals) f).0 (from_first v)) (h d)
    statement_passes (local_ref p names) w sc r f v rest h i d =
        then_pass (reference_bound g sc p.ty w.0 (from_first v) p.name (place_of (lowering_in g) (resolve_path g.env sc names))
        (reference_passes g sc r names w.2 (ref_type_found g sc p names f).1)) (h d)
    statement_passes (local_object c n es) w sc r f v rest h i d =
        let parts = object_class_found g sc c n es f in object_passes g sc r c n es w parts.0 parts.1 (from_first v) rest h d

    else_passes : (t : Else) → IsElse t → (sc : Scope) → Reach g sc → Fine g.defined (else_found g.env sc t) →
        From g sc.next (declared_in_else (resolve_else g.env sc t)) → (i d : ℕ) → Pass g (otherwise (lowering_in g) (resolve_else g.env sc t) i sc.next d)
    else_passes no_else w sc r f v i d = none_pass
    else_passes (else_do s) w sc r f v i d = statement_passes s w.0 sc r f v nothing_more nothing_passes i d

    pub statements_pass : (ss : Statements) → AreStatements ss → (sc : Scope) → Reach g sc → Fine g.defined (statements_found g.env sc ss) →
        From g sc.next (all_declared_in (resolve_statements g.env sc ss)) → (i d : ℕ) →
        Pass g (statements (lowering_in g) (resolve_statements g.env sc ss) i sc.next d)
    statements_pass no_statements w sc r f v i d = none_pass
    statements_pass (statement_then s ss) w sc r f v i d =
        let later = scope_behind g.env sc s in
        let parts = fine_parts g.defined (statement_found g.env sc s) (statements_found g.env later ss) f in
        let own = declared_in (resolve_statement g.env sc s) in
        let count = counted g.env sc s in
        let next = next_behind g.env sc s in
        let same : later.next ≡ sc.next + length own = omega (arith, count, next) in
        let mine = from_front own _ v in
        let reach = behind_reaches g sc s w.0 r parts.0 mine in
        statement_passes s w.0 sc r parts.0 mine (λ b. statements (lowering_in g) (resolve_statements g.env later ss) i (sc.next + length own) b)
        (λ b. subst (λ n. Pass g (statements (lowering_in g) (resolve_statements g.env later ss) i n b)) same
        (statements_pass ss w.1 later reach parts.1 (from_back later.next own _ same v) i b)) i d

    handlers_pass : (hs : Handlers) → AreHandlers hs → (all : Bool) (sc : Scope) → Reach g sc → Fine g.defined (handlers_found g.env sc all hs) →
        From g sc.next (declared_in_handlers (resolve_handlers g.env sc hs)) → (i d : ℕ) →
        ClausesPass g (clauses (lowering_in g) (resolve_handlers g.env sc hs) i sc.next d)
    handlers_pass no_handlers w all sc r f v i d = record { holds = λ few. refl }
    handlers_pass (handler_then None n ss place hs) w all sc r f v i d =
        let inside = handler_scope g.env None n sc in
        let later = after (caught_count None + locals_of ss) sc in
        let parts = fine_parts g.defined (breaks_if all handler_order place ++ caught_found g.env sc None ++ statements_found g.env inside ss)
        (handlers_found g.env later (all || catches_all None) hs) f in
        let body = fine_parts g.defined (breaks_if all handler_order place ++ caught_found g.env sc None) (statements_found g.env inside ss) parts.0 in
        let own = all_declared_in (resolve_statements g.env inside ss) in
        let count = all_counted g.env inside ss in
        let same : later.next ≡ sc.next + length own = omega (arith, count) in
        clause_passes None refl
        (handler_passes g (λ b. statements (lowering_in g) (resolve_statements g.env inside ss) i sc.next b) d none_pass
        (λ b. statements_pass ss w.1 inside (inner_reaches sc r) body.1 (from_front own _ v) i b))
        (subst (λ n. ClausesPass g (clauses (lowering_in g) (resolve_handlers g.env later hs) i n d)) same
        (handlers_pass hs w.2 (all || catches_all None) later (reach_same g sc later refl refl r) parts.1 (from_back later.next own _ same v) i d))
    handlers_pass (handler_then (Some t) n ss place hs) w all sc r f v i d =
        let inside = handler_scope g.env (Some t) n sc in
        let later = after (caught_count (Some t) + locals_of ss) sc in
        let parts = fine_parts g.defined (breaks_if all handler_order place ++ caught_found g.env sc (Some t) ++ statements_found g.env inside ss)
        (handlers_found g.env later (all || catches_all (Some t)) hs) f in
        let body = fine_parts g.defined (breaks_if all handler_order place ++ caught_found g.env sc (Some t)) (statements_found g.env inside ss) parts.0 in
        let caught = fine_parts g.defined (breaks_if all handler_order place) (type_found g.env sc t) body.0 in
        let held = caught_held place t n w.0 in
        let typed = fine_type g sc t held caught.1 in
        let there = held_same g.env sc t held in
        let ty = resolve_type g.env sc t in
        let own = all_declared_in (resolve_statements g.env inside ss) in
        let count = all_counted g.env inside ss in
        let one : inside.next ≡ sc.next + 1 = handler_next sc t n in
        let same : later.next ≡ sc.next + 1 + length own = omega (arith, count) in
        let behind : From g (sc.next + 1) (own ++ declared_in_handlers (resolve_handlers g.env later hs)) = from_back (sc.next + 1) (ty ∷ []) _ refl v in
        let reach = param_reaches g (inner sc) (record { ty = t; name = n }) ty (inner_reaches sc r) (from_first v)
        (subst (λ k. Typed (classes_in g) k (object_type ty)) (sym (kind_by g.env (inner sc) sc (inner_look g.env sc) t)) typed) there in
        let inner_body = λ (b : ℕ). subst (λ k. Pass g (statements (lowering_in g) (resolve_statements g.env inside ss) i k b)) one
        (statements_pass ss w.1 inside reach body.1 (subst (λ k. From g k own) (sym one) (from_front own _ behind)) i b) in
        clause_passes (Some _) (type_there g.program (object_type ty) (typed_before g sc r (type_kind g.env sc t) (object_type ty) typed))
        (handler_passes g (λ b. with_caught (lowering_in g) ty (variable_slot (lowering_in g) sc.next)
        (λ c. statements (lowering_in g) (resolve_statements g.env inside ss) i (sc.next + 1) c) b) d
        (parameter_passes g ty (type_kind g.env sc t) sc.next (from_first v) typed there)
        (caught_passes g ty (type_kind g.env sc t) sc.next (λ c. statements (lowering_in g) (resolve_statements g.env inside ss) i (sc.next + 1) c)
        (from_first v) typed there inner_body))
        (subst (λ k. ClausesPass g (clauses (lowering_in g) (resolve_handlers g.env later hs) i k d)) same
        (handlers_pass hs w.2 (all || catches_all (Some t)) later (reach_same g sc later refl refl r) parts.1 (from_back later.next own _ same behind) i d))
