-- What statements become: for each token at most 128 words. A handler with nothing in it takes most of them.
use Rattle.std.proofs.Common.{◌≡◌, ℕ, ◌+◌, ◌*◌, ◌≤◌, Bool, true, false, List, [], ◌∷◌, ◌++◌, length, Option, Some, None, inl, inr, arith}
use Rattle.std.specs.Prelude.{pos}
use Rattle.cxx_ast.specs.declared.name.Bound.{Bound}
use Rattle.cxx_ast.specs.declared.name.Bound.TheVariants.{Class, Builtin as BuiltinBound}
use Rattle.cxx_ast.specs.declared.name.Builtin.TheVariants.{BadException}
use Rattle.cxx_ast.specs.declared.name.Name.{Name}
use Rattle.cxx_ast.specs.declared.types.Ty.{Ty}
use Rattle.cxx_ast.specs.declared.types.Ty.TheVariants.{Int, Object}
use Rattle.cxx_ast.specs.Plain.{Expression, call, std_call, Expressions, Statement, block, empty, if_else, while, return, break, continue, throw, try, assign, evaluate, local_int, local_ref, local_object, Else, no_else, else_do, Statements, no_statements, statement_then, Handlers, no_handlers, handler_then}
use Rattle.meaning_forms.specs.Class.{ObjectType, int_type, class_type, class_named}
use Rattle.meaning_forms.specs.Running.{destructor}
use Rattle.meaning_forms.specs.Frame.{local_number}
use Rattle.meaning_forms.specs.Expression.{lvalue_of, callee_bound}
use Rattle.region_forms.specs.Form.{Place, number, store, bind, make, throw as throw_op, rethrow, enter, destroy_scope, free_object, leave_handler, Region, op, branch, leave_region, in_order}
use Rattle.region_forms.specs.Numbering.{number_of, type_number, destructor_of, declared_in, all_declared_in}
use Rattle.region_forms.specs.LowerExpression.{Lowering, result_slot, exception_slot, first_temporary, slot_place, place_of, lvalue_type, has_call, Lowered, lower, dropped, lower_store, lower_construct}
use Rattle.region_forms.specs.LowerStatement.{variable_slot, copied, thrown_place, thrown_as, int_thrown, object_thrown, call_thrown, part_thrown, lvalue_thrown, operand_thrown, throwing, returning, initialised, bound_to, looping, scoped, caught_parameter, with_caught, handler, clause_type, nothing_more, statement, otherwise, statements, clauses}
use Rattle.source_bounds.specs.LeastTokens.{tokens_in, tokens_in_all, tokens_in_value, statement_tokens, else_tokens, statements_tokens, handlers_tokens}
use Rattle.source_bounds.specs.NamedTypes.{NamesRows, ElseNamesRows, AllNameRows, HandlersNameRows}
use Rattle.source_bounds.proofs.Budget.{Fine, Whole, FineClauses, no_more, within, whole_within, clauses_within, behind, with_last, in_front, alone, one_op, ordered, tested, looped, protected, guarded, no_clause, one_clause, barred_op, one_exit, out_of_all, out_of_loop, to_next_turn}
use Rattle.source_bounds.proofs.Expressions.{Costs, lowered, dropped_fine, valued as first_valued, store_fine, built_fine}

module _ (rows : ℕ) (l : Lowering) where
  -- what the rest of a block becomes
  abbrev pub Rest : (i m : ℕ) → (ℕ → List Region) → Type 0
  Rest i m rest = (d : ℕ) → Fine rows i d m (rest d)

  abbrev at_first : Expression → Lowered
  at_first e = lower l e (first_temporary l)

  module _ (i : ℕ) where
    computed : (e : Expression) (d : ℕ) → Costs rows i d (32 * tokens_in e) (at_first e)
    computed e d = lowered rows i l e d (first_temporary l)

    pub valued : (e : Expression) (p : Place) (d : ℕ) → Fine rows i d (32 * tokens_in e) ((at_first e).before ++ op (store p (at_first e).value) ∷ [])
    valued e p d = first_valued rows i l e p d (first_temporary l) (computed e d)

    stored : (e : Expression) (p : Place) (d : ℕ) → Fine rows i d (32 * tokens_in e) (lower_store l e p (first_temporary l))
    stored e p d = store_fine rows i l e p d (first_temporary l)

    -- what is thrown
    thrown : (t : ObjectType) (build : List Region) (m d : ℕ) → Rest i m (λ e. build) → Fine rows i d (m + 19) (thrown_as l t build)
    thrown t build m d h =
        within (m + 19)
        (in_front (one_op rows i d (make (exception_slot l)))
        (in_front (protected d (d + 1) (in_order build) (free_object (exception_slot l)) (omega arith) (ordered (d + 1) (d + 2) build (omega arith) (h (d + 2))))
        (alone (one_op rows i d (throw_op (exception_slot l) (type_number t) (destructor_of l.program t)))))) (omega arith)

    int_cost : (e : Expression) (d : ℕ) → Fine rows i d (32 * tokens_in e + 19) (int_thrown l e)
    int_cost e d = thrown int_type ((at_first e).before ++ op (store (thrown_place l) (at_first e).value) ∷ []) (32 * tokens_in e) d (λ b. valued e (thrown_place l) b)

    object_cost : (c : ℕ) (es : Expressions) (d : ℕ) → Fine rows i d (32 * tokens_in_all es + 24) (object_thrown l c es)
    object_cost c es d =
        within (32 * tokens_in_all es + 24)
        (thrown (class_type c) (lower_construct l c es (thrown_place l) (first_temporary l)) (32 * tokens_in_all es + 5) d (λ b. built_fine rows i l c es (thrown_place l) b (first_temporary l))) (omega arith)

    copied_cost : (k d : ℕ) (target source : Place) → Whole rows i d 8 (copied l k target source)
    copied_cost k d target source = barred_op rows i d _

    call_cost : (b : Bound) (e : Expression) (es : Expressions) (d : ℕ) → tokens_in_all es ≤ tokens_in e → Fine rows i d (32 * tokens_in e + 32) (call_thrown l b e es)
    call_cost (Class c) e es d h = within (32 * tokens_in e + 32) (object_cost c es d) (omega (arith, h))
    call_cost (BuiltinBound BadException) e es d h = within (32 * tokens_in e + 32) (object_cost 0 es d) (omega (arith, h))
    call_cost b e es d h = within (32 * tokens_in e + 32) (int_cost e d) (omega arith)

    part_cost : (e : Expression) (names : List Name) (t : ObjectType) (d : ℕ) → Fine rows i d (32 * tokens_in e + 32) (part_thrown l e names t)
    part_cost e names int_type d = within (32 * tokens_in e + 32) (int_cost e d) (omega arith)
    part_cost e names (class_type c) d =
        within (32 * tokens_in e + 32) (thrown (class_type c) (copied l c (thrown_place l) (place_of l names) ∷ []) 8 d (λ b. alone (copied_cost c b (thrown_place l) (place_of l names)))) (omega arith)

    lvalue_cost : (e : Expression) (names : Option (List Name)) (d : ℕ) → Fine rows i d (32 * tokens_in e + 32) (lvalue_thrown l e names)
    lvalue_cost e None d = within (32 * tokens_in e + 32) (int_cost e d) (omega arith)
    lvalue_cost e (Some names) d = part_cost e names (lvalue_type l names) d

    operand_cost : (e : Expression) (d : ℕ) → Fine rows i d (32 * tokens_in e + 32) (operand_thrown l e)
    operand_cost (call names es) d = call_cost (callee_bound names) (call names es) es d (omega arith)
    operand_cost (std_call n es place) d = call_cost n.bound (std_call n es place) es d (omega arith)
    operand_cost e d = lvalue_cost e (lvalue_of e) d

    throwing_cost : (e : Option Expression) (d : ℕ) → Fine rows i d (32 * tokens_in_value e + 32) (throwing l e)
    throwing_cost None d = within 32 (alone (one_op rows i d rethrow)) (omega arith)
    throwing_cost (Some e) d = operand_cost e d

    -- statements without statements in them
    returning_cost : (e : Option Expression) (d : ℕ) → Fine rows i d (32 * tokens_in_value e + 5) (returning l e d)
    returning_cost None d = within 5 (alone (out_of_all rows i d)) (omega arith)
    returning_cost (Some e) d =
        with_last (lower_store l e (slot_place (result_slot l)) (first_temporary l)) (leave_region d) (stored e (slot_place (result_slot l)) d) (out_of_all rows i d)

    initialised_cost : (x : Name) (e : Option Expression) (d : ℕ) → Fine rows i d (32 * tokens_in_value e) (initialised l x e)
    initialised_cost x None d = no_more rows i d 0
    initialised_cost x (Some e) d = stored e (slot_place (variable_slot l (local_number x.bound))) d

    bound_cost : (x : Option Name) (p : Place) (d : ℕ) → Fine rows i d 3 (bound_to l x p)
    bound_cost None p d = no_more rows i d 3
    bound_cost (Some n) p d = alone (one_op rows i d (bind (variable_slot l (local_number n.bound)) p))

    pub scoped_cost : (t : ObjectType) (p : Place) (rest : ℕ → List Region) (m d : ℕ) → Rest i m rest → Fine rows i d (m + 47) (scoped l t p rest d)
    scoped_cost int_type p rest m d h = within (m + 47) (h d) (omega arith)
    scoped_cost (class_type c) p rest m d h =
        within (m + 47) (alone (protected d (d + 1) (in_order (rest (d + 2))) (destroy_scope p (number_of l.program (destructor c))) (omega arith)
        (ordered (d + 1) (d + 2) (rest (d + 2)) (omega arith) (h (d + 2))))) (omega arith)

    -- a handler
    parameter_cost : (t : Ty) (s d : ℕ) → Fine rows i d 8 (caught_parameter l t s)
    parameter_cost Int s d = within 8 (alone (one_op rows i d _)) (omega arith)
    parameter_cost (Object k) s d = alone (copied_cost (class_named k) d (slot_place s) (thrown_place l))
    parameter_cost t s d = within 8 (alone (one_op rows i d (bind s (thrown_place l)))) (omega arith)

    caught_cost : (t : Ty) (s : ℕ) (body : ℕ → List Region) (m : ℕ) → Rest i m body → Rest i (m + 47) (with_caught l t s body)
    caught_cost (Object k) s body m h d = scoped_cost (class_type (class_named k)) (slot_place s) body m d h
    caught_cost t s body m h d = within (m + 47) (h d) (omega arith)

    handler_cost : (parameter : List Region) (body : ℕ → List Region) (k m d e : ℕ) → d ≡ e + 1 → Fine rows i d k parameter → Rest i m body →
        Whole rows i e (k + m + 556) (handler l parameter body d)
    handler_cost parameter body k m d e q h g =
        whole_within (k + m + 556) (ordered e d _ q
        (behind parameter (op (enter (exception_slot l)) ∷ _) h
        (in_front (one_op rows i d (enter (exception_slot l)))
        (alone (protected d (d + 1) (in_order (body (d + 2))) leave_handler (omega arith) (ordered (d + 1) (d + 2) (body (d + 2)) (omega arith) (g (d + 2)))))))) (omega arith)

  -- a loop
  looping_cost : (calls : Bool) (e : Expression) (body : ℕ → List Region) (m i d : ℕ) → ((b : ℕ) → Fine rows (d + 1) b m (body b)) →
      Whole rows i d (32 * tokens_in e + m + 16) (looping calls (at_first e) (λ b. in_order (body b)) d)
  looping_cost false e body m i d h =
      let x = computed (d + 1) e d in
      whole_within (32 * tokens_in e + m + 16) (looped i d (at_first e).value (in_order (body (d + 2))) (ordered (d + 1) (d + 2) (body (d + 2)) (omega arith) (h (d + 2)))) (omega (arith, x.total))
  looping_cost true e body m i d h =
      let x = computed (d + 1) e (d + 2) in
      let out = one_exit rows (d + 1) (d + 3) 3 (inr (inl (omega arith))) in
      let sides = tested (d + 2) (d + 3) (at_first e).value (in_order (body (d + 4))) (leave_region 3) (omega arith) (ordered (d + 3) (d + 4) (body (d + 4)) (omega arith) (h (d + 4))) out in
      let turn = ordered (d + 1) (d + 2) ((at_first e).before ++ branch (at_first e).value (in_order (body (d + 4))) (leave_region 3) ∷ []) (omega arith)
      (with_last (at_first e).before (branch (at_first e).value (in_order (body (d + 4))) (leave_region 3)) x.before sides) in
      whole_within (32 * tokens_in e + m + 16) (looped i d (number (pos 1)) _ turn) (omega (arith, x.total))

  pub nothing_fine : (i : ℕ) → Rest i 0 nothing_more
  nothing_fine i d = no_more rows i d 0

  mutual
    pub statement_fine : (s : Statement) (rest : ℕ → List Region) (m i n d : ℕ) → NamesRows rows s → Rest i m rest →
        Fine rows i d (128 * statement_tokens s + m) (statement l s rest i n d)
    statement_fine (block ss) rest m i n d h r =
        within (128 * statement_tokens (block ss) + m) (in_front (ordered d (d + 1) (statements l ss i n (d + 1)) (omega arith) (statements_fine ss i n (d + 1) h)) (r d)) (omega arith)
    statement_fine empty rest m i n d h r = within (128 + m) (r d) (omega arith)
    statement_fine (if_else e s t) rest m i n d h r =
        let x = computed i e d in
        let first = in_order (statement l s nothing_more i n (d + 2)) in
        let second = in_order (otherwise l t i (n + length (declared_in s)) (d + 2)) in
        let sides = tested d (d + 1) (at_first e).value first second (omega arith)
        (ordered (d + 1) (d + 2) (statement l s nothing_more i n (d + 2)) (omega arith) (statement_fine s nothing_more 0 i n (d + 2) h.0 (nothing_fine i)))
        (ordered (d + 1) (d + 2) (otherwise l t i (n + length (declared_in s)) (d + 2)) (omega arith) (otherwise_fine t i (n + length (declared_in s)) (d + 2) h.1)) in
        within (128 * statement_tokens (if_else e s t) + m)
        (behind ((at_first e).before ++ branch (at_first e).value first second ∷ []) (rest d) (with_last (at_first e).before (branch (at_first e).value first second) x.before sides) (r d)) (omega (arith, x.total))
    statement_fine (while e s) rest m i n d h r =
        within (128 * statement_tokens (while e s) + m)
        (in_front (looping_cost (has_call e) e (λ b. statement l s nothing_more (d + 1) n b) (128 * statement_tokens s) i d
        (λ b. within (128 * statement_tokens s) (statement_fine s nothing_more 0 (d + 1) n b h (nothing_fine (d + 1))) (omega arith))) (r d)) (omega arith)
    statement_fine (return place e) rest m i n d h r = within (128 * statement_tokens (return place e) + m) (returning_cost i e d) (omega arith)
    statement_fine (break place) rest m i n d h r = within (256 + m) (alone (out_of_loop rows i d)) (omega arith)
    statement_fine (continue place) rest m i n d h r = within (256 + m) (alone (to_next_turn rows i d)) (omega arith)
    statement_fine (throw place e) rest m i n d h r = within (128 * statement_tokens (throw place e) + m) (throwing_cost i e d) (omega arith)
    statement_fine (try ss hs) rest m i n d h r =
        within (128 * statement_tokens (try ss hs) + m)
        (in_front (guarded d (d + 1) (in_order (statements l ss i n (d + 2))) (clauses l hs i (n + length (all_declared_in ss)) (d + 2)) (omega arith)
        (ordered (d + 1) (d + 2) (statements l ss i n (d + 2)) (omega arith) (statements_fine ss i n (d + 2) h.0))
        (clauses_fine hs i (n + length (all_declared_in ss)) (d + 2) (d + 1) (omega arith) h.1)) (r d)) (omega arith)
    statement_fine (assign names e) rest m i n d h r =
        within (128 * statement_tokens (assign names e) + m)
        (behind (lower_store l e (place_of l names) (first_temporary l)) (rest d) (stored i e (place_of l names) d) (r d)) (omega arith)
    statement_fine (evaluate e) rest m i n d h r =
        within (128 * statement_tokens (evaluate e) + m) (behind (dropped l e (first_temporary l)) (rest d) (dropped_fine rows i l e d (first_temporary l)) (r d)) (omega arith)
    statement_fine (local_int x e) rest m i n d h r =
        within (128 * statement_tokens (local_int x e) + m) (behind (initialised l x e) (rest d) (initialised_cost i x e d) (r d)) (omega arith)
    statement_fine (local_ref x names) rest m i n d h r =
        within (384 + m) (behind (bound_to l x.name (place_of l names)) (rest d) (bound_cost i x.name (place_of l names) d) (r d)) (omega arith)
    statement_fine (local_object c x es) rest m i n d h r =
        let p = slot_place (variable_slot l (local_number x.bound)) in
        within (128 * statement_tokens (local_object c x es) + m)
        (behind (lower_construct l (class_named c) es p (first_temporary l)) (scoped l (class_type (class_named c)) p rest d) (built_fine rows i l (class_named c) es p d (first_temporary l))
        (scoped_cost i (class_type (class_named c)) p rest m d r)) (omega arith)

    otherwise_fine : (t : Else) (i n d : ℕ) → ElseNamesRows rows t → Fine rows i d (128 * else_tokens t) (otherwise l t i n d)
    otherwise_fine no_else i n d h = no_more rows i d 0
    otherwise_fine (else_do s) i n d h = within (128 * else_tokens (else_do s)) (statement_fine s nothing_more 0 i n d h (nothing_fine i)) (omega arith)

    pub statements_fine : (ss : Statements) (i n d : ℕ) → AllNameRows rows ss → Fine rows i d (128 * statements_tokens ss) (statements l ss i n d)
    statements_fine no_statements i n d h = no_more rows i d 0
    statements_fine (statement_then s ss) i n d h =
        within (128 * statements_tokens (statement_then s ss))
        (statement_fine s (λ b. statements l ss i (n + length (declared_in s)) b) (128 * statements_tokens ss) i n d h.0
        (λ b. statements_fine ss i (n + length (declared_in s)) b h.1)) (omega arith)

    clauses_fine : (hs : Handlers) (i n d e : ℕ) → d ≡ e + 1 → HandlersNameRows rows hs → FineClauses rows i e (128 * handlers_tokens hs) (clauses l hs i n d)
    clauses_fine no_handlers i n d e q h = no_clause rows i e 0
    clauses_fine (handler_then None x ss place hs) i n d e q h =
        clauses_within (128 * handlers_tokens (handler_then None x ss place hs))
        (one_clause None (exception_slot l) (handler l [] (λ b. statements l ss i n b) d) (clauses l hs i (n + length (all_declared_in ss)) d) (omega arith)
        (handler_cost i [] (λ b. statements l ss i n b) 0 (128 * statements_tokens ss) d e q (no_more rows i d 0) (λ b. statements_fine ss i n b h.0))
        (clauses_fine hs i (n + length (all_declared_in ss)) d e q h.1)) (omega arith)
    clauses_fine (handler_then (Some t) x ss place hs) i n d e q h =
        let s = variable_slot l n in
        let body = with_caught l t s (λ c. statements l ss i (n + 1) c) in
        clauses_within (128 * handlers_tokens (handler_then (Some t) x ss place hs))
        (one_clause (Some (clause_type t)) (exception_slot l) (handler l (caught_parameter l t s) body d) (clauses l hs i (n + 1 + length (all_declared_in ss)) d) h.0
        (handler_cost i (caught_parameter l t s) body 8 (128 * statements_tokens ss + 47) d e q (parameter_cost i t s d)
        (caught_cost i t s (λ c. statements l ss i (n + 1) c) (128 * statements_tokens ss) (λ c. statements_fine ss i (n + 1) c h.1)))
        (clauses_fine hs i (n + 1 + length (all_declared_in ss)) d e q h.2)) (omega arith)
