-- What statements become weighs at most 40 for each token.
use Rattle.std.proofs.Common.{ℕ, ◌+◌, ◌*◌, ◌-◌, ◌≤◌, Bool, true, false, List, [], ◌∷◌, ◌++◌, length, Option, Some, None, arith}
use Rattle.cxx_ast.specs.declared.name.Bound.{Bound}
use Rattle.cxx_ast.specs.declared.name.Bound.TheVariants.{Class, Builtin as BuiltinBound}
use Rattle.cxx_ast.specs.declared.name.Builtin.TheVariants.{BadException}
use Rattle.cxx_ast.specs.declared.name.Name.{Name}
use Rattle.cxx_ast.specs.declared.types.Ty.{Ty}
use Rattle.cxx_ast.specs.declared.types.Ty.TheVariants.{Int, Object}
use Rattle.cxx_ast.specs.Plain.{Expression, call, std_call, Expressions, Statement, block, empty, if_else, while, return, break, continue, throw, try, assign, evaluate, local_int, local_ref, local_object, Else, no_else, else_do, Statements, no_statements, statement_then, Handlers, no_handlers, handler_then}
use Rattle.meaning_forms.specs.Class.{ObjectType, int_type, class_type, class_named}
use Rattle.meaning_forms.specs.Running.{destructor}
use Rattle.meaning_forms.specs.Frame.{local_number}
use Rattle.meaning_forms.specs.Expression.{lvalue_of, callee_bound}
use Rattle.region_forms.specs.Form.{Place, store, bind, make, throw as throw_op, rethrow, enter, destroy_scope, free_object, leave_handler, Region, op, branch, leave_region, Clauses, in_order}
use Rattle.region_forms.specs.Numbering.{number_of, type_number, destructor_of, declared_in, all_declared_in}
use Rattle.region_forms.specs.LowerExpression.{Lowering, result_slot, exception_slot, first_temporary, slot_place, place_of, lvalue_type, has_call, Lowered, lower, dropped, lower_store, lower_construct}
use Rattle.region_forms.specs.LowerStatement.{variable_slot, copied, thrown_place, thrown_as, int_thrown, object_thrown, call_thrown, part_thrown, lvalue_thrown, operand_thrown, throwing, returning, initialised, bound_to, looping, scoped, caught_parameter, with_caught, handler, nothing_more, statement, otherwise, statements, clauses}
use Rattle.source_bounds.specs.LeastTokens.{tokens_in, tokens_in_all, tokens_in_value, statement_tokens, else_tokens, statements_tokens, handlers_tokens}
use Rattle.linear_meaning.proofs.Weights.{weight_clauses, Weigh, Weighs, no_weight, upto, first_of, single, then_others, then_one, an_op, in_a_row, two_sides, a_scope}
use Rattle.linear_meaning.proofs.WeighedExpressions.{Priced, priced, dropped_weighs, stored_weighs, store_weighs, built_weighs}

pub record WeighedClauses (m : ℕ) (cs : Clauses) : Type 0 where
  pub few : weight_clauses cs ≤ m

module _ (l : Lowering) where
  abbrev pub Others : (m : ℕ) → (ℕ → List Region) → Type 0
  Others m rest = (d : ℕ) → Weigh m (rest d)

  abbrev at_first : Expression → Lowered
  at_first e = lower l e (first_temporary l)

  computed : (e : Expression) → Priced (40 * tokens_in e) (at_first e)
  computed e = priced l e (first_temporary l)

  pub valued : (e : Expression) (p : Place) → Weigh (40 * tokens_in e) ((at_first e).before ++ op (store p (at_first e).value) ∷ [])
  valued e p = stored_weighs l e p (first_temporary l) (computed e)

  placed : (e : Expression) (p : Place) → Weigh (40 * tokens_in e) (lower_store l e p (first_temporary l))
  placed e p = store_weighs l e p (first_temporary l)

  -- what is thrown
  thrown : (t : ObjectType) (build : List Region) (m : ℕ) → Weigh m build → Weigh (m + 65) (thrown_as l t build)
  thrown t build m h =
      upto (m + 65) (first_of (an_op (make (exception_slot l))) (first_of (a_scope (in_order build) (free_object (exception_slot l)) (in_a_row build h))
      (single (an_op (throw_op (exception_slot l) (type_number t) (destructor_of l.program t)))))) (omega arith)

  int_weighs : (e : Expression) → Weigh (40 * tokens_in e + 65) (int_thrown l e)
  int_weighs e = thrown int_type _ (40 * tokens_in e) (valued e (thrown_place l))

  object_weighs : (c : ℕ) (es : Expressions) → Weigh (40 * tokens_in_all es + 81) (object_thrown l c es)
  object_weighs c es =
      upto (40 * tokens_in_all es + 81) (thrown (class_type c) _ (40 * tokens_in_all es + 16) (built_weighs l c es (thrown_place l) (first_temporary l))) (omega arith)

  copied_weighs : (k : ℕ) (target source : Place) → Weighs 34 (copied l k target source)
  copied_weighs k target source = record { few = omega arith }

  call_weighs : (b : Bound) (e : Expression) (es : Expressions) → tokens_in_all es + 1 ≤ tokens_in e → Weigh (40 * tokens_in e + 80) (call_thrown l b e es)
  call_weighs (Class c) e es h = upto (40 * tokens_in e + 80) (object_weighs c es) (omega (arith, h))
  call_weighs (BuiltinBound BadException) e es h = upto (40 * tokens_in e + 80) (object_weighs 0 es) (omega (arith, h))
  call_weighs b e es h = upto (40 * tokens_in e + 80) (int_weighs e) (omega arith)

  part_weighs : (e : Expression) (names : List Name) (t : ObjectType) → Weigh (40 * tokens_in e + 80) (part_thrown l e names t)
  part_weighs e names int_type = upto (40 * tokens_in e + 80) (int_weighs e) (omega arith)
  part_weighs e names (class_type c) =
      let x = computed e in
      upto (40 * tokens_in e + 80) (thrown (class_type c) _ 34 (single (copied_weighs c (thrown_place l) (place_of l names)))) (omega (arith, x.total))

  lvalue_weighs : (e : Expression) (names : Option (List Name)) → Weigh (40 * tokens_in e + 80) (lvalue_thrown l e names)
  lvalue_weighs e None = upto (40 * tokens_in e + 80) (int_weighs e) (omega arith)
  lvalue_weighs e (Some names) = part_weighs e names (lvalue_type l names)

  operand_weighs : (e : Expression) → Weigh (40 * tokens_in e + 80) (operand_thrown l e)
  operand_weighs (call names es) = call_weighs (callee_bound names) (call names es) es (omega arith)
  operand_weighs (std_call n es place) = call_weighs n.bound (std_call n es place) es (omega arith)
  operand_weighs e = lvalue_weighs e (lvalue_of e)

  throwing_weighs : (e : Option Expression) → Weigh (40 * tokens_in_value e + 80) (throwing l e)
  throwing_weighs None = upto 80 (single (an_op rethrow)) (omega arith)
  throwing_weighs (Some e) = operand_weighs e

  -- statements without statements in them
  an_exit : (n : ℕ) → Weighs 2 (leave_region n)
  an_exit n = record { few = omega arith }

  returning_weighs : (e : Option Expression) (d : ℕ) → Weigh (40 * tokens_in_value e + 2) (returning l e d)
  returning_weighs None d = single (an_exit d)
  returning_weighs (Some e) d =
      then_one (lower_store l e (slot_place (result_slot l)) (first_temporary l)) (leave_region d) (placed e (slot_place (result_slot l))) (an_exit d)

  initialised_weighs : (x : Name) (e : Option Expression) → Weigh (40 * tokens_in_value e) (initialised l x e)
  initialised_weighs x None = no_weight 0
  initialised_weighs x (Some e) = placed e (slot_place (variable_slot l (local_number x.bound)))

  bound_weighs : (x : Option Name) (p : Place) → Weigh 16 (bound_to l x p)
  bound_weighs None p = no_weight 16
  bound_weighs (Some n) p = single (an_op (bind (variable_slot l (local_number n.bound)) p))

  scoped_weighs : (t : ObjectType) (p : Place) (rest : ℕ → List Region) (m d : ℕ) → Others m rest → Weigh (m + 33) (scoped l t p rest d)
  scoped_weighs int_type p rest m d h = upto (m + 33) (h d) (omega arith)
  scoped_weighs (class_type c) p rest m d h =
      upto (m + 33) (single (a_scope (in_order (rest (d + 2))) (destroy_scope p (number_of l.program (destructor c))) (in_a_row (rest (d + 2)) (h (d + 2))))) (omega arith)

  -- a handler
  parameter_weighs : (t : Ty) (s : ℕ) → Weigh 34 (caught_parameter l t s)
  parameter_weighs Int s = upto 34 (single (an_op _)) (omega arith)
  parameter_weighs (Object k) s = single (copied_weighs (class_named k) (slot_place s) (thrown_place l))
  parameter_weighs t s = upto 34 (single (an_op (bind s (thrown_place l)))) (omega arith)

  caught_weighs : (t : Ty) (x : ℕ) (body : ℕ → List Region) (m : ℕ) → Others m body → Others (m + 33) (with_caught l t x body)
  caught_weighs (Object k) x body m h d = scoped_weighs (class_type (class_named k)) (slot_place x) body m d h
  caught_weighs t x body m h d = upto (m + 33) (h d) (omega arith)

  handler_weighs : (parameter : List Region) (body : ℕ → List Region) (m d : ℕ) → Weigh 34 parameter → Others m body → Weighs (m + 85) (handler l parameter body d)
  handler_weighs parameter body m d h k =
      let whole = then_others parameter _ h (first_of (an_op (enter (exception_slot l)))
      (single (a_scope (in_order (body (d + 2))) leave_handler (in_a_row (body (d + 2)) (k (d + 2)))))) in
      record { few = omega (arith, whole.few) }

  looping_weighs : (calls : Bool) (e : Expression) (body : ℕ → List Region) (m d : ℕ) → Others m body →
      Weighs (40 * tokens_in e + m + 14) (looping calls (at_first e) (λ b. in_order (body b)) d)
  looping_weighs false e body m d h = let inside = h (d + 2) in record { few = omega (arith, inside.few) }
  looping_weighs true e body m d h =
      let x = computed e in
      let turn = in_a_row _ (then_one (at_first e).before (branch (at_first e).value (in_order (body (d + 4))) (leave_region 3)) x.before
      (two_sides (at_first e).value (in_order (body (d + 4))) (leave_region 3) (in_a_row (body (d + 4)) (h (d + 4))) (an_exit 3))) in
      record { few = omega (arith, turn.few, x.total) }

  pub nothing_weighs : Others 0 nothing_more
  nothing_weighs d = no_weight 0

  mutual
    statement_weighs : (s : Statement) (rest : ℕ → List Region) (m i n d : ℕ) → Others m rest → Weigh (40 * statement_tokens s + m) (statement l s rest i n d)
    statement_weighs (block ss) rest m i n d r =
        upto (40 * statement_tokens (block ss) + m) (first_of (in_a_row (statements l ss i n (d + 1)) (statements_weigh ss i n (d + 1))) (r d)) (omega arith)
    statement_weighs empty rest m i n d r = upto (40 + m) (r d) (omega arith)
    statement_weighs (if_else e s t) rest m i n d r =
        let x = computed e in
        let first = in_order (statement l s nothing_more i n (d + 2)) in
        let second = in_order (otherwise l t i (n + length (declared_in s)) (d + 2)) in
        let sides = two_sides (at_first e).value first second (in_a_row _ (statement_weighs s nothing_more 0 i n (d + 2) nothing_weighs))
        (in_a_row _ (otherwise_weighs t i (n + length (declared_in s)) (d + 2))) in
        upto (40 * statement_tokens (if_else e s t) + m)
        (then_others ((at_first e).before ++ branch (at_first e).value first second ∷ []) (rest d) (then_one (at_first e).before (branch (at_first e).value first second) x.before sides) (r d))
        (omega (arith, x.total))
    statement_weighs (while e s) rest m i n d r =
        upto (40 * statement_tokens (while e s) + m)
        (first_of (looping_weighs (has_call e) e (λ b. statement l s nothing_more (d + 1) n b) (40 * statement_tokens s + 0) d
        (λ b. statement_weighs s nothing_more 0 (d + 1) n b nothing_weighs)) (r d)) (omega arith)
    statement_weighs (return place e) rest m i n d r = upto (40 * statement_tokens (return place e) + m) (returning_weighs e d) (omega arith)
    statement_weighs (break place) rest m i n d r = upto (80 + m) (single (an_exit (d - i + 1))) (omega arith)
    statement_weighs (continue place) rest m i n d r = upto (80 + m) (single (an_exit (d - i))) (omega arith)
    statement_weighs (throw place e) rest m i n d r = upto (40 * statement_tokens (throw place e) + m) (throwing_weighs e) (omega arith)
    statement_weighs (try ss hs) rest m i n d r =
        let body = in_a_row (statements l ss i n (d + 2)) (statements_weigh ss i n (d + 2)) in
        let others = clauses_weigh hs i (n + length (all_declared_in ss)) (d + 2) in
        let after = r d in
        record { few = omega (arith, body.few, others.few, after.few) }
    statement_weighs (assign names e) rest m i n d r =
        upto (40 * statement_tokens (assign names e) + m)
        (then_others (lower_store l e (place_of l names) (first_temporary l)) (rest d) (placed e (place_of l names)) (r d)) (omega arith)
    statement_weighs (evaluate e) rest m i n d r =
        upto (40 * statement_tokens (evaluate e) + m)
        (then_others (dropped l e (first_temporary l)) (rest d) (dropped_weighs l e (first_temporary l)) (r d)) (omega arith)
    statement_weighs (local_int x e) rest m i n d r =
        upto (40 * statement_tokens (local_int x e) + m) (then_others (initialised l x e) (rest d) (initialised_weighs x e) (r d)) (omega arith)
    statement_weighs (local_ref x names) rest m i n d r =
        upto (120 + m) (then_others (bound_to l x.name (place_of l names)) (rest d) (bound_weighs x.name (place_of l names)) (r d)) (omega arith)
    statement_weighs (local_object c x es) rest m i n d r =
        let p = slot_place (variable_slot l (local_number x.bound)) in
        upto (40 * statement_tokens (local_object c x es) + m)
        (then_others (lower_construct l (class_named c) es p (first_temporary l)) (scoped l (class_type (class_named c)) p rest d) (built_weighs l (class_named c) es p (first_temporary l))
        (scoped_weighs (class_type (class_named c)) p rest m d r)) (omega arith)

    otherwise_weighs : (t : Else) (i n d : ℕ) → Weigh (40 * else_tokens t) (otherwise l t i n d)
    otherwise_weighs no_else i n d = no_weight 0
    otherwise_weighs (else_do s) i n d = upto (40 * else_tokens (else_do s)) (statement_weighs s nothing_more 0 i n d nothing_weighs) (omega arith)

    pub statements_weigh : (ss : Statements) (i n d : ℕ) → Weigh (40 * statements_tokens ss) (statements l ss i n d)
    statements_weigh no_statements i n d = no_weight 0
    statements_weigh (statement_then s ss) i n d =
        upto (40 * statements_tokens (statement_then s ss))
        (statement_weighs s (λ b. statements l ss i (n + length (declared_in s)) b) (40 * statements_tokens ss) i n d (λ b. statements_weigh ss i (n + length (declared_in s)) b)) (omega arith)

    clauses_weigh : (hs : Handlers) (i n d : ℕ) → WeighedClauses (40 * handlers_tokens hs) (clauses l hs i n d)
    clauses_weigh no_handlers i n d = record { few = omega arith }
    clauses_weigh (handler_then None x ss place hs) i n d =
        let own = handler_weighs [] (λ b. statements l ss i n b) (40 * statements_tokens ss) d (no_weight 34) (λ b. statements_weigh ss i n b) in
        let others = clauses_weigh hs i (n + length (all_declared_in ss)) d in
        record { few = omega (arith, own.few, others.few) }
    clauses_weigh (handler_then (Some t) x ss place hs) i n d =
        let s = variable_slot l n in
        let own = handler_weighs (caught_parameter l t s) (with_caught l t s (λ c. statements l ss i (n + 1) c)) (40 * statements_tokens ss + 33) d (parameter_weighs t s)
        (caught_weighs t s (λ c. statements l ss i (n + 1) c) (40 * statements_tokens ss) (λ c. statements_weigh ss i (n + 1) c)) in
        let others = clauses_weigh hs i (n + 1 + length (all_declared_in ss)) d in
        record { few = omega (arith, own.few, others.few) }
