-- What statements become has no more call sites than they have tokens, and weighs no more in chains.
use Rattle.std.proofs.Common.{ℕ, ◌+◌, ◌-◌, ◌≤◌, Bool, true, false, List, [], ◌∷◌, ◌++◌, length, Option, Some, None, arith}
use Rattle.std.specs.Prelude.{pos}
use Rattle.cxx_ast.specs.declared.name.Bound.{Bound}
use Rattle.cxx_ast.specs.declared.name.Bound.TheVariants.{Class, Builtin as BuiltinBound}
use Rattle.cxx_ast.specs.declared.name.Builtin.TheVariants.{BadException}
use Rattle.cxx_ast.specs.declared.name.Name.{Name}
use Rattle.cxx_ast.specs.declared.types.Ty.{Ty}
use Rattle.cxx_ast.specs.declared.types.Ty.TheVariants.{Int, Object}
use Rattle.cxx_ast.specs.Plain.{Expression, call, std_call, Expressions, Statement, block, empty, if_else, while, return, break, continue, throw, try, assign, evaluate, local_int, local_ref, local_object, Else, no_else, else_do, Statements, no_statements, statement_then, Handlers, no_handlers, handler_then}
use Rattle.meaning_forms.specs.Class.{ObjectType, int_type, class_type, class_named}
use Rattle.meaning_forms.specs.Running.{destructor}
use Rattle.meaning_forms.specs.Frame.{local_number}
use Rattle.meaning_forms.specs.Expression.{lvalue_of, callee_bound}
use Rattle.region_forms.specs.Form.{Place, number, store, bind, make, throw as throw_op, rethrow, enter, destroy_scope, free_object, leave_handler, Region, op, branch, leave_region, Clauses, in_order}
use Rattle.region_forms.specs.Numbering.{number_of, type_number, destructor_of, declared_in, all_declared_in}
use Rattle.region_forms.specs.LowerExpression.{Lowering, result_slot, exception_slot, first_temporary, slot_place, place_of, lvalue_type, has_call, Lowered, lower, dropped, lower_store, lower_construct}
use Rattle.region_forms.specs.LowerStatement.{variable_slot, copied, thrown_place, thrown_as, int_thrown, object_thrown, call_thrown, part_thrown, lvalue_thrown, operand_thrown, throwing, returning, initialised, bound_to, looping, scoped, caught_parameter, with_caught, handler, nothing_more, statement, otherwise, statements, clauses}
use Rattle.source_bounds.specs.TableWeights.{sites_in_clauses, guards_in_clauses}
use Rattle.source_bounds.specs.LeastTokens.{tokens_in, tokens_in_all, tokens_in_value, statement_tokens, else_tokens, statements_tokens, handlers_tokens}
use Rattle.source_bounds.proofs.Tabled.{Tabled, TabledRegion, no_table, upto, first_of, single, then_others, then_one, an_op, in_a_row, two_sides, a_loop, a_scope}
use Rattle.source_bounds.proofs.TabledExpressions.{Sited, sited, dropped_sited, stored_sited, store_sited, built_sited}

pub record TabledClauses (m : ℕ) (cs : Clauses) : Type 0 where
  pub sites : sites_in_clauses cs ≤ m
  pub guards : guards_in_clauses cs ≤ m

module _ (l : Lowering) where
  abbrev pub Others : (s g : ℕ) → (ℕ → List Region) → Type 0
  Others s g rest = (d : ℕ) → Tabled s g (rest d)

  abbrev at_first : Expression → Lowered
  at_first e = lower l e (first_temporary l)

  computed : (e : Expression) → Sited (tokens_in e) (at_first e)
  computed e = sited l e (first_temporary l)

  pub valued_table : (e : Expression) (p : Place) → Tabled (tokens_in e) 0 ((at_first e).before ++ op (store p (at_first e).value) ∷ [])
  valued_table e p = stored_sited l e p (first_temporary l) (computed e)

  store_table : (e : Expression) (p : Place) → Tabled (tokens_in e) 0 (lower_store l e p (first_temporary l))
  store_table e p = store_sited l e p (first_temporary l)

  -- what is thrown
  thrown_table : (t : ObjectType) (build : List Region) (m : ℕ) → Tabled m 0 build → Tabled (m + 2) 0 (thrown_as l t build)
  thrown_table t build m h =
      let first : TabledRegion 0 0 (op (make (exception_slot l))) = record { sites = omega arith; guards = omega arith } in
      upto (m + 2) 0 (first_of first (first_of (a_scope (in_order build) (free_object (exception_slot l)) (in_a_row build h))
      (single (an_op (throw_op (exception_slot l) (type_number t) (destructor_of l.program t)))))) (omega arith) (omega arith)

  int_table : (e : Expression) → Tabled (tokens_in e + 2) 0 (int_thrown l e)
  int_table e = thrown_table int_type _ (tokens_in e) (valued_table e (thrown_place l))

  object_table : (c : ℕ) (es : Expressions) → Tabled (tokens_in_all es + 3) 0 (object_thrown l c es)
  object_table c es = upto (tokens_in_all es + 3) 0 (thrown_table (class_type c) _ (tokens_in_all es + 1) (built_sited l c es (thrown_place l) (first_temporary l))) (omega arith) (omega arith)

  copied_table : (k : ℕ) (target source : Place) → TabledRegion 1 0 (copied l k target source)
  copied_table k target source = record { sites = omega arith; guards = omega arith }

  call_table : (b : Bound) (e : Expression) (es : Expressions) → tokens_in_all es + 1 ≤ tokens_in e → Tabled (tokens_in e + 2) 0 (call_thrown l b e es)
  call_table (Class c) e es h = upto (tokens_in e + 2) 0 (object_table c es) (omega (arith, h)) (omega arith)
  call_table (BuiltinBound BadException) e es h = upto (tokens_in e + 2) 0 (object_table 0 es) (omega (arith, h)) (omega arith)
  call_table b e es h = int_table e

  part_table : (e : Expression) (names : List Name) (t : ObjectType) → Tabled (tokens_in e + 2) 0 (part_thrown l e names t)
  part_table e names int_type = int_table e
  part_table e names (class_type c) =
      let x = computed e in
      upto (tokens_in e + 2) 0 (thrown_table (class_type c) _ 1 (single (copied_table c (thrown_place l) (place_of l names)))) (omega (arith, x.total)) (omega arith)

  lvalue_table : (e : Expression) (names : Option (List Name)) → Tabled (tokens_in e + 2) 0 (lvalue_thrown l e names)
  lvalue_table e None = int_table e
  lvalue_table e (Some names) = part_table e names (lvalue_type l names)

  operand_table : (e : Expression) → Tabled (tokens_in e + 2) 0 (operand_thrown l e)
  operand_table (call names es) = call_table (callee_bound names) (call names es) es (omega arith)
  operand_table (std_call n es place) = call_table n.bound (std_call n es place) es (omega arith)
  operand_table e = lvalue_table e (lvalue_of e)

  throwing_table : (e : Option Expression) → Tabled (tokens_in_value e + 2) 0 (throwing l e)
  throwing_table None = upto 2 0 (single (an_op rethrow)) (omega arith) (omega arith)
  throwing_table (Some e) = operand_table e

  -- statements without statements in them
  exit_table : (n : ℕ) → TabledRegion 0 0 (leave_region n)
  exit_table n = record { sites = omega arith; guards = omega arith }

  returning_table : (e : Option Expression) (d : ℕ) → Tabled (tokens_in_value e) 0 (returning l e d)
  returning_table None d = upto 0 0 (single (exit_table d)) (omega arith) (omega arith)
  returning_table (Some e) d =
      upto (tokens_in e) 0 (then_one (lower_store l e (slot_place (result_slot l)) (first_temporary l)) (leave_region d) (store_table e (slot_place (result_slot l))) (exit_table d))
      (omega arith) (omega arith)

  initialised_table : (x : Name) (e : Option Expression) → Tabled (tokens_in_value e) 0 (initialised l x e)
  initialised_table x None = no_table 0 0
  initialised_table x (Some e) = store_table e (slot_place (variable_slot l (local_number x.bound)))

  bound_table : (x : Option Name) (p : Place) → Tabled 1 0 (bound_to l x p)
  bound_table None p = no_table 1 0
  bound_table (Some n) p = single (an_op (bind (variable_slot l (local_number n.bound)) p))

  pub scoped_table : (t : ObjectType) (p : Place) (rest : ℕ → List Region) (s g d : ℕ) → Others s g rest → Tabled (s + 2) g (scoped l t p rest d)
  scoped_table int_type p rest s g d h = upto (s + 2) g (h d) (omega arith) (omega arith)
  scoped_table (class_type c) p rest s g d h = single (a_scope (in_order (rest (d + 2))) (destroy_scope p (number_of l.program (destructor c))) (in_a_row (rest (d + 2)) (h (d + 2))))

  -- a handler
  parameter_table : (t : Ty) (s : ℕ) → Tabled 1 0 (caught_parameter l t s)
  parameter_table Int s = single (an_op _)
  parameter_table (Object k) s = single (copied_table (class_named k) (slot_place s) (thrown_place l))
  parameter_table t s = single (an_op (bind s (thrown_place l)))

  caught_table : (t : Ty) (x : ℕ) (body : ℕ → List Region) (s g : ℕ) → Others s g body → Others (s + 2) g (with_caught l t x body)
  caught_table (Object k) x body s g h d = scoped_table (class_type (class_named k)) (slot_place x) body s g d h
  caught_table t x body s g h d = upto (s + 2) g (h d) (omega arith) (omega arith)

  handler_table : (parameter : List Region) (body : ℕ → List Region) (s g d : ℕ) → Tabled 1 0 parameter → Others s g body → TabledRegion (s + 3) g (handler l parameter body d)
  handler_table parameter body s g d h k =
      let entered : TabledRegion 0 0 (op (enter (exception_slot l))) = record { sites = omega arith; guards = omega arith } in
      in_a_row _ (upto (s + 3) g (then_others parameter _ h (first_of entered (single (a_scope (in_order (body (d + 2))) leave_handler (in_a_row (body (d + 2)) (k (d + 2))))))) (omega arith) (omega arith))

  looping_table : (calls : Bool) (e : Expression) (body : ℕ → List Region) (s g d : ℕ) → Others s g body →
      TabledRegion (tokens_in e + s) g (looping calls (at_first e) (λ b. in_order (body b)) d)
  looping_table false e body s g d h =
      let inside = h (d + 2) in record { sites = omega (arith, inside.sites); guards = omega (arith, inside.guards) }
  looping_table true e body s g d h =
      let x = computed e in
      let turn = then_one (at_first e).before (branch (at_first e).value (in_order (body (d + 4))) (leave_region 3)) x.before
      (two_sides (at_first e).value (in_order (body (d + 4))) (leave_region 3) (in_a_row (body (d + 4)) (h (d + 4))) (exit_table 3)) in
      a_loop (number (pos 1)) _ (in_a_row _ (upto (tokens_in e + s) g turn (omega (arith, x.total)) (omega arith)))

  pub nothing_table : Others 0 0 nothing_more
  nothing_table d = no_table 0 0

  mutual
    pub statement_table : (s : Statement) (rest : ℕ → List Region) (m k i n d : ℕ) → Others m k rest →
        Tabled (statement_tokens s + m) (statement_tokens s + k) (statement l s rest i n d)
    statement_table (block ss) rest m k i n d r =
        upto (statement_tokens (block ss) + m) (statement_tokens (block ss) + k) (first_of (in_a_row (statements l ss i n (d + 1)) (statements_table ss i n (d + 1))) (r d)) (omega arith) (omega arith)
    statement_table empty rest m k i n d r = upto (1 + m) (1 + k) (r d) (omega arith) (omega arith)
    statement_table (if_else e s t) rest m k i n d r =
        let x = computed e in
        let first = in_order (statement l s nothing_more i n (d + 2)) in
        let second = in_order (otherwise l t i (n + length (declared_in s)) (d + 2)) in
        let sides = two_sides (at_first e).value first second (in_a_row _ (statement_table s nothing_more 0 0 i n (d + 2) nothing_table))
        (in_a_row _ (otherwise_table t i (n + length (declared_in s)) (d + 2))) in
        upto (statement_tokens (if_else e s t) + m) (statement_tokens (if_else e s t) + k)
        (then_others ((at_first e).before ++ branch (at_first e).value first second ∷ []) (rest d) (then_one (at_first e).before (branch (at_first e).value first second) x.before sides) (r d))
        (omega (arith, x.total)) (omega arith)
    statement_table (while e s) rest m k i n d r =
        upto (statement_tokens (while e s) + m) (statement_tokens (while e s) + k)
        (first_of (looping_table (has_call e) e (λ b. statement l s nothing_more (d + 1) n b) (statement_tokens s + 0) (statement_tokens s + 0) d
        (λ b. statement_table s nothing_more 0 0 (d + 1) n b nothing_table)) (r d)) (omega arith) (omega arith)
    statement_table (return place e) rest m k i n d r =
        upto (statement_tokens (return place e) + m) (statement_tokens (return place e) + k) (returning_table e d) (omega arith) (omega arith)
    statement_table (break place) rest m k i n d r = upto (2 + m) (2 + k) (single (exit_table (d - i + 1))) (omega arith) (omega arith)
    statement_table (continue place) rest m k i n d r = upto (2 + m) (2 + k) (single (exit_table (d - i))) (omega arith) (omega arith)
    statement_table (throw place e) rest m k i n d r =
        upto (statement_tokens (throw place e) + m) (statement_tokens (throw place e) + k) (throwing_table e) (omega arith) (omega arith)
    statement_table (try ss hs) rest m k i n d r =
        let body = in_a_row (statements l ss i n (d + 2)) (statements_table ss i n (d + 2)) in
        let others = clauses_table hs i (n + length (all_declared_in ss)) (d + 2) in
        let after = r d in
        record { sites = omega (arith, body.sites, others.sites, after.sites); guards = omega (arith, body.guards, others.guards, after.guards) }
    statement_table (assign names e) rest m k i n d r =
        upto (statement_tokens (assign names e) + m) (statement_tokens (assign names e) + k)
        (then_others (lower_store l e (place_of l names) (first_temporary l)) (rest d) (store_table e (place_of l names)) (r d)) (omega arith) (omega arith)
    statement_table (evaluate e) rest m k i n d r =
        upto (statement_tokens (evaluate e) + m) (statement_tokens (evaluate e) + k)
        (then_others (dropped l e (first_temporary l)) (rest d) (dropped_sited l e (first_temporary l)) (r d)) (omega arith) (omega arith)
    statement_table (local_int x e) rest m k i n d r =
        upto (statement_tokens (local_int x e) + m) (statement_tokens (local_int x e) + k) (then_others (initialised l x e) (rest d) (initialised_table x e) (r d)) (omega arith) (omega arith)
    statement_table (local_ref x names) rest m k i n d r =
        upto (3 + m) (3 + k) (then_others (bound_to l x.name (place_of l names)) (rest d) (bound_table x.name (place_of l names)) (r d)) (omega arith) (omega arith)
    statement_table (local_object c x es) rest m k i n d r =
        let p = slot_place (variable_slot l (local_number x.bound)) in
        upto (statement_tokens (local_object c x es) + m) (statement_tokens (local_object c x es) + k)
        (then_others (lower_construct l (class_named c) es p (first_temporary l)) (scoped l (class_type (class_named c)) p rest d) (built_sited l (class_named c) es p (first_temporary l))
        (scoped_table (class_type (class_named c)) p rest m k d r)) (omega arith) (omega arith)

    otherwise_table : (t : Else) (i n d : ℕ) → Tabled (else_tokens t) (else_tokens t) (otherwise l t i n d)
    otherwise_table no_else i n d = no_table 0 0
    otherwise_table (else_do s) i n d = upto (statement_tokens s + 1) (statement_tokens s + 1) (statement_table s nothing_more 0 0 i n d nothing_table) (omega arith) (omega arith)

    pub statements_table : (ss : Statements) (i n d : ℕ) → Tabled (statements_tokens ss) (statements_tokens ss) (statements l ss i n d)
    statements_table no_statements i n d = no_table 0 0
    statements_table (statement_then s ss) i n d =
        statement_table s (λ b. statements l ss i (n + length (declared_in s)) b) (statements_tokens ss) (statements_tokens ss) i n d (λ b. statements_table ss i (n + length (declared_in s)) b)

    clauses_table : (hs : Handlers) (i n d : ℕ) → TabledClauses (handlers_tokens hs) (clauses l hs i n d)
    clauses_table no_handlers i n d = record { sites = omega arith; guards = omega arith }
    clauses_table (handler_then None x ss place hs) i n d =
        let own = handler_table [] (λ b. statements l ss i n b) (statements_tokens ss) (statements_tokens ss) d (no_table 1 0) (λ b. statements_table ss i n b) in
        let others = clauses_table hs i (n + length (all_declared_in ss)) d in
        record { sites = omega (arith, own.sites, others.sites); guards = omega (arith, own.guards, others.guards) }
    clauses_table (handler_then (Some t) x ss place hs) i n d =
        let s = variable_slot l n in
        let own = handler_table (caught_parameter l t s) (with_caught l t s (λ c. statements l ss i (n + 1) c)) (statements_tokens ss + 2) (statements_tokens ss) d (parameter_table t s)
        (caught_table t s (λ c. statements l ss i (n + 1) c) (statements_tokens ss) (statements_tokens ss) (λ c. statements_table ss i (n + 1) c)) in
        let others = clauses_table hs i (n + 1 + length (all_declared_in ss)) d in
        record { sites = omega (arith, own.sites, others.sites); guards = omega (arith, own.guards, others.guards) }
