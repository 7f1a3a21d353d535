-- What statements become: for each token at most 104 words. A handler with nothing in it takes most of them.
use Rattle.std.proofs.Common.{ℕ, ◌+◌, ◌*◌, ◌≡◌, ◌≤◌, Bool, true, false, List, [], ◌∷◌, ◌++◌, length, Option, Some, None, arith}
use Rattle.cxx_ast.specs.declared.name.Bound.{Bound}
use Rattle.cxx_ast.specs.declared.name.Bound.TheVariants.{Class, Builtin as BuiltinBound}
use Rattle.cxx_ast.specs.declared.name.Builtin.TheVariants.{BadException}
use Rattle.cxx_ast.specs.declared.name.Name.{Name}
use Rattle.cxx_ast.specs.declared.types.Ty.{Ty}
use Rattle.cxx_ast.specs.declared.types.Ty.TheVariants.{Int, Object}
use Rattle.cxx_ast.specs.Plain.{Expression, call, std_call, Expressions, Statement, block, empty, if_else, while, return, break, continue, throw, try, assign, evaluate, local_int, local_ref, local_object, Else, no_else, else_do, Statements, no_statements, statement_then, Handlers, no_handlers, handler_then}
use Rattle.meaning_forms.specs.Class.{ObjectType, int_type, class_type, class_named}
use Rattle.meaning_forms.specs.Frame.{local_number}
use Rattle.meaning_forms.specs.Expression.{lvalue_of, callee_bound}
use Rattle.region_forms.specs.Form.{Place, Region, branch, leave_region, op, leave_handler, protect, enter, store, regions_from, in_order}
use Rattle.region_forms.specs.Numbering.{declared_in, all_declared_in}
use Rattle.region_forms.specs.LowerExpression.{Lowering, result_slot, exception_slot, first_temporary, slot_place, place_of, lvalue_type, has_call, Lowered, lower, dropped, lower_store, lower_construct}
use Rattle.region_forms.specs.LowerStatement.{variable_slot, thrown_place, copied, thrown_as, int_thrown, object_thrown, call_thrown, part_thrown, lvalue_thrown, operand_thrown, throwing, with_value, returning, initialised, bound_to, looping, scoped, caught_parameter, with_caught, handler, nothing_more, statement, otherwise, statements, clauses}
use Rattle.source_bounds.specs.LeastTokens.{tokens_in, tokens_in_all, tokens_in_value, statement_tokens, else_tokens, statements_tokens, handlers_tokens}
use Rattle.source_bounds.specs.OperationWords.{value_words}
use Rattle.source_bounds.specs.RegionWords.{region_words, all_words, clauses_words}
use Rattle.source_bounds.proofs.Expressions.{lowered, dropped_fine, store_fine, built_fine}
use Rattle.source_bounds.proofs.Statements.{valued}

-- the words of regions one after the other
abbrev pub words : List Region → ℕ
words rs = all_words (regions_from rs)

pub words_both : (rs others : List Region) → words (rs ++ others) ≡ words rs + words others
words_both [] others = omega arith
words_both (r ∷ rs) others = omega (arith, words_both rs others)

-- what the rest of a block becomes has at most so many words
abbrev pub RestIs : ℕ → (ℕ → List Region) → Type 0
RestIs m rest = (d : ℕ) → words (rest d) ≤ m

pub nothing_is : RestIs 0 nothing_more
nothing_is d = omega arith

module _ (l : Lowering) where
  abbrev at_first : Expression → Lowered
  at_first e = lower l e (first_temporary l)

  -- an expression, then what is done with its value
  used : (e : Expression) (next : Region) (k : ℕ) → region_words next ≤ value_words (at_first e).value + k → words ((at_first e).before ++ next ∷ []) + 8 ≤ 32 * tokens_in e + k
  used e next k h =
      let x = lowered 0 0 l e 0 (first_temporary l) in
      omega (arith, h, x.total, x.before.words, words_both (at_first e).before (next ∷ []))

  stored : (e : Expression) (p : Place) → words ((at_first e).before ++ op (store p (at_first e).value) ∷ []) ≤ 32 * tokens_in e
  stored e p = (valued 0 l 0 e p 0).words

  placed : (e : Expression) (p : Place) → words (lower_store l e p (first_temporary l)) ≤ 32 * tokens_in e
  placed e p = (store_fine 0 0 l e p 0 (first_temporary l)).words

  built : (k : ℕ) (es : Expressions) (p : Place) → words (lower_construct l k es p (first_temporary l)) ≤ 32 * tokens_in_all es + 5
  built k es p = (built_fine 0 0 l k es p 0 (first_temporary l)).words

  -- what is thrown
  thrown : (t : ObjectType) (build : List Region) → words (thrown_as l t build) ≡ words build + 19
  thrown t build = omega arith

  int_cost : (e : Expression) → words (int_thrown l e) ≤ 32 * tokens_in e + 32
  int_cost e = omega (arith, stored e (thrown_place l), thrown int_type (with_value (at_first e) (λ v. op (store (thrown_place l) v))))

  object_cost : (c : ℕ) (es : Expressions) → words (object_thrown l c es) ≤ 32 * tokens_in_all es + 32
  object_cost c es = omega (arith, built c es (thrown_place l), thrown (class_type c) (lower_construct l c es (thrown_place l) (first_temporary l)))

  call_cost : (b : Bound) (e : Expression) (es : Expressions) → tokens_in_all es ≤ tokens_in e → words (call_thrown l b e es) ≤ 32 * tokens_in e + 32
  call_cost (Class c) e es h = omega (arith, object_cost c es, h)
  call_cost (BuiltinBound BadException) e es h = omega (arith, object_cost 0 es, h)
  call_cost b e es h = int_cost e

  part_cost : (e : Expression) (names : List Name) (t : ObjectType) → words (part_thrown l e names t) ≤ 32 * tokens_in e + 32
  part_cost e names int_type = int_cost e
  part_cost e names (class_type c) = omega (arith, thrown (class_type c) (copied l c (thrown_place l) (place_of l names) ∷ []))

  lvalue_cost : (e : Expression) (names : Option (List Name)) → words (lvalue_thrown l e names) ≤ 32 * tokens_in e + 32
  lvalue_cost e None = int_cost e
  lvalue_cost e (Some names) = part_cost e names (lvalue_type l names)

  operand_cost : (e : Expression) → words (operand_thrown l e) ≤ 32 * tokens_in e + 32
  operand_cost (call names es) = call_cost (callee_bound names) (call names es) es (omega arith)
  operand_cost (std_call n es place) = call_cost n.bound (std_call n es place) es (omega arith)
  operand_cost e = lvalue_cost e (lvalue_of e)

  throwing_cost : (e : Option Expression) → words (throwing l e) ≤ 32 * tokens_in_value e + 32
  throwing_cost None = omega arith
  throwing_cost (Some e) = operand_cost e

  -- statements without statements in them
  returning_cost : (e : Option Expression) (d : ℕ) → words (returning l e d) ≤ 32 * tokens_in_value e + 5
  returning_cost None d = omega arith
  returning_cost (Some e) d =
      omega (arith, placed e (slot_place (result_slot l)), words_both (lower_store l e (slot_place (result_slot l)) (first_temporary l)) (leave_region d ∷ []))

  initialised_cost : (x : Name) (e : Option Expression) → words (initialised l x e) ≤ 32 * tokens_in_value e
  initialised_cost x None = omega arith
  initialised_cost x (Some e) = placed e (slot_place (variable_slot l (local_number x.bound)))

  bound_cost : (x : Option Name) (p : Place) → words (bound_to l x p) ≤ 3
  bound_cost None p = omega arith
  bound_cost (Some n) p = omega arith

  pub scoped_cost : (t : ObjectType) (p : Place) (rest : ℕ → List Region) (m d : ℕ) → RestIs m rest → words (scoped l t p rest d) ≤ m + 47
  scoped_cost int_type p rest m d h = omega (arith, h d)
  scoped_cost (class_type c) p rest m d h = omega (arith, h (d + 2))

  -- a handler
  parameter_cost : (t : Ty) (s : ℕ) → words (caught_parameter l t s) ≤ 8
  parameter_cost Int s = omega arith
  parameter_cost (Object k) s = omega arith
  parameter_cost t s = omega arith

  caught_cost : (t : Ty) (s : ℕ) (body : ℕ → List Region) (m : ℕ) → RestIs m body → RestIs (m + 47) (with_caught l t s body)
  caught_cost (Object k) s body m h d = scoped_cost (class_type (class_named k)) (slot_place s) body m d h
  caught_cost t s body m h d = omega (arith, h d)

  handler_cost : (parameter : List Region) (body : ℕ → List Region) (k m d : ℕ) → words parameter ≤ k → RestIs m body → region_words (handler l parameter body d) ≤ k + m + 556
  handler_cost parameter body k m d h g =
      omega (arith, h, g (d + 2), words_both parameter (op (enter (exception_slot l)) ∷ protect (in_order (body (d + 2))) leave_handler ∷ []))

  -- a loop
  looping_cost : (calls : Bool) (e : Expression) (body : ℕ → List Region) (m d : ℕ) → RestIs m body → region_words (looping calls (at_first e) (λ b. in_order (body b)) d) ≤ 32 * tokens_in e + m + 16
  looping_cost false e body m d h =
      let x = lowered 0 0 l e 0 (first_temporary l) in
      omega (arith, h (d + 2), x.total)
  looping_cost true e body m d h =
      let test = branch (at_first e).value (in_order (body (d + 4))) (leave_region 3) in
      omega (arith, h (d + 4), used e test (words (body (d + 4)) + 8) (omega arith))

  mutual
    statement_cost : (s : Statement) (rest : ℕ → List Region) (m i n d : ℕ) → RestIs m rest → words (statement l s rest i n d) ≤ 104 * statement_tokens s + m
    statement_cost (block ss) rest m i n d r = omega (arith, r d, statements_cost ss i n (d + 1))
    statement_cost empty rest m i n d r = omega (arith, r d)
    statement_cost (if_else e s t) rest m i n d r =
        let first = statement l s nothing_more i n (d + 2) in
        let second = otherwise l t i (n + length (declared_in s)) (d + 2) in
        let test = branch (at_first e).value (in_order first) (in_order second) in
        omega (
          arith,
          r d,
          words_both ((at_first e).before ++ test ∷ []) (rest d),
          used e test (words first + words second + 3) (omega arith),
          statement_cost s nothing_more 0 i n (d + 2) nothing_is,
          otherwise_cost t i (n + length (declared_in s)) (d + 2),
        )
    statement_cost (while e s) rest m i n d r =
        let turn = looping_cost (has_call e) e (λ b. statement l s nothing_more (d + 1) n b) (104 * statement_tokens s) d (λ b. omega (arith, statement_cost s nothing_more 0 (d + 1) n b nothing_is)) in
        omega (arith, r d, turn)
    statement_cost (return place e) rest m i n d r = omega (arith, returning_cost e d)
    statement_cost (break place) rest m i n d r = omega arith
    statement_cost (continue place) rest m i n d r = omega arith
    statement_cost (throw place e) rest m i n d r = omega (arith, throwing_cost e)
    statement_cost (try ss hs) rest m i n d r = omega (arith, r d, statements_cost ss i n (d + 2), clauses_cost hs i (n + length (all_declared_in ss)) (d + 2))
    statement_cost (assign names e) rest m i n d r =
        omega (arith, r d, placed e (place_of l names), words_both (lower_store l e (place_of l names) (first_temporary l)) (rest d))
    statement_cost (evaluate e) rest m i n d r =
        let x = dropped_fine 0 0 l e 0 (first_temporary l) in
        omega (arith, r d, x.words, words_both (dropped l e (first_temporary l)) (rest d))
    statement_cost (local_int x e) rest m i n d r = omega (arith, r d, initialised_cost x e, words_both (initialised l x e) (rest d))
    statement_cost (local_ref x names) rest m i n d r =
        omega (arith, r d, bound_cost x.name (place_of l names), words_both (bound_to l x.name (place_of l names)) (rest d))
    statement_cost (local_object c x es) rest m i n d r =
        let p = slot_place (variable_slot l (local_number x.bound)) in
        omega (
          arith,
          built (class_named c) es p,
          scoped_cost (class_type (class_named c)) p rest m d r,
          words_both (lower_construct l (class_named c) es p (first_temporary l)) (scoped l (class_type (class_named c)) p rest d),
        )

    otherwise_cost : (t : Else) (i n d : ℕ) → words (otherwise l t i n d) ≤ 104 * else_tokens t
    otherwise_cost no_else i n d = omega arith
    otherwise_cost (else_do s) i n d = omega (arith, statement_cost s nothing_more 0 i n d nothing_is)

    pub statements_cost : (ss : Statements) (i n d : ℕ) → words (statements l ss i n d) ≤ 104 * statements_tokens ss
    statements_cost no_statements i n d = omega arith
    statements_cost (statement_then s ss) i n d =
        omega (
          arith,
          statement_cost s (λ b. statements l ss i (n + length (declared_in s)) b) (104 * statements_tokens ss) i n d (λ b. statements_cost ss i (n + length (declared_in s)) b),
        )

    clauses_cost : (hs : Handlers) (i n d : ℕ) → clauses_words (clauses l hs i n d) ≤ 104 * handlers_tokens hs
    clauses_cost no_handlers i n d = omega arith
    clauses_cost (handler_then None x ss place hs) i n d =
        omega (
          arith,
          handler_cost [] (λ b. statements l ss i n b) 0 (104 * statements_tokens ss) d (omega arith) (λ b. statements_cost ss i n b),
          clauses_cost hs i (n + length (all_declared_in ss)) d,
        )
    clauses_cost (handler_then (Some t) x ss place hs) i n d =
        let s = variable_slot l n in
        omega (
          arith,
          handler_cost (caught_parameter l t s) (with_caught l t s (λ c. statements l ss i (n + 1) c)) 8 (104 * statements_tokens ss + 47) d (parameter_cost t s)
              (caught_cost t s (λ c. statements l ss i (n + 1) c) (104 * statements_tokens ss) (λ c. statements_cost ss i (n + 1) c)),
          clauses_cost hs i (n + 1 + length (all_declared_in ss)) d,
        )
