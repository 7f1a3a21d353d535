-- The slots that what statements become mentions.
use Rattle.std.proofs.Common.{◌+◌, ◌≤◌, ◌<◌, ℕ, Bool, true, false, List, [], ◌∷◌, ◌++◌, length, Option, Some, None, arith}
use Rattle.std.proofs.lemmas.List.{length-append}
use Rattle.cxx_ast.specs.declared.name.Bound.{Bound}
use Rattle.cxx_ast.specs.declared.name.Bound.TheVariants.{Local, Class, Builtin as BuiltinBound}
use Rattle.cxx_ast.specs.declared.name.Builtin.TheVariants.{BadException}
use Rattle.cxx_ast.specs.declared.name.Name.{Name}
use Rattle.cxx_ast.specs.declared.types.Ty.{Ty}
use Rattle.cxx_ast.specs.declared.types.Ty.TheVariants.{Int, Object}
use Rattle.cxx_ast.specs.Plain.{Expression, call, std_call, Expressions, Statement, block, empty, if_else, while, return, break, continue, throw, try, assign, evaluate, local_int, local_ref, local_object, Else, no_else, else_do, Statements, no_statements, statement_then, Handlers, no_handlers, handler_then}
use Rattle.cxx_ast.specs.Sizes.{levels, most_levels, arguments_in, arguments_of, statement_most, else_most, statements_most, handlers_most, most_in_value, Most}
use Rattle.meaning_forms.specs.Class.{ObjectType, int_type, class_type, class_named}
use Rattle.meaning_forms.specs.Frame.{local_number}
use Rattle.meaning_forms.specs.Expression.{lvalue_of, names_of, callee_bound}
use Rattle.region_forms.specs.Form.{Place, Region, branch, leave_region, in_order}
use Rattle.region_forms.specs.Mentioned.{slots_of_root, slots_of, slots_of_clauses}
use Rattle.region_forms.specs.Numbering.{declared_in, declared_in_else, all_declared_in, declared_in_handlers}
use Rattle.region_forms.specs.LowerExpression.{Lowering, result_slot, first_temporary, slot_place, place_of, lvalue_type, has_call, Lowered, lower, dropped, lower_store, lower_construct}
use Rattle.region_forms.specs.LowerStatement.{variable_slot, thrown_place, int_thrown, object_thrown, call_thrown, part_thrown, lvalue_thrown, operand_thrown, throwing, returning, initialised, bound_to, looping, scoped, caught_parameter, with_caught, handler, nothing_more, statement, otherwise, statements, clauses}
use Rattle.landing_pads.specs.Numbered.{BoundFits, PathFits, ExpressionFits, ExpressionsFit, ValueFits, NameFits, StatementFits, ElseFits, StatementsFit, HandlersFit}
use Rattle.landing_pads.proofs.Mentions.{Below, behind, with_last, count, path_below, lvalue_fits, Lies, lowered, dropped_below, valued, store_below, constructed_below}

module _ (l : Lowering) (m : ℕ) (room : first_temporary l ≤ m) where
  -- there is room for a measure of expressions
  abbrev pub Measured : Most → Type 0
  Measured most = first_temporary l + most.levels + most.arguments ≤ m

  abbrev pub Rest : (ℕ → List Region) → Type 0
  Rest rest = (d : ℕ) → Below m (rest d)

  abbrev at_first : Expression → Lowered
  at_first e = lower l e (first_temporary l)

  computed : (e : Expression) → ExpressionFits (count l) e → first_temporary l + levels e + arguments_in e ≤ m → Lies l m (at_first e)
  computed e h k = lowered l e (first_temporary l) m h (omega arith) k

  -- what is thrown
  int_below : (e : Expression) → ExpressionFits (count l) e → first_temporary l + levels e + arguments_in e ≤ m → Below m (int_thrown l e)
  int_below e h k = let row = valued l m (at_first e) (thrown_place l) (omega (arith, room)) (computed e h k) in omega (arith, room, row)

  object_below : (c : ℕ) (es : Expressions) → ExpressionsFit (count l) es → first_temporary l + most_levels es + arguments_of es ≤ m → Below m (object_thrown l c es)
  object_below c es h k = let row = constructed_below l c es (thrown_place l) m h (omega (arith, room)) k in omega (arith, room, row)

  call_below : (b : Bound) (e : Expression) (es : Expressions) → ExpressionFits (count l) e → ExpressionsFit (count l) es →
      first_temporary l + levels e + arguments_in e ≤ m → first_temporary l + most_levels es + arguments_of es ≤ m → Below m (call_thrown l b e es)
  call_below (Class c) e es h g k n = object_below c es g n
  call_below (BuiltinBound BadException) e es h g k n = object_below 0 es g n
  call_below b e es h g k n = int_below e h k

  part_below : (e : Expression) (names : List Name) (t : ObjectType) → ExpressionFits (count l) e → PathFits (count l) names →
      first_temporary l + levels e + arguments_in e ≤ m → Below m (part_thrown l e names t)
  part_below e names int_type h g k = int_below e h k
  part_below e names (class_type c) h g k = omega (arith, room, path_below l names g)

  lvalue_below : (e : Expression) (names : Option (List Name)) → ExpressionFits (count l) e → PathFits (count l) (names_of names) →
      first_temporary l + levels e + arguments_in e ≤ m → Below m (lvalue_thrown l e names)
  lvalue_below e None h g k = int_below e h k
  lvalue_below e (Some names) h g k = part_below e names (lvalue_type l names) h g k

  operand_below : (e : Expression) → ExpressionFits (count l) e → first_temporary l + levels e + arguments_in e ≤ m → Below m (operand_thrown l e)
  operand_below (call names es) h k = call_below (callee_bound names) (call names es) es h h.1 k (omega (arith, k))
  operand_below (std_call n es place) h k = call_below n.bound (std_call n es place) es h h k (omega (arith, k))
  operand_below e h k = lvalue_below e (lvalue_of e) h (lvalue_fits l e h) k

  throwing_below : (e : Option Expression) → ValueFits (count l) e → Measured (most_in_value e) → Below m (throwing l e)
  throwing_below None h k = omega arith
  throwing_below (Some e) h k = operand_below e h k

  -- statements without statements in them
  returning_below : (e : Option Expression) (d : ℕ) → ValueFits (count l) e → Measured (most_in_value e) → Below m (returning l e d)
  returning_below None d h k = omega arith
  returning_below (Some e) d h k =
      with_last m (lower_store l e (slot_place (result_slot l)) (first_temporary l)) (leave_region d)
      (store_below l e (slot_place (result_slot l)) m h (omega (arith, room)) k) (omega arith)

  local_below : (b : Bound) → BoundFits (count l) b → slots_of_root (slot_place (variable_slot l (local_number b))).root ≤ m
  local_below (Local n) h = omega (arith, room, h)
  local_below b h = omega (arith, room)

  initialised_below : (n : Name) (e : Option Expression) → BoundFits (count l) n.bound → ValueFits (count l) e → Measured (most_in_value e) → Below m (initialised l n e)
  initialised_below n None b h k = omega arith
  initialised_below n (Some e) b h k = store_below l e (slot_place (variable_slot l (local_number n.bound))) m h (local_below n.bound b) k

  bound_below : (n : Option Name) (p : Place) → NameFits (count l) n → slots_of_root p.root ≤ m → Below m (bound_to l n p)
  bound_below None p h k = omega arith
  bound_below (Some n) p h k = omega (arith, local_below n.bound h, k)

  scoped_below : (t : ObjectType) (p : Place) (rest : ℕ → List Region) (d : ℕ) → slots_of_root p.root ≤ m → Rest rest → Below m (scoped l t p rest d)
  scoped_below int_type p rest d h k = k d
  scoped_below (class_type c) p rest d h k = let row = k (d + 2) in omega (arith, h, row)

  looping_below : (calls : Bool) (x : Lowered) (body : ℕ → List Region) (d : ℕ) → Lies l m x → Rest body → slots_of (looping calls x (λ b. in_order (body b)) d) ≤ m
  looping_below false x body d h k = let row = k (d + 2) in omega (arith, h.value, row)
  looping_below true x body d h k =
      let row = k (d + 4) in
      let whole = with_last m x.before (branch x.value (in_order (body (d + 4))) (leave_region 3)) h.before (omega (arith, h.value, row)) in
      omega (arith, whole)

  -- a handler
  parameter_below : (t : Ty) (n : ℕ) → n < count l → Below m (caught_parameter l t (variable_slot l n))
  parameter_below Int n h = omega (arith, room, h)
  parameter_below (Object k) n h = omega (arith, room, h)
  parameter_below t n h = omega (arith, room, h)

  caught_below : (t : Ty) (n : ℕ) (body : ℕ → List Region) → n < count l → Rest body → Rest (with_caught l t (variable_slot l n) body)
  caught_below (Object k) n body h g d = scoped_below (class_type (class_named k)) (slot_place (variable_slot l n)) body d (omega (arith, room, h)) g
  caught_below t n body h g d = g d

  handler_below : (parameter : List Region) (body : ℕ → List Region) (d : ℕ) → Below m parameter → Rest body → slots_of (handler l parameter body d) ≤ m
  handler_below parameter body d h k = let row = k (d + 2) in behind m parameter _ h (omega (arith, room, row))

  pub nothing_below : Rest nothing_more
  nothing_below d = omega arith

  mutual
    statement_below : (s : Statement) (rest : ℕ → List Region) (i n d : ℕ) → StatementFits (count l) s → n + length (declared_in s) ≤ count l →
        Measured (statement_most s) → Rest rest → Below m (statement l s rest i n d)
    statement_below (block ss) rest i n d h c k r = let row = statements_below ss i n (d + 1) h c k in omega (arith, row, r d)
    statement_below empty rest i n d h c k r = r d
    statement_below (if_else e s t) rest i n d h c k r =
        let x = computed e h.0 (omega (arith, k)) in
        let counted = length-append (declared_in s) (declared_in_else t) in
        let first = statement_below s nothing_more i n (d + 2) h.1 (omega (arith, c, counted)) (omega (arith, k)) nothing_below in
        let second = otherwise_below t i (n + length (declared_in s)) (d + 2) h.2 (omega (arith, c, counted)) (omega (arith, k)) in
        let sides = branch (at_first e).value (in_order (statement l s nothing_more i n (d + 2))) (in_order (otherwise l t i (n + length (declared_in s)) (d + 2))) in
        behind m ((at_first e).before ++ sides ∷ []) (rest d) (with_last m (at_first e).before sides x.before (omega (arith, x.value, first, second))) (r d)
    statement_below (while e s) rest i n d h c k r =
        let loop = looping_below (has_call e) (at_first e) (λ b. statement l s nothing_more (d + 1) n b) d (computed e h.0 (omega (arith, k)))
        (λ b. statement_below s nothing_more (d + 1) n b h.1 c (omega (arith, k)) nothing_below) in
        omega (arith, loop, r d)
    statement_below (return place e) rest i n d h c k r = returning_below e d h k
    statement_below (break place) rest i n d h c k r = omega arith
    statement_below (continue place) rest i n d h c k r = omega arith
    statement_below (throw place e) rest i n d h c k r = throwing_below e h k
    statement_below (try ss hs) rest i n d h c k r =
        let counted = length-append (all_declared_in ss) (declared_in_handlers hs) in
        let body = statements_below ss i n (d + 2) h.0 (omega (arith, c, counted)) (omega (arith, k)) in
        let others = clauses_below hs i (n + length (all_declared_in ss)) (d + 2) h.1 (omega (arith, c, counted)) (omega (arith, k)) in
        omega (arith, body, others, r d)
    statement_below (assign names e) rest i n d h c k r =
        behind m (lower_store l e (place_of l names) (first_temporary l)) (rest d)
        (store_below l e (place_of l names) m h.1 (omega (arith, room, path_below l names h.0)) k) (r d)
    statement_below (evaluate e) rest i n d h c k r = behind m (dropped l e (first_temporary l)) (rest d) (dropped_below l e m h k) (r d)
    statement_below (local_int x e) rest i n d h c k r = behind m (initialised l x e) (rest d) (initialised_below x e h.0 h.1 k) (r d)
    statement_below (local_ref x names) rest i n d h c k r =
        behind m (bound_to l x.name (place_of l names)) (rest d) (bound_below x.name (place_of l names) h.0 (omega (arith, room, path_below l names h.1))) (r d)
    statement_below (local_object o x es) rest i n d h c k r =
        let p = slot_place (variable_slot l (local_number x.bound)) in
        let own = local_below x.bound h.0 in
        behind m (lower_construct l (class_named o) es p (first_temporary l)) (scoped l (class_type (class_named o)) p rest d)
        (constructed_below l (class_named o) es p m h.1 own k) (scoped_below (class_type (class_named o)) p rest d own r)

    otherwise_below : (t : Else) (i n d : ℕ) → ElseFits (count l) t → n + length (declared_in_else t) ≤ count l → Measured (else_most t) → Below m (otherwise l t i n d)
    otherwise_below no_else i n d h c k = omega arith
    otherwise_below (else_do s) i n d h c k = statement_below s nothing_more i n d h c k nothing_below

    pub statements_below : (ss : Statements) (i n d : ℕ) → StatementsFit (count l) ss → n + length (all_declared_in ss) ≤ count l → Measured (statements_most ss) →
        Below m (statements l ss i n d)
    statements_below no_statements i n d h c k = omega arith
    statements_below (statement_then s ss) i n d h c k =
        let counted = length-append (declared_in s) (all_declared_in ss) in
        statement_below s (λ b. statements l ss i (n + length (declared_in s)) b) i n d h.0 (omega (arith, c, counted)) (omega (arith, k))
        (λ b. statements_below ss i (n + length (declared_in s)) b h.1 (omega (arith, c, counted)) (omega (arith, k)))

    clauses_below : (hs : Handlers) (i n d : ℕ) → HandlersFit (count l) hs → n + length (declared_in_handlers hs) ≤ count l → Measured (handlers_most hs) →
        slots_of_clauses (clauses l hs i n d) ≤ m
    clauses_below no_handlers i n d h c k = omega arith
    clauses_below (handler_then None x ss place hs) i n d h c k =
        let counted = length-append (all_declared_in ss) (declared_in_handlers hs) in
        let first = handler_below [] (λ b. statements l ss i n b) d (omega arith) (λ b. statements_below ss i n b h.0 (omega (arith, c, counted)) (omega (arith, k))) in
        let others = clauses_below hs i (n + length (all_declared_in ss)) d h.1 (omega (arith, c, counted)) (omega (arith, k)) in
        omega (arith, room, first, others)
    clauses_below (handler_then (Some t) x ss place hs) i n d h c k =
        let counted = length-append (all_declared_in ss) (declared_in_handlers hs) in
        let s = variable_slot l n in
        let below : n < count l = omega (arith, c) in
        let first = handler_below (caught_parameter l t s) (λ b. with_caught l t s (λ e. statements l ss i (n + 1) e) b) d (parameter_below t n below)
        (caught_below t n (λ e. statements l ss i (n + 1) e) below (λ e. statements_below ss i (n + 1) e h.0 (omega (arith, c, counted)) (omega (arith, k)))) in
        let others = clauses_below hs i (n + 1 + length (all_declared_in ss)) d h.1 (omega (arith, c, counted)) (omega (arith, k)) in
        omega (arith, room, first, others)
