-- So it is with statements and functions.
use Rattle.std.proofs.Common.{ℕ, ◌+◌, ◌*◌, ◌≤◌, ◌==◌, Bool, true, false, List, [], ◌∷◌, ◌++◌, length, Option, Some, None, if◌then◌else◌, refl, arith}
use Rattle.cxx_ast.specs.declared.name.Bound.{Bound}
use Rattle.cxx_ast.specs.declared.name.Bound.TheVariants.{Class, Builtin as BuiltinBound}
use Rattle.cxx_ast.specs.declared.name.Builtin.TheVariants.{BadException}
use Rattle.cxx_ast.specs.declared.name.Name.{Name}
use Rattle.cxx_ast.specs.declared.types.Ty.{Ty}
use Rattle.cxx_ast.specs.declared.types.Ty.TheVariants.{Int, Object}
use Rattle.cxx_ast.specs.declared.declaration.FuncKind.{FuncKind}
use Rattle.cxx_ast.specs.declared.declaration.FuncKind.TheVariants.{Plain, Method, Constructor, Destructor}
use Rattle.cxx_ast.specs.Plain.{Checked, Function, Specification, listed, noexcept, Expression, call, std_call, Expressions, no_expressions, expression_then, Initialiser, Statement, block, empty, if_else, while, return, break, continue, throw, try, assign, evaluate, local_int, local_ref, local_object, Else, no_else, else_do, Statements, no_statements, statement_then, Handlers, no_handlers, handler_then}
use Rattle.meaning_forms.specs.Class.{ObjectType, int_type, class_type, class_named, parts_of}
use Rattle.meaning_forms.specs.Frame.{local_number}
use Rattle.meaning_forms.specs.Call.{initialiser_for, statements_in, place_named}
use Rattle.meaning_forms.specs.Expression.{lvalue_of, callee_bound}
use Rattle.region_forms.specs.Form.{Place, Region, Clauses, enter, leave_handler, store, op, branch, protect, leave_region, in_order}
use Rattle.region_forms.specs.Numbering.{declared_in, all_declared_in}
use Rattle.region_forms.specs.LowerExpression.{exception_slot, Lowering, result_slot, first_temporary, slot_place, place_of, lvalue_type, has_call, Lowered, lower, dropped, lower_store, lower_construct}
use Rattle.region_forms.specs.LowerStatement.{variable_slot, copied, thrown_place, thrown_as, int_thrown, object_thrown, call_thrown, part_thrown, lvalue_thrown, operand_thrown, throwing, returning, initialised, bound_to, looping, scoped, caught_parameter, with_caught, handler, nothing_more, statement, otherwise, statements, clauses}
use Rattle.region_forms.specs.LowerProgram.{part_place, limited, build_parts, destroy_parts, default_part, copy_part, initial_part, last_result, body_of}
use Rattle.address_bounds.specs.Everywhere.{RegionAll, ClausesAll, holders, holders_clauses}
use Rattle.operation_premises.specs.Ints.{ints}
use Rattle.source_bounds.specs.LeastTokens.{tokens_in, tokens_in_all, tokens_in_value, statement_tokens, else_tokens, statements_tokens, handlers_tokens, initialisers_tokens, body_tokens, function_tokens}
use Rattle.checked_units.specs.Literals.{LiteralsIn, AllLiterals, ValueLiterals, StatementLiterals, ElseLiterals, StatementsLiterals, HandlersLiterals, BodyLiterals, InitialisersLiterals, FunctionLiterals}
use Rattle.checked_units.proofs.Expressions.{Good, then_good, none_good, held, valued, dropped_good, store_good, built_good}

-- one region
abbrev pub One : ℕ → Region → Type 0
One n r = RegionAll ints r × (holders r ≤ n)

abbrev AreFew : ℕ → Clauses → Type 0
AreFew n cs = ClausesAll ints cs × (holders_clauses cs ≤ n)

module _ (l : Lowering) where
  abbrev Others : ℕ → (ℕ → List Region) → Type 0
  Others n rest = (d : ℕ) → Good n (rest d)

  abbrev at_first : Expression → Lowered
  at_first e = lower l e (first_temporary l)

  stored : (e : Expression) (p : Place) → LiteralsIn e → Good (3 * tokens_in e) ((at_first e).before ++ op (store p (at_first e).value) ∷ [])
  stored e p h = valued l e (first_temporary l) p h

  placed : (e : Expression) (p : Place) → LiteralsIn e → Good (3 * tokens_in e) (lower_store l e p (first_temporary l))
  placed e p h = store_good l e p (first_temporary l) h

  -- what is thrown
  thrown : (n m : ℕ) (t : ObjectType) (build : List Region) → Good n build → n + 2 ≤ m → Good m (thrown_as l t build)
  thrown n m t build h le = ((tt, ((h.0, tt), (tt, tt))), omega (arith, h.1, le))

  int_good : (e : Expression) → LiteralsIn e → Good (3 * tokens_in e + 3) (int_thrown l e)
  int_good e h = thrown (3 * tokens_in e) (3 * tokens_in e + 3) int_type _ (stored e (thrown_place l) h) (omega arith)

  object_good : (k n : ℕ) (es : Expressions) → AllLiterals es → 3 * tokens_in_all es + 2 ≤ n → Good n (object_thrown l k es)
  object_good k n es h le = thrown (3 * tokens_in_all es) n (class_type k) _ (built_good l k es (thrown_place l) (first_temporary l) h) le

  call_good : (b : Bound) (e : Expression) (es : Expressions) → LiteralsIn e → AllLiterals es → tokens_in_all es ≤ tokens_in e → Good (3 * tokens_in e + 3) (call_thrown l b e es)
  call_good (Class k) e es h i le = object_good k (3 * tokens_in e + 3) es i (omega (arith, le))
  call_good (BuiltinBound BadException) e es h i le = object_good 0 (3 * tokens_in e + 3) es i (omega (arith, le))
  call_good b e es h i le = int_good e h

  part_good : (e : Expression) (names : List Name) (t : ObjectType) → LiteralsIn e → Good (3 * tokens_in e + 3) (part_thrown l e names t)
  part_good e names int_type h = int_good e h
  part_good e names (class_type k) h = thrown 1 (3 * tokens_in e + 3) (class_type k) (copied l k (thrown_place l) (place_of l names) ∷ []) (((tt, tt), tt), omega arith) (omega arith)

  lvalue_good : (e : Expression) (names : Option (List Name)) → LiteralsIn e → Good (3 * tokens_in e + 3) (lvalue_thrown l e names)
  lvalue_good e None h = int_good e h
  lvalue_good e (Some names) h = part_good e names (lvalue_type l names) h

  operand_good : (e : Expression) → LiteralsIn e → Good (3 * tokens_in e + 3) (operand_thrown l e)
  operand_good (call names es) h = call_good (callee_bound names) (call names es) es h h (omega arith)
  operand_good (std_call n es place) h = call_good n.bound (std_call n es place) es h h (omega arith)
  operand_good e h = lvalue_good e (lvalue_of e) h

  throwing_good : (e : Option Expression) → ValueLiterals e → Good (3 * tokens_in_value e + 3) (throwing l e)
  throwing_good None h = ((tt, tt), omega arith)
  throwing_good (Some e) h = operand_good e h

  returning_good : (e : Option Expression) (d : ℕ) → ValueLiterals e → Good (3 * tokens_in_value e) (returning l e d)
  returning_good None d h = ((tt, tt), omega arith)
  returning_good (Some e) d h =
      then_good (3 * tokens_in e) 0 (3 * tokens_in e) (lower_store l e (slot_place (result_slot l)) (first_temporary l)) (leave_region d ∷ [])
      (placed e (slot_place (result_slot l)) h) ((tt, tt), omega arith) (omega arith)

  initialised_good : (x : Name) (e : Option Expression) → ValueLiterals e → Good (3 * tokens_in_value e) (initialised l x e)
  initialised_good x None h = none_good 0
  initialised_good x (Some e) h = placed e (slot_place (variable_slot l (local_number x.bound))) h

  bound_good : (x : Option Name) (p : Place) → Good 0 (bound_to l x p)
  bound_good None p = none_good 0
  bound_good (Some n) p = ((tt, tt), omega arith)

  scoped_good : (n : ℕ) (t : ObjectType) (p : Place) (rest : ℕ → List Region) (d : ℕ) → Others n rest → Good (n + 2) (scoped l t p rest d)
  scoped_good n int_type p rest d h = let x = h d in (x.0, omega (arith, x.1))
  scoped_good n (class_type k) p rest d h = let x = h (d + 2) in (((x.0, tt), tt), omega (arith, x.1))

  parameter_good : (t : Ty) (s : ℕ) → Good 1 (caught_parameter l t s)
  parameter_good Int s = ((tt, tt), omega arith)
  parameter_good (Object k) s = (((tt, tt), tt), omega arith)
  parameter_good t s = ((tt, tt), omega arith)

  caught_good : (n : ℕ) (t : Ty) (s : ℕ) (body : ℕ → List Region) → Others n body → Others (n + 2) (with_caught l t s body)
  caught_good n (Object k) s body h d = scoped_good n (class_type (class_named k)) (slot_place s) body d h
  caught_good n t s body h d = let x = h d in (x.0, omega (arith, x.1))

  handler_good : (n : ℕ) (parameter : List Region) (body : ℕ → List Region) (d : ℕ) → Good 1 parameter → Others n body → One (n + 4) (handler l parameter body d)
  handler_good n parameter body d h k =
      let inside = k (d + 2) in
      let rest = op (enter (exception_slot l)) ∷ protect (in_order (body (d + 2))) leave_handler ∷ [] in
      let all : Good (n + 3) (parameter ++ rest) = then_good 1 (n + 2) (n + 3) parameter rest h ((tt, ((inside.0, tt), tt)), omega (arith, inside.1)) (omega arith) in
      (all.0, omega (arith, all.1))

  looping_good : (n : ℕ) (calls : Bool) (e : Expression) (body : ℕ → List Region) (d : ℕ) → LiteralsIn e → Others n body →
      One (n + 3 * tokens_in e + 4) (looping calls (at_first e) (λ b. in_order (body b)) d)
  looping_good n false e body d h k = let x = held l e (first_temporary l) h in let inside = k (d + 2) in ((x.1, inside.0), omega (arith, inside.1))
  looping_good n true e body d h k =
      let x = held l e (first_temporary l) h in
      let inside = k (d + 4) in
      let rest = branch (at_first e).value (in_order (body (d + 4))) (leave_region 3) ∷ [] in
      let all : Good (n + 2 + 3 * tokens_in e) ((at_first e).before ++ rest) =
      then_good (3 * tokens_in e) (n + 2) (n + 2 + 3 * tokens_in e) (at_first e).before rest x.0 (((x.1, inside.0, tt), tt), omega (arith, inside.1)) (omega arith) in
      ((refl, all.0), omega (arith, all.1))

  nothing_good : Others 0 nothing_more
  nothing_good d = none_good 0

  mutual
    statement_good : (s : Statement) (rest : ℕ → List Region) (i n d r : ℕ) → StatementLiterals s → Others r rest → Good (3 * statement_tokens s + r) (statement l s rest i n d)
    statement_good (block ss) rest i n d r h k =
        let x = statements_good ss i n (d + 1) h in let y = k d in ((x.0, y.0), omega (arith, x.1, y.1))
    statement_good empty rest i n d r h k = let y = k d in (y.0, omega (arith, y.1))
    statement_good (if_else e s t) rest i n d r h k =
        let x = held l e (first_temporary l) h.0 in
        let first = statement_good s nothing_more i n (d + 2) 0 h.1 nothing_good in
        let second = otherwise_good t i (n + length (declared_in s)) (d + 2) h.2 in
        let sides = branch (at_first e).value (in_order (statement l s nothing_more i n (d + 2))) (in_order (otherwise l t i (n + length (declared_in s)) (d + 2))) ∷ [] in
        let m = 3 * statement_tokens (if_else e s t) in
        let branched : Good m ((at_first e).before ++ sides) =
        then_good (3 * tokens_in e) (3 * statement_tokens s + 3 * else_tokens t + 3) m (at_first e).before sides x.0 (((x.1, first.0, second.0), tt), omega (arith, first.1, second.1)) (omega arith) in
        then_good m r (m + r) ((at_first e).before ++ sides) (rest d) branched (k d) (omega arith)
    statement_good (while e s) rest i n d r h k =
        let x = looping_good (3 * statement_tokens s) (has_call e) e (λ b. statement l s nothing_more (d + 1) n b) d h.0
        (λ b. let y = statement_good s nothing_more (d + 1) n b 0 h.1 nothing_good in (y.0, omega (arith, y.1))) in
        let y = k d in
        ((x.0, y.0), omega (arith, x.1, y.1))
    statement_good (return place e) rest i n d r h k = let x = returning_good e d h in (x.0, omega (arith, x.1))
    statement_good (break place) rest i n d r h k = ((tt, tt), omega arith)
    statement_good (continue place) rest i n d r h k = ((tt, tt), omega arith)
    statement_good (throw place e) rest i n d r h k = let x = throwing_good e h in (x.0, omega (arith, x.1))
    statement_good (try ss hs) rest i n d r h k =
        let x = statements_good ss i n (d + 2) h.0 in
        let z = clauses_good hs i (n + length (all_declared_in ss)) (d + 2) h.1 in
        let y = k d in
        (((x.0, z.0), y.0), omega (arith, x.1, z.1, y.1))
    statement_good (assign names e) rest i n d r h k =
        then_good (3 * tokens_in e) r (3 * statement_tokens (assign names e) + r) (lower_store l e (place_of l names) (first_temporary l)) (rest d)
        (placed e (place_of l names) h) (k d) (omega arith)
    statement_good (evaluate e) rest i n d r h k =
        then_good (3 * tokens_in e) r (3 * statement_tokens (evaluate e) + r) (dropped l e (first_temporary l)) (rest d) (dropped_good l e (first_temporary l) h) (k d) (omega arith)
    statement_good (local_int x e) rest i n d r h k =
        then_good (3 * tokens_in_value e) r (3 * statement_tokens (local_int x e) + r) (initialised l x e) (rest d) (initialised_good x e h) (k d) (omega arith)
    statement_good (local_ref x names) rest i n d r h k =
        then_good 0 r (3 * statement_tokens (local_ref x names) + r) (bound_to l x.name (place_of l names)) (rest d) (bound_good x.name (place_of l names)) (k d) (omega arith)
    statement_good (local_object c x es) rest i n d r h k =
        let p = slot_place (variable_slot l (local_number x.bound)) in
        then_good (3 * tokens_in_all es) (r + 2) (3 * statement_tokens (local_object c x es) + r) (lower_construct l (class_named c) es p (first_temporary l))
        (scoped l (class_type (class_named c)) p rest d)
        (built_good l (class_named c) es p (first_temporary l) h) (scoped_good r (class_type (class_named c)) p rest d k) (omega arith)

    otherwise_good : (t : Else) (i n d : ℕ) → ElseLiterals t → Good (3 * else_tokens t) (otherwise l t i n d)
    otherwise_good no_else i n d h = none_good 0
    otherwise_good (else_do s) i n d h = let x = statement_good s nothing_more i n d 0 h nothing_good in (x.0, omega (arith, x.1))

    statements_good : (ss : Statements) (i n d : ℕ) → StatementsLiterals ss → Good (3 * statements_tokens ss) (statements l ss i n d)
    statements_good no_statements i n d h = none_good 0
    statements_good (statement_then s ss) i n d h =
        let x = statement_good s (λ b. statements l ss i (n + length (declared_in s)) b) i n d (3 * statements_tokens ss) h.0
        (λ b. statements_good ss i (n + length (declared_in s)) b h.1) in
        (x.0, omega (arith, x.1))

    clauses_good : (hs : Handlers) (i n d : ℕ) → HandlersLiterals hs → AreFew (3 * handlers_tokens hs) (clauses l hs i n d)
    clauses_good no_handlers i n d h = (tt, omega arith)
    clauses_good (handler_then None x ss place hs) i n d h =
        let a = handler_good (3 * statements_tokens ss) [] (λ b. statements l ss i n b) d (none_good 1) (λ b. statements_good ss i n b h.0) in
        let z = clauses_good hs i (n + length (all_declared_in ss)) d h.1 in
        ((tt, a.0, z.0), omega (arith, a.1, z.1))
    clauses_good (handler_then (Some t) x ss place hs) i n d h =
        let s = variable_slot l n in
        let a = handler_good (3 * statements_tokens ss + 2) (caught_parameter l t s) (with_caught l t s (λ e. statements l ss i (n + 1) e)) d (parameter_good t s)
        (caught_good (3 * statements_tokens ss) t s (λ e. statements l ss i (n + 1) e) (λ e. statements_good ss i (n + 1) e h.0)) in
        let z = clauses_good hs i (n + 1 + length (all_declared_in ss)) d h.1 in
        ((tt, a.0, z.0), omega (arith, a.1, z.1))

  -- functions; a part has at most 6,000 regions that hold others

  built : (k : ℕ) (build : ℕ → ObjectType → List Region) (j r : ℕ) (types : List ObjectType) (left : ℕ → List Region) (d : ℕ) →
      ((i : ℕ) (t : ObjectType) → Good 6000 (build i t)) → Others r left → Good (6002 * length types + r) (build_parts l k build j types left d)
  built k build j r [] left d h o = let x = o d in (x.0, omega (arith, x.1))
  built k build j r (int_type ∷ types) left d h o =
      then_good 6000 (6002 * length types + r) (6002 * length (int_type ∷ types) + r) (build j int_type) (build_parts l k build (j + 1) types left d) (h j int_type)
      (built k build (j + 1) r types left d h o) (omega arith)
  built k build j r (class_type c ∷ types) left d h o =
      let rest = built k build (j + 1) r types left (d + 2) h o in
      then_good 6000 (6002 * length types + r + 2) (6002 * length (class_type c ∷ types) + r) (build j (class_type c)) _ (h j (class_type c)) (((rest.0, tt), tt), omega (arith, rest.1)) (omega arith)

  destroyed : (k j r : ℕ) (types : List ObjectType) (body : ℕ → List Region) (d : ℕ) → Others r body → Good (2 * length types + r) (destroy_parts l k j types body d)
  destroyed k j r [] body d o = let x = o d in (x.0, omega (arith, x.1))
  destroyed k j r (int_type ∷ types) body d o = let x = destroyed k (j + 1) r types body d o in (x.0, omega (arith, x.1))
  destroyed k j r (class_type c ∷ types) body d o = let x = destroyed k (j + 1) r types body (d + 2) o in (((x.0, tt), tt), omega (arith, x.1))

  abbrev GivenLiterals : Option Expressions → Type 0
  GivenLiterals None = Unit {0}
  GivenLiterals (Some es) = (tokens_in_all es ≤ 2000) × AllLiterals es

  found : (p : Checked) (is : List Initialiser) (i : ℕ) → initialisers_tokens is ≤ 2000 → InitialisersLiterals is → GivenLiterals (initialiser_for p is i)
  found p [] i h c = tt
  found p (x ∷ is) i h c = go (place_named p x.name.bound == i) (found p is i (omega (arith, h)) c.1)
    where
      go : (b : Bool) → GivenLiterals (initialiser_for p is i) → GivenLiterals (if b then Some x.arguments else initialiser_for p is i)
      go true k = (omega (arith, h), c.0)
      go false k = k

  initial : (k j : ℕ) (o : Option Expressions) (t : ObjectType) → GivenLiterals o → Good 6000 (initial_part l k j o t)
  initial k j None int_type h = none_good 6000
  initial k j None (class_type c) h = ((tt, tt), omega arith)
  initial k j (Some no_expressions) int_type h = ((refl, tt), omega arith)
  initial k j (Some (expression_then e es)) int_type h = let x = stored e (part_place l.layout l.program k 0 j) h.1.0 in (x.0, omega (arith, x.1, h.0))
  initial k j (Some es) (class_type c) h = let x = built_good l c es (part_place l.layout l.program k 0 j) (first_temporary l) h.1 in (x.0, omega (arith, x.1, h.0))

  default_good : (k j : ℕ) (t : ObjectType) → Good 6000 (default_part l k j t)
  default_good k j int_type = ((refl, tt), omega arith)
  default_good k j (class_type c) = ((tt, tt), omega arith)

  copy_good : (k j : ℕ) (t : ObjectType) → Good 6000 (copy_part l k j t)
  copy_good k j int_type = ((tt, tt), omega arith)
  copy_good k j (class_type c) = (((tt, tt), tt), omega arith)

  own_good : (o : Option Statements) (n : ℕ) → BodyLiterals o → Others (3 * body_tokens o) (λ e. statements l (statements_in o) 0 n e)
  own_good None n h e = none_good 6
  own_good (Some ss) n h e = let x = statements_good ss 0 n e h in (x.0, omega (arith, x.1))

  bodied : (kind : FuncKind) (k : ℕ) (f : Function) (d : ℕ) → length (parts_of l.program k) ≤ 256 → function_tokens f ≤ 2000 → FunctionLiterals f → Good 1600000 (body_of l kind k f d)
  bodied Constructor k f d parts few c =
      let x = built k (λ j. initial_part l k j (initialiser_for l.program f.initialisers j)) 0 (3 * body_tokens f.body) (parts_of l.program k)
      (λ e. statements l (statements_in f.body) 0 (length f.parameters) e) d
      (λ j t. initial k j (initialiser_for l.program f.initialisers j) t (found l.program f.initialisers j (omega (arith, few)) c.initialisers))
      (own_good f.body (length f.parameters) c.body) in
      (x.0, omega (arith, x.1, parts, few))
  bodied Destructor k f d parts few c =
      let x = destroyed k 0 (3 * body_tokens f.body) (parts_of l.program k) (λ e. statements l (statements_in f.body) 0 (length f.parameters) e) d (own_good f.body (length f.parameters) c.body) in
      (x.0, omega (arith, x.1, parts, few))
  bodied Plain k f d parts few c = let x = own_good f.body (length f.parameters) c.body d in (x.0, omega (arith, x.1, few))
  bodied Method k f d parts few c = let x = own_good f.body (length f.parameters) c.body d in (x.0, omega (arith, x.1, few))

  limited_good : (n : ℕ) (o : Option Specification) (act : ℕ → List Region) (d : ℕ) → Others n act → One (n + 6) (limited l o act d)
  limited_good n None act d r = let x = r (d + 1) in (x.0, omega (arith, x.1))
  limited_good n (Some (listed types)) act d r = let x = r (d + 2) in (x.0, omega (arith, x.1))
  limited_good n (Some (noexcept place b)) act d r = let x = r (d + 2) in ((x.0, (tt, (tt, (((tt, tt), tt), tt)), tt)), omega (arith, x.1))

  last_good : (is_main : Bool) → Good 0 (last_result l is_main)
  last_good false = none_good 0
  last_good true = ((refl, tt), omega arith)

  pub body_good : (is_main : Bool) (k : ℕ) (f : Function) → length (parts_of l.program k) ≤ 256 → function_tokens f ≤ 2000 → FunctionLiterals f →
      One 1600010 (in_order (limited l f.specification (body_of l f.kind k f) 1 ∷ last_result l is_main))
  body_good is_main k f parts few c =
      let x = limited_good 1600000 f.specification (body_of l f.kind k f) 1 (λ d. bodied f.kind k f d parts few c) in
      let y = last_good is_main in
      ((x.0, y.0), omega (arith, x.1, y.1))

  pub default_whole_good : (is_declared : Bool) (k : ℕ) → length (parts_of l.program k) ≤ 256 →
      One 1600010 (in_order (if is_declared then [] else build_parts l k (default_part l k) 0 (parts_of l.program k) nothing_more 1))
  default_whole_good true k parts = (tt, omega arith)
  default_whole_good false k parts = let x = built k (default_part l k) 0 0 (parts_of l.program k) nothing_more 1 (default_good k) nothing_good in (x.0, omega (arith, x.1, parts))

  pub copy_whole_good : (k : ℕ) → length (parts_of l.program k) ≤ 256 → One 1600010 (in_order (build_parts l k (copy_part l k) 0 (parts_of l.program k) nothing_more 1))
  copy_whole_good k parts = let x = built k (copy_part l k) 0 0 (parts_of l.program k) nothing_more 1 (copy_good k) nothing_good in (x.0, omega (arith, x.1, parts))

  pub destructor_whole_good : (k : ℕ) → length (parts_of l.program k) ≤ 256 → One 1600010 (in_order (destroy_parts l k 0 (parts_of l.program k) nothing_more 1))
  destructor_whole_good k parts = let x = destroyed k 0 0 (parts_of l.program k) nothing_more 1 nothing_good in (x.0, omega (arith, x.1, parts))
