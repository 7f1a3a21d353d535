-- No value of what statements and functions become needs more registers than there are.
use Rattle.std.proofs.Common.{ℕ, ◌+◌, ◌≤◌, ◌==◌, Bool, true, false, List, [], ◌∷◌, ◌++◌, length, Option, Some, None, if◌then◌else◌, arith}
use Rattle.cxx_ast.specs.declared.name.Bound.{Bound}
use Rattle.cxx_ast.specs.declared.name.Bound.TheVariants.{Class, Builtin as BuiltinBound}
use Rattle.cxx_ast.specs.declared.name.Builtin.TheVariants.{BadException}
use Rattle.cxx_ast.specs.declared.name.Name.{Name}
use Rattle.cxx_ast.specs.declared.types.Ty.{Ty}
use Rattle.cxx_ast.specs.declared.types.Ty.TheVariants.{Int, Object}
use Rattle.cxx_ast.specs.declared.declaration.FuncKind.{FuncKind}
use Rattle.cxx_ast.specs.declared.declaration.FuncKind.TheVariants.{Plain, Method, Constructor, Destructor}
use Rattle.cxx_ast.specs.Plain.{Checked, Function, Expression, call, std_call, Expressions, no_expressions, expression_then, Initialiser, Statement, block, empty, if_else, while, return, break, continue, throw, try, assign, evaluate, local_int, local_ref, local_object, Else, no_else, else_do, Statements, no_statements, statement_then, Handlers, no_handlers, handler_then, Specification, listed, noexcept}
use Rattle.meaning_forms.specs.Class.{ObjectType, int_type, class_type, class_named, parts_of}
use Rattle.meaning_forms.specs.Frame.{local_number}
use Rattle.meaning_forms.specs.Call.{initialiser_for, statements_in, place_named}
use Rattle.meaning_forms.specs.Expression.{lvalue_of, callee_bound}
use Rattle.region_forms.specs.Form.{Place, store, Region, op, branch, leave_region, in_order}
use Rattle.region_forms.specs.Numbering.{declared_in, all_declared_in}
use Rattle.region_forms.specs.LowerExpression.{Lowering, result_slot, first_temporary, slot_place, place_of, lvalue_type, has_call, Lowered, lower, dropped, lower_store, lower_construct}
use Rattle.region_forms.specs.LowerStatement.{variable_slot, copied, thrown_place, thrown_as, int_thrown, object_thrown, call_thrown, part_thrown, lvalue_thrown, operand_thrown, throwing, with_value, returning, initialised, bound_to, looping, scoped, caught_parameter, with_caught, handler, nothing_more, statement, otherwise, statements, clauses}
use Rattle.region_forms.specs.LowerProgram.{part_place, limited, build_parts, destroy_parts, default_part, copy_part, initial_part, last_result, body_of}
use Rattle.source_bounds.specs.BuiltinCalls.{CallsFit, AllCallsFit, ValueCallsFit, StatementCallsFit, ElseCallsFit, StatementsCallsFit, HandlersCallsFit, BodyCallsFit, InitialisersCallsFit, FunctionCallsFit}
use Rattle.source_bounds.specs.LeastTokens.{tokens_in, tokens_in_all, tokens_in_value, statement_tokens, else_tokens, statements_tokens, handlers_tokens, initialisers_tokens, body_tokens, function_tokens}
use Rattle.source_bounds.specs.RegisterWeights.{RegionFits, ClausesFit}
use Rattle.source_bounds.proofs.Registers.{AllFit, then_fit, held, valued_fits, dropped_fits, store_fits, built_fits}

module _ (l : Lowering) where
  abbrev Others : (ℕ → List Region) → Type 0
  Others rest = (d : ℕ) → AllFit (rest d)

  abbrev at_first : Expression → Lowered
  at_first e = lower l e (first_temporary l)

  valued : (e : Expression) (p : Place) → tokens_in e ≤ 2000 → CallsFit e → AllFit ((at_first e).before ++ op (store p (at_first e).value) ∷ [])
  valued e p h c = valued_fits l e (first_temporary l) p h c

  stored : (e : Expression) (p : Place) → tokens_in e ≤ 2000 → CallsFit e → AllFit (lower_store l e p (first_temporary l))
  stored e p h c = store_fits l e p (first_temporary l) h c

  -- what is thrown
  thrown : (t : ObjectType) (build : List Region) → AllFit build → AllFit (thrown_as l t build)
  thrown t build h = (tt, (h, (tt, tt)))

  int_fits : (e : Expression) → tokens_in e ≤ 2000 → CallsFit e → AllFit (int_thrown l e)
  int_fits e h c = thrown int_type _ (valued e (thrown_place l) h c)

  object_fits : (k : ℕ) (es : Expressions) → tokens_in_all es ≤ 2000 → AllCallsFit es → AllFit (object_thrown l k es)
  object_fits k es h c = thrown (class_type k) _ (built_fits l k es (thrown_place l) (first_temporary l) h c)

  call_fits : (b : Bound) (e : Expression) (es : Expressions) → tokens_in e ≤ 2000 → CallsFit e → tokens_in_all es ≤ 2000 → AllCallsFit es → AllFit (call_thrown l b e es)
  call_fits (Class k) e es h c i d = object_fits k es i d
  call_fits (BuiltinBound BadException) e es h c i d = object_fits 0 es i d
  call_fits b e es h c i d = int_fits e h c

  part_fits : (e : Expression) (names : List Name) (t : ObjectType) → tokens_in e ≤ 2000 → CallsFit e → AllFit (part_thrown l e names t)
  part_fits e names int_type h c = int_fits e h c
  part_fits e names (class_type k) h c = thrown (class_type k) (copied l k (thrown_place l) (place_of l names) ∷ []) ((tt, tt), tt)

  lvalue_fits : (e : Expression) (names : Option (List Name)) → tokens_in e ≤ 2000 → CallsFit e → AllFit (lvalue_thrown l e names)
  lvalue_fits e None h c = int_fits e h c
  lvalue_fits e (Some names) h c = part_fits e names (lvalue_type l names) h c

  operand_fits : (e : Expression) → tokens_in e ≤ 2000 → CallsFit e → AllFit (operand_thrown l e)
  operand_fits (call names es) h c = call_fits (callee_bound names) (call names es) es h c (omega (arith, h)) c.1
  operand_fits (std_call n es place) h c = call_fits n.bound (std_call n es place) es h c (omega (arith, h)) c.1
  operand_fits e h c = lvalue_fits e (lvalue_of e) h c

  throwing_fits : (e : Option Expression) → tokens_in_value e ≤ 2000 → ValueCallsFit e → AllFit (throwing l e)
  throwing_fits None h c = (tt, tt)
  throwing_fits (Some e) h c = operand_fits e h c

  returning_fits : (e : Option Expression) (d : ℕ) → tokens_in_value e ≤ 2000 → ValueCallsFit e → AllFit (returning l e d)
  returning_fits None d h c = (tt, tt)
  returning_fits (Some e) d h c =
      then_fit (lower_store l e (slot_place (result_slot l)) (first_temporary l)) (leave_region d ∷ []) (stored e (slot_place (result_slot l)) h c) (tt, tt)

  initialised_fits : (x : Name) (e : Option Expression) → tokens_in_value e ≤ 2000 → ValueCallsFit e → AllFit (initialised l x e)
  initialised_fits x None h c = tt
  initialised_fits x (Some e) h c = stored e (slot_place (variable_slot l (local_number x.bound))) h c

  bound_fits : (x : Option Name) (p : Place) → AllFit (bound_to l x p)
  bound_fits None p = tt
  bound_fits (Some n) p = (tt, tt)

  scoped_fits : (t : ObjectType) (p : Place) (rest : ℕ → List Region) (d : ℕ) → Others rest → AllFit (scoped l t p rest d)
  scoped_fits int_type p rest d h = h d
  scoped_fits (class_type k) p rest d h = (h (d + 2), tt)

  parameter_fits : (t : Ty) (s : ℕ) → AllFit (caught_parameter l t s)
  parameter_fits Int s = (omega arith, tt)
  parameter_fits (Object k) s = ((tt, tt), tt)
  parameter_fits t s = (tt, tt)

  caught_fits : (t : Ty) (s : ℕ) (body : ℕ → List Region) → Others body → Others (with_caught l t s body)
  caught_fits (Object k) s body h d = scoped_fits (class_type (class_named k)) (slot_place s) body d h
  caught_fits t s body h d = h d

  handler_fits : (parameter : List Region) (body : ℕ → List Region) (d : ℕ) → AllFit parameter → Others body → RegionFits (handler l parameter body d)
  handler_fits parameter body d h k = then_fit parameter _ h (tt, (k (d + 2), tt))

  looping_fits : (calls : Bool) (e : Expression) (body : ℕ → List Region) (d : ℕ) → tokens_in e ≤ 2000 → CallsFit e → Others body →
      RegionFits (looping calls (at_first e) (λ b. in_order (body b)) d)
  looping_fits false e body d h c k = let x = held l e (first_temporary l) h c in (omega (arith, x.narrow), k (d + 2))
  looping_fits true e body d h c k =
      let x = held l e (first_temporary l) h c in
      (omega arith, then_fit (at_first e).before _ x.before ((omega (arith, x.narrow), k (d + 4), tt), tt))

  nothing_fits : Others nothing_more
  nothing_fits d = tt

  mutual
    statement_fits : (s : Statement) (rest : ℕ → List Region) (i n d : ℕ) → statement_tokens s ≤ 2000 → StatementCallsFit s → Others rest → AllFit (statement l s rest i n d)
    statement_fits (block ss) rest i n d h c r = (statements_fit ss i n (d + 1) (omega (arith, h)) c, r d)
    statement_fits empty rest i n d h c r = r d
    statement_fits (if_else e s t) rest i n d h c r =
        let x = held l e (first_temporary l) (omega (arith, h)) c.0 in
        let first = statement_fits s nothing_more i n (d + 2) (omega (arith, h)) c.1 nothing_fits in
        let second = otherwise_fits t i (n + length (declared_in s)) (d + 2) (omega (arith, h)) c.2 in
        then_fit (with_value (at_first e) (λ v. branch v (in_order (statement l s nothing_more i n (d + 2))) (in_order (otherwise l t i (n + length (declared_in s)) (d + 2))))) (rest d)
        (then_fit (at_first e).before _ x.before ((omega (arith, x.narrow), first, second), tt)) (r d)
    statement_fits (while e s) rest i n d h c r = (
      looping_fits (has_call e) e (λ b. statement l s nothing_more (d + 1) n b) d (omega (arith, h)) c.0
          (λ b. statement_fits s nothing_more (d + 1) n b (omega (arith, h)) c.1 nothing_fits),
      r d,
    )
    statement_fits (return place e) rest i n d h c r = returning_fits e d (omega (arith, h)) c
    statement_fits (break place) rest i n d h c r = (tt, tt)
    statement_fits (continue place) rest i n d h c r = (tt, tt)
    statement_fits (throw place e) rest i n d h c r = throwing_fits e (omega (arith, h)) c
    statement_fits (try ss hs) rest i n d h c r =
        ((statements_fit ss i n (d + 2) (omega (arith, h)) c.0, clauses_fit hs i (n + length (all_declared_in ss)) (d + 2) (omega (arith, h)) c.1), r d)
    statement_fits (assign names e) rest i n d h c r =
        then_fit (lower_store l e (place_of l names) (first_temporary l)) (rest d) (stored e (place_of l names) (omega (arith, h)) c) (r d)
    statement_fits (evaluate e) rest i n d h c r =
        then_fit (dropped l e (first_temporary l)) (rest d) (dropped_fits l e (first_temporary l) (omega (arith, h)) c) (r d)
    statement_fits (local_int x e) rest i n d h c r = then_fit (initialised l x e) (rest d) (initialised_fits x e (omega (arith, h)) c) (r d)
    statement_fits (local_ref x names) rest i n d h c r = then_fit (bound_to l x.name (place_of l names)) (rest d) (bound_fits x.name (place_of l names)) (r d)
    statement_fits (local_object k x es) rest i n d h c r =
        let p = slot_place (variable_slot l (local_number x.bound)) in
        then_fit (lower_construct l (class_named k) es p (first_temporary l)) (scoped l (class_type (class_named k)) p rest d)
        (built_fits l (class_named k) es p (first_temporary l) (omega (arith, h)) c) (scoped_fits (class_type (class_named k)) p rest d r)

    otherwise_fits : (t : Else) (i n d : ℕ) → else_tokens t ≤ 2000 → ElseCallsFit t → AllFit (otherwise l t i n d)
    otherwise_fits no_else i n d h c = tt
    otherwise_fits (else_do s) i n d h c = statement_fits s nothing_more i n d (omega (arith, h)) c nothing_fits

    statements_fit : (ss : Statements) (i n d : ℕ) → statements_tokens ss ≤ 2000 → StatementsCallsFit ss → AllFit (statements l ss i n d)
    statements_fit no_statements i n d h c = tt
    statements_fit (statement_then s ss) i n d h c =
        statement_fits s (λ b. statements l ss i (n + length (declared_in s)) b) i n d (omega (arith, h)) c.0
        (λ b. statements_fit ss i (n + length (declared_in s)) b (omega (arith, h)) c.1)

    clauses_fit : (hs : Handlers) (i n d : ℕ) → handlers_tokens hs ≤ 2000 → HandlersCallsFit hs → ClausesFit (clauses l hs i n d)
    clauses_fit no_handlers i n d h c = tt
    clauses_fit (handler_then None x ss place hs) i n d h c = (
      handler_fits [] (λ b. statements l ss i n b) d tt (λ b. statements_fit ss i n b (omega (arith, h)) c.0),
      clauses_fit hs i (n + length (all_declared_in ss)) d (omega (arith, h)) c.1,
    )
    clauses_fit (handler_then (Some t) x ss place hs) i n d h c =
        let s = variable_slot l n in (
          handler_fits (caught_parameter l t s) (with_caught l t s (λ e. statements l ss i (n + 1) e)) d (parameter_fits t s)
              (caught_fits t s (λ e. statements l ss i (n + 1) e) (λ e. statements_fit ss i (n + 1) e (omega (arith, h)) c.0)),
          clauses_fit hs i (n + 1 + length (all_declared_in ss)) d (omega (arith, h)) c.1,
        )

  -- functions

  built : (k : ℕ) (build : ℕ → ObjectType → List Region) (j : ℕ) (types : List ObjectType) (left : ℕ → List Region) (d : ℕ) →
      ((i : ℕ) (t : ObjectType) → AllFit (build i t)) → Others left → AllFit (build_parts l k build j types left d)
  built k build j [] left d h r = r d
  built k build j (int_type ∷ types) left d h r =
      then_fit (build j int_type) (build_parts l k build (j + 1) types left d) (h j int_type) (built k build (j + 1) types left d h r)
  built k build j (class_type c ∷ types) left d h r = then_fit (build j (class_type c)) _ (h j (class_type c)) (built k build (j + 1) types left (d + 2) h r, tt)

  destroyed : (k j : ℕ) (types : List ObjectType) (body : ℕ → List Region) (d : ℕ) → Others body → AllFit (destroy_parts l k j types body d)
  destroyed k j [] body d r = r d
  destroyed k j (int_type ∷ types) body d r = destroyed k (j + 1) types body d r
  destroyed k j (class_type c ∷ types) body d r = (destroyed k (j + 1) types body (d + 2) r, tt)

  abbrev GivenCallsFit : Option Expressions → Type 0
  GivenCallsFit None = Unit {0}
  GivenCallsFit (Some es) = (tokens_in_all es ≤ 2000) × AllCallsFit es

  found : (p : Checked) (is : List Initialiser) (i : ℕ) → initialisers_tokens is ≤ 2000 → InitialisersCallsFit is → GivenCallsFit (initialiser_for p is i)
  found p [] i h c = tt
  found p (x ∷ is) i h c = go (place_named p x.name.bound == i) (found p is i (omega (arith, h)) c.1)
    where
      go : (b : Bool) → GivenCallsFit (initialiser_for p is i) → GivenCallsFit (if b then Some x.arguments else initialiser_for p is i)
      go true k = (omega (arith, h), c.0)
      go false k = k

  initial : (k j : ℕ) (o : Option Expressions) (t : ObjectType) → GivenCallsFit o → AllFit (initial_part l k j o t)
  initial k j None int_type h = tt
  initial k j None (class_type c) h = (tt, tt)
  initial k j (Some no_expressions) int_type h = (omega arith, tt)
  initial k j (Some (expression_then e es)) int_type h = valued e (part_place l.layout l.program k 0 j) (omega (arith, h.0)) h.1.0
  initial k j (Some es) (class_type c) h = built_fits l c es (part_place l.layout l.program k 0 j) (first_temporary l) h.0 h.1

  default_fits : (k j : ℕ) (t : ObjectType) → AllFit (default_part l k j t)
  default_fits k j int_type = (omega arith, tt)
  default_fits k j (class_type c) = (tt, tt)

  copy_fits : (k j : ℕ) (t : ObjectType) → AllFit (copy_part l k j t)
  copy_fits k j int_type = (omega arith, tt)
  copy_fits k j (class_type c) = ((tt, tt), tt)

  own_fits : (o : Option Statements) (n : ℕ) → body_tokens o ≤ 2000 → BodyCallsFit o → Others (λ e. statements l (statements_in o) 0 n e)
  own_fits None n h c e = tt
  own_fits (Some ss) n h c e = statements_fit ss 0 n e (omega (arith, h)) c

  bodied : (kind : FuncKind) (k : ℕ) (f : Function) (d : ℕ) → function_tokens f ≤ 2000 → FunctionCallsFit f → AllFit (body_of l kind k f d)
  bodied Constructor k f d h c =
      built k (λ j. initial_part l k j (initialiser_for l.program f.initialisers j)) 0 (parts_of l.program k) (λ e. statements l (statements_in f.body) 0 (length f.parameters) e) d
      (λ j t. initial k j (initialiser_for l.program f.initialisers j) t (found l.program f.initialisers j (omega (arith, h)) c.initialisers))
      (own_fits f.body (length f.parameters) (omega (arith, h)) c.body)
  bodied Destructor k f d h c =
      destroyed k 0 (parts_of l.program k) (λ e. statements l (statements_in f.body) 0 (length f.parameters) e) d (own_fits f.body (length f.parameters) (omega (arith, h)) c.body)
  bodied Plain k f d h c = own_fits f.body (length f.parameters) (omega (arith, h)) c.body d
  bodied Method k f d h c = own_fits f.body (length f.parameters) (omega (arith, h)) c.body d

  limited_fits : (o : Option Specification) (act : ℕ → List Region) (d : ℕ) → Others act → RegionFits (limited l o act d)
  limited_fits None act d r = r (d + 1)
  limited_fits (Some (listed types)) act d r = r (d + 2)
  limited_fits (Some (noexcept place b)) act d r = (r (d + 2), ((tt, ((tt, tt), tt)), tt))

  last_fits : (is_main : Bool) → AllFit (last_result l is_main)
  last_fits false = tt
  last_fits true = (omega arith, tt)

  pub body_fits : (is_main : Bool) (k : ℕ) (f : Function) → function_tokens f ≤ 2000 → FunctionCallsFit f →
      RegionFits (in_order (limited l f.specification (body_of l f.kind k f) 1 ∷ last_result l is_main))
  body_fits is_main k f h c =
      (limited_fits f.specification (body_of l f.kind k f) 1 (λ d. bodied f.kind k f d h c), last_fits is_main)

  pub default_whole_fits : (is_declared : Bool) (k : ℕ) → RegionFits (in_order (if is_declared then [] else build_parts l k (default_part l k) 0 (parts_of l.program k) nothing_more 1))
  default_whole_fits true k = tt
  default_whole_fits false k = built k (default_part l k) 0 (parts_of l.program k) nothing_more 1 (default_fits k) nothing_fits

  pub copy_whole_fits : (k : ℕ) → RegionFits (in_order (build_parts l k (copy_part l k) 0 (parts_of l.program k) nothing_more 1))
  copy_whole_fits k = built k (copy_part l k) 0 (parts_of l.program k) nothing_more 1 (copy_fits k) nothing_fits

  pub destructor_whole_fits : (k : ℕ) → RegionFits (in_order (destroy_parts l k 0 (parts_of l.program k) nothing_more 1))
  destructor_whole_fits k = destroyed k 0 (parts_of l.program k) nothing_more 1 nothing_fits
