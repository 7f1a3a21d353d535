-- So it is with statements and functions.
use Rattle.std.proofs.Common.{ℕ, ◌+◌, ◌==◌, Bool, true, false, List, [], ◌∷◌, ◌++◌, length, Option, Some, None, if◌then◌else◌}
use Rattle.cxx_ast.specs.declared.name.Bound.{Bound}
use Rattle.cxx_ast.specs.declared.name.Bound.TheVariants.{Class, Builtin as BuiltinBound}
use Rattle.cxx_ast.specs.declared.name.Builtin.TheVariants.{BadException}
use Rattle.cxx_ast.specs.declared.name.Name.{Name}
use Rattle.cxx_ast.specs.declared.types.Ty.{Ty}
use Rattle.cxx_ast.specs.declared.types.Ty.TheVariants.{Int, Object}
use Rattle.cxx_ast.specs.declared.declaration.FuncKind.{FuncKind}
use Rattle.cxx_ast.specs.declared.declaration.FuncKind.TheVariants.{Plain, Method, Constructor, Destructor}
use Rattle.cxx_ast.specs.Plain.{Checked, Function, Specification, listed, noexcept, Expression, number, path, paren, unary, binary, call, std_call, Expressions, no_expressions, expression_then, Statement, block, empty, if_else, while, return, break, continue, throw, try, assign, evaluate, local_int, local_ref, local_object, Else, no_else, else_do, Statements, no_statements, statement_then, Handlers, no_handlers, handler_then, Initialiser}
use Rattle.meaning_forms.specs.Class.{ObjectType, int_type, class_type, class_named, parts_of}
use Rattle.meaning_forms.specs.Frame.{local_number}
use Rattle.meaning_forms.specs.Call.{place_named, initialiser_for, statements_in}
use Rattle.meaning_forms.specs.Expression.{lvalue_of, callee_bound}
use Rattle.region_forms.specs.Form.{Place, Region, enter, leave_handler, store, op, branch, protect, leave_region, in_order}
use Rattle.region_forms.specs.Numbering.{declared_in, all_declared_in}
use Rattle.region_forms.specs.LowerExpression.{exception_slot, Lowering, result_slot, first_temporary, slot_place, place_of, lvalue_type, has_call, Lowered, lower, dropped, lower_store, lower_construct}
use Rattle.region_forms.specs.LowerStatement.{variable_slot, copied, thrown_place, thrown_as, int_thrown, object_thrown, call_thrown, part_thrown, lvalue_thrown, operand_thrown, throwing, returning, initialised, bound_to, looping, scoped, caught_parameter, with_caught, handler, nothing_more, statement, otherwise, statements, clauses}
use Rattle.region_forms.specs.LowerProgram.{part_place, limited, build_parts, destroy_parts, default_part, copy_part, initial_part, last_result, body_of}
use Rattle.address_bounds.specs.Everywhere.{RegionAll, ClausesAll}
use Rattle.builtin_calls.proofs.Trees.{AllFit, IsValued, WhereValued, StatementFits, ElseFits, StatementsFit, HandlersFit, BodyFits, InitialisersFit, FunctionFits}
use Rattle.builtin_calls.proofs.Lowered.{gives, Good, then_good, held, valued, dropped_good, store_good, built_good}

-- one region
abbrev pub One : Region → Type 0
One r = RegionAll gives r

-- the arguments of an initialiser, where there is one
abbrev WhereAllFit : Option Expressions → Type 0
WhereAllFit None = Unit {0}
WhereAllFit (Some es) = AllFit es

found_initialiser : (p : Checked) (is : List Initialiser) (j : ℕ) → InitialisersFit is → WhereAllFit (initialiser_for p is j)
found_initialiser p [] j h = tt
found_initialiser p (x ∷ is) j h = go (place_named p x.name.bound == j) (found_initialiser p is j h.1)
  where
    go : (b : Bool) → WhereAllFit (initialiser_for p is j) → WhereAllFit (if b then Some x.arguments else initialiser_for p is j)
    go true k = h.0
    go false k = k

statements_there : (o : Option Statements) → BodyFits o → StatementsFit (statements_in o)
statements_there None h = tt
statements_there (Some ss) h = h

module _ (l : Lowering) where
  abbrev Others : (ℕ → List Region) → Type 0
  Others rest = (d : ℕ) → Good (rest d)

  abbrev at_first : Expression → Lowered
  at_first e = lower l e (first_temporary l)

  stored : (e : Expression) (p : Place) → IsValued e → Good ((at_first e).before ++ op (store p (at_first e).value) ∷ [])
  stored e p f = valued l e (first_temporary l) p f

  placed : (e : Expression) (p : Place) → IsValued e → Good (lower_store l e p (first_temporary l))
  placed e p f = store_good l e p (first_temporary l) f

  -- what is thrown
  thrown : (t : ObjectType) (build : List Region) → Good build → Good (thrown_as l t build)
  thrown t build h = (tt, ((h, tt), (tt, tt)))

  int_good : (e : Expression) → IsValued e → Good (int_thrown l e)
  int_good e f = thrown int_type _ (stored e (thrown_place l) f)

  object_good : (k : ℕ) (es : Expressions) → AllFit es → Good (object_thrown l k es)
  object_good k es f = thrown (class_type k) _ (built_good l k es (thrown_place l) (first_temporary l) f)

  call_good : (b : Bound) (e : Expression) (es : Expressions) → IsValued e → AllFit es → Good (call_thrown l b e es)
  call_good (Class k) e es f a = object_good k es a
  call_good (BuiltinBound BadException) e es f a = object_good 0 es a
  call_good b e es f a = int_good e f

  part_good : (e : Expression) (names : List Name) (t : ObjectType) → IsValued e → Good (part_thrown l e names t)
  part_good e names int_type f = int_good e f
  part_good e names (class_type k) f = thrown (class_type k) (copied l k (thrown_place l) (place_of l names) ∷ []) (tt, tt)

  lvalue_good : (e : Expression) (names : Option (List Name)) → IsValued e → Good (lvalue_thrown l e names)
  lvalue_good e None f = int_good e f
  lvalue_good e (Some names) f = part_good e names (lvalue_type l names) f

  operand_good : (e : Expression) → IsValued e → Good (operand_thrown l e)
  operand_good (call names es) f = call_good (callee_bound names) (call names es) es f f.0.1
  operand_good (std_call n es place) f = call_good n.bound (std_call n es place) es f f.0.1
  operand_good (number v place) f = lvalue_good (number v place) (lvalue_of (number v place)) f
  operand_good (path names) f = lvalue_good (path names) (lvalue_of (path names)) f
  operand_good (paren e place) f = lvalue_good (paren e place) (lvalue_of (paren e place)) f
  operand_good (unary o e place) f = lvalue_good (unary o e place) (lvalue_of (unary o e place)) f
  operand_good (binary o a b) f = lvalue_good (binary o a b) (lvalue_of (binary o a b)) f

  throwing_good : (e : Option Expression) → WhereValued e → Good (throwing l e)
  throwing_good None f = (tt, tt)
  throwing_good (Some e) f = operand_good e f

  returning_good : (e : Option Expression) (d : ℕ) → WhereValued e → Good (returning l e d)
  returning_good None d f = (tt, tt)
  returning_good (Some e) d f = then_good (lower_store l e (slot_place (result_slot l)) (first_temporary l)) (leave_region d ∷ []) (placed e (slot_place (result_slot l)) f) (tt, tt)

  initialised_good : (x : Name) (e : Option Expression) → WhereValued e → Good (initialised l x e)
  initialised_good x None f = tt
  initialised_good x (Some e) f = placed e (slot_place (variable_slot l (local_number x.bound))) f

  bound_good : (x : Option Name) (p : Place) → Good (bound_to l x p)
  bound_good None p = tt
  bound_good (Some n) p = (tt, tt)

  scoped_good : (t : ObjectType) (p : Place) (rest : ℕ → List Region) (d : ℕ) → Others rest → Good (scoped l t p rest d)
  scoped_good int_type p rest d h = h d
  scoped_good (class_type k) p rest d h = ((h (d + 2), tt), tt)

  parameter_good : (t : Ty) (s : ℕ) → Good (caught_parameter l t s)
  parameter_good Int s = (tt, tt)
  parameter_good (Object k) s = (tt, tt)
  parameter_good t s = (tt, tt)

  caught_good : (t : Ty) (s : ℕ) (body : ℕ → List Region) → Others body → Others (with_caught l t s body)
  caught_good (Object k) s body h d = scoped_good (class_type (class_named k)) (slot_place s) body d h
  caught_good t s body h d = h d

  handler_good : (parameter : List Region) (body : ℕ → List Region) (d : ℕ) → Good parameter → Others body → One (handler l parameter body d)
  handler_good parameter body d h k = then_good parameter (op (enter (exception_slot l)) ∷ protect (in_order (body (d + 2))) leave_handler ∷ []) h (tt, ((k (d + 2), tt), tt))

  looping_good : (calls : Bool) (e : Expression) (body : ℕ → List Region) (d : ℕ) → IsValued e → Others body → One (looping calls (at_first e) (λ b. in_order (body b)) d)
  looping_good false e body d f k = (tt, k (d + 2))
  looping_good true e body d f k =
      (tt, then_good (at_first e).before (branch (at_first e).value (in_order (body (d + 4))) (leave_region 3) ∷ []) (held l e (first_temporary l) f).0 ((tt, k (d + 4), tt), tt))

  nothing_good : Others nothing_more
  nothing_good d = tt

  mutual
    statement_good : (s : Statement) (rest : ℕ → List Region) (i n d : ℕ) → StatementFits s → Others rest → Good (statement l s rest i n d)
    statement_good (block ss) rest i n d f k = (statements_good ss i n (d + 1) f, k d)
    statement_good empty rest i n d f k = k d
    statement_good (if_else e s t) rest i n d f k =
        let sides = branch (at_first e).value (in_order (statement l s nothing_more i n (d + 2))) (in_order (otherwise l t i (n + length (declared_in s)) (d + 2))) ∷ [] in
        let first = statement_good s nothing_more i n (d + 2) f.1 nothing_good in
        let second = otherwise_good t i (n + length (declared_in s)) (d + 2) f.2 in
        then_good ((at_first e).before ++ sides) (rest d) (then_good (at_first e).before sides (held l e (first_temporary l) f.0).0 ((tt, first, second), tt)) (k d)
    statement_good (while e s) rest i n d f k =
        (looping_good (has_call e) e (λ b. statement l s nothing_more (d + 1) n b) d f.0 (λ b. statement_good s nothing_more (d + 1) n b f.1 nothing_good), k d)
    statement_good (return place e) rest i n d f k = returning_good e d f
    statement_good (break place) rest i n d f k = (tt, tt)
    statement_good (continue place) rest i n d f k = (tt, tt)
    statement_good (throw place e) rest i n d f k = throwing_good e f
    statement_good (try ss hs) rest i n d f k = ((statements_good ss i n (d + 2) f.0, clauses_good hs i (n + length (all_declared_in ss)) (d + 2) f.1), k d)
    statement_good (assign names e) rest i n d f k = then_good (lower_store l e (place_of l names) (first_temporary l)) (rest d) (placed e (place_of l names) f) (k d)
    statement_good (evaluate e) rest i n d f k = then_good (dropped l e (first_temporary l)) (rest d) (dropped_good l e (first_temporary l) f) (k d)
    statement_good (local_int x e) rest i n d f k = then_good (initialised l x e) (rest d) (initialised_good x e f) (k d)
    statement_good (local_ref x names) rest i n d f k = then_good (bound_to l x.name (place_of l names)) (rest d) (bound_good x.name (place_of l names)) (k d)
    statement_good (local_object c x es) rest i n d f k =
        let p = slot_place (variable_slot l (local_number x.bound)) in
        then_good (lower_construct l (class_named c) es p (first_temporary l)) (scoped l (class_type (class_named c)) p rest d) (built_good l (class_named c) es p (first_temporary l) f)
        (scoped_good (class_type (class_named c)) p rest d k)

    otherwise_good : (t : Else) (i n d : ℕ) → ElseFits t → Good (otherwise l t i n d)
    otherwise_good no_else i n d f = tt
    otherwise_good (else_do s) i n d f = statement_good s nothing_more i n d f nothing_good

    statements_good : (ss : Statements) (i n d : ℕ) → StatementsFit ss → Good (statements l ss i n d)
    statements_good no_statements i n d f = tt
    statements_good (statement_then s ss) i n d f =
        statement_good s (λ b. statements l ss i (n + length (declared_in s)) b) i n d f.0 (λ b. statements_good ss i (n + length (declared_in s)) b f.1)

    clauses_good : (hs : Handlers) (i n d : ℕ) → HandlersFit hs → ClausesAll gives (clauses l hs i n d)
    clauses_good no_handlers i n d f = tt
    clauses_good (handler_then None x ss place hs) i n d f =
        (tt, handler_good [] (λ b. statements l ss i n b) d tt (λ b. statements_good ss i n b f.0), clauses_good hs i (n + length (all_declared_in ss)) d f.1)
    clauses_good (handler_then (Some t) x ss place hs) i n d f =
        let s = variable_slot l n in (
          tt,
          handler_good (caught_parameter l t s) (with_caught l t s (λ e. statements l ss i (n + 1) e)) d (parameter_good t s)
              (caught_good t s (λ e. statements l ss i (n + 1) e) (λ e. statements_good ss i (n + 1) e f.0)),
          clauses_good hs i (n + 1 + length (all_declared_in ss)) d f.1,
        )

  -- functions

  built : (k : ℕ) (build : ℕ → ObjectType → List Region) (j : ℕ) (types : List ObjectType) (left : ℕ → List Region) (d : ℕ) → ((i : ℕ) (t : ObjectType) → Good (build i t)) → Others left →
      Good (build_parts l k build j types left d)
  built k build j [] left d h o = o d
  built k build j (int_type ∷ types) left d h o = then_good (build j int_type) (build_parts l k build (j + 1) types left d) (h j int_type) (built k build (j + 1) types left d h o)
  built k build j (class_type c ∷ types) left d h o = then_good (build j (class_type c)) _ (h j (class_type c)) ((built k build (j + 1) types left (d + 2) h o, tt), tt)

  destroyed : (k j : ℕ) (types : List ObjectType) (body : ℕ → List Region) (d : ℕ) → Others body → Good (destroy_parts l k j types body d)
  destroyed k j [] body d o = o d
  destroyed k j (int_type ∷ types) body d o = destroyed k (j + 1) types body d o
  destroyed k j (class_type c ∷ types) body d o = ((destroyed k (j + 1) types body (d + 2) o, tt), tt)

  initial : (k j : ℕ) (o : Option Expressions) (t : ObjectType) → WhereAllFit o → Good (initial_part l k j o t)
  initial k j None int_type f = tt
  initial k j None (class_type c) f = (tt, tt)
  initial k j (Some no_expressions) int_type f = (tt, tt)
  initial k j (Some (expression_then e es)) int_type f = stored e (part_place l.layout l.program k 0 j) f.0
  initial k j (Some es) (class_type c) f = built_good l c es (part_place l.layout l.program k 0 j) (first_temporary l) f

  default_good : (k j : ℕ) (t : ObjectType) → Good (default_part l k j t)
  default_good k j int_type = (tt, tt)
  default_good k j (class_type c) = (tt, tt)

  copy_good : (k j : ℕ) (t : ObjectType) → Good (copy_part l k j t)
  copy_good k j int_type = (tt, tt)
  copy_good k j (class_type c) = (tt, tt)

  bodied : (kind : FuncKind) (k : ℕ) (f : Function) (d : ℕ) → FunctionFits f → Good (body_of l kind k f d)
  bodied Constructor k f d h =
      built k (λ j. initial_part l k j (initialiser_for l.program f.initialisers j)) 0 (parts_of l.program k) (λ e. statements l (statements_in f.body) 0 (length f.parameters) e) d
      (λ j t. initial k j (initialiser_for l.program f.initialisers j) t (found_initialiser l.program f.initialisers j h.initialisers))
      (λ e. statements_good (statements_in f.body) 0 (length f.parameters) e (statements_there f.body h.body))
  bodied Destructor k f d h =
      destroyed k 0 (parts_of l.program k) (λ e. statements l (statements_in f.body) 0 (length f.parameters) e) d
      (λ e. statements_good (statements_in f.body) 0 (length f.parameters) e (statements_there f.body h.body))
  bodied Plain k f d h = statements_good (statements_in f.body) 0 (length f.parameters) d (statements_there f.body h.body)
  bodied Method k f d h = statements_good (statements_in f.body) 0 (length f.parameters) d (statements_there f.body h.body)

  limited_good : (o : Option Specification) (act : ℕ → List Region) (d : ℕ) → Others act → One (limited l o act d)
  limited_good None act d r = r (d + 1)
  limited_good (Some (listed types)) act d r = r (d + 2)
  limited_good (Some (noexcept place b)) act d r = (r (d + 2), (tt, (tt, (((tt, tt), tt), tt)), tt))

  last_good : (is_main : Bool) → Good (last_result l is_main)
  last_good false = tt
  last_good true = (tt, tt)

  pub body_good : (is_main : Bool) (k : ℕ) (f : Function) → FunctionFits f → One (in_order (limited l f.specification (body_of l f.kind k f) 1 ∷ last_result l is_main))
  body_good is_main k f h = (limited_good f.specification (body_of l f.kind k f) 1 (λ d. bodied f.kind k f d h), last_good is_main)

  pub default_whole_good : (is_declared : Bool) (k : ℕ) → One (in_order (if is_declared then [] else build_parts l k (default_part l k) 0 (parts_of l.program k) nothing_more 1))
  default_whole_good true k = tt
  default_whole_good false k = built k (default_part l k) 0 (parts_of l.program k) nothing_more 1 (default_good k) nothing_good

  pub copy_whole_good : (k : ℕ) → One (in_order (build_parts l k (copy_part l k) 0 (parts_of l.program k) nothing_more 1))
  copy_whole_good k = built k (copy_part l k) 0 (parts_of l.program k) nothing_more 1 (copy_good k) nothing_good

  pub destructor_whole_good : (k : ℕ) → One (in_order (destroy_parts l k 0 (parts_of l.program k) nothing_more 1))
  destructor_whole_good k = destroyed k 0 (parts_of l.program k) nothing_more 1 nothing_good
