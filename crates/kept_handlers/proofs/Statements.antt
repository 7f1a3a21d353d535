-- What statements and functions become opens and leaves handlers in step.
use Rattle.std.proofs.Common.{◌≡◌, refl, ℕ, ◌+◌, pos, Bool, true, false, List, [], ◌∷◌, ◌++◌, length, Option, Some, None, if◌then◌else◌}
use Rattle.std.specs.Prelude.{◌&&◌}
use Rattle.cxx_ast.specs.declared.name.Bound.{Bound}
use Rattle.cxx_ast.specs.declared.name.Bound.TheVariants.{Class, Builtin as BuiltinBound}
use Rattle.cxx_ast.specs.declared.name.Builtin.TheVariants.{BadException}
use Rattle.cxx_ast.specs.declared.name.Name.{Name}
use Rattle.cxx_ast.specs.declared.types.Ty.{Ty}
use Rattle.cxx_ast.specs.declared.types.Ty.TheVariants.{Int, Object}
use Rattle.cxx_ast.specs.declared.declaration.FuncKind.{FuncKind}
use Rattle.cxx_ast.specs.declared.declaration.FuncKind.TheVariants.{Plain, Method, Constructor, Destructor}
use Rattle.cxx_ast.specs.Plain.{Function, Specification, listed, noexcept, Expression, call, std_call, Expressions, no_expressions, expression_then, Statement, block, empty, if_else, while, return, break, continue, throw, try, assign, evaluate, local_int, local_ref, local_object, Else, no_else, else_do, Statements, no_statements, statement_then, Handlers, no_handlers, handler_then}
use Rattle.meaning_forms.specs.Class.{ObjectType, int_type, class_type, class_named, parts_of}
use Rattle.meaning_forms.specs.Frame.{local_number}
use Rattle.meaning_forms.specs.Call.{initialiser_for, statements_in}
use Rattle.meaning_forms.specs.Expression.{lvalue_of, callee_bound}
use Rattle.region_forms.specs.Form.{Place, Value, number, Region, enter, Cleanup, destroy_scope, destroy_part, free_object, leave_handler, store, op, branch, loop, protect, catch, leave_region, Clauses, clause_then, regions_from, in_order}
use Rattle.meaning_forms.specs.Running.{destructor}
use Rattle.region_forms.specs.Numbering.{number_of, declared_in, all_declared_in}
use Rattle.region_forms.specs.LowerExpression.{exception_slot, Lowering, result_slot, first_temporary, slot_place, place_of, lvalue_type, has_call, Lowered, lower, dropped, lower_store, lower_construct}
use Rattle.region_forms.specs.LowerStatement.{variable_slot, copied, thrown_place, thrown_as, int_thrown, object_thrown, call_thrown, part_thrown, lvalue_thrown, operand_thrown, throwing, returning, initialised, bound_to, looping, scoped, caught_parameter, with_caught, handler, nothing_more, clause_type, statement, otherwise, statements, clauses}
use Rattle.region_forms.specs.LowerProgram.{part_place, ending, limited, build_parts, destroy_parts, default_part, copy_part, initial_part, last_result, body_of}
use Rattle.kept_handlers.specs.Left.{leaves_one, is_even, region_in_step, regions_in_step, clauses_in_step}
use Rattle.kept_handlers.proofs.Scanning.{Even}
use Rattle.kept_handlers.proofs.Lowered.{both_true, even_test, Good, then_good, then_in_step, good_in_step, simply, even_order, even_branch, held, valued, dropped_good, store_good, built_good}

-- what a scope holds
scope_even : (rs : List Region) (c : Cleanup) → leaves_one (protect (in_order rs) c) ≡ false → Good rs → Even (protect (in_order rs) c)
scope_even rs c e h = record { opens = refl; leaves = e; steps = good_in_step rs h }

loop_even : (v : Value) (a : Region) → Even a → Even (loop v a)
loop_even v a h = record { opens = refl; leaves = refl; steps = even_test a h }

clauses_on : (t : Option ℕ) (s : ℕ) (a : Region) (cs : Clauses) → Even a → clauses_in_step cs ≡ true → clauses_in_step (clause_then t s a cs) ≡ true
clauses_on t s a cs h e = both_true (is_even a && region_in_step a) (clauses_in_step cs) (even_test a h) e

module _ (l : Lowering) where
  abbrev Others : (ℕ → List Region) → Type 0
  Others rest = (d : ℕ) → Good (rest d)

  abbrev at_first : Expression → Lowered
  at_first e = lower l e (first_temporary l)

  stored : (e : Expression) (p : Place) → Good ((at_first e).before ++ op (store p (at_first e).value) ∷ [])
  stored e p = valued l e (first_temporary l) p

  placed : (e : Expression) (p : Place) → Good (lower_store l e p (first_temporary l))
  placed e p = store_good l e p (first_temporary l)

  -- what is thrown
  thrown : (t : ObjectType) (build : List Region) → Good build → Good (thrown_as l t build)
  thrown t build h = (simply _ refl refl refl, (scope_even build (free_object (exception_slot l)) refl h, (simply _ refl refl refl, tt)))

  int_good : (e : Expression) → Good (int_thrown l e)
  int_good e = thrown int_type _ (stored e (thrown_place l))

  object_good : (k : ℕ) (es : Expressions) → Good (object_thrown l k es)
  object_good k es = thrown (class_type k) _ (built_good l k es (thrown_place l) (first_temporary l))

  call_good : (b : Bound) (e : Expression) (es : Expressions) → Good (call_thrown l b e es)
  call_good (Class k) e es = object_good k es
  call_good (BuiltinBound BadException) e es = object_good 0 es
  call_good b e es = int_good e

  part_good : (e : Expression) (names : List Name) (t : ObjectType) → Good (part_thrown l e names t)
  part_good e names int_type = int_good e
  part_good e names (class_type k) = thrown (class_type k) (copied l k (thrown_place l) (place_of l names) ∷ []) (simply _ refl refl refl, tt)

  lvalue_good : (e : Expression) (names : Option (List Name)) → Good (lvalue_thrown l e names)
  lvalue_good e None = int_good e
  lvalue_good e (Some names) = part_good e names (lvalue_type l names)

  operand_good : (e : Expression) → Good (operand_thrown l e)
  operand_good (call names es) = call_good (callee_bound names) (call names es) es
  operand_good (std_call n es place) = call_good n.bound (std_call n es place) es
  operand_good e = lvalue_good e (lvalue_of e)

  throwing_good : (e : Option Expression) → Good (throwing l e)
  throwing_good None = (simply _ refl refl refl, tt)
  throwing_good (Some e) = operand_good e

  returning_good : (e : Option Expression) (d : ℕ) → Good (returning l e d)
  returning_good None d = (simply _ refl refl refl, tt)
  returning_good (Some e) d = then_good (lower_store l e (slot_place (result_slot l)) (first_temporary l)) (leave_region d ∷ []) (placed e (slot_place (result_slot l))) (simply _ refl refl refl, tt)

  initialised_good : (x : Name) (e : Option Expression) → Good (initialised l x e)
  initialised_good x None = tt
  initialised_good x (Some e) = placed e (slot_place (variable_slot l (local_number x.bound)))

  bound_good : (x : Option Name) (p : Place) → Good (bound_to l x p)
  bound_good None p = tt
  bound_good (Some n) p = (simply _ refl refl refl, tt)

  scoped_good : (t : ObjectType) (p : Place) (rest : ℕ → List Region) (d : ℕ) → Others rest → Good (scoped l t p rest d)
  scoped_good int_type p rest d h = h d
  scoped_good (class_type k) p rest d h = (scope_even (rest (d + 2)) (destroy_scope p (number_of l.program (destructor k))) refl (h (d + 2)), tt)

  parameter_good : (t : Ty) (s : ℕ) → Good (caught_parameter l t s)
  parameter_good Int s = (simply _ refl refl refl, tt)
  parameter_good (Object k) s = (simply _ refl refl refl, tt)
  parameter_good t s = (simply _ refl refl refl, tt)

  caught_good : (t : Ty) (s : ℕ) (body : ℕ → List Region) → Others body → Others (with_caught l t s body)
  caught_good (Object k) s body h d = scoped_good (class_type (class_named k)) (slot_place s) body d h
  caught_good t s body h d = h d

  -- a handler leaves the one that it opens
  handler_good : (parameter : List Region) (body : ℕ → List Region) (d : ℕ) → Good parameter → Others body → Even (handler l parameter body d)
  handler_good parameter body d h k =
      let rest = op (enter (exception_slot l)) ∷ protect (in_order (body (d + 2))) leave_handler ∷ [] in
      let inside = both_true (regions_in_step false (regions_from (body (d + 2)))) true (good_in_step (body (d + 2)) (k (d + 2))) refl in
      record { opens = refl; leaves = refl; steps = then_in_step parameter rest h inside }

  looping_good : (calls : Bool) (e : Expression) (body : ℕ → List Region) (d : ℕ) → Others body → Even (looping calls (at_first e) (λ b. in_order (body b)) d)
  looping_good false e body d k = loop_even (at_first e).value (in_order (body (d + 2))) (even_order (body (d + 2)) (k (d + 2)))
  looping_good true e body d k =
      let sides = branch (at_first e).value (in_order (body (d + 4))) (leave_region 3) in
      let all = (at_first e).before ++ sides ∷ [] in
      let even = even_branch (at_first e).value (in_order (body (d + 4))) (leave_region 3) (even_order (body (d + 4)) (k (d + 4))) (simply (leave_region 3) refl refl refl) in
      loop_even (number (pos 1)) (in_order all) (even_order all (then_good (at_first e).before (sides ∷ []) (held l e (first_temporary l)) (even, tt)))

  nothing_good : Others nothing_more
  nothing_good d = tt

  mutual
    statement_good : (s : Statement) (rest : ℕ → List Region) (i n d : ℕ) → Others rest → Good (statement l s rest i n d)
    statement_good (block ss) rest i n d k = (even_order (statements l ss i n (d + 1)) (statements_good ss i n (d + 1)), k d)
    statement_good empty rest i n d k = k d
    statement_good (if_else e s t) rest i n d k =
        let first = statement l s nothing_more i n (d + 2) in
        let second = otherwise l t i (n + length (declared_in s)) (d + 2) in
        let sides = branch (at_first e).value (in_order first) (in_order second) ∷ [] in
        let even = even_branch (at_first e).value (in_order first) (in_order second) (even_order first (statement_good s nothing_more i n (d + 2) nothing_good)) (even_order second (otherwise_good t i (n + length (declared_in s)) (d + 2))) in
        then_good ((at_first e).before ++ sides) (rest d) (then_good (at_first e).before sides (held l e (first_temporary l)) (even, tt)) (k d)
    statement_good (while e s) rest i n d k =
        (looping_good (has_call e) e (λ b. statement l s nothing_more (d + 1) n b) d (λ b. statement_good s nothing_more (d + 1) n b nothing_good), k d)
    statement_good (return place e) rest i n d k = returning_good e d
    statement_good (break place) rest i n d k = (simply _ refl refl refl, tt)
    statement_good (continue place) rest i n d k = (simply _ refl refl refl, tt)
    statement_good (throw place e) rest i n d k = throwing_good e
    statement_good (try ss hs) rest i n d k =
        let body = statements l ss i n (d + 2) in
        let cs = clauses l hs i (n + length (all_declared_in ss)) (d + 2) in
        let steps = both_true (is_even (in_order body) && region_in_step (in_order body)) (clauses_in_step cs) (even_test (in_order body) (even_order body (statements_good ss i n (d + 2)))) (clauses_good hs i (n + length (all_declared_in ss)) (d + 2)) in
        (simply (catch (in_order body) cs) refl refl steps, k d)
    statement_good (assign names e) rest i n d k = then_good (lower_store l e (place_of l names) (first_temporary l)) (rest d) (placed e (place_of l names)) (k d)
    statement_good (evaluate e) rest i n d k = then_good (dropped l e (first_temporary l)) (rest d) (dropped_good l e (first_temporary l)) (k d)
    statement_good (local_int x e) rest i n d k = then_good (initialised l x e) (rest d) (initialised_good x e) (k d)
    statement_good (local_ref x names) rest i n d k = then_good (bound_to l x.name (place_of l names)) (rest d) (bound_good x.name (place_of l names)) (k d)
    statement_good (local_object c x es) rest i n d k =
        let p = slot_place (variable_slot l (local_number x.bound)) in
        then_good (lower_construct l (class_named c) es p (first_temporary l)) (scoped l (class_type (class_named c)) p rest d) (built_good l (class_named c) es p (first_temporary l))
        (scoped_good (class_type (class_named c)) p rest d k)

    otherwise_good : (t : Else) (i n d : ℕ) → Good (otherwise l t i n d)
    otherwise_good no_else i n d = tt
    otherwise_good (else_do s) i n d = statement_good s nothing_more i n d nothing_good

    statements_good : (ss : Statements) (i n d : ℕ) → Good (statements l ss i n d)
    statements_good no_statements i n d = tt
    statements_good (statement_then s ss) i n d =
        statement_good s (λ b. statements l ss i (n + length (declared_in s)) b) i n d (λ b. statements_good ss i (n + length (declared_in s)) b)

    clauses_good : (hs : Handlers) (i n d : ℕ) → clauses_in_step (clauses l hs i n d) ≡ true
    clauses_good no_handlers i n d = refl
    clauses_good (handler_then None x ss place hs) i n d =
        clauses_on None (exception_slot l) (handler l [] (λ b. statements l ss i n b) d) (clauses l hs i (n + length (all_declared_in ss)) d)
        (handler_good [] (λ b. statements l ss i n b) d tt (λ b. statements_good ss i n b)) (clauses_good hs i (n + length (all_declared_in ss)) d)
    clauses_good (handler_then (Some t) x ss place hs) i n d =
        let s = variable_slot l n in
        let body = with_caught l t s (λ e. statements l ss i (n + 1) e) in
        clauses_on (Some (clause_type t)) (exception_slot l) (handler l (caught_parameter l t s) body d) (clauses l hs i (n + 1 + length (all_declared_in ss)) d)
        (handler_good (caught_parameter l t s) body d (parameter_good t s) (caught_good t s (λ e. statements l ss i (n + 1) e) (λ e. statements_good ss i (n + 1) e)))
        (clauses_good hs i (n + 1 + length (all_declared_in ss)) d)

  -- functions

  built : (k : ℕ) (build : ℕ → ObjectType → List Region) (j : ℕ) (types : List ObjectType) (left : ℕ → List Region) (d : ℕ) → ((i : ℕ) (t : ObjectType) → Good (build i t)) → Others left →
      Good (build_parts l k build j types left d)
  built k build j [] left d h o = o d
  built k build j (int_type ∷ types) left d h o = then_good (build j int_type) (build_parts l k build (j + 1) types left d) (h j int_type) (built k build (j + 1) types left d h o)
  built k build j (class_type c ∷ types) left d h o =
      let rest = build_parts l k build (j + 1) types left (d + 2) in
      let part = destroy_part (part_place l.layout l.program k 0 j) (number_of l.program (destructor c)) in
      then_good (build j (class_type c)) (protect (in_order rest) part ∷ []) (h j (class_type c)) (scope_even rest part refl (built k build (j + 1) types left (d + 2) h o), tt)

  destroyed : (k j : ℕ) (types : List ObjectType) (body : ℕ → List Region) (d : ℕ) → Others body → Good (destroy_parts l k j types body d)
  destroyed k j [] body d o = o d
  destroyed k j (int_type ∷ types) body d o = destroyed k (j + 1) types body d o
  destroyed k j (class_type c ∷ types) body d o =
      let rest = destroy_parts l k (j + 1) types body (d + 2) in
      (scope_even rest (destroy_scope (part_place l.layout l.program k 0 j) (number_of l.program (destructor c))) refl (destroyed k (j + 1) types body (d + 2) o), tt)

  initial : (k j : ℕ) (o : Option Expressions) (t : ObjectType) → Good (initial_part l k j o t)
  initial k j None int_type = tt
  initial k j None (class_type c) = (simply _ refl refl refl, tt)
  initial k j (Some no_expressions) int_type = (simply _ refl refl refl, tt)
  initial k j (Some (expression_then e es)) int_type = stored e (part_place l.layout l.program k 0 j)
  initial k j (Some es) (class_type c) = built_good l c es (part_place l.layout l.program k 0 j) (first_temporary l)

  default_good : (k j : ℕ) (t : ObjectType) → Good (default_part l k j t)
  default_good k j int_type = (simply _ refl refl refl, tt)
  default_good k j (class_type c) = (simply _ refl refl refl, tt)

  copy_good : (k j : ℕ) (t : ObjectType) → Good (copy_part l k j t)
  copy_good k j int_type = (simply _ refl refl refl, tt)
  copy_good k j (class_type c) = (simply _ refl refl refl, tt)

  bodied : (kind : FuncKind) (k : ℕ) (f : Function) (d : ℕ) → Good (body_of l kind k f d)
  bodied Constructor k f d =
      built k (λ j. initial_part l k j (initialiser_for l.program f.initialisers j)) 0 (parts_of l.program k) (λ e. statements l (statements_in f.body) 0 (length f.parameters) e) d
      (λ j t. initial k j (initialiser_for l.program f.initialisers j) t) (λ e. statements_good (statements_in f.body) 0 (length f.parameters) e)
  bodied Destructor k f d =
      destroyed k 0 (parts_of l.program k) (λ e. statements l (statements_in f.body) 0 (length f.parameters) e) d (λ e. statements_good (statements_in f.body) 0 (length f.parameters) e)
  bodied Plain k f d = statements_good (statements_in f.body) 0 (length f.parameters) d
  bodied Method k f d = statements_good (statements_in f.body) 0 (length f.parameters) d

  -- what is noexcept leaves the handler that it opens
  limited_good : (o : Option Specification) (act : ℕ → List Region) (d : ℕ) → Others act → Even (limited l o act d)
  limited_good None act d h = even_order (act (d + 1)) (h (d + 1))
  limited_good (Some (listed types)) act d h = simply (limited l (Some (listed types)) act d) refl refl (good_in_step (act (d + 2)) (h (d + 2)))
  limited_good (Some (noexcept place b)) act d h =
      let body = in_order (act (d + 2)) in
      let steps = both_true (is_even body && region_in_step body) (clauses_in_step (ending l)) (even_test body (even_order (act (d + 2)) (h (d + 2)))) refl in
      simply (limited l (Some (noexcept place b)) act d) refl refl steps

  last_good : (is_main : Bool) → Good (last_result l is_main)
  last_good false = tt
  last_good true = (simply _ refl refl refl, tt)

  pub body_good : (is_main : Bool) (k : ℕ) (f : Function) → Even (in_order (limited l f.specification (body_of l f.kind k f) 1 ∷ last_result l is_main))
  body_good is_main k f =
      even_order (limited l f.specification (body_of l f.kind k f) 1 ∷ last_result l is_main) (limited_good f.specification (body_of l f.kind k f) 1 (λ d. bodied f.kind k f d), last_good is_main)

  pub default_whole_good : (is_declared : Bool) (k : ℕ) → Even (in_order (if is_declared then [] else build_parts l k (default_part l k) 0 (parts_of l.program k) nothing_more 1))
  default_whole_good true k = even_order [] tt
  default_whole_good false k = even_order (build_parts l k (default_part l k) 0 (parts_of l.program k) nothing_more 1) (built k (default_part l k) 0 (parts_of l.program k) nothing_more 1 (default_good k) nothing_good)

  pub copy_whole_good : (k : ℕ) → Even (in_order (build_parts l k (copy_part l k) 0 (parts_of l.program k) nothing_more 1))
  copy_whole_good k = even_order (build_parts l k (copy_part l k) 0 (parts_of l.program k) nothing_more 1) (built k (copy_part l k) 0 (parts_of l.program k) nothing_more 1 (copy_good k) nothing_good)

  pub destructor_whole_good : (k : ℕ) → Even (in_order (destroy_parts l k 0 (parts_of l.program k) nothing_more 1))
  destructor_whole_good k = even_order (destroy_parts l k 0 (parts_of l.program k) nothing_more 1) (destroyed k 0 (parts_of l.program k) nothing_more 1 nothing_good)
