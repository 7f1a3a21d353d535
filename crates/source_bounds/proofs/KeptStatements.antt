-- What a function becomes takes the address of an int variable where the function binds a reference to it.
use Rattle.std.proofs.Common.{◌≡◌, ◌∙◌, refl, sym, ap, ℕ, ◌+◌, ◌||◌, Bool, true, false, List, [], ◌∷◌, ◌++◌, length, Option, Some, None}
use Rattle.cxx_ast.specs.declared.declaration.FuncKind.{FuncKind}
use Rattle.cxx_ast.specs.declared.declaration.FuncKind.TheVariants.{Constructor, Destructor}
use Rattle.cxx_ast.specs.declared.name.Bound.{Bound}
use Rattle.cxx_ast.specs.declared.name.Bound.TheVariants.{Class, Builtin as BuiltinBound}
use Rattle.cxx_ast.specs.declared.name.Builtin.TheVariants.{BadException}
use Rattle.cxx_ast.specs.declared.name.Name.{Name}
use Rattle.cxx_ast.specs.declared.types.Ty.{Ty}
use Rattle.cxx_ast.specs.declared.types.Ty.TheVariants.{Int, Object}
use Rattle.cxx_ast.specs.Plain.{Expression, call, std_call, Expressions, no_expressions, expression_then, Statement, block, empty, if_else, while, return, break, continue, throw, try, assign, evaluate, local_int, local_ref, local_object, Else, no_else, else_do, Statements, no_statements, statement_then, Handlers, no_handlers, handler_then, Initialiser, Specification, listed, noexcept, Function}
use Rattle.meaning_forms.specs.Call.{initialiser_for, statements_in}
use Rattle.meaning_forms.specs.Class.{ObjectType, int_type, class_type, class_named, parts_of}
use Rattle.meaning_forms.specs.Expression.{lvalue_of, callee_bound}
use Rattle.meaning_forms.specs.Frame.{local_number}
use Rattle.region_forms.specs.Form.{Place, Region, branch, op, store, in_order}
use Rattle.region_forms.specs.Numbering.{declared_in, all_declared_in}
use Rattle.region_forms.specs.LowerExpression.{Lowering, variable_type, result_slot, first_temporary, slot_place, place_of, lvalue_type, has_call, Lowered, lower, dropped, lower_store, lower_construct}
use Rattle.region_forms.specs.LowerStatement.{variable_slot, copied, thrown_place, thrown_as, int_thrown, object_thrown, call_thrown, part_thrown, lvalue_thrown, operand_thrown, throwing, returning, initialised, bound_to, looping, scoped, caught_parameter, with_caught, handler, nothing_more, statement, otherwise, statements, clauses}
use Rattle.region_forms.specs.LowerProgram.{part_place, limited, build_parts, destroy_parts, initial_part, body_of, last_result}
use Rattle.machine_forms.specs.Kept.{root_is}
use Rattle.source_bounds.specs.KeptChoice.{region_takes, clauses_take}
use Rattle.source_bounds.specs.KeptVariables.{begins_at, expression_binds, value_binds, construction_binds, call_thrown_binds, part_thrown_binds, lvalue_thrown_binds, operand_binds, thrown_binds, named_binds, is_caught, statement_binds, else_binds, statements_bind, handlers_bind, initialiser_binds, parts_bind, initialisers_bind, function_binds}
use Rattle.source_bounds.proofs.KeptChoice.{or_false, or_behind, both_or}
use Rattle.source_bounds.proofs.KeptExpressions.{list_takes, lists_take, one_takes, slot, same_slot, place_takes, quiet_binds, lowered_takes, dropped_take, valued_take, stored_take, construction_takes}

-- ---- truths

object_there : (x e r : Bool) → ((x || e) || ((x || r) || false)) ≡ ((x || e) || r)
object_there true e r = refl
object_there false true r = refl
object_there false false r = or_false r

caught_there : (x b : Bool) → ((x || false) || (((x || b) || false) || false)) ≡ (x || b)
caught_there true b = refl
caught_there false b = or_false (b || false) ∙ or_false b

part_there : (i p b : Bool) → (i || ((false || (p || b)) || false)) ≡ ((i || p) || b)
part_there true p b = refl
part_there false p b = or_false (p || b)

module _ (l : Lowering) (v : ℕ) (int : variable_type l v ≡ Int) where
  abbrev s : ℕ
  s = slot l v int

  abbrev Takes : List Region → Bool → Type 0
  Takes rs b = list_takes s rs ≡ b

  -- the rest of a block, at every depth
  abbrev Rest : (ℕ → List Region) → Bool → Type 0
  Rest rest b = (d : ℕ) → Takes (rest d) b

  behind : (rs others : List Region) (a b : Bool) → Takes rs a → Takes others b → Takes (rs ++ others) (a || b)
  behind rs others a b h k = lists_take s rs others ∙ both_or h k

  -- ---- throws

  thrown_take : (t : ObjectType) (build : List Region) (b : Bool) → Takes build b → Takes (thrown_as l t build) b
  thrown_take t build b h = or_false (list_takes s build) ∙ h

  int_take : (e : Expression) → Takes (int_thrown l e) (expression_binds l.program v e)
  int_take e =
      thrown_take int_type ((lower l e (first_temporary l)).before ++ op (store (thrown_place l) (lower l e (first_temporary l)).value) ∷ []) (expression_binds l.program v e) (valued_take l v int e (thrown_place l) (first_temporary l))

  object_take : (k : ℕ) (es : Expressions) → Takes (object_thrown l k es) (construction_binds l v k es)
  object_take k es =
      thrown_take (class_type k) (lower_construct l k es (thrown_place l) (first_temporary l)) (construction_binds l v k es) (construction_takes l v int k es (thrown_place l) (first_temporary l))

  call_take : (b : Bound) (e : Expression) (es : Expressions) → Takes (call_thrown l b e es) (call_thrown_binds l v b e es)
  call_take (Class k) e es = object_take k es
  call_take (BuiltinBound BadException) e es = object_take 0 es
  call_take b e es = int_take e

  part_take : (e : Expression) (names : List Name) (t : ObjectType) → Takes (part_thrown l e names t) (part_thrown_binds l v e names t)
  part_take e names int_type = int_take e
  part_take e names (class_type k) =
      thrown_take (class_type k) (copied l k (thrown_place l) (place_of l names) ∷ []) (begins_at v names)
      (or_false (root_is s (place_of l names).root || false) ∙ (or_false (root_is s (place_of l names).root) ∙ place_takes l v int names))

  lvalue_take : (e : Expression) (names : Option (List Name)) → Takes (lvalue_thrown l e names) (lvalue_thrown_binds l v e names)
  lvalue_take e None = int_take e
  lvalue_take e (Some names) = part_take e names (lvalue_type l names)

  operand_take : (e : Expression) → Takes (operand_thrown l e) (operand_binds l v e)
  operand_take (call names es) = call_take (callee_bound names) (call names es) es
  operand_take (std_call n es place) = call_take n.bound (std_call n es place) es
  operand_take e = lvalue_take e (lvalue_of e)

  throwing_take : (e : Option Expression) → Takes (throwing l e) (thrown_binds l v e)
  throwing_take None = refl
  throwing_take (Some e) = operand_take e

  -- ---- statements

  returning_take : (e : Option Expression) (d : ℕ) → Takes (returning l e d) (value_binds l.program v e)
  returning_take None d = refl
  returning_take (Some e) d =
      one_takes s (lower_store l e (slot_place (result_slot l)) (first_temporary l)) _ ∙ (or_false (list_takes s (lower_store l e (slot_place (result_slot l)) (first_temporary l)))
      ∙ stored_take l v int e (slot_place (result_slot l)) (first_temporary l))

  initialised_take : (n : Name) (e : Option Expression) → Takes (initialised l n e) (value_binds l.program v e)
  initialised_take n None = refl
  initialised_take n (Some e) = stored_take l v int e (slot_place (variable_slot l (local_number n.bound))) (first_temporary l)

  bound_take : (n : Option Name) (names : List Name) → Takes (bound_to l n (place_of l names)) (named_binds n (begins_at v names))
  bound_take None names = refl
  bound_take (Some n) names = or_false (root_is s (place_of l names).root) ∙ place_takes l v int names

  loop_take : (e : Expression) (calls : Bool) (body : ℕ → Region) (d : ℕ) (b : Bool) → has_call e ≡ calls → ((c : ℕ) → region_takes s (body c) ≡ b) →
      region_takes s (looping calls (lower l e (first_temporary l)) body d) ≡ (expression_binds l.program v e || b)
  loop_take e false body d b is k = k (d + 2) ∙ sym (ap (λ t. t || b) (quiet_binds l v int e is))
  loop_take e true body d b is k =
      one_takes s (lower l e (first_temporary l)).before _ ∙ both_or (lowered_takes l v int e (first_temporary l)) (or_false (region_takes s (body (d + 4))) ∙ k (d + 4))

  scoped_take : (x : Place) (k : ℕ) (rest : ℕ → List Region) (d : ℕ) (b : Bool) → Rest rest b → Takes (scoped l (class_type k) x rest d) ((root_is s x.root || b) || false)
  scoped_take x k rest d b h = ap (λ t. (root_is s x.root || t) || false) (h (d + 2))

  -- a handler's parameter, its entry and its body
  handler_take : (t : Ty) (n d : ℕ) (body : ℕ → List Region) (b : Bool) → Rest body b →
      region_takes s (handler l (caught_parameter l t (variable_slot l n)) (λ c. with_caught l t (variable_slot l n) body c) d) ≡ (is_caught v t n || b)
  handler_take Int n d body b h = or_false (list_takes s (body (d + 2))) ∙ h (d + 2)
  handler_take (Object k) n d body b h =
      ap (λ t. (root_is s (slot_place (variable_slot l n)).root || false) || (((root_is s (slot_place (variable_slot l n)).root || t) || false) || false)) (h (d + 2 + 2))
      ∙ (caught_there (root_is s (slot_place (variable_slot l n)).root) b ∙ ap (λ t. t || b) (same_slot l v int n))
  handler_take t n d body b h = or_false (list_takes s (body (d + 2))) ∙ h (d + 2)

  mutual
    statement_take : (st : Statement) (rest : ℕ → List Region) (i n d : ℕ) (b : Bool) → Rest rest b → Takes (statement l st rest i n d) (statement_binds l v n st b)
    statement_take (block ss) rest i n d b r = both_or (statements_take ss i n (d + 1)) (r d)
    statement_take empty rest i n d b r = r d
    statement_take (if_else e st t) rest i n d b r =
        let x : Lowered = lower l e (first_temporary l) in
        let sides : Region = branch x.value (in_order (statement l st nothing_more i n (d + 2))) (in_order (otherwise l t i (n + length (declared_in st)) (d + 2))) in
        behind (x.before ++ sides ∷ []) (rest d) _ b
        (one_takes s x.before sides ∙ both_or (lowered_takes l v int e (first_temporary l)) (both_or (statement_take st nothing_more i n (d + 2) false (λ c. refl)) (else_take t i (n + length (declared_in st)) (d + 2)))) (r d)
    statement_take (while e st) rest i n d b r =
        both_or (loop_take e (has_call e) (λ c. in_order (statement l st nothing_more (d + 1) n c)) d (statement_binds l v n st false) refl (λ c. statement_take st nothing_more (d + 1) n c false (λ k. refl))) (r d)
    statement_take (return place e) rest i n d b r = returning_take e d
    statement_take (break place) rest i n d b r = refl
    statement_take (continue place) rest i n d b r = refl
    statement_take (throw place e) rest i n d b r = throwing_take e
    statement_take (try ss hs) rest i n d b r =
        both_or (both_or (clauses_take_all hs i (n + length (all_declared_in ss)) (d + 2)) (statements_take ss i n (d + 2))) (r d)
    statement_take (assign names e) rest i n d b r = behind (lower_store l e (place_of l names) (first_temporary l)) (rest d) _ b (stored_take l v int e (place_of l names) (first_temporary l)) (r d)
    statement_take (evaluate e) rest i n d b r = behind (dropped l e (first_temporary l)) (rest d) _ b (dropped_take l v int e (first_temporary l)) (r d)
    statement_take (local_int x e) rest i n d b r = behind (initialised l x e) (rest d) _ b (initialised_take x e) (r d)
    statement_take (local_ref x names) rest i n d b r = behind (bound_to l x.name (place_of l names)) (rest d) _ b (bound_take x.name names) (r d)
    statement_take (local_object k x es) rest i n d b r =
        let m : ℕ = local_number x.bound in
        let place : Place = slot_place (variable_slot l m) in
        behind (lower_construct l (class_named k) es place (first_temporary l)) (scoped l (class_type (class_named k)) place rest d) _ _
        (construction_takes l v int (class_named k) es place (first_temporary l)) (scoped_take place (class_named k) rest d b r)
        ∙ (object_there (root_is s place.root) (construction_binds l v (class_named k) es) b ∙ ap (λ t. (t || construction_binds l v (class_named k) es) || b) (same_slot l v int m))

    else_take : (t : Else) (i n d : ℕ) → Takes (otherwise l t i n d) (else_binds l v n t)
    else_take no_else i n d = refl
    else_take (else_do st) i n d = statement_take st nothing_more i n d false (λ c. refl)

    statements_take : (ss : Statements) (i n d : ℕ) → Takes (statements l ss i n d) (statements_bind l v n ss)
    statements_take no_statements i n d = refl
    statements_take (statement_then st ss) i n d =
        statement_take st (λ c. statements l ss i (n + length (declared_in st)) c) i n d (statements_bind l v (n + length (declared_in st)) ss) (λ c. statements_take ss i (n + length (declared_in st)) c)

    clauses_take_all : (hs : Handlers) (i n d : ℕ) → clauses_take s (clauses l hs i n d) ≡ handlers_bind l v n hs
    clauses_take_all no_handlers i n d = refl
    clauses_take_all (handler_then None x ss place hs) i n d =
        both_or (or_false (list_takes s (statements l ss i n (d + 2))) ∙ statements_take ss i n (d + 2))
        (clauses_take_all hs i (n + length (all_declared_in ss)) d)
    clauses_take_all (handler_then (Some t) x ss place hs) i n d =
        both_or (handler_take t n d (λ c. statements l ss i (n + 1) c) (statements_bind l v (n + 1) ss) (λ c. statements_take ss i (n + 1) c))
        (clauses_take_all hs i (n + 1 + length (all_declared_in ss)) d)

  -- ---- functions

  initial_take : (k i : ℕ) (es : Option Expressions) (t : ObjectType) → Takes (initial_part l k i es t) (initialiser_binds l v es t)
  initial_take k i None int_type = refl
  initial_take k i None (class_type c) = refl
  initial_take k i (Some no_expressions) int_type = refl
  initial_take k i (Some (expression_then e es)) int_type = valued_take l v int e (part_place l.layout l.program k 0 i) (first_temporary l)
  initial_take k i (Some es) (class_type c) = construction_takes l v int c es (part_place l.layout l.program k 0 i) (first_temporary l)

  parts_take : (k : ℕ) (initialisers : List Initialiser) (i : ℕ) (types : List ObjectType) (left : ℕ → List Region) (d : ℕ) (b : Bool) → Rest left b →
      Takes (build_parts l k (λ j. initial_part l k j (initialiser_for l.program initialisers j)) i types left d) (parts_bind l v initialisers i types || b)
  parts_take k initialisers i [] left d b h = h d
  parts_take k initialisers i (int_type ∷ types) left d b h =
      behind (initial_part l k i (initialiser_for l.program initialisers i) int_type) _ _ _ (initial_take k i (initialiser_for l.program initialisers i) int_type) (parts_take k initialisers (i + 1) types left d b h)
      ∙ sym (or_behind (initialiser_binds l v (initialiser_for l.program initialisers i) int_type) (parts_bind l v initialisers (i + 1) types) b)
  parts_take k initialisers i (class_type c ∷ types) left d b h =
      behind (initial_part l k i (initialiser_for l.program initialisers i) (class_type c)) _ _ _ (initial_take k i (initialiser_for l.program initialisers i) (class_type c))
      (ap (λ t. (false || t) || false) (parts_take k initialisers (i + 1) types left (d + 2) b h))
      ∙ part_there (initialiser_binds l v (initialiser_for l.program initialisers i) (class_type c)) (parts_bind l v initialisers (i + 1) types) b

  destroyed_take : (k i : ℕ) (types : List ObjectType) (body : ℕ → List Region) (d : ℕ) (b : Bool) → Rest body b → Takes (destroy_parts l k i types body d) b
  destroyed_take k i [] body d b h = h d
  destroyed_take k i (int_type ∷ types) body d b h = destroyed_take k (i + 1) types body d b h
  destroyed_take k i (class_type c ∷ types) body d b h = or_false (list_takes s (destroy_parts l k (i + 1) types body (d + 2))) ∙ destroyed_take k (i + 1) types body (d + 2) b h

  body_take : (kind : FuncKind) (k : ℕ) (f : Function) (d : ℕ) →
      Takes (body_of l kind k f d) (initialisers_bind l v kind k f || statements_bind l v (length f.parameters) (statements_in f.body))
  body_take Constructor k f d =
      parts_take k f.initialisers 0 (parts_of l.program k) (λ e. statements l (statements_in f.body) 0 (length f.parameters) e) d (statements_bind l v (length f.parameters) (statements_in f.body))
      (λ c. statements_take (statements_in f.body) 0 (length f.parameters) c)
  body_take Destructor k f d =
      destroyed_take k 0 (parts_of l.program k) (λ e. statements l (statements_in f.body) 0 (length f.parameters) e) d (statements_bind l v (length f.parameters) (statements_in f.body))
      (λ c. statements_take (statements_in f.body) 0 (length f.parameters) c)
  body_take kind k f d = statements_take (statements_in f.body) 0 (length f.parameters) d

  limited_take : (o : Option Specification) (act : ℕ → List Region) (d : ℕ) (b : Bool) → Rest act b → region_takes s (limited l o act d) ≡ b
  limited_take None act d b h = h (d + 1)
  limited_take (Some (listed types)) act d b h = h (d + 2)
  limited_take (Some (noexcept place is)) act d b h = h (d + 2)

  last_take : (is_main : Bool) → list_takes s (last_result l is_main) ≡ false
  last_take false = refl
  last_take true = refl

  pub function_takes : (is_main : Bool) (k : ℕ) (f : Function) → region_takes s (in_order (limited l f.specification (body_of l f.kind k f) 1 ∷ last_result l is_main)) ≡ function_binds l v k f
  function_takes is_main k f =
      both_or (limited_take f.specification (body_of l f.kind k f) 1 (function_binds l v k f) (λ d. body_take f.kind k f d)) (last_take is_main) ∙ or_false (function_binds l v k f)
