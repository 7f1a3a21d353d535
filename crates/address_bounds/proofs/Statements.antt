-- Statements reach inside what their addresses begin at.
use Rattle.std.proofs.Common.{◌≡◌, ◌∙◌, refl, sym, ap, subst, arith, ℕ, ◌+◌, ◌<◌, ◌≤◌, Bool, true, false, List, [], ◌∷◌, ◌++◌, length, Option, Some, None}
use Rattle.std.specs.Prelude.{◌==◌, ◌||◌}
use Rattle.std.proofs.lemmas.Bool.Decides.{nat_tests}
use Rattle.cxx_ast.specs.Limits.{most_class_bytes}
use Rattle.cxx_ast.specs.declared.name.Name.{Name}
use Rattle.cxx_ast.specs.declared.name.Bound.{Bound}
use Rattle.cxx_ast.specs.declared.name.Bound.TheVariants.{Free, Global, Local, Field, Class, Func, Method, Builtin as BuiltinBound}
use Rattle.cxx_ast.specs.declared.name.Builtin.TheVariants.{WriteInt, ReadByte, Exit, Module, Cancel, Terminate, SetTerminate, SetUnexpected, Uncaught, BadException}
use Rattle.cxx_ast.specs.declared.types.Ty.{Ty}
use Rattle.cxx_ast.specs.declared.types.Ty.TheVariants.{Int, Void, Object, IntRef, ObjectRef}
use Rattle.cxx_ast.specs.Plain.{Expression, number as number_expression, path, paren, unary, binary, call, std_call, Expressions, Statement, block, empty, if_else, while, return, break, continue, throw, try, assign, evaluate, local_int, local_ref, local_object, Else, no_else, else_do, Statements, no_statements, statement_then, Handlers, no_handlers, handler_then}
use Rattle.meaning_forms.specs.Class.{ObjectType, int_type, class_type, class_named, object_type}
use Rattle.meaning_forms.specs.Construct.{copy_constructor}
use Rattle.meaning_forms.specs.Expression.{lvalue_of, callee_bound}
use Rattle.meaning_forms.specs.Frame.{Variable, local_number}
use Rattle.meaning_forms.specs.Running.{Constructor, declared, implicit_default, implicit_copy, constructor}
use Rattle.meaning_forms.specs.World.{Reference, nowhere}
use Rattle.region_forms.specs.Form.{Value, Place, Region, op, store, leave_region, branch, in_order}
use Rattle.region_forms.specs.Numbering.{destructor_of, declared_in, all_declared_in}
use Rattle.region_forms.specs.LowerExpression.{Lowering, variable_type, result_slot, exception_slot, first_temporary, slot_place, place_of, lvalue_type, has_call, Lowered, lower, lower_construct}
use Rattle.region_forms.specs.LowerStatement.{variable_slot, copied, thrown_place, thrown_as, int_thrown, object_thrown, call_thrown, part_thrown, lvalue_thrown, throwing, with_value, returning, initialised, bound_to, looping, scoped, caught_parameter, with_caught, handler, nothing_more, statement, otherwise, statements, clauses}
use Rattle.region_simulation.specs.Reach.{is_in_reach}
use Rattle.region_simulation.specs.Names.{AreNamed}
use Rattle.region_simulation.specs.Calls.{IsCallable}
use Rattle.region_simulation.specs.Typing.{IsTyped}
use Rattle.region_simulation.specs.Statements.{DeclaresNext, declared_to, CanBind, CanConstruct, PartCanBeThrown, LvalueCanBeThrown, CallCanBeThrown, CanThrow, CanCatch, CanReturn, IsTypedIfThere, IsTypedStatement, IsTypedElse, AreTypedStatements, AreTypedHandlers}
use Rattle.address_bounds.specs.Rooms.{HasRoom}
use Rattle.address_bounds.specs.Reaches.{ValueReaches, RegionReaches, ClausesReach, DestructorFits}
use Rattle.address_bounds.proofs.Where.{Where, size, Known, Within, AllReach, both_reach, from_reach, help_room, thrown_room, variable_place_room, names_room, class_room}
use Rattle.address_bounds.proofs.Expressions.{ExpressionReaches, reaches, dropped_reaches, store_reaches}
use Rattle.address_bounds.proofs.Constructed.{construct_reaches, destructor_needed, copied_reaches, destructor_fits}

pub first_later : (l : Lowering) → result_slot l ≤ first_temporary l
first_later l = omega arith

-- a variable that is declared is among the function's
pub within_declared : (l : Lowering) (xs : List Variable) (n : ℕ) (x : Option Name) (t : Ty) (r : Reference) → Within l xs → DeclaresNext l n x t → Within l (declared_to x r xs)
within_declared l xs n None t r within d = within
within_declared l xs n (Some x) t r within d = λ m is. by m (local_number x.bound == m) refl is
  where
    by : (m : ℕ) (b : Bool) → (local_number x.bound == m) ≡ b → (b || is_in_reach xs m) ≡ true → m < length l.variables
    by m true e is = let same : local_number x.bound ≡ m = grind (arith, nat_tests, e) in let there = d.there in let numbered = d.numbered in omega (arith, same, there, numbered)
    by m false e is = within m is

module _ (w : Where) (k : Known w) where
  abbrev Everywhere : (ℕ → List Region) → Type 0
  Everywhere rest = (d : ℕ) → AllReach w (rest d)

  with_value_reaches : (x : Lowered) (next : Value → Region) → ExpressionReaches w x → (ValueReaches w.needs w.reach w.slots x.value → RegionReaches w.needs w.reach w.slots (next x.value)) → AllReach w (with_value x next)
  with_value_reaches x next h goes = both_reach w x.before (next x.value ∷ []) h.before (goes h.value, tt)

  -- ---- throws

  thrown_reaches : (t : ObjectType) (build : List Region) → AllReach w build → DestructorFits w.needs (destructor_of w.lowering.program t) → AllReach w (thrown_as w.lowering t build)
  thrown_reaches t build h fits =
      let all = k.behind (exception_slot w.lowering) (omega arith) in
      (omega (arith, all), ((from_reach w build h, tt), (fits, tt)))

  int_thrown_reaches : (xs : List Variable) → Within w.lowering xs → (e : Expression) → IsTyped w.lowering w.own xs e → AllReach w (int_thrown w.lowering e)
  int_thrown_reaches xs within e typed =
      let x = reaches w k xs within e (first_temporary w.lowering) (first_later w.lowering) typed in
      thrown_reaches int_type _ (both_reach w (lower w.lowering e (first_temporary w.lowering)).before (op (store (thrown_place w.lowering) (lower w.lowering e (first_temporary w.lowering)).value) ∷ []) x.before
      ((thrown_room w k (exception_slot w.lowering) 4 (omega arith) (omega arith), x.value), tt)) tt

  object_thrown_reaches : (xs : List Variable) → Within w.lowering xs → (c : ℕ) (es : Expressions) → CanConstruct w.lowering w.own xs c es → AllReach w (object_thrown w.lowering c es)
  object_thrown_reaches xs within c es can =
      thrown_reaches (class_type c) (lower_construct w.lowering c es (thrown_place w.lowering) (first_temporary w.lowering))
      (construct_reaches w k xs within c es (thrown_place w.lowering) (first_temporary w.lowering) (first_later w.lowering) can (thrown_room w k (exception_slot w.lowering) (size w (class_type c)) (omega arith) (k.small c)))
      (destructor_fits w k c can.there)

  call_thrown_reaches : (xs : List Variable) → Within w.lowering xs → (b : Bound) (e : Expression) (es : Expressions) → CallCanBeThrown w.lowering w.own xs b e es → AllReach w (call_thrown w.lowering b e es)
  call_thrown_reaches xs within (Class c) e es can = object_thrown_reaches xs within c es can
  call_thrown_reaches xs within (BuiltinBound BadException) e es can = object_thrown_reaches xs within 0 es can
  call_thrown_reaches xs within (BuiltinBound WriteInt) e es can = int_thrown_reaches xs within e can
  call_thrown_reaches xs within (BuiltinBound ReadByte) e es can = int_thrown_reaches xs within e can
  call_thrown_reaches xs within (BuiltinBound Exit) e es can = int_thrown_reaches xs within e can
  call_thrown_reaches xs within (BuiltinBound Module) e es can = int_thrown_reaches xs within e can
  call_thrown_reaches xs within (BuiltinBound Cancel) e es can = int_thrown_reaches xs within e can
  call_thrown_reaches xs within (BuiltinBound Terminate) e es can = int_thrown_reaches xs within e can
  call_thrown_reaches xs within (BuiltinBound SetTerminate) e es can = int_thrown_reaches xs within e can
  call_thrown_reaches xs within (BuiltinBound SetUnexpected) e es can = int_thrown_reaches xs within e can
  call_thrown_reaches xs within (BuiltinBound Uncaught) e es can = int_thrown_reaches xs within e can
  call_thrown_reaches xs within Free e es can = int_thrown_reaches xs within e can
  call_thrown_reaches xs within (Global g) e es can = int_thrown_reaches xs within e can
  call_thrown_reaches xs within (Local n) e es can = int_thrown_reaches xs within e can
  call_thrown_reaches xs within (Field c i) e es can = int_thrown_reaches xs within e can
  call_thrown_reaches xs within (Func n) e es can = int_thrown_reaches xs within e can
  call_thrown_reaches xs within (Method c i) e es can = int_thrown_reaches xs within e can

  part_thrown_reaches : (xs : List Variable) → Within w.lowering xs → (e : Expression) (names : List Name) (t : ObjectType) → AreNamed w.lowering w.own xs names t → PartCanBeThrown w.lowering w.own xs e names t →
      AllReach w (part_thrown w.lowering e names t)
  part_thrown_reaches xs within e names int_type named can = int_thrown_reaches xs within e can
  part_thrown_reaches xs within e names (class_type c) named can =
      thrown_reaches (class_type c) (copied w.lowering c (thrown_place w.lowering) (place_of w.lowering names) ∷ [])
      (copied_reaches w k c (thrown_place w.lowering) (place_of w.lowering names) can.1 (thrown_room w k (exception_slot w.lowering) (size w (class_type c)) (omega arith) (k.small c)) (names_room w k xs within names (class_type c) named), tt)
      (destructor_fits w k c (there_of (copy_constructor w.lowering.program c) can.1))
    where
      there_of : (x : Constructor) → IsCallable w.lowering.program (constructor c x) → c < length w.lowering.program.classes
      there_of (declared i) h = h.0
      there_of implicit_default h = h.0
      there_of implicit_copy h = h

  lvalue_thrown_reaches : (xs : List Variable) → Within w.lowering xs → (e : Expression) (names : Option (List Name)) → LvalueCanBeThrown w.lowering w.own xs e names → AllReach w (lvalue_thrown w.lowering e names)
  lvalue_thrown_reaches xs within e None can = int_thrown_reaches xs within e can
  lvalue_thrown_reaches xs within e (Some names) can = part_thrown_reaches xs within e names (lvalue_type w.lowering names) can.0 can.1

  throwing_reaches : (xs : List Variable) → Within w.lowering xs → (e : Option Expression) → CanThrow w.lowering w.own xs e → AllReach w (throwing w.lowering e)
  throwing_reaches xs within None can = (tt, tt)
  throwing_reaches xs within (Some (call names es)) can = call_thrown_reaches xs within (callee_bound names) (call names es) es can
  throwing_reaches xs within (Some (std_call n es place)) can = call_thrown_reaches xs within n.bound (std_call n es place) es can
  throwing_reaches xs within (Some (number_expression v place)) can = lvalue_thrown_reaches xs within (number_expression v place) (lvalue_of (number_expression v place)) can
  throwing_reaches xs within (Some (path names)) can = lvalue_thrown_reaches xs within (path names) (lvalue_of (path names)) can
  throwing_reaches xs within (Some (paren e place)) can = lvalue_thrown_reaches xs within (paren e place) (lvalue_of (paren e place)) can
  throwing_reaches xs within (Some (unary o e place)) can = lvalue_thrown_reaches xs within (unary o e place) (lvalue_of (unary o e place)) can
  throwing_reaches xs within (Some (binary o a b)) can = lvalue_thrown_reaches xs within (binary o a b) (lvalue_of (binary o a b)) can

  -- ---- scopes and handlers

  pub scoped_reaches : (t : ObjectType) (q : Place) (rest : ℕ → List Region) (d : ℕ) → ((c : ℕ) → t ≡ class_type c → c < length w.lowering.program.classes) → HasRoom w.reach w.slots q (size w t) → Everywhere rest → AllReach w (scoped w.lowering t q rest d)
  scoped_reaches int_type q rest d there room h = h d
  scoped_reaches (class_type c) q rest d there room h =
      ((from_reach w (rest (d + 2)) (h (d + 2)), destructor_needed w k c q (there c refl) room), tt)

  caught_reaches : (t : Ty) (n : ℕ) → n < length w.lowering.variables → variable_type w.lowering n ≡ t → CanCatch w.lowering.program t → AllReach w (caught_parameter w.lowering t (variable_slot w.lowering n))
  caught_reaches Int n below typed can =
      ((variable_place_room w k n below Int typed refl, thrown_room w k (exception_slot w.lowering) 4 (omega arith) (omega arith)), tt)
  caught_reaches Void n below typed can = absurd can
  caught_reaches (Object c) n below typed can = (
    copied_reaches w k (class_named c) (slot_place (variable_slot w.lowering n)) (thrown_place w.lowering) can.1 (variable_place_room w k n below (Object c) typed refl)
        (thrown_room w k (exception_slot w.lowering) (size w (class_type (class_named c))) (omega arith) (k.small (class_named c))),
    tt,
  )
  caught_reaches (IntRef const) n below typed can = (bound_reach int_type (k.variables n below ∙ ap (λ t. size w (object_type t)) typed) (omega arith), tt)
    where
      bound_reach : (t : ObjectType) → w.reach (w.lowering.first_variable + n) ≡ size w t → size w t ≤ most_class_bytes → HasRoom w.reach w.slots (thrown_place w.lowering) (w.reach (variable_slot w.lowering n))
      bound_reach t is small = thrown_room w k (exception_slot w.lowering) (w.reach (variable_slot w.lowering n)) (omega arith) (omega (arith, is, small))
  caught_reaches (ObjectRef const c) n below typed can = (bound_reach (class_type (class_named c)) (k.variables n below ∙ ap (λ t. size w (object_type t)) typed) (k.small (class_named c)), tt)
    where
      bound_reach : (t : ObjectType) → w.reach (w.lowering.first_variable + n) ≡ size w t → size w t ≤ most_class_bytes → HasRoom w.reach w.slots (thrown_place w.lowering) (w.reach (variable_slot w.lowering n))
      bound_reach t is small = thrown_room w k (exception_slot w.lowering) (w.reach (variable_slot w.lowering n)) (omega arith) (omega (arith, is, small))

  with_caught_reaches : (t : Ty) (n d : ℕ) (body : ℕ → List Region) → n < length w.lowering.variables → variable_type w.lowering n ≡ t → CanCatch w.lowering.program t → Everywhere body →
      AllReach w (with_caught w.lowering t (variable_slot w.lowering n) body d)
  with_caught_reaches Int n d body below typed can h = h d
  with_caught_reaches Void n d body below typed can h = h d
  with_caught_reaches (Object c) n d body below typed can h =
      scoped_reaches (class_type (class_named c)) (slot_place (variable_slot w.lowering n)) body d (λ j e. let same : class_named c ≡ j = cc e in subst (λ x. x < length w.lowering.program.classes) same can.0)
      (variable_place_room w k n below (Object c) typed refl) h
  with_caught_reaches (IntRef const) n d body below typed can h = h d
  with_caught_reaches (ObjectRef const c) n d body below typed can h = h d

  handler_reaches : (parameter : List Region) (body : ℕ → List Region) (d : ℕ) → AllReach w parameter → Everywhere body → RegionReaches w.needs w.reach w.slots (handler w.lowering parameter body d)
  handler_reaches parameter body d p h =
      from_reach w _ (both_reach w parameter _ p (tt, ((from_reach w (body (d + 2)) (h (d + 2)), tt), tt)))

  -- ---- statements

  returning_reaches : (gives : Bool) (xs : List Variable) → Within w.lowering xs → (e : Option Expression) (d : ℕ) → CanReturn w.lowering w.own gives xs e → AllReach w (returning w.lowering e d)
  returning_reaches gives xs within None d can = (tt, tt)
  returning_reaches gives xs within (Some e) d can =
      both_reach w _ (leave_region d ∷ []) (store_reaches w k xs within e (slot_place (result_slot w.lowering)) (first_temporary w.lowering) (first_later w.lowering)
      (help_room w k (result_slot w.lowering) 4 (omega arith) (omega arith)) can.1) (tt, tt)

  initialised_reaches : (xs : List Variable) → Within w.lowering xs → (n : ℕ) (x : Name) (e : Option Expression) → DeclaresNext w.lowering n (Some x) Int → IsTypedIfThere w.lowering w.own xs e → AllReach w (initialised w.lowering x e)
  initialised_reaches xs within n x None d typed = tt
  initialised_reaches xs within n x (Some e) d typed =
      store_reaches w k xs within e (slot_place (variable_slot w.lowering (local_number x.bound))) (first_temporary w.lowering) (first_later w.lowering)
      (subst (λ m. HasRoom w.reach w.slots (slot_place (variable_slot w.lowering m)) 4) (sym d.numbered) (variable_place_room w k n d.there Int d.typed refl)) typed

  bound_reaches : (xs : List Variable) → Within w.lowering xs → (n : ℕ) (x : Option Name) (t : Ty) (names : List Name) → DeclaresNext w.lowering n x t → CanBind w.lowering w.own xs t names → AllReach w (bound_to w.lowering x (place_of w.lowering names))
  bound_reaches xs within n None t names d can = tt
  bound_reaches xs within n (Some x) t names d can = (by t d.typed can, tt)
    where
      to : (m : ℕ) → w.reach (w.lowering.first_variable + n) ≡ m → HasRoom w.reach w.slots (place_of w.lowering names) m → HasRoom w.reach w.slots (place_of w.lowering names) (w.reach (variable_slot w.lowering (local_number x.bound)))
      to m is room = subst (λ i. HasRoom w.reach w.slots (place_of w.lowering names) (w.reach (w.lowering.first_variable + i))) (sym d.numbered) (subst (λ i. HasRoom w.reach w.slots (place_of w.lowering names) i) (sym is) room)

      by : (t : Ty) → variable_type w.lowering n ≡ t → CanBind w.lowering w.own xs t names → HasRoom w.reach w.slots (place_of w.lowering names) (w.reach (variable_slot w.lowering (local_number x.bound)))
      by (IntRef const) e can = to (size w int_type) (k.variables n d.there ∙ ap (λ t. size w (object_type t)) e) (names_room w k xs within names int_type can)
      by (ObjectRef const c) e can = to (size w (class_type (class_named c))) (k.variables n d.there ∙ ap (λ t. size w (object_type t)) e) (class_room w k xs within names (class_named c) can)
      by Int e can = absurd can
      by Void e can = absurd can
      by (Object c) e can = absurd can

  looping_reaches : (b : Bool) (x : Lowered) (body : ℕ → Region) (d : ℕ) → ExpressionReaches w x → ((d : ℕ) → RegionReaches w.needs w.reach w.slots (body d)) → RegionReaches w.needs w.reach w.slots (looping b x body d)
  looping_reaches false x body d h goes = (h.value, goes (d + 2))
  looping_reaches true x body d h goes = (tt, from_reach w (x.before ++ branch x.value (body (d + 4)) (leave_region 3) ∷ []) (both_reach w x.before (branch x.value (body (d + 4)) (leave_region 3) ∷ []) h.before ((h.value, goes (d + 4), tt), tt)))

  -- what is known of the rest of a block: nothing, or that it is typed
  abbrev RestOf : Bool → Option (Statements × ℕ) → List Variable → Type 0
  RestOf gives None ys = Unit {0}
  RestOf gives (Some x) ys = AreTypedStatements w.lowering w.own gives x.0 ys x.1

  mutual
    pub statement_reaches : (gives : Bool) (s : Statement) (xs : List Variable) → Within w.lowering xs → (more : Option (Statements × ℕ)) (rest : ℕ → List Region) (i n d : ℕ) →
        ((ys : List Variable) → Within w.lowering ys → RestOf gives more ys → Everywhere rest) → IsTypedStatement w.lowering w.own gives s (RestOf gives more) xs n → AllReach w (statement w.lowering s rest i n d)
    statement_reaches gives (block ss) xs within more rest i n d next h =
        (from_reach w (statements w.lowering ss i n (d + 1)) (statements_reach gives ss xs within i n (d + 1) h.0), next xs within h.1 d)
    statement_reaches gives empty xs within more rest i n d next h = next xs within h d
    statement_reaches gives (if_else e s t) xs within more rest i n d next h =
        let x = reaches w k xs within e (first_temporary w.lowering) (first_later w.lowering) h.0 in
        both_reach w _ (rest d) (with_value_reaches (lower w.lowering e (first_temporary w.lowering)) (λ v. branch v (in_order (statement w.lowering s nothing_more i n (d + 2)))
        (in_order (otherwise w.lowering t i (n + length (declared_in s)) (d + 2)))) x
        (λ v. (
          v,
          from_reach w _ (statement_reaches gives s xs within None nothing_more i n (d + 2) (λ ys within typed d. tt) h.1),
          from_reach w _ (else_reaches gives t xs within i (n + length (declared_in s)) (d + 2) h.2),
        ))) (next xs within h.3 d)
    statement_reaches gives (while e s) xs within more rest i n d next h =
        let x = reaches w k xs within e (first_temporary w.lowering) (first_later w.lowering) h.0 in (
          looping_reaches (has_call e) (lower w.lowering e (first_temporary w.lowering)) (λ b. in_order (statement w.lowering s nothing_more (d + 1) n b)) d x
              (λ b. from_reach w _ (statement_reaches gives s xs within None nothing_more (d + 1) n b (λ ys within typed d. tt) h.1)),
          next xs within h.2 d,
        )
    statement_reaches gives (return place e) xs within more rest i n d next h = returning_reaches gives xs within e d h
    statement_reaches gives (break place) xs within more rest i n d next h = (tt, tt)
    statement_reaches gives (continue place) xs within more rest i n d next h = (tt, tt)
    statement_reaches gives (throw place e) xs within more rest i n d next h = throwing_reaches xs within e h
    statement_reaches gives (try ss hs) xs within more rest i n d next h =
        ((from_reach w _ (statements_reach gives ss xs within i n (d + 2) h.0), clauses_reach gives hs xs within i (n + length (all_declared_in ss)) (d + 2) h.1), next xs within h.2 d)
    statement_reaches gives (assign names e) xs within more rest i n d next h =
        both_reach w _ (rest d) (store_reaches w k xs within e (place_of w.lowering names) (first_temporary w.lowering) (first_later w.lowering) (names_room w k xs within names int_type h.0) h.1)
        (next xs within h.2 d)
    statement_reaches gives (evaluate e) xs within more rest i n d next h =
        both_reach w _ (rest d) (dropped_reaches w k xs within e (first_temporary w.lowering) (first_later w.lowering) h.0) (next xs within h.1 d)
    statement_reaches gives (local_int x e) xs within more rest i n d next h =
        both_reach w _ (rest d) (initialised_reaches xs within n x e h.0 h.1) (next _ (within_declared w.lowering xs n (Some x) Int nowhere within h.0) (h.2 nowhere) d)
    statement_reaches gives (local_ref x names) xs within more rest i n d next h =
        both_reach w _ (rest d) (bound_reaches xs within n x.name x.ty names h.0 h.1) (next _ (within_declared w.lowering xs n x.name x.ty nowhere within h.0) (h.2 nowhere) d)
    statement_reaches gives (local_object c x es) xs within more rest i n d next h =
        let room = subst (λ m. HasRoom w.reach w.slots (slot_place (variable_slot w.lowering m)) (size w (class_type (class_named c)))) (sym h.0.numbered) (variable_place_room w k n h.0.there (Object c) h.0.typed refl) in
        both_reach w _ _ (construct_reaches w k xs within (class_named c) es (slot_place (variable_slot w.lowering (local_number x.bound))) (first_temporary w.lowering) (first_later w.lowering) h.1 room)
        (scoped_reaches (class_type (class_named c)) (slot_place (variable_slot w.lowering (local_number x.bound))) rest d (λ j e. let same : class_named c ≡ j = cc e in subst (λ y. y < length w.lowering.program.classes) same h.1.there) room
        (λ d. next _ (within_declared w.lowering xs n (Some x) (Object c) nowhere within h.0) (h.2 nowhere) d))

    else_reaches : (gives : Bool) (t : Else) (xs : List Variable) → Within w.lowering xs → (i n d : ℕ) → IsTypedElse w.lowering w.own gives t xs n → AllReach w (otherwise w.lowering t i n d)
    else_reaches gives no_else xs within i n d h = tt
    else_reaches gives (else_do s) xs within i n d h = statement_reaches gives s xs within None nothing_more i n d (λ ys within typed d. tt) h.1

    pub statements_reach : (gives : Bool) (ss : Statements) (xs : List Variable) → Within w.lowering xs → (i n d : ℕ) → AreTypedStatements w.lowering w.own gives ss xs n → AllReach w (statements w.lowering ss i n d)
    statements_reach gives no_statements xs within i n d h = tt
    statements_reach gives (statement_then s ss) xs within i n d h =
        statement_reaches gives s xs within (Some (ss, n + length (declared_in s))) (λ b. statements w.lowering ss i (n + length (declared_in s)) b) i n d
        (λ ys within typed d. statements_reach gives ss ys within i (n + length (declared_in s)) d typed) h.1

    clauses_reach : (gives : Bool) (hs : Handlers) (xs : List Variable) → Within w.lowering xs → (i n d : ℕ) → AreTypedHandlers w.lowering w.own gives hs xs n → ClausesReach w.needs w.reach w.slots (clauses w.lowering hs i n d)
    clauses_reach gives no_handlers xs within i n d h = tt
    clauses_reach gives (handler_then None x ss place hs) xs within i n d h =
        let all = k.behind (exception_slot w.lowering) (omega arith) in
        (omega (arith, all), handler_reaches [] (λ b. statements w.lowering ss i n b) d tt (λ b. statements_reach gives ss xs within i n b h.1), clauses_reach gives hs xs within i (n + length (all_declared_in ss)) d h.2)
    clauses_reach gives (handler_then (Some t) x ss place hs) xs within i n d h =
        let all = k.behind (exception_slot w.lowering) (omega arith) in (
          omega (arith, all),
          handler_reaches (caught_parameter w.lowering t (variable_slot w.lowering n)) (λ b. with_caught w.lowering t (variable_slot w.lowering n) (λ c. statements w.lowering ss i (n + 1) c) b) d
              (caught_reaches t n h.0.there h.0.typed h.1)
              (λ b. with_caught_reaches t n b (λ c. statements w.lowering ss i (n + 1) c) h.0.there h.0.typed h.1 (λ c. statements_reach gives ss (declared_to x nowhere xs) (within_declared w.lowering xs n x t nowhere within h.0) i (n + 1) c (h.2 nowhere))),
          clauses_reach gives hs xs within i (n + 1 + length (all_declared_in ss)) d h.3,
        )
