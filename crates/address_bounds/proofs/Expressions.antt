-- Expressions read ints inside their objects, and pass addresses behind which lie as many bytes as is needed.
use Rattle.std.proofs.Common.{◌≡◌, ◌∙◌, refl, sym, ap, subst, arith, ℕ, zero, suc, ◌+◌, ◌≤◌, Bool, true, false, List, [], ◌∷◌, ◌++◌, length, Option, Some, None, if◌then◌else◌}
use Rattle.std.specs.Prelude.{map, drop, slice_get, unwrap_or, pos}
use Rattle.cxx_ast.specs.Limits.{most_class_bytes}
use Rattle.cxx_ast.specs.declared.name.Name.{Name}
use Rattle.cxx_ast.specs.declared.name.Bound.{Bound}
use Rattle.cxx_ast.specs.declared.name.Bound.TheVariants.{Free, Global, Local, Field, Class, Func, Method, Builtin as BuiltinBound}
use Rattle.cxx_ast.specs.declared.name.Builtin.{Builtin}
use Rattle.cxx_ast.specs.declared.name.Builtin.TheVariants.{WriteInt, ReadByte, Exit, Module, Cancel, Terminate, SetTerminate, SetUnexpected, Uncaught, BadException}
use Rattle.cxx_ast.specs.declared.expression.BinaryOp.{BinaryOp}
use Rattle.cxx_ast.specs.declared.expression.BinaryOp.TheVariants.{Add, Subtract, Multiply, Divide, Remainder, Less, Greater, LessEqual, GreaterEqual, Equal, NotEqual, And, Or}
use Rattle.cxx_ast.specs.declared.types.Ty.{Ty}
use Rattle.cxx_ast.specs.declared.types.Ty.TheVariants.{Int, Void, Object, IntRef, ObjectRef}
use Rattle.cxx_ast.specs.Plain.{Expression, number, path, paren, unary, binary, call, std_call, Expressions, no_expressions, expression_then}
use Rattle.meaning_forms.specs.Class.{int_type, class_type, class_named, object_type, function_at, method_at}
use Rattle.meaning_forms.specs.Frame.{Variable}
use Rattle.meaning_forms.specs.Expression.{types_of, lvalue_of, names_of, callee_bound, receiver, parameter_types, function_named}
use Rattle.meaning_forms.specs.Running.{function, method}
use Rattle.region_forms.specs.Form.{Value, number as number_value, call_value, Callee, defined, Place, Argument, address_argument, Region, op, store, branch, in_order, arguments_from}
use Rattle.region_forms.specs.Numbering.{number_of, declared_in_body}
use Rattle.region_forms.specs.LowerExpression.{result_slot, place_of, has_call, some_call, Lowered, LoweredArguments, LoweredCall, stored_in, in_temporary, truth_of, if_true, if_false, left_stored, both, handler_arguments, call_of, call_placed, call_stored, call_dropped, int_passed, address_passed, refers, lower, lower_arguments, dropped, lower_store}
use Rattle.region_simulation.specs.Typing.{CanPass, CanCall, IsStandard, UnlessHandler, IsTyped, AreTyped}
use Rattle.address_bounds.specs.Rooms.{Reach, HasRoom}
use Rattle.address_bounds.specs.Reaches.{ValueReaches, callee_needs}
use Rattle.address_bounds.specs.Givens.{own_given, class_given, reach_of}
use Rattle.address_bounds.proofs.Callees.{given_for, is_there}
use Rattle.address_bounds.proofs.Where.{Where, size, Known, Within, AllReach, both_reach, from_reach, GivenReach, given_reach, help_room, names_room, class_room}

-- a lowered expression, where the slots from one behind the variables are used
pub record ExpressionReaches (w : Where) (x : Lowered) : Type 0 where
  pub before : AllReach w x.before
  pub value : ValueReaches w.needs w.reach w.slots x.value
  pub later : result_slot w.lowering ≤ x.next

pub record ArgumentsGiven (w : Where) (wants : Reach) (i : ℕ) (x : LoweredArguments) : Type 0 where
  pub before : AllReach w x.before
  pub given : GivenReach w wants i x.arguments
  pub later : result_slot w.lowering ≤ x.next

-- what is needed for parameters of these types from the i-th slot on
abbrev pub WantsAre : Where → Reach → ℕ → List Ty → Type 0
WantsAre w wants i types = (j : ℕ) (t : Ty) → slice_get types j ≡ Some t → wants (i + j) ≡ size w (object_type t)

module _ (w : Where) (k : Known w) where
  stored_reaches : (t : ℕ) (v : Value) → result_slot w.lowering ≤ t → ValueReaches w.needs w.reach w.slots v → AllReach w (stored_in t v ∷ [])
  stored_reaches t v later h = ((help_room w k t 4 later (omega arith), h), tt)

  in_slot_reaches : (before : List Region) (t : ℕ) → result_slot w.lowering ≤ t → AllReach w before → ExpressionReaches w (in_temporary before t)
  in_slot_reaches before t later h = record { before = h; value = help_room w k t 4 later (omega arith); later = omega (arith, later) }

  if_true_reaches : (t : ℕ) (a b : Lowered) → result_slot w.lowering ≤ t → ExpressionReaches w a → ExpressionReaches w b → ExpressionReaches w (if_true t a b)
  if_true_reaches t a b later x y =
      let yes : List Region = b.before ++ stored_in t (truth_of b.value) ∷ [] in
      let no : List Region = stored_in t (number_value (pos 0)) ∷ [] in
      in_slot_reaches (a.before ++ branch a.value (in_order yes) (in_order no) ∷ []) t later (both_reach w a.before (branch a.value (in_order yes) (in_order no) ∷ []) x.before (
        (
          x.value,
          from_reach w yes (both_reach w b.before (stored_in t (truth_of b.value) ∷ []) y.before (stored_reaches t (truth_of b.value) later (y.value, tt))),
          from_reach w no (stored_reaches t (number_value (pos 0)) later tt),
        ),
        tt,
      ))

  if_false_reaches : (t : ℕ) (a b : Lowered) → result_slot w.lowering ≤ t → ExpressionReaches w a → ExpressionReaches w b → ExpressionReaches w (if_false t a b)
  if_false_reaches t a b later x y =
      let yes : List Region = stored_in t (number_value (pos 1)) ∷ [] in
      let no : List Region = b.before ++ stored_in t (truth_of b.value) ∷ [] in
      in_slot_reaches (a.before ++ branch a.value (in_order yes) (in_order no) ∷ []) t later (both_reach w a.before (branch a.value (in_order yes) (in_order no) ∷ []) x.before (
        (
          x.value,
          from_reach w yes (stored_reaches t (number_value (pos 1)) later tt),
          from_reach w no (both_reach w b.before (stored_in t (truth_of b.value) ∷ []) y.before (stored_reaches t (truth_of b.value) later (y.value, tt))),
        ),
        tt,
      ))

  left_reaches : (o : BinaryOp) (t : ℕ) (a b : Lowered) → result_slot w.lowering ≤ t → ExpressionReaches w a → ExpressionReaches w b → ExpressionReaches w (left_stored o t a b)
  left_reaches o t a b later x y = record {
    before = both_reach w a.before _ x.before ((stored_reaches t a.value later x.value).0, y.before);
    value = (help_room w k t 4 later (omega arith), y.value);
    later = y.later;
  }

  both_reaches : (o : BinaryOp) (c : Bool) (t : ℕ) (a : Lowered) (b : ℕ → Lowered) → result_slot w.lowering ≤ t → ExpressionReaches w a → ((u : ℕ) → result_slot w.lowering ≤ u → ExpressionReaches w (b u)) →
      ExpressionReaches w (both o c t a b)
  both_reaches o false t a b later x y = record { before = x.before; value = (x.value, (y a.next x.later).value); later = x.later }
  both_reaches And true t a b later x y = if_true_reaches t a (b t) later x (y t later)
  both_reaches Or true t a b later x y = if_false_reaches t a (b t) later x (y t later)
  both_reaches Add true t a b later x y = left_reaches Add t a (b (t + 1)) later x (y (t + 1) (omega (arith, later)))
  both_reaches Subtract true t a b later x y = left_reaches Subtract t a (b (t + 1)) later x (y (t + 1) (omega (arith, later)))
  both_reaches Multiply true t a b later x y = left_reaches Multiply t a (b (t + 1)) later x (y (t + 1) (omega (arith, later)))
  both_reaches Divide true t a b later x y = left_reaches Divide t a (b (t + 1)) later x (y (t + 1) (omega (arith, later)))
  both_reaches Remainder true t a b later x y = left_reaches Remainder t a (b (t + 1)) later x (y (t + 1) (omega (arith, later)))
  both_reaches Less true t a b later x y = left_reaches Less t a (b (t + 1)) later x (y (t + 1) (omega (arith, later)))
  both_reaches Greater true t a b later x y = left_reaches Greater t a (b (t + 1)) later x (y (t + 1) (omega (arith, later)))
  both_reaches LessEqual true t a b later x y = left_reaches LessEqual t a (b (t + 1)) later x (y (t + 1) (omega (arith, later)))
  both_reaches GreaterEqual true t a b later x y = left_reaches GreaterEqual t a (b (t + 1)) later x (y (t + 1) (omega (arith, later)))
  both_reaches Equal true t a b later x y = left_reaches Equal t a (b (t + 1)) later x (y (t + 1) (omega (arith, later)))
  both_reaches NotEqual true t a b later x y = left_reaches NotEqual t a (b (t + 1)) later x (y (t + 1) (omega (arith, later)))

  -- ---- arguments

  int_reaches : (c : Bool) (wants : Reach) (i t : ℕ) (a : Lowered) (rest : ℕ → LoweredArguments) → result_slot w.lowering ≤ t → ExpressionReaches w a →
      ((u : ℕ) → result_slot w.lowering ≤ u → ArgumentsGiven w wants (i + 1) (rest u)) → ArgumentsGiven w wants i (int_passed c t a rest)
  int_reaches false wants i t a rest later x y = let r = y a.next x.later in record { before = x.before; given = (x.value, r.given); later = r.later }
  int_reaches true wants i t a rest later x y =
      let r = y (t + 1) (omega (arith, later)) in
      record {
        before = both_reach w a.before _ x.before ((stored_reaches t a.value later x.value).0, r.before);
        given = (help_room w k t 4 later (omega arith), r.given);
        later = r.later;
      }

  address_reaches : (wants : Reach) (i : ℕ) (q : Place) (rest : LoweredArguments) → HasRoom w.reach w.slots q (wants i) → ArgumentsGiven w wants (i + 1) rest → ArgumentsGiven w wants i (address_passed q rest)
  address_reaches wants i q rest room r = record { before = r.before; given = (room, r.given); later = r.later }

  -- the types behind the first
  wants_behind : (wants : Reach) (i : ℕ) (types : List Ty) → WantsAre w wants i types → WantsAre w wants (i + 1) (drop 1 types)
  wants_behind wants i [] are j t e = absurd (cc e)
  wants_behind wants i (u ∷ types) are j t e = let same : i + 1 + j ≡ i + suc j = omega arith in ap wants same ∙ are (suc j) t e

  -- one argument, with those behind it
  one_argument : (xs : List Variable) → Within w.lowering xs → (wants : Reach) (i t : ℕ) (e : Expression) (types : List Ty) (c : Bool) (a : Lowered) (rest : ℕ → LoweredArguments) → WantsAre w wants i types →
      CanPass w.lowering w.own xs types e (IsTyped w.lowering w.own xs e) → result_slot w.lowering ≤ t → (IsTyped w.lowering w.own xs e → ExpressionReaches w a) →
      ((u : ℕ) → result_slot w.lowering ≤ u → ArgumentsGiven w wants (i + 1) (rest u)) →
      ArgumentsGiven w wants i (if refers types then address_passed (place_of w.lowering (names_of (lvalue_of e))) (rest t) else int_passed c t a rest)
  one_argument xs within wants i t e [] c a rest are pass later x y = int_reaches c wants i t a rest later (x pass) y
  one_argument xs within wants i t e (Int ∷ types) c a rest are pass later x y = int_reaches c wants i t a rest later (x pass) y
  one_argument xs within wants i t e (Void ∷ types) c a rest are pass later x y = absurd pass
  one_argument xs within wants i t e (Object n ∷ types) c a rest are pass later x y = absurd pass
  one_argument xs within wants i t e (IntRef const ∷ types) c a rest are pass later x y =
      let need : wants i ≡ size w int_type = (let none : i ≡ i + 0 = omega arith in ap wants none) ∙ are 0 (IntRef const) refl in
      address_reaches wants i (place_of w.lowering (names_of (lvalue_of e))) (rest t) (subst (λ n. HasRoom w.reach w.slots (place_of w.lowering (names_of (lvalue_of e))) n) (sym need) (names_room w k xs within (names_of (lvalue_of e)) int_type pass)) (y t later)
  one_argument xs within wants i t e (ObjectRef const n ∷ types) c a rest are pass later x y =
      let need : wants i ≡ size w (class_type (class_named n)) = (let none : i ≡ i + 0 = omega arith in ap wants none) ∙ are 0 (ObjectRef const n) refl in
      address_reaches wants i (place_of w.lowering (names_of (lvalue_of e))) (rest t)
      (subst (λ m. HasRoom w.reach w.slots (place_of w.lowering (names_of (lvalue_of e))) m) (sym need) (class_room w k xs within (names_of (lvalue_of e)) (class_named n) pass)) (y t later)

-- ---- what is needed by a callee

no_types : (w : Where) (i : ℕ) → WantsAre w (λ s. 0) i []
no_types w i j t e = absurd (cc e)

-- the types of parameters, in front of those of other variables
mapped : (w : Where) (own : List ℕ) (types more : List Ty) (i : ℕ) (t : Ty) → slice_get types i ≡ Some t →
    unwrap_or (slice_get (own ++ map (λ t. size w (object_type t)) (types ++ more)) (length own + i)) most_class_bytes ≡ size w (object_type t)
mapped w (n ∷ own) types more i t e =
    let one : length (n ∷ own) + i ≡ suc (length own + i) = omega arith in
    ap (λ m. unwrap_or (slice_get (n ∷ (own ++ map (λ t. size w (object_type t)) (types ++ more))) m) most_class_bytes) one ∙ mapped w own types more i t e
mapped w [] [] more i t e = absurd (cc e)
mapped w [] (u ∷ types) more zero t e =
    let same : u ≡ t = cc e in ap (λ u. size w (object_type u)) same
mapped w [] (u ∷ types) more (suc i) t e =
    let one : 0 + suc i ≡ suc (0 + i) = omega arith in
    ap (λ m. unwrap_or (slice_get (map (λ t. size w (object_type t)) ((u ∷ types) ++ more)) m) most_class_bytes) one ∙ mapped w [] types more i t e

own_wants : (w : Where) (types more : List Ty) → WantsAre w (reach_of w.lowering.layout (record { own = None; variables = types ++ more })) 0 types
own_wants w types more j t e = mapped w [] types more j t e

pub class_wants : (w : Where) (c : ℕ) (types more : List Ty) → WantsAre w (reach_of w.lowering.layout (record { own = Some c; variables = types ++ more })) 1 types
class_wants w c types more j t e = mapped w (size w (class_type c) ∷ []) types more j t e

module _ (w : Where) (k : Known w) where
  -- a call, with what comes before it and its arguments
  pub record CallReaches (x : LoweredCall) : Type 0 where
    pub before : AllReach w x.before
    pub given : GivenReach w (callee_needs w.needs x.callee) 0 x.arguments

  handlers_given : (n : Option ℕ) → GivenReach w (λ s. 0) 0 (handler_arguments n)
  handlers_given None = tt
  handlers_given (Some n) = (tt, tt)

  called_as : (f : Callee) (wants : Reach) (i : ℕ) (args : List Argument) → callee_needs w.needs f ≡ wants → GivenReach w wants i args → GivenReach w (callee_needs w.needs f) i args
  called_as f wants i args is h = subst (λ x. GivenReach w x i args) (sym is) h

  -- arguments for parameters, whatever is needed for their types
  abbrev pub GivenFor : List Ty → LoweredArguments → Type 0
  GivenFor types given = (wants : Reach) (i : ℕ) → WantsAre w wants i types → ArgumentsGiven w wants i given

  -- a built-in function
  built_in : (f : Builtin) (object : List Name) (es : Expressions) (given : LoweredArguments) → UnlessHandler (BuiltinBound f) (GivenFor [] given) → CallReaches (call_of w.lowering (BuiltinBound f) object es given)
  built_in SetTerminate object es given h = record { before = tt; given = handlers_given (function_named es) }
  built_in SetUnexpected object es given h = record { before = tt; given = handlers_given (function_named es) }
  built_in WriteInt object es given h = let r = h (λ s. 0) 0 (no_types w 0) in record { before = r.before; given = r.given }
  built_in ReadByte object es given h = let r = h (λ s. 0) 0 (no_types w 0) in record { before = r.before; given = r.given }
  built_in Exit object es given h = let r = h (λ s. 0) 0 (no_types w 0) in record { before = r.before; given = r.given }
  built_in Module object es given h = let r = h (λ s. 0) 0 (no_types w 0) in record { before = r.before; given = r.given }
  built_in Cancel object es given h = let r = h (λ s. 0) 0 (no_types w 0) in record { before = r.before; given = r.given }
  built_in Terminate object es given h = let r = h (λ s. 0) 0 (no_types w 0) in record { before = r.before; given = r.given }
  built_in Uncaught object es given h = let r = h (λ s. 0) 0 (no_types w 0) in record { before = r.before; given = r.given }
  built_in BadException object es given h = let r = h (λ s. 0) 0 (no_types w 0) in record { before = r.before; given = r.given }

  -- what a name is bound to
  call_reaches : (xs : List Variable) → Within w.lowering xs → (b : Bound) (object : List Name) (es : Expressions) (given : LoweredArguments) → CanCall w.lowering w.own xs b object es →
      UnlessHandler b (GivenFor (parameter_types w.lowering.program b) given) → CallReaches (call_of w.lowering b object es given)
  call_reaches xs within (Func n) object es given can h =
      let f = function_at w.lowering.program n in
      let wants : Reach = reach_of w.lowering.layout (own_given f) in
      let r = h wants 0 (own_wants w (types_of f.parameters) (declared_in_body f.body)) in
      record { before = r.before; given = called_as (defined n) wants 0 given.arguments (k.called (function n) can.0) r.given }
  call_reaches xs within (Method c i) object es given can h =
      let f = method_at w.lowering.program c i in
      let wants : Reach = reach_of w.lowering.layout (class_given c f) in
      let r = h wants 1 (class_wants w c (types_of f.parameters) (declared_in_body f.body)) in
      record {
        before = r.before;
        given = called_as (defined (number_of w.lowering.program (method c i))) wants 0 (address_argument (place_of w.lowering object) ∷ given.arguments) (k.called (method c i) (is_there w.lowering.program (method c i) can.0))
            (class_room w k xs within object c can.2, r.given);
      }
  call_reaches xs within (BuiltinBound f) object es given can h = built_in f object es given h
  call_reaches xs within Free object es given can h = absurd can
  call_reaches xs within (Global g) object es given can h = absurd can
  call_reaches xs within (Local n) object es given can h = absurd can
  call_reaches xs within (Field c i) object es given can h = absurd can
  call_reaches xs within (Class c) object es given can h = absurd can

  call_stored_reaches : (t : ℕ) (c : LoweredCall) → result_slot w.lowering ≤ t → CallReaches c → ExpressionReaches w (call_stored t c)
  call_stored_reaches t c later r =
      in_slot_reaches w k (c.before ++ stored_in t (call_value c.callee (arguments_from c.arguments)) ∷ []) t later
      (both_reach w c.before (stored_in t (call_value c.callee (arguments_from c.arguments)) ∷ []) r.before
      ((help_room w k t 4 later (omega arith), given_reach w (callee_needs w.needs c.callee) 0 c.arguments r.given), tt))

  call_dropped_reaches : (c : LoweredCall) → CallReaches c → AllReach w (call_dropped c)
  call_dropped_reaches c r = both_reach w c.before _ r.before (given_reach w (callee_needs w.needs c.callee) 0 c.arguments r.given, tt)

  -- a function of the language
  standard_can : (xs : List Variable) (b : Bound) (es : Expressions) → IsStandard w.lowering.program b es → CanCall w.lowering w.own xs b [] es
  standard_can xs (BuiltinBound f) es h = h
  standard_can xs Free es h = absurd h
  standard_can xs (Global g) es h = absurd h
  standard_can xs (Local n) es h = absurd h
  standard_can xs (Field c i) es h = absurd h
  standard_can xs (Class c) es h = absurd h
  standard_can xs (Func n) es h = absurd h
  standard_can xs (Method c i) es h = absurd h

  -- its parameters are ints
  standard_types : (b : Bound) (es : Expressions) (given : LoweredArguments) → IsStandard w.lowering.program b es → UnlessHandler b (GivenFor [] given) → UnlessHandler b (GivenFor (parameter_types w.lowering.program b) given)
  standard_types (BuiltinBound f) es given h given_for = given_for
  standard_types Free es given h given_for = absurd h
  standard_types (Global g) es given h given_for = absurd h
  standard_types (Local n) es given h given_for = absurd h
  standard_types (Field c i) es given h given_for = absurd h
  standard_types (Class c) es given h given_for = absurd h
  standard_types (Func n) es given h given_for = absurd h
  standard_types (Method c i) es given h given_for = absurd h

  -- unless a handler is set, what holds of typed arguments holds
  unless : (b : Bound) {A B : Type 0} → (A → B) → UnlessHandler b A → UnlessHandler b B
  unless (BuiltinBound SetTerminate) f h = tt
  unless (BuiltinBound SetUnexpected) f h = tt
  unless (BuiltinBound WriteInt) f h = f h
  unless (BuiltinBound ReadByte) f h = f h
  unless (BuiltinBound Exit) f h = f h
  unless (BuiltinBound Module) f h = f h
  unless (BuiltinBound Cancel) f h = f h
  unless (BuiltinBound Terminate) f h = f h
  unless (BuiltinBound Uncaught) f h = f h
  unless (BuiltinBound BadException) f h = f h
  unless Free f h = f h
  unless (Global g) f h = f h
  unless (Local n) f h = f h
  unless (Field c i) f h = f h
  unless (Class c) f h = f h
  unless (Func n) f h = f h
  unless (Method c i) f h = f h

  mutual
    pub reaches : (xs : List Variable) → Within w.lowering xs → (e : Expression) (t : ℕ) → result_slot w.lowering ≤ t → IsTyped w.lowering w.own xs e → ExpressionReaches w (lower w.lowering e t)
    reaches xs within (number v place) t later h = record { before = tt; value = tt; later = later }
    reaches xs within (path names) t later h = record { before = tt; value = names_room w k xs within names int_type h; later = later }
    reaches xs within (paren e place) t later h = reaches xs within e t later h
    reaches xs within (unary o e place) t later h = let x = reaches xs within e t later h in record { before = x.before; value = x.value; later = x.later }
    reaches xs within (binary o a b) t later h =
        both_reaches w k o (has_call b) t (lower w.lowering a t) (λ u. lower w.lowering b u) later (reaches xs within a t later h.0) (λ u far. reaches xs within b u far h.1)
    reaches xs within (call names es) t later h =
        let types : List Ty = parameter_types w.lowering.program (callee_bound names) in
        call_stored_reaches t (call_of w.lowering (callee_bound names) (receiver names) es (lower_arguments w.lowering es types t)) later
        (call_reaches xs within (callee_bound names) (receiver names) es (lower_arguments w.lowering es types t) h.0
        (unless (callee_bound names) (λ typed wants i are. arguments_reach xs within es types wants i t later are typed) h.1))
    reaches xs within (std_call n es place) t later h =
        call_stored_reaches t (call_of w.lowering n.bound [] es (lower_arguments w.lowering es [] t)) later
        (call_reaches xs within n.bound [] es (lower_arguments w.lowering es [] t) (standard_can xs n.bound es h.0)
        (standard_types n.bound es (lower_arguments w.lowering es [] t) h.0 (unless n.bound (λ typed wants i are. arguments_reach xs within es [] wants i t later are typed) h.1)))

    pub arguments_reach : (xs : List Variable) → Within w.lowering xs → (es : Expressions) (types : List Ty) (wants : Reach) (i t : ℕ) → result_slot w.lowering ≤ t → WantsAre w wants i types →
        AreTyped w.lowering w.own xs es types → ArgumentsGiven w wants i (lower_arguments w.lowering es types t)
    arguments_reach xs within no_expressions types wants i t later are h = record { before = tt; given = tt; later = later }
    arguments_reach xs within (expression_then e es) types wants i t later are h =
        one_argument w k xs within wants i t e types (some_call es) (lower w.lowering e t) (λ u. lower_arguments w.lowering es (drop 1 types) u) are h.0 later (λ typed. reaches xs within e t later typed)
        (λ u far. arguments_reach xs within es (drop 1 types) wants (i + 1) u far (wants_behind w k wants i types are) h.1)

  -- an expression for its effects
  pub dropped_reaches : (xs : List Variable) → Within w.lowering xs → (e : Expression) (t : ℕ) → result_slot w.lowering ≤ t → IsTyped w.lowering w.own xs e → AllReach w (dropped w.lowering e t)
  dropped_reaches xs within (call names es) t later h =
      let types : List Ty = parameter_types w.lowering.program (callee_bound names) in
      call_dropped_reaches (call_of w.lowering (callee_bound names) (receiver names) es (lower_arguments w.lowering es types t))
      (call_reaches xs within (callee_bound names) (receiver names) es (lower_arguments w.lowering es types t) h.0
      (unless (callee_bound names) (λ typed wants i are. arguments_reach xs within es types wants i t later are typed) h.1))
  dropped_reaches xs within (std_call n es place) t later h =
      call_dropped_reaches (call_of w.lowering n.bound [] es (lower_arguments w.lowering es [] t))
      (call_reaches xs within n.bound [] es (lower_arguments w.lowering es [] t) (standard_can xs n.bound es h.0)
      (standard_types n.bound es (lower_arguments w.lowering es [] t) h.0 (unless n.bound (λ typed wants i are. arguments_reach xs within es [] wants i t later are typed) h.1)))
  dropped_reaches xs within (paren e place) t later h = dropped_reaches xs within e t later h
  dropped_reaches xs within (number v place) t later h = (tt, tt)
  dropped_reaches xs within (path names) t later h = (names_room w k xs within names int_type h, tt)
  dropped_reaches xs within (unary o e place) t later h = let x = reaches xs within (unary o e place) t later h in both_reach w (lower w.lowering (unary o e place) t).before _ x.before (x.value, tt)
  dropped_reaches xs within (binary o a b) t later h = let x = reaches xs within (binary o a b) t later h in both_reach w (lower w.lowering (binary o a b) t).before _ x.before (x.value, tt)

  -- an expression whose value is stored in a place
  call_placed_reaches : (p : Place) (c : LoweredCall) → HasRoom w.reach w.slots p 4 → CallReaches c → AllReach w (call_placed p c)
  call_placed_reaches p c room r =
      both_reach w c.before (op (store p (call_value c.callee (arguments_from c.arguments))) ∷ []) r.before ((room, given_reach w (callee_needs w.needs c.callee) 0 c.arguments r.given), tt)

  pub store_reaches : (xs : List Variable) → Within w.lowering xs → (e : Expression) (p : Place) (t : ℕ) → result_slot w.lowering ≤ t → HasRoom w.reach w.slots p 4 → IsTyped w.lowering w.own xs e
      → AllReach w (lower_store w.lowering e p t)
  store_reaches xs within (call names es) p t later room h =
      let types : List Ty = parameter_types w.lowering.program (callee_bound names) in
      call_placed_reaches p (call_of w.lowering (callee_bound names) (receiver names) es (lower_arguments w.lowering es types t)) room
      (call_reaches xs within (callee_bound names) (receiver names) es (lower_arguments w.lowering es types t) h.0
      (unless (callee_bound names) (λ typed wants i are. arguments_reach xs within es types wants i t later are typed) h.1))
  store_reaches xs within (std_call n es place) p t later room h =
      call_placed_reaches p (call_of w.lowering n.bound [] es (lower_arguments w.lowering es [] t)) room
      (call_reaches xs within n.bound [] es (lower_arguments w.lowering es [] t) (standard_can xs n.bound es h.0)
      (standard_types n.bound es (lower_arguments w.lowering es [] t) h.0 (unless n.bound (λ typed wants i are. arguments_reach xs within es [] wants i t later are typed) h.1)))
  store_reaches xs within (paren e place) p t later room h = store_reaches xs within e p t later room h
  store_reaches xs within (number v place) p t later room h = ((room, tt), tt)
  store_reaches xs within (path names) p t later room h = ((room, names_room w k xs within names int_type h), tt)
  store_reaches xs within (unary o e place) p t later room h = let x = reaches xs within (unary o e place) t later h in both_reach w (lower w.lowering (unary o e place) t).before _ x.before ((room, x.value), tt)
  store_reaches xs within (binary o a b) p t later room h = let x = reaches xs within (binary o a b) t later h in both_reach w (lower w.lowering (binary o a b) t).before _ x.before ((room, x.value), tt)
